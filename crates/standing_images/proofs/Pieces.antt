-- Pieces of one file, and the file that they are.
use Rattle.std.proofs.Common.{arith, ◌≡◌, ◌⊎◌, inl, inr, ◌<◌, ◌≤◌, ℕ, Option, Some, None, List, [], ◌∷◌, ◌++◌, length, take, append_assoc, append-nil, refl, sym, ap, subst, ◌∙◌}
use Rattle.plain_laws.proofs.Fronts.{taken_past, next_first, short_whole}
use Rattle.dir_model.specs.declared.event.Event.{Event}
use Rattle.dir_model.specs.declared.item.Inner.{Inner}
use Rattle.dir_model.specs.Calls.{AtOwnStep}
use Rattle.dir_model.proofs.Moments.{at_grown, at_within}
use Rattle.dir_files.specs.Reads.{TellsFile, IsPiece, Piece, joined_pieces, AreTold, IsShort}

-- each is a piece of this file, where the earlier ones end
abbrev pub ArePieces : Option (List ℕ) → List Piece → Type 0
ArePieces found [] = Unit {0}
ArePieces found (p ∷ earlier) = IsPiece (length (joined_pieces earlier)) p.room p.bytes found × ArePieces found earlier

pub told_grown : (me : ℕ) (inner : Inner) (old : List Event) (pieces : List Piece) {new : List Event} → AreTold me inner old pieces new →
    (more : List Event) × (new ≡ old ++ more)
told_grown me inner old [] {new} told = ([], told ∙ sym (append-nil old))
told_grown me inner old (p ∷ earlier) {new} told =
    let e = told_grown me inner old earlier told.earlier in
    let g = at_grown told.told in
    (e.0 ++ g.0, g.1 ∙ (ap (λ (h : List Event). h ++ g.0) e.1 ∙ append_assoc old e.0 g.0))

are_front : (file : List ℕ) (pieces : List Piece) → ArePieces (Some file) pieces → joined_pieces pieces ≡ take (length (joined_pieces pieces)) file
are_front file [] are = refl
are_front file (p ∷ earlier) are = next_first file (joined_pieces earlier) p.bytes p.room (are_front file earlier are.1) are.0

are_whole : (file : List ℕ) (pieces : List Piece) → ArePieces (Some file) pieces → IsShort pieces → joined_pieces pieces ≡ file
are_whole file [] are short = absurd short
are_whole file (p ∷ earlier) are short = short_whole file (joined_pieces earlier) p.bytes p.room (are_front file earlier are.1) are.0 short

-- the file is there, and its first bytes are those
pub record IsFront (most : ℕ) (bytes : List ℕ) (found : Option (List ℕ)) : Type 0 where
  pub file : List ℕ
  pub is : found ≡ Some file
  pub front : bytes ≡ take most file

front_of : (most : ℕ) (bytes : List ℕ) (pieces : List Piece) (file : List ℕ) → bytes ≡ joined_pieces pieces → length bytes ≤ most →
    (length bytes ≡ most) ⊎ IsShort pieces → ArePieces (Some file) pieces → bytes ≡ take most file
front_of most bytes pieces file whole few (inl full) are =
    subst (λ (l : List ℕ). l ≡ take (length l) file) (sym whole) (are_front file pieces are) ∙ ap (λ (n : ℕ). take n file) full
front_of most bytes pieces file whole few (inr short) are =
    let all : bytes ≡ file = whole ∙ are_whole file pieces are short in
    all ∙ sym (taken_past most file (subst (λ (l : List ℕ). length l ≤ most) all few))

-- pieces that end, or are as many bytes as were wanted, are a file's front
pub is_front : (most : ℕ) (bytes : List ℕ) (pieces : List Piece) (found : Option (List ℕ)) → 0 < most → bytes ≡ joined_pieces pieces →
    length bytes ≤ most → (length bytes ≡ most) ⊎ IsShort pieces → ArePieces found pieces → IsFront most bytes found
is_front most bytes [] found some whole few (inl full) are = let e = ap length whole in absurd (omega (arith, e, full, some))
is_front most bytes [] found some whole few (inr short) are = absurd short
is_front most bytes (p ∷ earlier) None some whole few ended are = absurd are.0
is_front most bytes (p ∷ earlier) (Some file) some whole few ended are =
    record { file = file; is = refl; front = front_of most bytes (p ∷ earlier) file whole few ended are }

-- what own steps told of pieces, each of one file
pub all_told : (me : ℕ) (inner : Inner) (old new : List Event) (found : Option (List ℕ)) →
    ((at room : ℕ) (bytes : List ℕ) → AtOwnStep me old new (TellsFile inner (IsPiece at room bytes)) → IsPiece at room bytes found) →
    (first x : List Event) → first ≡ old ++ x → (pieces : List Piece) (last y : List Event) → new ≡ last ++ y →
    AreTold me inner first pieces last → ArePieces found pieces
all_told me inner old new found tell first x begins [] last y ends told = tt
all_told me inner old new found tell first x begins (p ∷ earlier) last y ends told =
    let e = told_grown me inner first earlier told.earlier in
    let m = at_grown told.told in
    let from : told.between ≡ old ++ (x ++ e.0) = e.1 ∙ (ap (λ (h : List Event). h ++ e.0) begins ∙ append_assoc old x e.0) in
    let to : new ≡ told.between ++ (m.0 ++ y) = ends ∙ (ap (λ (h : List Event). h ++ y) m.1 ∙ append_assoc told.between m.0 y) in (
      tell (length (joined_pieces earlier)) p.room p.bytes (at_within (x ++ e.0) y from ends told.told),
      all_told me inner old new found tell first x begins earlier told.between (m.0 ++ y) to told.earlier,
    )
