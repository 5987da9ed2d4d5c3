-- Paths: what lies below a directory, and the directory that a path is in.
use Rattle.std.proofs.Common.{arith, ◌≡◌, ◌<◌, ⊎_elim, ℕ, ◌+◌, ◌==◌, true, false, not, ◌&&◌, cond, nat_eq, List, [], ◌∷◌, ◌++◌, length, get_or, drop, slice_index, refl, sym, ap, ◌∙◌}
use Rattle.std.specs.List.{starts_with}
use Rattle.std.proofs.lemmas.Bool.{cases_lt, eq-eqb, and_parts}
use Rattle.std.proofs.lemmas.Bool.Decides.{Decides-eqb}
use Rattle.std.proofs.lemmas.List.{get_or_past, get_or_at, drop_more}
use Rattle.std.proofs.lemmas.Slice.Eq.{starts_is}
use Rattle.plain_laws.proofs.Texts.{not_empty}
use Rattle.dir_model.specs.Paths.{is_slash, lies_below}
use Rattle.dir_model.proofs.Lists.{and_both, or_last, or_right_false, same_number}
use Rattle.dir_rules.specs.Marks.{has_slash, parent}

-- below another path than the root's it goes on with a slash
pub below_rest : (path q : List ℕ) → (length q == 0) ≡ false → lies_below path q ≡ true → (rest : List ℕ) × (path ≡ q ++ 47 ∷ rest)
unfolding lies_below
below_rest path q other h =
    let both : (starts_with nat_eq path q && (slice_index path (length q) == 47)) ≡ true =
    sym (ap (λ b. cond b (not (length path == 0)) (starts_with nat_eq path q && (slice_index path (length q) == 47))) other) ∙ h in
    let split = and_parts (starts_with nat_eq path q) (slice_index path (length q) == 47) both in
    let front : path ≡ q ++ drop (length q) path = (starts_is Decides-eqb path q _ refl).0 split.0 in
    let slash : get_or path (length q) 0 ≡ 47 = same_number (get_or path (length q) 0) 47 split.1 in
    let inside : length q < length path =
    ⊎_elim (λ i. i) (λ o. absurd (omega (arith, sym slash ∙ get_or_past path (length q) 0 o))) (cases_lt (length q) (length path)) in
    let more : drop (length q) path ≡ 47 ∷ drop (length q + 1) path =
    drop_more path (length q) 0 inside ∙ ap (λ b. b ∷ drop (length q + 1) path) slash in
    (drop (length q + 1) path, front ∙ ap (λ t. q ++ t) more)

pub below_from : (d rest : List ℕ) → (length d == 0) ≡ false → lies_below (d ++ 47 ∷ rest) d ≡ true
unfolding lies_below
below_from d rest other =
    ap (λ b. cond b (not (length (d ++ 47 ∷ rest) == 0)) (starts_with nat_eq (d ++ 47 ∷ rest) d && (slice_index (d ++ 47 ∷ rest) (length d) == 47))) other
    ∙ and_both (starts_with nat_eq (d ++ 47 ∷ rest) d) (slice_index (d ++ 47 ∷ rest) (length d) == 47)
    ((starts_is Decides-eqb (d ++ 47 ∷ rest) d _ refl).1 (47 ∷ rest) refl)
    (eq-eqb _ _ (get_or_at d 47 rest 0 (length d) refl))

-- below the root lies every other path
pub below_root : (x : ℕ) (xs : List ℕ) → lies_below (x ∷ xs) [] ≡ true
unfolding lies_below
below_root x xs = ap not (not_empty x xs)

-- the directory of a path is what stands before its last slash
pub slash_in : (d n : List ℕ) → has_slash (d ++ 47 ∷ n) ≡ true
slash_in [] n = refl
slash_in (b ∷ bs) n = or_last (is_slash b) (has_slash (bs ++ 47 ∷ n)) (slash_in bs n)

pub parent_in : (d n : List ℕ) → has_slash n ≡ false → parent (d ++ 47 ∷ n) ≡ d
parent_in [] n h = rw h refl
parent_in (b ∷ bs) n h = rw (slash_in bs n) (ap (λ (r : List ℕ). b ∷ r) (parent_in bs n h))

pub parent_plain : (n : List ℕ) → has_slash n ≡ false → parent n ≡ []
parent_plain [] h = refl
parent_plain (b ∷ bs) h = rw (or_right_false (is_slash b) (has_slash bs) h) refl
