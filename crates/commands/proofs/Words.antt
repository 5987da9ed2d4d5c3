-- The references that words are.
use Rattle.std.proofs.Common.{arith, ◌≡◌, ◌∙◌, ◌<◌, ◌+◌, ℕ, List, ◌∷◌, ◌++◌, [], length, take, Some, Ok, refl, sym, ap, subst}
use Rattle.std.specs.List.{slice_get}
use Rattle.std.proofs.lemmas.List.{take_more}
use Rattle.std.proofs.lemmas.Option.{get_or_from_slice_get, slice_get_within}
use Rattle.ac_types.specs.declared.image_ref.ImageRef.{ImageRef}
use Rattle.ac_types.specs.References.{reference}
use Rattle.dep_match.specs.declared.stored.Stored.{Stored}
use Rattle.pod_plan.specs.Choices.{IsUnmatched}
use Rattle.pod_plan.proofs.Mapped.{mapped_length}
use Rattle.commands.specs.References.{AreReferences}

-- one word more
pub take_one : (xs : List (List ℕ)) (i : ℕ) (x : List ℕ) → slice_get xs i ≡ Some x → take (i + 1) xs ≡ take i xs ++ x ∷ []
take_one xs i x is = take_more xs i x (slice_get_within xs i x is) ∙ ap (λ (y : List ℕ). take i xs ++ y ∷ []) (get_or_from_slice_get xs i x x is)

-- a place among the references is one among the words
before_end : (before after : List ImageRef) (wanted : ImageRef) → length before < length (before ++ wanted ∷ after)
before_end [] after wanted = omega arith
before_end (x ∷ xs) after wanted = let h = before_end xs after wanted in omega (arith, h)

pub place_within : {images : List Stored} (words : List (List ℕ)) (refs : List ImageRef) {place : ℕ} → AreReferences words refs → IsUnmatched images refs place → place < length words
place_within {images} words refs {place} are x =
    subst (λ (n : ℕ). place < n) (mapped_length reference Ok words refs are)
    (subst (λ (l : List ImageRef). place < length l) (sym x.is) (subst (λ (n : ℕ). n < length (x.before ++ x.wanted ∷ x.after)) (sym x.at) (before_end x.before x.after x.wanted)))

-- words are one list of references
pub one_references : (words : List (List ℕ)) (xs ys : List ImageRef) → AreReferences words xs → AreReferences words ys → xs ≡ ys
one_references [] [] [] x y = refl
one_references [] (r ∷ xs) ys x y = cc
one_references [] [] (r ∷ ys) x y = cc
one_references (w ∷ words) [] ys x y = cc
one_references (w ∷ words) (r ∷ xs) [] x y = cc
one_references (w ∷ words) (r ∷ xs) (q ∷ ys) x y =
    let same : r ≡ q = cc in
    let rest = one_references words xs ys (cc) (cc) in
    ap (λ (z : ImageRef). z ∷ xs) same ∙ ap (λ (zs : List ImageRef). q ∷ zs) rest
