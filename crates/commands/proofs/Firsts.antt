-- The first element of a list that isn't good.
use Rattle.std.proofs.Common.{◌≡◌, List, [], ◌∷◌, ◌++◌, sym, subst}
use Rattle.std.specs.List.{AllByRecursion}
use Rattle.plain_laws.proofs.Lists.{head_of, tail_of}

-- it is one
pub first_bad : {X : Type 0} (Good : X → Type 0) (front back : List X) (a b : X) (xs ys : List X) → front ++ a ∷ xs ≡ back ++ b ∷ ys → (Good a → ⊥) → (Good b → ⊥) → AllByRecursion Good front → AllByRecursion Good back → a ≡ b
first_bad Good [] [] a b xs ys is bad worse good better = head_of a b xs ys is
first_bad Good [] (d ∷ back) a b xs ys is bad worse good better = absurd (bad (subst Good (sym (head_of a d xs (back ++ b ∷ ys) is)) better.0))
first_bad Good (c ∷ front) [] a b xs ys is bad worse good better = absurd (worse (subst Good (head_of c b (front ++ a ∷ xs) ys is) good.0))
first_bad Good (c ∷ front) (d ∷ back) a b xs ys is bad worse good better = first_bad Good front back a b xs ys (tail_of c d (front ++ a ∷ xs) (back ++ b ∷ ys) is) bad worse good.1 better.1
