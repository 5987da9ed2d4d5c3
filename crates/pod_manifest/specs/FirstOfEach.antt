-- Elements of a list by keys: the first of each key.
use Rattle.std.specs.Prelude.{ℕ, not, List, [], ◌∷◌}
use Rattle.std.specs.List.{filter}
use Rattle.std.specs.Str.{bytes_eq}
use Rattle.ac_types.specs.SeenTexts.{is_among}

-- of the elements with one key the first alone
abbrev pub first_of_each : {A : Type 0} → (A → List ℕ) → List A → List A
first_of_each key [] = []
first_of_each key (x ∷ xs) = x ∷ filter (λ y. not (bytes_eq (key x) (key y))) (first_of_each key xs)

-- the same of those whose key isn't known
abbrev pub new_of_each : {A : Type 0} → (A → List ℕ) → List (List ℕ) → List A → List A
new_of_each key known xs = filter (λ x. not (is_among (key x) known)) (first_of_each key xs)
