-- The JSON of a list.
use Rattle.std.proofs.Common.{◌≡◌, ◌==◌, true, false, List, [], ◌∷◌, map, length, Some, None, Vec, Global, refl, ◌∙◌, ap, true≢false, arith}
use Rattle.std.proofs.lemmas.Bool.{eqb-true}
use Rattle.serde_json.specs.Data.{Data, array}
use Rattle.serde_json.specs.View.{view, items_of}
use Rattle.serde_json.specs.declared.value.Value.{Value, Array}
use Rattle.serde_json.proofs.Views.{view-Array}
use Rattle.app_section.specs.Objects.{if_filled, list_data}

pub list_view : {A : Type 0} (write : A → Data) (xs : List A) (vs : Vec Value Global)
    → map view vs.items ≡ map write xs → view (Array vs) ≡ list_data write xs
list_view write xs vs is = view-Array vs ∙ ap (λ (ds : List Data). array (items_of ds)) is

pub filled_list : {A : Type 0} (write : A → Data) (xs : List A) (vs : Vec Value Global) → (length xs == 0) ≡ false
    → map view vs.items ≡ map write xs → Some (view (Array vs)) ≡ if_filled write xs
filled_list write [] vs filled is = absurd (true≢false filled)
filled_list write (x ∷ xs) vs filled is = ap Some (list_view write (x ∷ xs) vs is)

pub empty_list : {A : Type 0} (write : A → Data) (xs : List A) → (length xs == 0) ≡ true → None ≡ if_filled write xs
empty_list write [] empty = refl
empty_list write (x ∷ xs) empty = let none : length (x ∷ xs) ≡ 0 = eqb-true (length (x ∷ xs)) 0 empty in absurd (omega arith)

-- one map after another
pub once : {A B : Type 0} (write : B → Data) (shown : A → B) (xs : List A) → map (λ x. write (shown x)) xs ≡ map write (map shown xs)
once write shown [] = refl
once write shown (x ∷ xs) = ap (λ (ds : List Data). write (shown x) ∷ ds) (once write shown xs)
