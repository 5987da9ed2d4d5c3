-- The elements of a JSON list, as the data of its values.
use Rattle.std.proofs.Common.{◌≡◌, List, [], ◌∷◌, Option, Some, map, refl, sym, ◌∙◌, ap}
use Rattle.std.specs.Prelude.{option_map}
use Rattle.serde_json.specs.Data.{Data, Items}
use Rattle.serde_json.specs.Find.{as_array}
use Rattle.serde_json.specs.View.{view, items_view, items_of}
use Rattle.serde_json.specs.declared.value.Value.{Value}
use Rattle.ac_types.specs.FieldForms.{elements}

pub elements_of : (ds : List Data) → elements (items_of ds) ≡ ds
elements_of [] = refl
elements_of (d ∷ ds) = ap (λ (es : List Data). d ∷ es) (elements_of ds)

pub list_shown : (d : Data) (vs : List Value) → Some (items_view vs) ≡ as_array d → option_map elements (as_array d) ≡ Some (map view vs)
list_shown d vs is = ap (λ (o : Option Items). option_map elements o) (sym is) ∙ ap Some (elements_of (map view vs))
