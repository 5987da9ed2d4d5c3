use Rattle.std.proofs.Common.{◌≡◌, Some, sym, refl}
use Rattle.serde_json.specs.View.{view}
use Rattle.ac_types.specs.FieldForms.{present}
use Rattle.ac_types.proofs.JsonLists.{list_shown}
use Rattle.ac_types.proofs.field_readers.list_field.Goals as goal

pub returns-in-Some-as_array : goal.returns-in-Some-as_array
returns-in-Some-as_array c =
    let there : present c.args.name.now (view c.args.value.now) ≡ Some (view c.in-Some.found.now) = sym c.in-Some.ensures in
    let shown = list_shown (view c.in-Some.found.now) c.in-Some-as_array.list.now.items c.in-Some-as_array.ensures in
    rw (there, shown) refl
