use Rattle.std.proofs.Common.{List, ℕ, sym, subst}
use Rattle.serde_json.specs.View.{view}
use Rattle.ac_types.specs.Names.{is_separator}
use Rattle.ac_types.specs.JsonPaths.{field_path}
use Rattle.ac_types.specs.FieldForms.{filled_text}
use Rattle.ac_types.specs.NameForms.{identifier_text}
use Rattle.ac_types.specs.Outcomes.{Outcome, IsFaultOf}
use Rattle.ac_types.proofs.NameFaults.{name_refused, required_then}
use Rattle.ac_types.proofs.required_readers.required_identifier.Goals as goal

pub returns-in-Err-parse : goal.returns-in-Err-parse
returns-in-Err-parse c =
    let path = field_path c.args.at.now c.args.name.now in
    let P : Outcome (List ℕ) → Type 0 = λ o. IsFaultOf o c.name_fault.result in
    subst P
    (sym (required_then filled_text identifier_text c.args.at.now c.args.name.now (view c.args.value.now) c.in-Ok.text.now c.in-Ok.ensures))
    (name_refused is_separator 1024 path c.in-Ok.text.now c.in-Err-parse.error c.name_fault.result c.in-Err-parse.ensures.err c.name_fault.ensures)
