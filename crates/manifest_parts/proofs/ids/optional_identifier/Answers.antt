use Rattle.std.proofs.Common.{ℕ, List, Some, ◌∙◌, ap}
use Rattle.serde_json.specs.View.{view}
use Rattle.ac_types.proofs.EachElement.{fault_kept}
use Rattle.ac_types.proofs.NameFaults.{name_refused}
use Rattle.ac_types.specs.FieldForms.{optional, text}
use Rattle.ac_types.specs.JsonPaths.{field_path}
use Rattle.ac_types.specs.NameForms.{identifier, identifier_text}
use Rattle.ac_types.specs.Names.{is_separator}
use Rattle.ac_types.specs.Outcomes.{Outcome, reads, ◌>>=◌}
use Rattle.manifest_parts.proofs.OptionalFields.{optional_then}
use Rattle.manifest_parts.proofs.ids.optional_identifier.Goals as goal

pub returns-in-Err-parse : goal.returns-in-Err-parse
returns-in-Err-parse c =
    let here = c.args.at.now in
    let name = c.args.name.now in
    let d = view c.args.value.now in
    let t = c.in-Ok-Some.text.now in
    let read = rw c.in-Ok-Some.field-0-is at c.in-Ok-Some.ensures in
    let whole = optional_then text identifier_text here name d t read in
    fault_kept (identifier_text (field_path here name) t) (optional identifier here name d) c.name_fault.result
    (λ path kind is. whole ∙ ap (λ (o : Outcome (List ℕ)). o >>= λ v. reads (Some v)) is)
    (name_refused is_separator 1024 (field_path here name) t c.in-Err-parse.error c.name_fault.result c.in-Err-parse.ensures.err
    c.name_fault.ensures)
