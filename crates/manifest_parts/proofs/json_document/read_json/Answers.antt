use Rattle.std.proofs.Common.{ap, sym, ◌∙◌, codes, true≢false}
use Rattle.serde_json.specs.Errors.{IsMemory}
use Rattle.serde_json.specs.View.{view}
use Rattle.ac_types.proofs.NameFaults.{fault_named}
use Rattle.ac_types.specs.declared.fault.FaultKind.TheVariants.{NotJson}
use Rattle.manifest_parts.specs.DocumentForm.{json_of, known_json}
use Rattle.manifest_parts.proofs.JsonTexts.{json_read, json_refused}
use Rattle.manifest_parts.proofs.json_document.read_json.Goals as goal

pub returns-in-Ok : goal.returns-in-Ok
returns-in-Ok c =
    ap known_json (json_read c.args.bytes.now (view c.in-Ok.value) c.in-Ok.ensures.ok.0 c.in-Ok.ensures.ok.1)

pub returns-else-is_memory : goal.returns-else-is_memory
returns-else-is_memory c =
    let other : IsMemory c.in-Err.error → ⊥ = λ m. true≢false (sym (c.is_memory.ensures.1 m) ∙ c.if-is_memory.false) in
    fault_named (known_json (json_of c.args.bytes.now)) (codes "$") NotJson c.fault_at.result
    (ap known_json (json_refused c.args.bytes.now (c.in-Err.ensures.err other))) c.fault_at.ensures
