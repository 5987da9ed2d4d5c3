-- A field that is there, read in a form of its own.
use Rattle.std.proofs.Common.{◌≡◌, ℕ, List, Option, Some, None, sym, ap}
use Rattle.serde_json.specs.Data.{Data}
use Rattle.ac_types.specs.FieldForms.{any, required_at}
use Rattle.ac_types.specs.Outcomes.{Outcome, reads}
use Rattle.app_section.proofs.Readings.{no_fault, same_read}

pub required_by : {A : Type 0} (form : List ℕ → Data → Outcome A) (path : List ℕ) (o : Option Data) (e : Data)
    → required_at any path o ≡ reads e → form path e ≡ required_at form path o
required_by form path None e h = no_fault h
required_by form path (Some d) e h = ap (form path) (sym (same_read d e h))
