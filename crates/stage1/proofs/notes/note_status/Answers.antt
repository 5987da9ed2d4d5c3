use Rattle.std.proofs.Common.{rules, ◌≡◌, true, ℕ, List, sym, subst}
use Rattle.dir_model.specs.Paths.{is_path}
use Rattle.stage1.specs.Notes.{status_path}
use Rattle.stage1.proofs.Forms.{status_form}
use Rattle.stage1.proofs.Keeping.{keeps_none}
use Rattle.stage1.proofs.notes.note_status.Goals as goal

pub write_status-requires-clause-form : goal.write_status-requires-clause-form
write_status-requires-clause-form g c =
    let app = c.args.root.now.app in
    let is : c.as_str-in-Ok-status_text.result.now ≡ status_path app = search rules in
    subst (λ (p : List ℕ). is_path p ≡ true) (sym is) (status_form app c.requires.place.named)

pub returns-in-Ok-clause-keeps : goal.returns-in-Ok-clause-keeps
returns-in-Ok-clause-keeps g c t = keeps_none

pub returns-clause-keeps : goal.returns-clause-keeps
returns-clause-keeps g c t = keeps_none
