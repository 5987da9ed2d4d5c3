use Rattle.std.proofs.Common.{rules, ◌≡◌, true, ℕ, List, sym, subst}
use Rattle.dir_model.specs.Paths.{is_path}
use Rattle.spawner.specs.Conditions.{start_mark}
use Rattle.folder_building.proofs.Working.{worked_none}
use Rattle.stage1.specs.declared.error.Fault.{Fault}
use Rattle.stage1.specs.Refusals.{NoteCause}
use Rattle.stage1.proofs.Forms.{mark_form}
use Rattle.stage1.proofs.Noted.{stays_none}
use Rattle.stage1.proofs.Keeping.{keeps_none}
use Rattle.stage1.proofs.notes.mark_started.Goals as goal

pub make_mark-requires-clause-form : goal.make_mark-requires-clause-form
make_mark-requires-clause-form g c =
    let app = c.args.root.now.app in
    let is : c.as_str-in-Ok.result.now ≡ start_mark app = search rules in
    subst (λ (p : List ℕ). is_path p ≡ true) (sym is) (mark_form app c.requires.place.named)

pub returns-in-Err-clause-worked : goal.returns-in-Err-clause-worked
returns-in-Err-clause-worked g c = worked_none

pub returns-in-Err-clause-stays : goal.returns-in-Err-clause-stays
returns-in-Err-clause-stays g c t = stays_none

pub returns-in-Err-clause-cause : goal.returns-in-Err-clause-cause
returns-in-Err-clause-cause g c =
    let d = g.D.Dir.shown c.args.dir.now in
    subst (λ (f : Fault). NoteCause g.D.Dir.observed f d d) (sym c.out_of_memory.ensures) tt

pub returns-in-Err-clause-keeps : goal.returns-in-Err-clause-keeps
returns-in-Err-clause-keeps g c t = keeps_none
