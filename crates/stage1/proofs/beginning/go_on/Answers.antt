use Rattle.std.proofs.Common.{rules, ◌≡◌, ◌==◌, false}
use Rattle.std.proofs.lemmas.Bool.Decides.{nat_tests}
use Rattle.folder_building.proofs.Working.{worked_none}
use Rattle.stage1.proofs.Noted.{stays_none}
use Rattle.stage1.proofs.Causes.{by_note, by_spawn}
use Rattle.stage1.proofs.OneApp.{went_running, went_ended, going_cut, going_none}
use Rattle.stage1.proofs.Keeping.{keeps_none}
use Rattle.stage1.proofs.beginning.go_on.Goals as goal

pub returns-in-Ok-clause-worked : goal.returns-in-Ok-clause-worked
returns-in-Ok-clause-worked g c = worked_none

pub returns-in-Err-clause-worked : goal.returns-in-Err-clause-worked
returns-in-Err-clause-worked g c = worked_none

pub returns-in-Ok-clause-stays : goal.returns-in-Ok-clause-stays
returns-in-Ok-clause-stays g c t = stays_none

pub returns-in-Err-clause-stays : goal.returns-in-Err-clause-stays
returns-in-Err-clause-stays g c t = stays_none

pub returns-in-Ok-clause-went : goal.returns-in-Ok-clause-went
returns-in-Ok-clause-went g c = went_running c.args.app.now c.args.status c.in-Ok.child c.if-status-eq0.true c.in-Ok.ensures.asked

pub returns-in-Err-clause-cut : goal.returns-in-Err-clause-cut
returns-in-Err-clause-cut g c = going_cut c.args.app.now c.args.status c.if-status-eq0.true c.in-Err.ensures.refused

pub returns-in-Err-clause-cause : goal.returns-in-Err-clause-cause
returns-in-Err-clause-cause g c =
    let D = g.D.Dir in
    let S = g.S.Spawner in
    let d = D.shown c.args.dir.now in
    by_spawn D.observed c.in-Err.fault d d (S.shown c.args.spawner.now) (S.shown c.start_program.new.spawner) c.in-Err.ensures.cause

pub returns-in-Ok-note_status-clause-went : goal.returns-in-Ok-note_status-clause-went
returns-in-Ok-note_status-clause-went g c =
    let other : (c.args.status == 0) ≡ false = search (rules, nat_tests, c.if-status-eq0.false) in
    went_ended c.args.app.now c.args.status other

pub returns-in-Err-note_status-clause-cut : goal.returns-in-Err-note_status-clause-cut
returns-in-Err-note_status-clause-cut g c = going_none c.args.app.now c.args.status

pub returns-in-Err-note_status-clause-cause : goal.returns-in-Err-note_status-clause-cause
returns-in-Err-note_status-clause-cause g c =
    let D = g.D.Dir in
    let S = g.S.Spawner in
    let s = S.shown c.args.spawner.now in
    by_note D.observed c.in-Err-note_status.fault (D.shown c.args.dir.now) (D.shown c.note_status.new.dir) s s c.in-Err-note_status.ensures.cause

pub returns-in-Ok-clause-keeps : goal.returns-in-Ok-clause-keeps
returns-in-Ok-clause-keeps g c t = keeps_none

pub returns-in-Err-clause-keeps : goal.returns-in-Err-clause-keeps
returns-in-Err-clause-keeps g c t = keeps_none

pub returns-in-Ok-note_status-clause-keeps : goal.returns-in-Ok-note_status-clause-keeps
returns-in-Ok-note_status-clause-keeps g c t = c.note_status.ensures.keeps t

pub returns-in-Err-note_status-clause-keeps : goal.returns-in-Err-note_status-clause-keeps
returns-in-Err-note_status-clause-keeps g c t = c.note_status.ensures.keeps t
