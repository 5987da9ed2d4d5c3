use Rattle.std.proofs.Common.{◌≡◌, List, sym, subst}
use Rattle.dir_model.specs.Local.{IsActive, Local}
use Rattle.folder_building.proofs.Working.{worked_more}
use Rattle.stage1.specs.declared.start.AppStart.{AppStart}
use Rattle.stage1.specs.Notes.{IsMarked}
use Rattle.stage1.specs.declared.stand.Stand.{Stand}
use Rattle.stage1.specs.Beginnings.{IsInRun, running}
use Rattle.stage1.specs.Endings.{WereWaitedFor}
use Rattle.stage1.proofs.Noted.{stays_more}
use Rattle.stage1.proofs.Causes.{run_before}
use Rattle.stage1.proofs.Pairs.{may_still, are_started_still}
use Rattle.stage1.proofs.Ends.{ends_cut_last}
use Rattle.stage1.proofs.Rests.{rest_of, all_take, all_rest, started_rest, rests_each, others_are}
use Rattle.stage1.proofs.Times.{keeps_parts}
use Rattle.stage1.proofs.running.end_all.Goals as goal

pub wait_rest-requires : goal.wait_rest-requires
wait_rest-requires g c =
    let D = g.D.Dir in
    let S = g.S.Spawner in
    let apps = c.args.apps.now in
    let stands = c.args.stands.now in
    let n = c.in-Err.cut.turns in
    let mid = D.shown c.end_apps.new.dir in
    let s = S.shown c.args.spawner.now in
    let s' = S.shown c.end_apps.new.spawner in
    record {
      active = subst (λ (m : Local). IsActive m) (sym c.end_apps.ensures.went.local) c.requires.active;
      place = all_rest IsInRun n apps c.requires.place;
      each = rests_each n apps stands c.requires.each;
      may = λ t. all_take (λ (a : AppStart). IsMarked mid a.root) _ (rest_of n apps) (all_rest (λ (a : AppStart). IsMarked mid a.root) n apps (may_still (c.end_apps.ensures.stays t) apps (c.requires.may t)));
      started = λ t. started_rest s'.calls n apps stands c.requires.each (are_started_still s.calls s'.calls ((ends_cut_last S.observed s s' apps stands n c.in-Err.ensures.cut).kept t) apps stands (c.requires.started t));
    }

pub returns-in-Err-clause-went : goal.returns-in-Err-clause-went
returns-in-Err-clause-went g c = worked_more c.end_apps.ensures.went c.wait_rest.ensures.went

pub returns-in-Err-clause-worked : goal.returns-in-Err-clause-worked
returns-in-Err-clause-worked g c spot at = worked_more (c.end_apps.ensures.worked spot at) (c.wait_rest.ensures.worked spot (all_rest (λ (a : AppStart). a.root.spot ≡ spot) c.in-Err.cut.turns c.args.apps.now at))

pub returns-in-Err-clause-stays : goal.returns-in-Err-clause-stays
returns-in-Err-clause-stays g c t = stays_more (c.end_apps.ensures.stays t) (c.wait_rest.ensures.stays t)

pub returns-in-Err-clause-cause : goal.returns-in-Err-clause-cause
returns-in-Err-clause-cause g c =
    let D = g.D.Dir in
    let S = g.S.Spawner in
    run_before c.in-Err.cut.fault (D.shown c.args.dir.now) (D.shown c.end_apps.new.dir) (D.shown c.wait_rest.new.dir) (S.shown c.args.spawner.now) (S.shown c.end_apps.new.spawner) (S.shown c.wait_rest.new.spawner) c.in-Err.ensures.cause c.wait_rest.ensures.went c.wait_rest.ensures.waited.asked.faults

pub returns-in-Err-clause-broken : goal.returns-in-Err-clause-broken
returns-in-Err-clause-broken g c =
    let S = g.S.Spawner in
    let s' = S.shown c.end_apps.new.spawner in
    let s'' = S.shown c.wait_rest.new.spawner in
    let cut = c.in-Err.ensures.cut in
    record { turns = c.in-Err.cut.turns; between = s'; cut = cut; waits = subst (λ (l : List Stand). WereWaitedFor S.observed (running l) s' s'') (others_are c.args.apps.now c.args.stands.now c.in-Err.cut.turns cut) c.wait_rest.ensures.waited }

pub returns-in-Ok-clause-keeps : goal.returns-in-Ok-clause-keeps
returns-in-Ok-clause-keeps g c t = c.in-Ok.ensures.keeps t

pub returns-in-Err-clause-keeps : goal.returns-in-Err-clause-keeps
returns-in-Err-clause-keeps g c t = keeps_parts c.in-Err.cut.turns c.args.apps.now c.args.stands.now (c.in-Err.ensures.keeps_cut t) (c.wait_rest.ensures.keeps t)
