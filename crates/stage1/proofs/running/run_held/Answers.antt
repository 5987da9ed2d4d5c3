use Rattle.std.proofs.Common.{ap, Err, sym, subst, List}
use Rattle.std.specs.List.{AllByRecursion}
use Rattle.plain_laws.proofs.Results.{if_ok, err_both}
use Rattle.dir_model.specs.Local.{IsActive, Local}
use Rattle.stage1.specs.declared.start.AppStart.{AppStart}
use Rattle.stage1.specs.Starts.{IsPlacedIn}
use Rattle.stage1.specs.declared.error.RunError.{RunError}
use Rattle.stage1.specs.Cutting.{IsCutShort}
use Rattle.stage1.specs.Runs.{HasRunStarts, HasRunHeld, StopCause, IsRefusedRun}
use Rattle.stage1.proofs.Starting.{loads}
use Rattle.stage1.proofs.Held.{in_run, at_run, runs_each, still_runs, worked_reads, worked_runs, refused_run, refused_load}
use Rattle.stage1.specs.Keeping.{NotesAtMost, all_times}
use Rattle.stage1.proofs.Fresh.{keeps_reads, keeps_run, once_run}
use Rattle.stage1.proofs.running.run_held.Goals as goal
use Rattle.pod_files.specs.Places.{run_spot}

pub run_starts-requires : goal.run_starts-requires
run_starts-requires g c =
    let D = g.D.Dir in
    let pod = c.args.pod in
    let mid = D.shown c.pod_launches.new.dir in
    let placed = subst (λ (l : List AppStart). AllByRecursion (IsPlacedIn pod) l) (sym c.deref.ensures.value) c.in-Ok.ensures.placed in
    record {
      active = subst (λ (m : Local). IsActive m) (sym c.pod_launches.ensures.only.local) c.requires.active;
      place = in_run pod c.deref.result.now placed;
      runs = λ t. runs_each pod c.deref.result.now placed mid (still_runs pod t c.requires.active c.pod_launches.ensures.only (c.requires.runs t));
    }

pub returns-in-Ok-clause-worked : goal.returns-in-Ok-clause-worked
returns-in-Ok-clause-worked g c =
    let pod = c.args.pod in
    let placed = subst (λ (l : List AppStart). AllByRecursion (IsPlacedIn pod) l) (sym c.deref.ensures.value) c.in-Ok.ensures.placed in
    worked_runs pod c.pod_launches.ensures.only (c.run_starts.ensures.worked (run_spot pod) (at_run pod c.deref.result.now placed))

pub returns-in-Ok-clause-ran : goal.returns-in-Ok-clause-ran
returns-in-Ok-clause-ran g c =
    let D = g.D.Dir in
    let S = g.S.Spawner in
    let old = D.shown c.args.dir.now in
    let new = D.shown c.run_starts.new.dir in
    let s = S.shown c.args.spawner.now in
    let s' = S.shown c.run_starts.new.spawner in
    if_ok (λ ends. HasRunStarts D.observed S.observed c.deref.result.now ends.items new s s') (λ ends. HasRunHeld D.observed S.observed c.args.pod c.args.address.now ends.items old new s s') c.run_starts.result
    (λ ends ran. record {
      starts = c.in-Ok.apps.items;
      loads = λ t. loads c.args.pod c.args.address.now c.in-Ok.apps.items old (D.shown c.pod_launches.new.dir) new t c.pod_launches.ensures.only (c.in-Ok.ensures.read t) (c.run_starts.ensures.went.extends t);
      ran = subst (λ (l : List AppStart). HasRunStarts D.observed S.observed l ends.items new s s') c.deref.ensures.value ran;
      once = λ t. once_run c.args.pod c.args.address.now c.in-Ok.apps.items t c.in-Ok.ensures.placed c.pod_launches.ensures.only (c.in-Ok.ensures.read t)
          (subst (λ (l : List AppStart). NotesAtMost (all_times l) (D.shown c.pod_launches.new.dir) new) c.deref.ensures.value (c.run_starts.ensures.keeps t));
    }) c.run_starts.ensures.ran

pub returns-in-Ok-clause-refused : goal.returns-in-Ok-clause-refused
returns-in-Ok-clause-refused g c =
    let D = g.D.Dir in
    let S = g.S.Spawner in
    let old = D.shown c.args.dir.now in
    let mid = D.shown c.pod_launches.new.dir in
    let new = D.shown c.run_starts.new.dir in
    let s = S.shown c.args.spawner.now in
    let s' = S.shown c.run_starts.new.spawner in
    err_both (λ e. IsCutShort S.observed c.deref.result.now s s') (λ e. StopCause D.observed e mid new s s') (λ e. IsRefusedRun D.observed S.observed c.args.pod c.args.address.now e old new s s') c.run_starts.result
    (λ e cut is. refused_run c.args.pod c.args.address.now c.in-Ok.apps.items e old mid new s s' c.pod_launches.ensures.only c.run_starts.ensures.went.extends c.in-Ok.ensures.read is (subst (λ (l : List AppStart). IsCutShort S.observed l s s') c.deref.ensures.value cut)) c.run_starts.ensures.cut c.run_starts.ensures.cause

pub returns-in-Err-clause-worked : goal.returns-in-Err-clause-worked
returns-in-Err-clause-worked g c = worked_reads c.args.pod c.pod_launches.ensures.only

pub returns-in-Err-clause-refused : goal.returns-in-Err-clause-refused
returns-in-Err-clause-refused g c =
    let D = g.D.Dir in
    let S = g.S.Spawner in
    let old = D.shown c.args.dir.now in
    let new = D.shown c.pod_launches.new.dir in
    let s = S.shown c.args.spawner.now in
    subst (λ (e : RunError). IsRefusedRun D.observed S.observed c.args.pod c.args.address.now e old new s s) (sym c.load_refusal.ensures) (refused_load c.args.pod c.args.address.now c.in-Err.error old new s c.pod_launches.ensures.only (λ is. c.in-Err.ensures.cause (ap Err is)) c.in-Err.ensures.lacks)

pub returns-in-Ok-clause-keeps : goal.returns-in-Ok-clause-keeps
returns-in-Ok-clause-keeps g c t =
    let D = g.D.Dir in
    let mid = D.shown c.pod_launches.new.dir in
    let new = D.shown c.run_starts.new.dir in
    keeps_run c.args.pod c.args.address.now c.in-Ok.apps.items t c.in-Ok.ensures.placed c.pod_launches.ensures.only (c.in-Ok.ensures.read t)
    (subst (λ (l : List AppStart). NotesAtMost (all_times l) mid new) c.deref.ensures.value (c.run_starts.ensures.keeps t))

pub returns-in-Err-clause-keeps : goal.returns-in-Err-clause-keeps
returns-in-Err-clause-keeps g c t = keeps_reads c.args.pod t c.pod_launches.ensures.only
