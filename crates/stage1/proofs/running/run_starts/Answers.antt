use Rattle.std.proofs.Common.{◌≡◌, ℕ, List, length, ap, sym, subst, ◌∙◌}
use Rattle.plain_laws.proofs.Results.{if_ok, if_err, any_err}
use Rattle.stage1.specs.declared.error.RunError.{RunError}
use Rattle.stage1.specs.declared.error.RunError.TheVariants.{NoMemory}
use Rattle.stage1.specs.Cutting.{IsCutShort}
use Rattle.stage1.specs.Runs.{AreEnds, HasRunStarts, StopCause}
use Rattle.stage1.proofs.Whole.{cut_all}
use Rattle.stage1.proofs.Stops.{run_each, stop_cause, stop_memory}
use Rattle.stage1.proofs.running.run_starts.Goals as goal

pub ends_of-requires : goal.ends_of-requires
ends_of-requires g c = run_each c.args.apps.now c.in-Ok.statuses.items c.in-Ok.ensures.ran ∙ sym (ap length c.deref.ensures.value)

pub returns-in-Ok-clause-ran : goal.returns-in-Ok-clause-ran
returns-in-Ok-clause-ran g c =
    let D = g.D.Dir in
    let S = g.S.Spawner in
    let apps = c.args.apps.now in
    let statuses = c.in-Ok.statuses.items in
    let new = D.shown c.run_apps.new.dir in
    let s = S.shown c.args.spawner.now in
    let s' = S.shown c.run_apps.new.spawner in
    if_ok (λ ends. AreEnds apps c.deref.result.now ends.items) (λ ends. HasRunStarts D.observed S.observed apps ends.items new s s') c.ends_of.result
    (λ ends are. record { statuses = statuses; are = subst (λ (l : List ℕ). AreEnds apps l ends.items) c.deref.ensures.value are; run = c.in-Ok.ensures.ran; marked = c.in-Ok.ensures.marked; wrote = c.in-Ok.ensures.wrote }) c.ends_of.ensures.ends

pub returns-in-Ok-clause-cut : goal.returns-in-Ok-clause-cut
returns-in-Ok-clause-cut g c =
    let S = g.S.Spawner in
    let apps = c.args.apps.now in
    any_err (IsCutShort S.observed apps (S.shown c.args.spawner.now) (S.shown c.run_apps.new.spawner)) c.ends_of.result (cut_all apps c.in-Ok.statuses.items c.in-Ok.ensures.ran)

pub returns-in-Ok-clause-cause : goal.returns-in-Ok-clause-cause
returns-in-Ok-clause-cause g c =
    let D = g.D.Dir in
    let S = g.S.Spawner in
    let old = D.shown c.args.dir.now in
    let new = D.shown c.run_apps.new.dir in
    let s = S.shown c.args.spawner.now in
    let s' = S.shown c.run_apps.new.spawner in
    if_err (λ e. e ≡ NoMemory) (λ e. StopCause D.observed e old new s s') c.ends_of.result (λ e is. stop_memory D.observed e old new s s' is) c.ends_of.ensures.memory

pub returns-in-Err-clause-cause : goal.returns-in-Err-clause-cause
returns-in-Err-clause-cause g c =
    let D = g.D.Dir in
    let S = g.S.Spawner in
    let old = D.shown c.args.dir.now in
    let new = D.shown c.run_apps.new.dir in
    let s = S.shown c.args.spawner.now in
    let s' = S.shown c.run_apps.new.spawner in
    subst (λ (e : RunError). StopCause D.observed e old new s s') (sym c.fault_refusal.ensures) (stop_cause D.observed c.in-Err.fault old new s s' c.in-Err.ensures.cause)
