use Rattle.std.proofs.Common.{arith, IfErr, sym, ap, subst, ◌∙◌}
use Rattle.plain_laws.proofs.Results.{if_ok, if_err}
use Rattle.dir_model.specs.Local.{IsActive, IsOpen, Local, without}
use Rattle.dir_model.specs.declared.request.Request.TheVariants.{Close}
use Rattle.dir_model.specs.declared.request.Reply.TheVariants.{Done}
use Rattle.dir_model.proofs.Lists.{same_self}
use Rattle.dir_model.proofs.Chains.{and_call, extends_wider, step_extends}
use Rattle.folder_building.proofs.Working.{in_first, in_second}
use Rattle.stage1.specs.Runs.{closes, runs_pod, HasRunHeld, HasRun, IsRefusedRun}
use Rattle.stage1.specs.declared.error.RunError.TheVariants.{Stray}
use Rattle.stage1.proofs.Lawful.{never_stray}
use Rattle.stage1.proofs.Closed.{refused_closed}
use Rattle.stage1.proofs.Starting.{a_close}
use Rattle.stage1.proofs.Closed.{keeps_closed}
use Rattle.stage1.proofs.running.run_pod.Goals as goal

pub close-requires-clause-active : goal.close-requires-clause-active
close-requires-clause-active g c = subst (λ (m : Local). IsActive m) (sym c.run_held-result.ensures.worked.local) c.requires.active

pub close-requires-clause-open : goal.close-requires-clause-open
close-requires-clause-open g c = subst (λ (m : Local). IsOpen m c.args.owned.own) (sym c.run_held-result.ensures.worked.local) c.requires.open

pub returns-clause-went : goal.returns-clause-went
returns-clause-went g c =
    let pod = c.args.owned.pod in
    let own = c.args.owned.own in
    let w = c.run_held-result.ensures.worked in
    let k = c.close.ensures.called in
    record {
      same = k.same ∙ w.same;
      faults = omega (arith, w.faults, k.faults);
      local_is = k.local ∙ ap (λ (m : Local). without m own) w.local;
      extends = λ t. and_call (extends_wider (in_second (closes own) (runs_pod pod)) (w.extends t)) w.same (in_first (closes own) (runs_pod pod) (Close own) (same_self own.number)) (k.step t);
    }

pub returns-clause-ran : goal.returns-clause-ran
returns-clause-ran g c =
    let D = g.D.Dir in
    let S = g.S.Spawner in
    let pod = c.args.owned.pod in
    let old = D.shown c.args.dir.now in
    let mid = D.shown c.run_held-result.new.dir in
    let new = D.shown c.close.new.self in
    let s = S.shown c.args.spawner.now in
    let s' = S.shown c.run_held-result.new.spawner in
    if_ok (λ ends. HasRunHeld D.observed S.observed pod c.args.address.now ends.items old mid s s') (λ ends. HasRun D.observed S.observed pod c.args.owned.own c.args.address.now ends.items old new s s') c.run_held-result.result
    (λ ends r. record { before = mid; ran = r; closed = c.close.ensures.called }) c.run_held-result.ensures.ran

pub returns-clause-refused : goal.returns-clause-refused
returns-clause-refused g c =
    let D = g.D.Dir in
    let S = g.S.Spawner in
    let pod = c.args.owned.pod in
    let own = c.args.owned.own in
    let old = D.shown c.args.dir.now in
    let mid = D.shown c.run_held-result.new.dir in
    let new = D.shown c.close.new.self in
    let s = S.shown c.args.spawner.now in
    let s' = S.shown c.run_held-result.new.spawner in
    let k = c.close.ensures.called in
    if_err (λ e. IsRefusedRun D.observed S.observed pod c.args.address.now e old mid s s') (λ e. IsRefusedRun D.observed S.observed pod c.args.address.now e old new s s') c.run_held-result.result
    (λ e r. refused_closed old mid new pod c.run_held-result.ensures.worked.same k.faults (λ t. step_extends (closes own) mid.process mid.trace (Close own) Done new.trace (same_self own.number) (k.step t)) (a_close own) e s s' r)
    c.run_held-result.ensures.refused

pub returns-clause-keeps : goal.returns-clause-keeps
returns-clause-keeps g c t = keeps_closed c.args.owned.pod c.args.owned.own t (c.run_held-result.ensures.keeps t) c.close.ensures.called

pub returns-clause-lawful : goal.returns-clause-lawful
returns-clause-lawful g c h t conforming =
    let D = g.D.Dir in
    let S = g.S.Spawner in
    let pod = c.args.owned.pod in
    let own = c.args.owned.own in
    let old = D.shown c.args.dir.now in
    let mid = D.shown c.run_held-result.new.dir in
    let new = D.shown c.close.new.self in
    let s = S.shown c.args.spawner.now in
    let s' = S.shown c.run_held-result.new.spawner in
    let w = c.run_held-result.ensures.worked in
    let k = c.close.ensures.called in
    let refused : IsRefusedRun D.observed S.observed pod c.args.address.now Stray old mid s s' =
    subst (λ r. IfErr r (λ e. IsRefusedRun D.observed S.observed pod c.args.address.now e old mid s s')) h c.run_held-result.ensures.refused in
    let stopped : IsRefusedRun D.observed S.observed pod c.args.address.now Stray old new s s' =
    refused_closed old mid new pod w.same k.faults (λ t. step_extends (closes own) mid.process mid.trace (Close own) Done new.trace (same_self own.number) (k.step t)) (a_close own) Stray s s' refused in
    never_stray pod own old new (c.requires.runs t)
    (and_call (extends_wider (in_second (closes own) (runs_pod pod)) (w.extends t)) w.same (in_first (closes own) (runs_pod pod) (Close own) (same_self own.number)) (k.step t))
    conforming (stopped.cause t)
