use Rattle.std.proofs.Common.{Bool, sym, subst}
use Rattle.pod_build.specs.MakingRequests.{makes_pod}
use Rattle.pod_build.specs.Progress.{and_own}
use Rattle.pod_build.specs.Answers.{target}
use Rattle.pod_build.proofs.Working.{copied_within, worked_went}
use Rattle.pod_build.proofs.built.make.Goals as goal
use Rattle.dir_trait.specs.Effects.{LeavesOpen}

pub make_refusal-requires : goal.make_refusal-requires
make_refusal-requires g c place is = copied_within c.args.plan.now place (c.in-Err.ensures.cause.unlike place is)

pub make_refusal-requires-in-Err-make_prepared : goal.make_refusal-requires-in-Err-make_prepared
make_refusal-requires-in-Err-make_prepared g c place is = copied_within c.args.plan.now place (c.in-Err-make_prepared.ensures.cause.unlike place is)

pub returns-in-Ok-clause-went : goal.returns-in-Ok-clause-went
returns-in-Ok-clause-went g c =
    let D = g.D.Dir in
    let old = D.shown c.args.dir.now in
    subst (λ (keep : Bool). LeavesOpen D.observed (makes_pod c.args.draw (target keep)) (and_own old.local c.args.draw c.in-Ok.owned.own) old (D.shown c.make_running.new.dir)) (sym c.if-keep_owner.true) c.in-Ok.ensures.went

pub returns-in-Err-clause-went : goal.returns-in-Err-clause-went
returns-in-Err-clause-went g c =
    let D = g.D.Dir in
    let old = D.shown c.args.dir.now in
    subst (λ (keep : Bool). LeavesOpen D.observed (makes_pod c.args.draw (target keep)) old.local old (D.shown c.make_running.new.dir)) (sym c.if-keep_owner.true) c.in-Err.ensures.went

pub returns-in-Ok-make_prepared-clause-went : goal.returns-in-Ok-make_prepared-clause-went
returns-in-Ok-make_prepared-clause-went g c =
    let D = g.D.Dir in
    let old = D.shown c.args.dir.now in
    subst (λ (keep : Bool). LeavesOpen D.observed (makes_pod c.args.draw (target keep)) old.local old (D.shown c.make_prepared.new.dir)) (sym c.if-keep_owner.false) (worked_went c.make_prepared.ensures.worked)

pub returns-in-Err-make_prepared-clause-went : goal.returns-in-Err-make_prepared-clause-went
returns-in-Err-make_prepared-clause-went g c =
    let D = g.D.Dir in
    let old = D.shown c.args.dir.now in
    subst (λ (keep : Bool). LeavesOpen D.observed (makes_pod c.args.draw (target keep)) old.local old (D.shown c.make_prepared.new.dir)) (sym c.if-keep_owner.false) (worked_went c.make_prepared.ensures.worked)
