use Rattle.std.proofs.Common.{◌≡◌, rules, true}
use Rattle.pod_gc.specs.Causes.{GcCause}
use Rattle.pod_gc.proofs.Sweeps.{swept_all}
use Rattle.pod_gc.specs.Ended.{EndsSweepBetween}
use Rattle.std.proofs.Common.{refl}
use Rattle.plain_laws.proofs.Results.{err_same}
use Rattle.pod_gc.specs.declared.gc_error.GcError.TheVariants as fault
use Rattle.pod_gc.specs.Causes.{GcStrayByApp}
use Rattle.pod_gc.specs.Sweeping.{MaySweepAll}
use Rattle.pod_gc.proofs.RemovalLawful.{of_err}
use Rattle.pod_gc.proofs.sweeping.gc.Goals as goal

pub returns-clause-swept : goal.returns-clause-swept
returns-clause-swept g c t =
    let D = g.D.Dir in
    swept_all (D.shown c.args.dir.now) (D.shown c.pass_each.new.dir) (record { now = c.args.now; grace = c.args.grace; expire = c.args.expire }) c.new-lines.result.items c.pass_each.new.lines.items c.new-lines.ensures.items (c.in_ok-pass_each.ensures.swept t)

pub returns-in_err-pass_each-clause-cause : goal.returns-in_err-pass_each-clause-cause
returns-in_err-pass_each-clause-cause g c =
    let D = g.D.Dir in
    err_same (λ e. GcCause D.observed e (D.shown c.args.dir.now) (D.shown c.pass_each.new.dir)) c.pass_each.result c.from_residual.result
    (λ e h. search (rules, h, c.from_residual.ensures, c.in_err-pass_each.is)) c.pass_each.ensures.cause

pub returns-in_err-pass_each-clause-ended : goal.returns-in_err-pass_each-clause-ended
returns-in_err-pass_each-clause-ended g c =
    let D = g.D.Dir in
    err_same (λ e. D.observed ≡ true → EndsSweepBetween (record { now = c.args.now; grace = c.args.grace; expire = c.args.expire }) (D.shown c.args.dir.now) (D.shown c.pass_each.new.dir)) c.pass_each.result c.from_residual.result
    (λ e h. search (rules, h, c.from_residual.ensures, c.in_err-pass_each.is)) c.pass_each.ensures.ended

pub returns-in_err-pass_each-clause-lawful : goal.returns-in_err-pass_each-clause-lawful
returns-in_err-pass_each-clause-lawful g c =
    let D = g.D.Dir in
    let old = D.shown c.args.dir.now in
    let new = D.shown c.pass_each.new.dir in
    λ is. of_err (λ e. GcStrayByApp D.observed e (MaySweepAll c.args.now c.args.expire) old new) c.from_residual.result fault.Stray is
    (err_same (λ e. GcStrayByApp D.observed e (MaySweepAll c.args.now c.args.expire) old new) c.pass_each.result c.from_residual.result (λ e h. search (rules, h, c.from_residual.ensures, c.in_err-pass_each.is)) c.pass_each.ensures.lawful) refl
