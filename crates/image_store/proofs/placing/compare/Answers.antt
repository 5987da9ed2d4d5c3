use Rattle.std.proofs.Common.{rules}
use Rattle.plain_laws.proofs.Results.{if_err, err_same}
use Rattle.image_store.specs.Causes.{LookCause, CompareCause}
use Rattle.image_store.proofs.Refusals.{look_compare}
use Rattle.image_store.proofs.placing.compare.Goals as goal

pub returns-in_err-is_there-clause-cause : goal.returns-in_err-is_there-clause-cause
returns-in_err-is_there-clause-cause g c =
    let D = g.D.Dir in
    let old = D.shown c.args.dir.now in
    let new = D.shown c.is_there.new.dir in
    err_same (λ e. CompareCause D.observed c.args.key c.args.digest.now e old new) c.is_there.result c.from_residual.result (λ e h. search (rules, h, c.from_residual.ensures, c.in_err-is_there.is))
    (if_err (λ e. LookCause D.observed c.args.key c.args.digest.now e old new) (λ e. CompareCause D.observed c.args.key c.args.digest.now e old new) c.is_there.result (λ e x. look_compare x) c.is_there.ensures.cause)
