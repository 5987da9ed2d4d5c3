use Rattle.std.proofs.Common.{◌≡◌, inl, inr, true, option_map}
use Rattle.plain_laws.proofs.Results.{if_ok}
use Rattle.metadata_reply.specs.Views.{view_data}
use Rattle.pod_report.proofs.Asking.{asks_more}
use Rattle.metadata.specs.PodViews.{TellsRunning, TellsPod}
use Rattle.metadata.proofs.Views.{pod_told}
use Rattle.metadata.proofs.running.pod_with.Goals as goal

pub returns-in-Ok-true-clause-only : goal.returns-in-Ok-true-clause-only
returns-in-Ok-true-clause-only g c = asks_more c.has_digits.ensures.only c.running_view.ensures.only

pub returns-in-Ok-true-clause-tells : goal.returns-in-Ok-true-clause-tells
returns-in-Ok-true-clause-tells g c =
    let D = g.D.Dir in
    let e = rw c.in-Ok-true.field-0-test at c.in-Ok-true.ensures in
    let old = D.shown c.args.dir.now in
    let mid = D.shown c.has_digits.new.dir in
    let new = D.shown c.running_view.new.dir in
    if_ok (λ found. D.observed ≡ true → TellsRunning c.args.pod (option_map view_data found) mid new) (λ found. D.observed ≡ true → TellsPod c.args.pod c.args.digits.now (option_map view_data found) old new) c.running_view.result
    (λ found tells t. pod_told t c.args.pod c.args.digits.now (option_map view_data found) old mid new c.has_digits.ensures.only c.running_view.ensures.only (e.tells t) (tells t)) c.running_view.ensures.tells

pub returns-in-Ok-false-clause-tells : goal.returns-in-Ok-false-clause-tells
returns-in-Ok-false-clause-tells g c t =
    let e = rw c.in-Ok-false.field-0-test at c.in-Ok-false.ensures in
    inr (inl (e.tells t))
