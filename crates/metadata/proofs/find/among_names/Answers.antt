use Rattle.std.proofs.Common.{List, ℕ, subst}
use Rattle.std.proofs.lemmas.List.{take_all}
use Rattle.metadata_reply.specs.Views.{view_data}
use Rattle.pod_report.proofs.Asking.{asks_none, asks_more}
use Rattle.metadata.specs.Finding.{NoneOf}
use Rattle.metadata.proofs.Finding.{none_next, found_at}
use Rattle.metadata.proofs.find.among_names.Goals as goal

pub names-init : goal.names-init
names-init g c = record { only = asks_none; none = λ t. tt }

pub names-preserved : goal.names-preserved
names-preserved g c =
    let D = g.D.Dir in
    let e = rw c.in-Ok-None.field-0-is at c.in-Ok-None.ensures in
    record {
      only = asks_more c.names.invariant.only c.named_with.ensures.only;
      none = λ t. none_next t c.args.digits.now (D.shown c.args.dir.now) (D.shown c.names.dir) (D.shown c.named_with.new.dir) c.names.invariant.only c.named_with.ensures.only c.args.names.now c.names.name-index c.name-item.result c.names-test.true c.name-item.is (c.names.invariant.none t) (e.tells t);
    }

pub returns-in-Ok-Some-clause-only : goal.returns-in-Ok-Some-clause-only
returns-in-Ok-Some-clause-only g c = asks_more c.names.invariant.only c.named_with.ensures.only

pub returns-in-Err-clause-only : goal.returns-in-Err-clause-only
returns-in-Err-clause-only g c = asks_more c.names.invariant.only c.named_with.ensures.only

pub returns-in-Ok-Some-clause-tells : goal.returns-in-Ok-Some-clause-tells
returns-in-Ok-Some-clause-tells g c t =
    let D = g.D.Dir in
    let e = rw c.in-Ok-Some.field-0-is at c.in-Ok-Some.ensures in
    found_at t c.args.digits.now (D.shown c.args.dir.now) (D.shown c.names.dir) (D.shown c.named_with.new.dir) c.names.invariant.only c.named_with.ensures.only (view_data c.in-Ok-Some.view) (e.tells t)

pub returns-clause-tells : goal.returns-clause-tells
returns-clause-tells g c t =
    let D = g.D.Dir in
    subst (λ (l : List (List ℕ)). NoneOf l c.args.digits.now (D.shown c.args.dir.now) (D.shown c.names.dir)) (take_all c.names.name-index c.args.names.now c.names-test.false) (c.names.invariant.none t)
