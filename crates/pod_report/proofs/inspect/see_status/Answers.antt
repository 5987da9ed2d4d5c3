use Rattle.std.proofs.Common.{refl}
use Rattle.pod_report.proofs.Asking.{asks_more, asks_wider, visits_inspect}
use Rattle.pod_report.proofs.SeeingStatus.{status_seen, moved_seen}
use Rattle.pod_report.proofs.inspect.see_status.Goals as goal

pub returns-in-Ok-true-clause-only : goal.returns-in-Ok-true-clause-only
returns-in-Ok-true-clause-only g c = asks_more (asks_more c.created_at.ensures.only c.ends_at.ensures.only) (asks_wider (visits_inspect c.args.pod) c.is_there.ensures.only)

pub returns-in-Ok-false-clause-only : goal.returns-in-Ok-false-clause-only
returns-in-Ok-false-clause-only g c = asks_more (asks_more c.created_at.ensures.only c.ends_at.ensures.only) (asks_wider (visits_inspect c.args.pod) c.is_there.ensures.only)

pub returns-in-Err-clause-only : goal.returns-in-Err-clause-only
returns-in-Err-clause-only g c = asks_more (asks_more c.created_at.ensures.only c.ends_at.ensures.only) (asks_wider (visits_inspect c.args.pod) c.is_there.ensures.only)

pub returns-in-Ok-true-clause-seen : goal.returns-in-Ok-true-clause-seen
returns-in-Ok-true-clause-seen g c t =
    let D = g.D.Dir in (
      refl,
      status_seen c.args.pod c.args.area (D.shown c.args.dir.now) (D.shown c.created_at.new.dir) (D.shown c.ends_at.new.dir) (D.shown c.is_there.new.dir) t c.created_at.ensures.only c.ends_at.ensures.only (asks_wider (visits_inspect c.args.pod) c.is_there.ensures.only)
          c.args.phase c.in_ok-created.created c.in_ok-ends.ends.items c.from_vec.result c.in-Ok-true.field-0 c.from_vec.ensures c.in-Ok-true.field-0-test (c.in_ok-created.ensures.answer_holds t) (c.in_ok-ends.ensures.answer_holds t) (c.in-Ok-true.ensures.there t),
    )

pub returns-in-Ok-false-clause-seen : goal.returns-in-Ok-false-clause-seen
returns-in-Ok-false-clause-seen g c t =
    let D = g.D.Dir in
    moved_seen c.args.pod c.args.area (D.shown c.args.dir.now) (D.shown c.created_at.new.dir) (D.shown c.ends_at.new.dir) (D.shown c.is_there.new.dir) t c.created_at.ensures.only c.ends_at.ensures.only (asks_wider (visits_inspect c.args.pod) c.is_there.ensures.only)
    c.args.phase c.in-Ok-false.field-0 c.in-Ok-false.field-0-test (c.in-Ok-false.ensures.there t)
