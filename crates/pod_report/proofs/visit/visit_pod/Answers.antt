use Rattle.std.proofs.Common.{arith, ◌≡◌, ◌+◌, ℕ, suc, subst}
use Rattle.plain_laws.proofs.Numbers.{one_further}
use Rattle.pod_report.proofs.Asking.{asks_more}
use Rattle.pod_report.specs.Rounds.{HasLeft}
use Rattle.pod_report.proofs.Going.{conforming_before, gone_after, visit_after}
use Rattle.pod_report.proofs.OwnReadings.{visited_after, missed_after}
use Rattle.pod_report.proofs.visit.visit_pod.Goals as goal

pub rounds-preserved : goal.rounds-preserved
rounds-preserved g c =
    let D = g.D.Dir in
    let mid = D.shown c.rounds.dir in
    let new = D.shown c.attempt.new.dir in
    let i = c.rounds.invariant in
    let e = rw c.in-Ok-Missed.field-0-is at c.in-Ok-Missed.ensures in
    record {
      counted = omega (arith, c.attempt.ensures.counted, i.counted);
      only = asks_more i.only c.attempt.ensures.only;
      left = λ t conforming.
          let l = i.left t (conforming_before mid new t c.attempt.ensures.only conforming) in
          let m = e.round t conforming c.rounds._round l.0 in
          (subst (λ (n : ℕ). HasLeft c.args.pod n new) (one_further c.rounds._round) m.left, let most = m.most in omega (arith, most));
    }

pub returns-in-Ok-Met-clause-only : goal.returns-in-Ok-Met-clause-only
returns-in-Ok-Met-clause-only g c = asks_more c.rounds.invariant.only c.attempt.ensures.only

pub returns-in-Ok-Gone-clause-only : goal.returns-in-Ok-Gone-clause-only
returns-in-Ok-Gone-clause-only g c = asks_more c.rounds.invariant.only c.attempt.ensures.only

pub returns-in-Err-clause-only : goal.returns-in-Err-clause-only
returns-in-Err-clause-only g c = asks_more c.rounds.invariant.only c.attempt.ensures.only

pub returns-in-Ok-Met-clause-answer_holds : goal.returns-in-Ok-Met-clause-answer_holds
returns-in-Ok-Met-clause-answer_holds g c t conforming =
    let D = g.D.Dir in
    let e = rw c.in-Ok-Met.field-0-is at c.in-Ok-Met.ensures in
    visit_after c.args.pod (D.shown c.args.dir.now) (D.shown c.rounds.dir) (D.shown c.attempt.new.dir) t c.rounds.invariant.only c.in-Ok-Met.visit (e.round t conforming)

pub returns-in-Ok-Gone-clause-answer_holds : goal.returns-in-Ok-Gone-clause-answer_holds
returns-in-Ok-Gone-clause-answer_holds g c t conforming =
    let D = g.D.Dir in
    let e = rw c.in-Ok-Gone.field-0-is at c.in-Ok-Gone.ensures in
    gone_after c.args.pod (D.shown c.args.dir.now) (D.shown c.rounds.dir) (D.shown c.attempt.new.dir) t c.rounds.invariant.only (e.round t conforming)

pub returns-in-Ok-Met-clause-seen : goal.returns-in-Ok-Met-clause-seen
returns-in-Ok-Met-clause-seen g c t =
    let D = g.D.Dir in
    let e = rw c.in-Ok-Met.field-0-is at c.in-Ok-Met.ensures in
    visited_after c.args.pod (D.shown c.args.dir.now) (D.shown c.rounds.dir) (D.shown c.attempt.new.dir) t c.rounds.invariant.only c.in-Ok-Met.visit.phase c.in-Ok-Met.visit.manifest (e.seen t)

pub returns-in-Ok-Gone-clause-seen : goal.returns-in-Ok-Gone-clause-seen
returns-in-Ok-Gone-clause-seen g c t =
    let D = g.D.Dir in
    let e = rw c.in-Ok-Gone.field-0-is at c.in-Ok-Gone.ensures in
    missed_after c.args.pod (D.shown c.args.dir.now) (D.shown c.rounds.dir) (D.shown c.attempt.new.dir) t c.rounds.invariant.only (e.seen t)
