use Rattle.std.proofs.Common.{◌≡◌, ◌≤◌, ◌+◌, ◌*◌, true}
use Rattle.lifecycle.specs.Executions.{IsConforming}
use Rattle.pod_report.specs.Requests.{OnlyAsksFor, visits}
use Rattle.pod_report.specs.Rounds.{HasLeft}
use Rattle.pod_report.proofs.visit.visit_pod.Given as goal

abbrev pub invariant-rounds : goal.invariant-rounds
invariant-rounds g l =
    let D = g.D.Dir in
    record {
      counted : (D.shown l.dir).calls ≤ (D.shown l.fn.dir).calls + 28 * l._round;
      only : OnlyAsksFor D.observed (visits l.pod) (D.shown l.fn.dir) (D.shown l.dir);
      left : D.observed ≡ true → IsConforming (D.shown l.dir).trace → HasLeft l.pod l._round (D.shown l.dir) × (l._round ≤ 5);
    }
