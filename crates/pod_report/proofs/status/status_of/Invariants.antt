use Rattle.std.proofs.Common.{◌≡◌, ◌≤◌, true}
use Rattle.lifecycle.specs.Executions.{IsConforming}
use Rattle.pod_report.specs.Requests.{OnlyAsksFor, inspects}
use Rattle.pod_report.specs.Rounds.{HasLeft}
use Rattle.pod_report.proofs.status.status_of.Given as goal

abbrev pub invariant-rounds : goal.invariant-rounds
invariant-rounds g l =
    let D = g.D.Dir in
    record {
      only : OnlyAsksFor D.observed (inspects l.pod) (D.shown l.fn.dir) (D.shown l.dir);
      left : D.observed ≡ true → IsConforming (D.shown l.dir).trace → HasLeft l.pod l._round (D.shown l.dir) × (l._round ≤ 5);
    }
