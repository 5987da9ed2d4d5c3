use Rattle.std.proofs.Common.{◌≡◌, true, take}
use Rattle.lifecycle.specs.Executions.{IsConforming}
use Rattle.pod_report.specs.SeenLines.{LinesSeenBetween}
use Rattle.pod_report.specs.Requests.{OnlyAsksFor, surveys}
use Rattle.pod_report.specs.Snapshot.{TellsPods}
use Rattle.pod_report.proofs.survey.lines_of.Given as goal

abbrev pub invariant-pods : goal.invariant-pods
invariant-pods g l =
    let D = g.D.Dir in
    record {
      only : OnlyAsksFor D.observed surveys (D.shown l.initial.dir) (D.shown l.dir);
      seen : D.observed ≡ true → LinesSeenBetween (take l.pod-index l.pods) l.lines.items (D.shown l.initial.dir) (D.shown l.dir);
      told : D.observed ≡ true → IsConforming (D.shown l.dir).trace → TellsPods (take l.pod-index l.pods) l.lines.items (D.shown l.initial.dir) (D.shown l.dir);
    }
