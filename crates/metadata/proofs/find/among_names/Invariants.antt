use Rattle.std.proofs.Common.{◌≡◌, true, take}
use Rattle.pod_report.specs.Requests.{OnlyAsksFor}
use Rattle.metadata.specs.Looks.{looks_in_run}
use Rattle.metadata.specs.Finding.{NoneOf}
use Rattle.metadata.proofs.find.among_names.Given as goal

abbrev pub invariant-names : goal.invariant-names
invariant-names g l =
    let D = g.D.Dir in
    record {
      only : OnlyAsksFor D.observed looks_in_run (D.shown l.initial.dir) (D.shown l.dir);
      none : D.observed ≡ true → NoneOf (take l.name-index l.names) l.digits (D.shown l.initial.dir) (D.shown l.dir);
    }
