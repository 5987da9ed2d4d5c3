use Rattle.std.proofs.Common.{◌≡◌, ◌≤◌, true, None, List, length}
use Rattle.std.specs.Prelude.{IsErrOf}
use Rattle.dir_model.specs.Causes.{Rose}
use Rattle.metadata.specs.declared.error.MetaError.TheVariants.{LinkFault, DirFault}
use Rattle.pod_report.specs.Requests.{OnlyAsksFor}
use Rattle.metadata.specs.Looks.{looks_in_run}
use Rattle.metadata.specs.Service.{Served, first_failure, ServesThese}
use Rattle.metadata.proofs.service.serve_many.Given as goal

abbrev pub invariant-connections : goal.invariant-connections
invariant-connections g l =
    let D = g.D.Dir in
    let L = g.L.Listener in
    record {
      few : l._connection ≤ l.count;
      kept : (L.shown l.fn.link).faults ≤ (L.shown l.link).faults;
      only : OnlyAsksFor D.observed looks_in_run (D.shown l.fn.dir) (D.shown l.dir);
      link_cause : IsErrOf l.first LinkFault → Rose (L.shown l.fn.link).faults (L.shown l.link).faults;
      dir_cause : IsErrOf l.first DirFault → Rose (D.shown l.fn.dir).faults (D.shown l.dir).faults;
      serves : L.observed ≡ true → D.observed ≡ true → (L.shown l.fn.link).current ≡ None
          → (results : List Served) × (length results ≡ l._connection) × (l.first ≡ first_failure results) × ServesThese l.key results (L.shown l.fn.link) (L.shown l.link) (D.shown l.fn.dir) (D.shown l.dir);
    }
