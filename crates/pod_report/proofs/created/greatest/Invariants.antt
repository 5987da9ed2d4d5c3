use Rattle.std.proofs.Common.{take}
use Rattle.pod_report.specs.Created.{IsLatestCreation}
use Rattle.pod_report.proofs.created.greatest.Given as goal

abbrev pub invariant-items : goal.invariant-items
invariant-items l = IsLatestCreation (take l.item-index l.items) l.found
