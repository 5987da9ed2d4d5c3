use Rattle.std.proofs.Common.{◌≡◌, true, take}
use Rattle.dir_model.specs.Listings.{item_names}
use Rattle.pod_report.specs.Inspections.{TellsEachEnd}
use Rattle.pod_report.specs.Requests.{OnlyAsksFor, inspects}
use Rattle.pod_report.proofs.ends.ends_of.Given as goal

abbrev pub invariant-items : goal.invariant-items
invariant-items g l =
    let D = g.D.Dir in
    record {
      only : OnlyAsksFor D.observed (inspects l.pod) (D.shown l.initial.dir) (D.shown l.dir);
      told : D.observed ≡ true → TellsEachEnd l.pod l.area (item_names (take l.item-index l.items)) l.ends.items (D.shown l.initial.dir).process (D.shown l.initial.dir).trace (D.shown l.dir).trace;
    }
