use Rattle.std.proofs.Common.{◌≡◌, ◌-◌, true, length}
use Rattle.bundle_image.specs.Reads.{ReadsWithin}
use Rattle.bundle_image.specs.Walks.{subtree_below}
use Rattle.bundle_image.specs.Work.{IsWalkUnderWay, WalkHasSeen}
use Rattle.bundle_image.proofs.walk.walk.Given as goal

abbrev pub invariant-entries : goal.invariant-entries
invariant-entries g l =
    let shown = g.B.Bundle.shown in
    record {
      work : IsWalkUnderWay l.lines l.pending.items;
      seen : g.B.Bundle.observed ≡ true → WalkHasSeen (subtree_below (shown l.initial.bundle).tree l.root) l.lines l.pending.items;
      reads : ReadsWithin g.B.Bundle.observed l.root (shown l.initial.bundle) (shown l.bundle);
    }

abbrev pub decreases-entries : goal.decreases-entries
decreases-entries g l = 65536 - length l.lines
