use Rattle.std.proofs.Common.{take}
use Rattle.image_reading.specs.Marks.{imported_moments}
use Rattle.image_reading.proofs.Marking.{IsBest}
use Rattle.image_reading.proofs.mark.greatest_moment.Given as goal

abbrev pub invariant-items : goal.invariant-items
invariant-items l = IsBest (imported_moments (take l.item-index l.items)) l.best
