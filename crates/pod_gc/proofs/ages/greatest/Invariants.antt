use Rattle.std.proofs.Common.{◌≡◌, take}
use Rattle.pod_gc.specs.Ages.{moment_among}
use Rattle.pod_gc.proofs.ages.greatest.Given as goal

abbrev pub invariant-items : goal.invariant-items
invariant-items l = l.found ≡ moment_among l.text (take l.item-index l.items)
