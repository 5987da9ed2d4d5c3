use Rattle.std.proofs.Common.{◌≡◌, drop}
use Rattle.dir_rules.specs.Seen.{later, created_among}
use Rattle.conformance.proofs.shown.created_among.Given as goal

abbrev pub invariant-items : goal.invariant-items
invariant-items l = later l.greatest (created_among (drop l.item-index l.items)) ≡ created_among l.items
