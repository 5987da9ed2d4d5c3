use Rattle.std.proofs.Common.{◌≡◌, ◌++◌, map, take}
use Rattle.dir_rules.specs.Seen.{shown_in}
use Rattle.conformance.proofs.shown.add_items.Given as goal

abbrev pub invariant-items : goal.invariant-items
invariant-items l = l.items.items ≡ l.initial.items.items ++ map (shown_in l.inner) (take l.item-index l.new)
