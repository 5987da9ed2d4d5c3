use Rattle.std.proofs.Common.{◌≡◌, drop}
use Rattle.dir_rules.specs.Conforms.{seen_of, seen_after}
use Rattle.conformance.specs.Tables.{table_seen}
use Rattle.conformance.proofs.conformance.keeps_rules.Given as goal

abbrev pub invariant-events : goal.invariant-events
invariant-events l = seen_after l.process (table_seen l.seen) (drop l.event-index l.history.items) ≡ seen_of l.process l.history.items
