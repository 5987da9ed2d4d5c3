use Rattle.std.proofs.Common.{◌+◌, sym, ◌∙◌}
use Rattle.dir_memory.specs.Schedules.{is_due}
use Rattle.dir_memory.proofs.Places.{found_somewhere}
use Rattle.dir_memory.proofs.planned.Planned.first_due.Goals as goal

pub unreachable-requires : goal.unreachable-requires
unreachable-requires c = found_somewhere (is_due (c.args.calls + 1) c.args.listing) c.args.pending.now c.requires (sym c.find_due.ensures ∙ c.in-None.is)
