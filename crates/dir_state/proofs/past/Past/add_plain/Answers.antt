use Rattle.dir_model.specs.Trace.{state_after}
use Rattle.dir_state.proofs.past.Past.add_plain.Goals as goal

pub add-requires-clause-brought : goal.add-requires-clause-brought
add-requires-clause-brought c = c.nothing.ensures (state_after c.args.self.now.items) c.args.event.process c.args.event.request c.args.event.reply c.requires.plain
