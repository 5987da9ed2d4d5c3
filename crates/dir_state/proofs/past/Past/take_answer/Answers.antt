use Rattle.dir_model.specs.Trace.{state_after}
use Rattle.dir_state.proofs.Answering.{asked_allowed}
use Rattle.dir_state.proofs.past.Past.take_answer.Goals as goal

pub take-requires : goal.take-requires
take-requires c = asked_allowed (state_after c.args.self.now.items) c.args.process c.args.request.now c.in_ok-request.request c.in_ok-reply.reply c.requires.may c.requires.met c.in_ok-request.ensures c.in_ok-reply.ensures
