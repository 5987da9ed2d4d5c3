use Rattle.dir_model.specs.Trace.{state_after}
use Rattle.running_views.proofs.OneReply.{reply_one}
use Rattle.running_views.proofs.laws.one_reply.Goals as goal

pub returns : goal.returns
returns c = λ input key xs ys once x y. reply_one (state_after c.args.history.now.items) once input key xs ys x y
