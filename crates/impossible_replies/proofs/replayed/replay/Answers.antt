use Rattle.impossible_replies.proofs.Impossible.{none_impossible}
use Rattle.impossible_replies.proofs.replayed.replay.Goals as goal

pub returns-clause-replies : goal.returns-clause-replies
returns-clause-replies c = λ conforming. none_impossible c.args.history.now.items conforming
