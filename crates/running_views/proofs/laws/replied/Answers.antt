use Rattle.running_views.proofs.RepliedBefore.{reply_before}
use Rattle.running_views.proofs.laws.replied.Goals as goal

pub returns : goal.returns
returns c = λ input key bytes old new same only alone x. reply_before only alone input key bytes x
