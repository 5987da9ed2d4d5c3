use Rattle.running_views.proofs.ServedBefore.{served_before}
use Rattle.running_views.proofs.laws.served.Goals as goal

pub returns : goal.returns
returns c = λ key results old new from upto same alone x. served_before key results old new from upto alone x
