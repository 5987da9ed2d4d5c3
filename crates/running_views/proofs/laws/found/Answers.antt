use Rattle.running_views.proofs.FoundBefore.{found_before}
use Rattle.running_views.proofs.laws.found.Goals as goal

pub returns : goal.returns
returns c = λ token found old new same long only alone x. found_before only alone token found long x
