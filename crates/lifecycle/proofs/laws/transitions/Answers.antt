use Rattle.lifecycle.proofs.EveryPod.{transitions_are_enabled}
use Rattle.lifecycle.proofs.laws.transitions.Goals as goal

pub returns : goal.returns
returns c = λ conforming name. transitions_are_enabled name c.args.history.now.items conforming
