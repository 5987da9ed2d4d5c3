use Rattle.lifecycle.proofs.EveryPod.{removed_by_its_owner, sweeps_are_asked}
use Rattle.lifecycle.proofs.laws.removals.Goals as goal

pub returns-clause-owner : goal.returns-clause-owner
returns-clause-owner c = λ conforming name. removed_by_its_owner name c.args.history.now.items conforming

pub returns-clause-asked : goal.returns-clause-asked
returns-clause-asked c = λ conforming. sweeps_are_asked c.args.history.now.items conforming
