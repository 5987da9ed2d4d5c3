use Rattle.lifecycle.proofs.EveryPod.{names_one_folder, goes_forward}
use Rattle.lifecycle.proofs.Stays.{stays_between}
use Rattle.lifecycle.proofs.laws.folders.Goals as goal

pub returns-clause-one : goal.returns-clause-one
returns-clause-one c = λ conforming. names_one_folder c.args.history.now.items conforming

pub returns-clause-forward : goal.returns-clause-forward
returns-clause-forward c = λ conforming. goes_forward c.args.history.now.items conforming

pub returns-clause-stays : goal.returns-clause-stays
returns-clause-stays c = λ conforming. stays_between c.args.history.now.items conforming
