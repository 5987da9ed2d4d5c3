use Rattle.lifecycle.proofs.Example.{aborted}
use Rattle.lifecycle.proofs.laws.some_execution.Goals as goal

pub returns : goal.returns
returns c = aborted c.args.pod
