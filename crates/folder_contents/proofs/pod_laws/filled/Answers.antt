use Rattle.folder_contents.proofs.FilledAlong.{stays_filled}
use Rattle.folder_contents.proofs.Comes.{pods_are_filled}
use Rattle.folder_contents.proofs.pod_laws.filled.Goals as goal

pub returns-clause-stays : goal.returns-clause-stays
returns-clause-stays c = λ conforming. stays_filled c.args.history.now.items conforming

pub returns-clause-left : goal.returns-clause-left
returns-clause-left c = λ conforming. pods_are_filled c.args.history.now.items conforming
