use Rattle.gate_reading.proofs.StoredFiles.{files_stay, none_comes}
use Rattle.gate_reading.proofs.laws.files.Goals as goal

pub returns-clause-stay : goal.returns-clause-stay
returns-clause-stay c = λ conforming. files_stay c.args.history.now.items conforming

pub returns-clause-missing : goal.returns-clause-missing
returns-clause-missing c = λ conforming. none_comes c.args.history.now.items conforming
