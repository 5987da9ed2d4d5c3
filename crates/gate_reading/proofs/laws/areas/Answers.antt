use Rattle.gate_reading.proofs.AreaNames.{areas_tell}
use Rattle.gate_reading.proofs.laws.areas.Goals as goal

pub returns : goal.returns
returns c = λ conforming. areas_tell c.args.history.now.items conforming
