use Rattle.lifecycle.proofs.Looking.{locks_tell_phases, misses_tell_gone}
use Rattle.lifecycle.proofs.laws.readings.Goals as goal

pub returns-clause-phase : goal.returns-clause-phase
returns-clause-phase c = λ conforming. locks_tell_phases c.args.history.now.items conforming

pub returns-clause-gone : goal.returns-clause-gone
returns-clause-gone c = λ conforming. misses_tell_gone c.args.history.now.items conforming
