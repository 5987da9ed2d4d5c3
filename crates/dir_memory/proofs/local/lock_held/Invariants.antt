use Rattle.std.proofs.Common.{◌≡◌, ◌++◌, map, take, drop}
use Rattle.dir_model.specs.Local.{held_in}
use Rattle.dir_memory.proofs.local.lock_held.Given as goal

abbrev pub invariant-loop-holding : goal.invariant-loop-holding
invariant-loop-holding l = l.held ≡ map (held_in l.handle l.mode) (take l.holding-index l.fn.held) ++ drop l.holding-index l.fn.held
