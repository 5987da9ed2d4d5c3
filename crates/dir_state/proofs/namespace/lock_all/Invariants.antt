use Rattle.std.proofs.Common.{◌≡◌, ◌++◌, map, take, drop}
use Rattle.dir_model.specs.Trace.{locked}
use Rattle.dir_state.proofs.namespace.lock_all.Given as goal

abbrev pub invariant-loop-opening : goal.invariant-loop-opening
invariant-loop-opening l = l.openings ≡ map (locked l.process l.handle l.mode) (take l.opening-index l.fn.openings) ++ drop l.opening-index l.fn.openings
