use Rattle.std.proofs.Common.{◌≡◌, ◌++◌, map, take, drop}
use Rattle.dir_model.specs.Trace.{moved}
use Rattle.dir_state.proofs.namespace.move_all.Given as goal

abbrev pub invariant-loop-place : goal.invariant-loop-place
invariant-loop-place l = l.folders ≡ map (moved l.from l.to) (take l.place-index l.fn.folders) ++ drop l.place-index l.fn.folders
