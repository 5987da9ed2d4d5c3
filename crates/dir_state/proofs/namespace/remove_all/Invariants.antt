use Rattle.std.proofs.Common.{◌≡◌, ◌++◌, map, take, drop}
use Rattle.dir_model.specs.Trace.{removed}
use Rattle.dir_state.proofs.namespace.remove_all.Given as goal

abbrev pub invariant-loop-place : goal.invariant-loop-place
invariant-loop-place l = l.folders ≡ map (removed l.spot) (take l.place-index l.fn.folders) ++ drop l.place-index l.fn.folders
