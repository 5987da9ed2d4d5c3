use Rattle.std.proofs.Common.{take}
use Rattle.path_map.specs.Paths.{HasNone}
use Rattle.tree_digest.proofs.read_fields.cut.Given as goal

abbrev pub invariant-loop-place : goal.invariant-loop-place
invariant-loop-place l = HasNone 32 (take l.place l.text)
