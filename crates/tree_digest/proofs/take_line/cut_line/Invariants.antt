use Rattle.std.proofs.Common.{take}
use Rattle.path_map.specs.Paths.{HasNone}
use Rattle.tree_digest.proofs.take_line.cut_line.Given as goal

abbrev pub invariant-loop-place : goal.invariant-loop-place
invariant-loop-place l = HasNone 10 (take l.place l.text)
