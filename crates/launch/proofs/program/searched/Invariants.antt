use Rattle.std.proofs.Common.{◌≡◌, map, take, None}
use Rattle.path_map.specs.Entries.{entry_at}
use Rattle.launch.specs.Programs.{found_among}
use Rattle.launch.proofs.program.searched.Given as goal

abbrev pub invariant-parts : goal.invariant-parts
invariant-parts l = found_among (entry_at l.tree) l.word (take l.part-index (map (λ p. p.now) l.part-items)) ≡ None
