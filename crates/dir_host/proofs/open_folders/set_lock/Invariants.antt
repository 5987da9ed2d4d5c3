use Rattle.std.proofs.Common.{◌≡◌, ◌++◌, map, take, drop}
use Rattle.dir_host.proofs.Holdings.{locked_folder}
use Rattle.dir_host.proofs.open_folders.set_lock.Given as goal

abbrev pub invariant-loop-open : goal.invariant-loop-open
invariant-loop-open l = l.folders ≡ map (locked_folder l.handle l.mode) (take l.open-index l.fn.folders) ++ drop l.open-index l.fn.folders
