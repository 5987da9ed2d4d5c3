use Rattle.std.proofs.Common.{◌≡◌, ◌++◌, map, take}
use Rattle.pod_plan.proofs.Loops.{directory_of}
use Rattle.pod_plan.proofs.pod_folder.add_directories.Given as goal

abbrev pub invariant-loop-path : goal.invariant-loop-path
invariant-loop-path l = l.plan.items ≡ l.fn.plan.items ++ map (directory_of (λ path. path.now)) (take l.path-index l.path-items)
