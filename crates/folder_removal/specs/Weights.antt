-- How much work the tasks are, at most.
use Rattle.std.specs.Prelude.{ℕ, ◌+◌, ◌-◌, ◌*◌, ◌^◌, zero, suc, cond, List, [], ◌∷◌, length}
use Rattle.folder_removal.specs.declared.task.Task.{Task}
use Rattle.folder_removal.specs.Tasks.{is_unlisted}

-- of a directory that is still to be listed, below which a path may have k bytes more
unfoldable pub weight : ℕ → ℕ
weight zero = 2
weight (suc k) = 2 + 2 ^ 64 * weight k

abbrev pub task_weight : Task → ℕ
task_weight t = cond (is_unlisted t) (weight (8192 - length t.path)) 1

abbrev pub weigh : List Task → ℕ
weigh [] = 0
weigh (t ∷ ts) = task_weight t + weigh ts
