use Rattle.std.proofs.Common.{◌≡◌, true, length}
use Rattle.std.specs.Option.{option_copied}
use Rattle.path_map.specs.After.{is_after, entries_after}
use Rattle.pod_plan.proofs.root_folder.copy_at.Given as goal

abbrev pub invariant-copies : goal.invariant-copies
invariant-copies l = is_after (option_copied l.behind) l.path ≡ true

abbrev pub decreases-copies : goal.decreases-copies
decreases-copies l = length (entries_after (option_copied l.behind) l.rendering.map)
