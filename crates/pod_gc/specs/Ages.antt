-- The moments of marks, and ages since them.
use Rattle.std.specs.Prelude.{◌≡◌, ◌-◌, ℕ, Bool, false, nat_le, nat_lt, Option, Some, None, List, [], ◌∷◌}
use Rattle.dir_model.specs.declared.area.Area.{Area}
use Rattle.dir_model.specs.declared.event.Event.{Event}
use Rattle.dir_model.specs.declared.item.Item.{Item}
use Rattle.dir_model.specs.declared.pod.PodId.{PodId}
use Rattle.dir_model.specs.Calls.{Extends}
use Rattle.dir_rules.specs.Marks.{mark_moment}
use Rattle.dir_rules.specs.Rules.{root_of}
use Rattle.dir_rules.specs.Seen.{later}
use Rattle.dir_files.specs.Listed.{ShowsDirectory}
use Rattle.dir_model.specs.Spots.{pod_spot}
use Rattle.pod_locks.specs.Work.{Grew}
use Rattle.pod_gc.specs.Requests.{lists_marks}

-- the greatest moment of such marks among the items
abbrev pub moment_among : List ℕ → List Item → Option ℕ
moment_among text [] = None
moment_among text (item ∷ items) = later (mark_moment text item.name) (moment_among text items)

-- its own listing of the pod's folder, the first thing that it asked for after the one moment, and which ended before the other, showed
-- this as the greatest moment of such marks
pub record Showed (pod : PodId) (area : Area) (text : List ℕ) (moment : Option ℕ) (me : ℕ) (old new : List Event) : Type 0 where
  pub items : List Item
  pub after : List Event
  pub only : Extends (lists_marks pod area) me old after
  pub shows : ShowsDirectory me old after (root_of (pod_spot pod area)) items
  pub last : Grew after new
  pub greatest : moment ≡ moment_among text items

-- the time since the moment hasn't come to this, or it has. Without a moment it is neither
abbrev pub is_young : ℕ → ℕ → Option ℕ → Bool
is_young now time None = false
is_young now time (Some moment) = nat_lt (now - moment) time

abbrev pub is_ripe : ℕ → ℕ → Option ℕ → Bool
is_ripe now time None = false
is_ripe now time (Some moment) = nat_le time (now - moment)
