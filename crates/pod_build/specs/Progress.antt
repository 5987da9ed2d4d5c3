-- How far the making of a pod has come, as the process knows it, and what is open then.
use Rattle.std.specs.Prelude.{Bool, true, false, Option, Some, None, List, [], ◌∷◌, ◌++◌, Result, Ok, Err}
use Rattle.dir_model.specs.declared.area.Area.{Area}
use Rattle.dir_model.specs.declared.area.Area.TheVariants.{Embryo, Prepare}
use Rattle.dir_model.specs.declared.intent.Intent.{Intent}
use Rattle.dir_model.specs.declared.opening.Target.TheVariants.{Own}
use Rattle.dir_model.specs.declared.pod.PodId.{PodId}
use Rattle.dir_model.specs.declared.spot.Handle.{Handle}
use Rattle.dir_model.specs.declared.spot.Mode.{Mode}
use Rattle.dir_model.specs.declared.spot.Mode.TheVariants.{Exclusive}
use Rattle.dir_model.specs.declared.spot.Spot.{Spot}
use Rattle.dir_model.specs.Local.{Local}
use Rattle.dir_rules.specs.declared.standing.Held.{Held}
use Rattle.dir_rules.specs.declared.seen.Entry.{Entry}
use Rattle.dir_rules.specs.declared.seen.Making.{Making}
use Rattle.dir_rules.specs.declared.seen.Seen.{Seen}
use Rattle.dir_rules.specs.Standing.{nothing_standing}
use Rattle.dir_rules.specs.Conforms.{nothing_seen}
use Rattle.pod_build.specs.declared.make_error.MakeError.{MakeError}
use Rattle.dir_model.specs.Spots.{pod_spot}

-- how far the making of a pod has come
pub record Progress : Type 0 where
  -- the folder was made
  pub made : Bool
  -- it stands in embryo, under that area's lock
  pub embryo_under_lock : Bool
  -- where it was moved to, the last first
  pub moves : List Spot
  -- what is known of it
  pub making : Option Making

-- it has begun so, has these handles, and has come so far. Each of its requests was allowed, and it has seen nothing else
abbrev pub seen_making : Intent → List Held → Progress → Seen
seen_making intent hs p = record nothing_seen {
  standing = record nothing_standing { intent = Some intent; made = p.made; embryo_under_lock = p.embryo_under_lock; holdings = hs; moves = p.moves };
  making = p.making;
}

-- the folder at this spot holds this, everything was answered Ok, and all is synced
abbrev pub holding : Spot → List Entry → Making
holding spot entries = record { spot = spot; clean = true; entries = entries; unsynced = [] }

abbrev pub nothing_made : Progress
nothing_made = record { made = false; embryo_under_lock = false; moves = []; making = None }

-- an empty folder in embryo, under that area's lock
abbrev pub in_embryo : PodId → Progress
in_embryo draw = record { made = true; embryo_under_lock = true; moves = []; making = Some (holding (pod_spot draw Embryo) []) }

-- the folder in prepare, with this in it
abbrev pub in_prepare : PodId → List Entry → Progress
in_prepare draw entries = record { made = true; embryo_under_lock = false; moves = pod_spot draw Prepare ∷ []; making = Some (holding (pod_spot draw Prepare) entries) }

-- it was moved on to this area
abbrev pub handed : PodId → Area → List Entry → Progress
handed draw to entries = record { made = true; embryo_under_lock = false; moves = pod_spot draw to ∷ pod_spot draw Prepare ∷ []; making = Some (holding (pod_spot draw to) entries) }

-- the pod's own lock, by a handle that was opened in embryo
abbrev pub own_held : PodId → Handle → Option Mode → Held
own_held draw handle lock = record { handle = handle; target = Own (pod_spot draw Embryo); lock = lock; covered = false }

-- and what is open with it
abbrev pub and_own : Local → PodId → Handle → Local
and_own m draw handle = record m { holdings = m.holdings ++ record { handle = handle; target = Own (pod_spot draw Embryo); lock = Some Exclusive } ∷ [] }

abbrev pub with_own : Local → PodId → Result Handle MakeError → Local
with_own m draw (Ok handle) = and_own m draw handle
with_own m draw (Err error) = m
