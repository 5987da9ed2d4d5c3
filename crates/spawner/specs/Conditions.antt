-- When a process may ask for the start of an app, and for its end.
use Rattle.std.specs.Prelude.{◌≡◌, ℕ, Bool, true, false, not, ◌&&◌, bytes_eq, Some, List, ◌∷◌, ◌++◌}
use Rattle.dir_model.specs.declared.event.Event.{Event}
use Rattle.dir_model.specs.declared.request.Request.{Request}
use Rattle.dir_model.specs.declared.request.Request.TheVariants.{MakeFileIn, SyncIn}
use Rattle.dir_model.specs.declared.request.Reply.{Reply}
use Rattle.dir_model.specs.declared.request.Reply.TheVariants.{Done}
use Rattle.dir_model.specs.Paths.{is_empty}
use Rattle.dir_model.specs.Trees.{mark_prefix}
use Rattle.dir_model.specs.Calls.{is_foreign}
use Rattle.dir_model.specs.Local.{IsActive}
use Rattle.dir_rules.specs.declared.seen.Seen.{Seen}
use Rattle.dir_rules.specs.Standing.{is_spot_of_pod}
use Rattle.dir_rules.specs.Rules.{runs}
use Rattle.dir_trait.specs.DirCalls.{DirAt}
use Rattle.dir_trait.specs.Knowledge.{Knows}
use Rattle.spawner.specs.declared.call.RootPlace.{RootPlace}
use Rattle.spawner.specs.declared.call.Child.{Child}
use Rattle.spawner.specs.declared.call.SpawnCall.{SpawnCall}
use Rattle.spawner.specs.Calls.{last_root}

-- the path of the mark that an app was started
abbrev pub start_mark : List ℕ → List ℕ
start_mark app = mark_prefix ++ app

-- it asks for the app's mark in the pod
abbrev pub makes_mark : RootPlace → Request → Bool
makes_mark root (MakeFileIn inner) = is_spot_of_pod root.spot.name inner.spot && bytes_eq inner.path (start_mark root.app)
makes_mark root _ = false

-- it asks for a sync of the pod's folder
abbrev pub syncs_folder : RootPlace → Request → Bool
syncs_folder root (SyncIn inner) = is_spot_of_pod root.spot.name inner.spot && is_empty inner.path
syncs_folder root _ = false

abbrev pub is_done : Reply → Bool
is_done Done = true
is_done _ = false

-- the process asked for something of this kind, and it was done
abbrev pub did : ℕ → (Request → Bool) → Event → Bool
did me asks e = not (is_foreign me e) && (asks e.request && is_done e.reply)

-- the process made the app's mark in the pod, and after that synced the pod's folder
pub record MarkSynced (me : ℕ) (trace : List Event) (root : RootPlace) : Type 0 where
  pub before : List Event
  pub mark : Event
  pub between : List Event
  pub sync : Event
  pub after : List Event
  pub told : trace ≡ before ++ mark ∷ (between ++ sync ∷ after)
  pub made : did me (makes_mark root) mark ≡ true
  pub synced : did me (syncs_folder root) sync ≡ true

-- the process hasn't finished, holds the pod's own lock exclusively, and has moved the pod to run last
pub record StillRuns (d : DirAt) (name : List ℕ) : Type 0 where
  pub active : IsActive d.local
  pub seen : Seen
  pub knows : Knows d seen
  pub runs : runs seen name ≡ true

-- the app may be started: its mark was made and synced by the process that runs its pod
pub record MayStart (d : DirAt) (root : RootPlace) : Type 0 where
  pub marked : MarkSynced d.process d.trace root
  pub runs : StillRuns d root.spot.name

-- the child may be waited for: the process runs the pod in which it was started
pub record MayWait (d : DirAt) (calls : List SpawnCall) (child : Child) : Type 0 where
  pub root : RootPlace
  pub started : last_root child calls ≡ Some root
  pub runs : StillRuns d root.spot.name
