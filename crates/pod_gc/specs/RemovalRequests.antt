-- What the removal of a pod asks the directory for.
use Rattle.std.specs.Prelude.{ℕ, Bool, true, false, ◌&&◌, ◌||◌, bytes_eq}
use Rattle.dir_model.specs.declared.area.Area.{Area}
use Rattle.dir_model.specs.declared.area.Area.TheVariants.{Prepare, Prepared, Run, ExitedGarbage, Garbage}
use Rattle.dir_model.specs.declared.area.Phase.{Phase}
use Rattle.dir_model.specs.declared.area.Phase.TheVariants as phase
use Rattle.dir_model.specs.declared.pod.PodId.{PodId}
use Rattle.dir_model.specs.declared.request.Request.{Request}
use Rattle.dir_model.specs.declared.request.Request.TheVariants.{Open, TryLock, Close, MoveFolder, MakeFileIn}
use Rattle.dir_model.specs.State.{spot_eq}
use Rattle.dir_rules.specs.Marks.{marked_mark}
use Rattle.folder_removal.specs.Removal.{asks_deletion_at}
use Rattle.dir_model.specs.Spots.{pod_spot}
use Rattle.phase_read.specs.Read.{is_pod_spot}
use Rattle.pod_locks.specs.Requests.{looks_at, moves_pod}

-- a pod in this phase may be removed: nobody makes, runs or deletes it
abbrev pub is_removable : Phase → Bool
is_removable phase.AbortedPrepare = true
is_removable phase.Prepared = true
is_removable phase.Exited = true
is_removable phase.ExitedGarbage = true
is_removable phase.Garbage = true
is_removable _ = false

-- the garbage place where it is deleted
abbrev pub aside : Phase → Area
aside phase.Exited = ExitedGarbage
aside phase.ExitedGarbage = ExitedGarbage
aside _ = Garbage

-- the place where it stands
abbrev pub area_of_phase : Phase → Area
area_of_phase phase.AbortedPrepare = Prepare
area_of_phase phase.Prepared = Prepared
area_of_phase phase.Exited = Run
area_of_phase phase.ExitedGarbage = ExitedGarbage
area_of_phase _ = Garbage

abbrev pub is_garbage_place : Area → Bool
is_garbage_place ExitedGarbage = true
is_garbage_place Garbage = true
is_garbage_place _ = false

-- the places where a pod lies dead once nobody holds its own lock: an aborted prepare, or an exited pod
abbrev pub may_lie_dead : Area → Bool
may_lie_dead Prepare = true
may_lie_dead Run = true
may_lie_dead _ = false

-- it is marked in run with the moment
abbrev pub marks_at : PodId → ℕ → Request → Bool
marks_at pod now (MakeFileIn inner) = spot_eq (pod_spot pod Run) inner.spot && bytes_eq inner.path (marked_mark now)
marks_at pod now _ = false

-- it is looked for and deleted at this place
abbrev pub deletes_in : PodId → Area → Request → Bool
deletes_in pod area request = looks_at pod area request || asks_deletion_at (pod_spot pod area) request

-- it goes to a garbage place, from each place whence it may
abbrev pub goes_aside : PodId → Request → Bool
goes_aside pod request = moves_pod pod Prepare Garbage request || (moves_pod pod Prepared Garbage request || moves_pod pod Run ExitedGarbage request)

-- it is looked at here, a file is made in its folder, and it is moved there: nothing of it is removed
abbrev pub puts_aside : PodId → Area → Area → Request → Bool
puts_aside pod from to (MakeFileIn inner) = spot_eq (pod_spot pod from) inner.spot
puts_aside pod from to (MoveFolder here there) = moves_pod pod from to (MoveFolder here there)
puts_aside pod from to request = looks_at pod from request

-- looks at its locations, locks there, its moves to a garbage place, its mark, and its deletion in such a place
abbrev pub removes : PodId → ℕ → Request → Bool
removes pod now (Open spot which) = is_pod_spot pod spot
removes pod now (TryLock handle mode) = true
removes pod now (Close handle) = true
removes pod now (MoveFolder from to) = goes_aside pod (MoveFolder from to)
removes pod now (MakeFileIn inner) = marks_at pod now (MakeFileIn inner)
removes pod now request = asks_deletion_at (pod_spot pod ExitedGarbage) request || asks_deletion_at (pod_spot pod Garbage) request
