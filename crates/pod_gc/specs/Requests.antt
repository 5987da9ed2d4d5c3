-- What a sweep asks the directory for.
use Rattle.std.specs.Prelude.{ℕ, Bool, true, false, ◌&&◌, ◌||◌, bytes_eq}
use Rattle.dir_model.specs.declared.area.Area.{Area}
use Rattle.dir_model.specs.declared.area.Area.TheVariants.{Embryo, Prepare, Prepared, Run, ExitedGarbage, Garbage}
use Rattle.dir_model.specs.declared.area.Phase.{Phase}
use Rattle.dir_model.specs.declared.area.Phase.TheVariants as phase
use Rattle.dir_model.specs.declared.pod.PodId.{PodId}
use Rattle.dir_model.specs.declared.request.Request.{Request}
use Rattle.dir_model.specs.declared.request.Request.TheVariants.{ListArea, OpenArea, Open, TryLock, Close, MoveFolder, MakeFileIn, ListIn, RemoveFileIn, RemoveDirIn, RemoveFolder}
use Rattle.dir_model.specs.Areas.{is_stage}
use Rattle.dir_rules.specs.Marks.{marked_mark}
use Rattle.dir_rules.specs.Standing.{is_in}
use Rattle.dir_rules.specs.Seen.{inner_eq}
use Rattle.dir_rules.specs.Rules.{root_of}
use Rattle.dir_model.specs.Spots.{pod_spot}
use Rattle.pod_locks.specs.Requests.{looks_at, moves_pod}
use Rattle.pod_gc.specs.RemovalRequests.{puts_aside, removes}

-- where a pod's age counts
abbrev pub counts_time : Area → Bool
counts_time Prepared = true
counts_time ExitedGarbage = true
counts_time _ = false

-- the marks of the pod's folder at this place are listed
abbrev pub lists_marks : PodId → Area → Request → Bool
lists_marks pod area (ListIn inner) = inner_eq (root_of (pod_spot pod area)) inner
lists_marks pod area _ = false

-- the area is listed
abbrev pub lists_pod_area : Area → Request → Bool
lists_pod_area area (ListArea here) = is_in area here
lists_pod_area area _ = false

-- a pod is dealt with: looked at, its marks listed, and brought to a garbage place or deleted there
abbrev pub deals_with_pod : PodId → ℕ → Area → Request → Bool
deals_with_pod pod now place request = lists_marks pod place request || (moves_pod pod Embryo Garbage request || removes pod now request)

-- it is looked at there, its locks are asked for, and its marks are listed: it is neither moved nor removed
abbrev pub looks_over : PodId → Area → Request → Bool
looks_over pod place request = lists_marks pod place request || looks_at pod place request

-- its marks are listed, and it is put aside from there: nothing of it is removed
abbrev pub puts_aside_only : PodId → Area → Area → Request → Bool
puts_aside_only pod place to request = lists_marks pod place request || puts_aside pod place to request

-- the places where a lock of the pod may be busy that tells nothing of its phase
abbrev pub may_be_busy : Area → Bool
may_be_busy Prepared = true
may_be_busy ExitedGarbage = true
may_be_busy Garbage = true
may_be_busy _ = false

-- the garbage place where a pod goes from an area
abbrev pub goes_to : Area → Area
goes_to Run = ExitedGarbage
goes_to _ = Garbage

abbrev pub moves_pods : Area → Bool
moves_pods Embryo = true
moves_pods Prepare = true
moves_pods Prepared = true
moves_pods Run = true
moves_pods _ = false

-- the phase of a pod whose own lock is held, where it may lie dead
abbrev pub owned_phase : Area → Phase
owned_phase Run = phase.Running
owned_phase _ = phase.Preparing

-- the phases for which a pass lets a pod be
abbrev pub lets_be : Area → Phase → Bool
lets_be Prepare phase.Preparing = true
lets_be Prepared phase.Prepared = true
lets_be Run phase.Running = true
lets_be ExitedGarbage phase.ExitedGarbage = true
lets_be ExitedGarbage phase.Deleting = true
lets_be _ _ = false

-- listings of the areas of pods, the lock of embryo, looks and locks at pods, listings of their marks, their moves to a garbage
-- place, the mark of this moment, and deletions in such a place
abbrev pub sweeps : ℕ → Request → Bool
sweeps now (ListArea area) = is_stage area
sweeps now (OpenArea area) = is_in Embryo area
sweeps now (Open spot which) = is_stage spot.area
sweeps now (TryLock handle mode) = true
sweeps now (Close handle) = true
sweeps now (MoveFolder from to) = is_stage from.area && ((is_in Run from.area && is_in ExitedGarbage to.area) || is_in Garbage to.area)
sweeps now (MakeFileIn inner) = is_in Run inner.spot.area && bytes_eq inner.path (marked_mark now)
sweeps now (ListIn inner) = is_stage inner.spot.area
sweeps now (RemoveFileIn inner) = is_in inner.spot.area ExitedGarbage || is_in inner.spot.area Garbage
sweeps now (RemoveDirIn inner) = is_in inner.spot.area ExitedGarbage || is_in inner.spot.area Garbage
sweeps now (RemoveFolder spot) = is_in spot.area ExitedGarbage || is_in spot.area Garbage
sweeps now _ = false
