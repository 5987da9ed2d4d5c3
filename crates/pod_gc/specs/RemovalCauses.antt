-- Why a pod wasn't put aside or deleted.
use Rattle.std.specs.Prelude.{◌≡◌, ◌⊎◌, ℕ, Bool, true, false, Some, List}
use Rattle.dir_model.specs.declared.area.Area.{Area}
use Rattle.dir_model.specs.declared.area.Area.TheVariants.{Prepared, Run, ExitedGarbage, Garbage}
use Rattle.dir_model.specs.declared.area.Phase.{Phase}
use Rattle.dir_model.specs.declared.area.Phase.TheVariants as kind
use Rattle.dir_model.specs.declared.event.Event.{Event}
use Rattle.dir_model.specs.declared.pod.PodId.{PodId}
use Rattle.dir_model.specs.declared.spot.Mode.{Mode}
use Rattle.dir_model.specs.declared.spot.Mode.TheVariants.{Shared, Exclusive}
use Rattle.dir_model.specs.declared.spot.Spot.{Spot}
use Rattle.dir_model.specs.declared.spot.Which.{Which}
use Rattle.dir_model.specs.declared.spot.Which.TheVariants.{Own, Claim}
use Rattle.dir_model.specs.declared.request.Reply.TheVariants.{Done}
use Rattle.dir_model.specs.declared.request.Request.TheVariants.{RemoveFolder}
use Rattle.dir_model.specs.Areas.{is_stage}
use Rattle.dir_model.specs.Calls.{Extends, AtOwnStep}
use Rattle.dir_model.specs.Causes.{Rose}
use Rattle.dir_model.specs.State.{DirState, folder_at, stands}
use Rattle.dir_model.specs.Trees.{has_any}
use Rattle.dir_rules.specs.Marks.{marked_mark}
use Rattle.dir_trait.specs.DirCalls.{DirAt, ExtendsBy, HeldBetween}
use Rattle.folder_removal.specs.Removal.{EndsWithStrayDeletion}
use Rattle.dir_model.specs.Spots.{pod_spot}
use Rattle.pod_locks.specs.declared.setback.Setback.{Setback}
use Rattle.pod_locks.specs.declared.setback.Setback.TheVariants.{Missing, NoManifest, Busy, DirFault, Stray, NoMemory}
use Rattle.pod_locks.specs.ClaimCauses.{OpensOwnAlone}
use Rattle.pod_locks.specs.Requests.{looks_at, peeks_at, moves_pod}
use Rattle.pod_locks.specs.Causes.{IsAbsentAt, Did, WasStrayStep, PodHeldByAnother}
use Rattle.pod_locks.specs.Taking.{TakesNothing}
use Rattle.pod_gc.specs.RemovalRequests.{aside, area_of_phase}

-- it doesn't stand where one with this phase does, or not where such a pod is put aside
abbrev pub MissedOnTheWay : PodId → Phase → DirState → Type 0
MissedOnTheWay pod phase s = IsAbsentAt pod (area_of_phase phase) s ⊎ IsAbsentAt pod (aside phase) s

-- it deleted the pod, in a garbage place
abbrev pub HasDeletedPod : PodId → ℕ → List Event → List Event → Type 0
HasDeletedPod pod me old new = Did (RemoveFolder (pod_spot pod ExitedGarbage)) Done me old new ⊎ Did (RemoveFolder (pod_spot pod Garbage)) Done me old new

-- nothing but that the pod is missing or has no manifest, or that the look failed
abbrev pub is_look_setback : Setback → Bool
is_look_setback Missing = true
is_look_setback NoManifest = true
is_look_setback DirFault = true
is_look_setback NoMemory = true
is_look_setback _ = false

-- the pod was missing, or its manifest was
abbrev pub is_missing : Setback → Bool
is_missing Missing = true
is_missing NoManifest = true
is_missing _ = false

-- why a folder that stands there wasn't deleted
pub record StoppedDeleting (observed : Bool) (spot : Spot) (stop : Setback) (old new : DirAt) : Type 0 where
  pub fault : stop ≡ DirFault → Rose old.faults new.faults
  pub there : is_missing stop ≡ false
  pub stray : stop ≡ Stray → observed ≡ true → EndsWithStrayDeletion spot old new

-- the folder stands in prepared, or it doesn't: where Claim couldn't be opened
pub record RemovalStopsAlone (observed : Bool) (pod : PodId) (stop : Setback) (old new : DirAt) : Type 0 where
  pub calm : is_look_setback stop ≡ true
  pub fault : stop ≡ DirFault → Rose old.faults new.faults
  pub missing : stop ≡ Missing → observed ≡ true → HeldBetween old new (IsAbsentAt pod Prepared)
  pub there : stop ≡ NoManifest → observed ≡ true → HeldBetween old new (λ s. stands s.namespace (pod_spot pod Prepared) ≡ true)

-- why a prepared pod wasn't put aside
pub record StoppedAlone (observed : Bool) (pod : PodId) (stop : Setback) (old new : DirAt) : Type 0 where
  pub fault : stop ≡ DirFault → Rose old.faults new.faults
  pub missing : stop ≡ Missing → observed ≡ true → HeldBetween old new (IsAbsentAt pod Prepared)
  pub manifest : stop ≡ NoManifest → observed ≡ true → OpensOwnAlone pod old.process old.trace new.trace
  pub stray : stop ≡ Stray → observed ≡ true → WasStrayStep old.process old.trace new.trace

-- why a pod that was found with this phase wasn't taken away
pub record StoppedFound (observed : Bool) (pod : PodId) (phase : Phase) (stop : Setback) (old new : DirAt) : Type 0 where
  pub fault : stop ≡ DirFault → Rose old.faults new.faults
  pub missing : stop ≡ Missing → observed ≡ true → HeldBetween old new (MissedOnTheWay pod phase)
  pub prepared : stop ≡ NoManifest → phase ≡ kind.Prepared
  pub manifest : stop ≡ NoManifest → observed ≡ true → OpensOwnAlone pod old.process old.trace new.trace
  pub stray : stop ≡ Stray → observed ≡ true → WasStrayStep old.process old.trace new.trace

-- Claim is asked for exclusively, and Own under it shared
abbrev pub asked_mode : Which → Mode
asked_mode Claim = Exclusive
asked_mode Own = Shared

abbrev pub BusyInPrepared : PodId → Setback → DirAt → DirAt → Type 0
BusyInPrepared pod stop old new = (which : Which) → stop ≡ Busy which → PodHeldByAnother pod Prepared which (asked_mode which) old.process old.trace new.trace

-- at one of its places and in some mode
pub record IsBusyAt (pod : PodId) (which : Which) (me : ℕ) (old new : List Event) : Type 0 where
  pub area : Area
  pub stage : is_stage area ≡ true
  pub mode : Mode
  pub held : PodHeldByAnother pod area which mode me old new

abbrev pub BusyAny : PodId → Setback → DirAt → DirAt → Type 0
BusyAny pod stop old new = (which : Which) → stop ≡ Busy which → IsBusyAt pod which old.process old.trace new.trace

-- where a lock was refused, nothing but looks at this place and locks there was asked for
abbrev pub BusyByLooks : Bool → PodId → Area → Setback → DirAt → DirAt → Type 0
BusyByLooks observed pod area stop old new = (which : Which) → stop ≡ Busy which → observed ≡ true → ExtendsBy (looks_at pod area) old new

-- and no lock but shared
abbrev pub BusyByPeeks : Bool → PodId → Area → Setback → DirAt → DirAt → Type 0
BusyByPeeks observed pod area stop old new = (which : Which) → stop ≡ Busy which → observed ≡ true → ExtendsBy (peeks_at pod area) old new

-- the folder with this number stands in run, and something at the path of the mark of this moment
abbrev pub IsMarkedIn : PodId → ℕ → ℕ → DirState → Type 0
IsMarkedIn pod now folder s = (folder_at s.namespace (pod_spot pod Run) ≡ Some folder) × (has_any s.entries folder (marked_mark now) ≡ true)

-- that so, at an own step
abbrev pub IsMarkedBetween : PodId → ℕ → DirAt → DirAt → Type 0
IsMarkedBetween pod now old new = (folder : ℕ) × HeldBetween old new (IsMarkedIn pod now folder)

-- its mark was there, and after that nothing was asked for but its move
pub record MarkedFirst (pod : PodId) (now : ℕ) (me : ℕ) (old new : List Event) : Type 0 where
  pub folder : ℕ
  pub between : List Event
  pub marked : AtOwnStep me old between (IsMarkedIn pod now folder)
  pub only : Extends (moves_pod pod Run ExitedGarbage) me between new

-- where it was so, nothing was moved or removed
abbrev pub MissedUntaken : Bool → Setback → DirAt → DirAt → Type 0
MissedUntaken observed stop old new = is_missing stop ≡ true → TakesNothing observed old new
