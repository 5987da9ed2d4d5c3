-- What was done with a pod that a round found, step by step.
use Rattle.std.specs.Prelude.{◌≡◌, ◌⊎◌, ℕ, Bool, true, false, List}
use Rattle.dir_model.specs.declared.area.Area.{Area}
use Rattle.dir_model.specs.declared.area.Area.TheVariants.{Prepared}
use Rattle.dir_model.specs.declared.area.Phase.{Phase}
use Rattle.dir_model.specs.declared.area.Phase.TheVariants as kind
use Rattle.dir_model.specs.declared.event.Event.{Event}
use Rattle.dir_model.specs.declared.pod.PodId.{PodId}
use Rattle.dir_model.specs.declared.spot.Mode.TheVariants.{Exclusive}
use Rattle.dir_model.specs.declared.spot.Which.{Which}
use Rattle.dir_model.specs.declared.spot.Which.TheVariants.{Own, Claim}
use Rattle.dir_model.specs.declared.request.Reply.TheVariants.{Done}
use Rattle.dir_model.specs.declared.request.Request.TheVariants.{MoveFolder}
use Rattle.dir_model.specs.Calls.{Extends, AtOwnStep}
use Rattle.dir_model.specs.Replies.{is_look_at}
use Rattle.dir_trait.specs.DirCalls.{DirAt}
use Rattle.phase_read.specs.declared.found.Found.TheVariants.{At}
use Rattle.dir_model.specs.Spots.{pod_spot}
use Rattle.phase_read.specs.Read.{is_pod_spot, IsPhaseReading}
use Rattle.pod_locks.specs.Work.{Grew}
use Rattle.pod_locks.specs.declared.setback.Setback.{Setback}
use Rattle.pod_locks.specs.declared.setback.Setback.TheVariants.{Missing, Busy}
use Rattle.pod_locks.specs.Causes.{IsAbsentAt, Did, PodHeldByAnother, FreeOfOthers}
use Rattle.pod_locks.specs.Taking.{TookNothing}
use Rattle.pod_gc.specs.declared.attempt.Round.{Round}
use Rattle.pod_gc.specs.declared.attempt.Round.TheVariants as round
use Rattle.pod_gc.specs.declared.remove_error.RemoveError.{RemoveError}
use Rattle.pod_gc.specs.declared.remove_error.RemoveError.TheVariants as error
use Rattle.pod_gc.specs.RemovalRequests.{is_removable, aside, area_of_phase, puts_aside}
use Rattle.pod_gc.specs.RemovalCauses.{asked_mode}

-- a pod in this phase is moved to the place where it is deleted
abbrev pub is_moved : Phase → Bool
is_moved kind.AbortedPrepare = true
is_moved kind.Prepared = true
is_moved kind.Exited = true
is_moved _ = false

-- of a prepared pod: its activation lock could be opened, and later no other process held it
abbrev pub ClaimWasFree : PodId → Phase → ℕ → List Event → List Event → Type 0
ClaimWasFree pod phase me old new = phase ≡ kind.Prepared → FreeOfOthers pod Prepared Claim Exclusive me old new

-- it was brought to the place where it is deleted: nothing was asked for but looks, marks and its move; or it stood there, and nothing was asked for
pub record PutAway (pod : PodId) (phase : Phase) (me : ℕ) (old new : List Event) : Type 0 where
  pub moved : is_moved phase ≡ true → Did (MoveFolder (pod_spot pod (area_of_phase phase)) (pod_spot pod (aside phase))) Done me old new
  pub only : is_moved phase ≡ true → Extends (puts_aside pod (area_of_phase phase) (aside phase)) me old new
  pub still : is_moved phase ≡ false → new ≡ old
  pub claimed : ClaimWasFree pod phase me old new

-- and deleted there: its own lock could be opened, and later no other process held it
pub record TakenAway (pod : PodId) (phase : Phase) (me : ℕ) (old new : List Event) : Type 0 where
  pub between : List Event
  pub put : PutAway pod phase me old between
  pub alone : FreeOfOthers pod (aside phase) Own Exclusive me between new

-- it wasn't at this place, and nothing had been moved or removed
pub record MissedAt (pod : PodId) (place : Area) (me : ℕ) (old new : List Event) : Type 0 where
  pub untaken : TookNothing me old new
  pub absent : AtOwnStep me old new (IsAbsentAt pod place)

-- it was missing where it stood, or where it had been brought to
abbrev pub WasMissed : PodId → Phase → ℕ → List Event → List Event → Type 0
WasMissed pod phase me old new = MissedAt pod (area_of_phase phase) me old new ⊎ ((between : List Event) × PutAway pod phase me old between × MissedAt pod (aside phase) me between new)

-- another process held this lock of it where it stood
pub record RefusedAt (pod : PodId) (phase : Phase) (which : Which) (me : ℕ) (old new : List Event) : Type 0 where
  pub waits : which ≡ Claim → phase ≡ kind.Prepared
  pub claimed : which ≡ Own → ClaimWasFree pod phase me old new
  pub held : PodHeldByAnother pod (area_of_phase phase) which (asked_mode which) me old new

-- or its own lock where it had been brought to
pub record RefusedAside (pod : PodId) (phase : Phase) (which : Which) (me : ℕ) (old new : List Event) : Type 0 where
  pub own : which ≡ Own
  pub between : List Event
  pub put : PutAway pod phase me old between
  pub held : PodHeldByAnother pod (aside phase) Own Exclusive me between new

abbrev pub LockWasRefused : PodId → Which → Phase → ℕ → List Event → List Event → Type 0
LockWasRefused pod which phase me old new = RefusedAt pod phase which me old new ⊎ RefusedAside pod phase which me old new

-- a read found the pod in a phase that allows its removal, by looks alone, and then this came of it
pub record FoundAnd (pod : PodId) (P : Phase → ℕ → List Event → List Event → Type 0) (me : ℕ) (old new : List Event) : Type 0 where
  pub between : List Event
  pub phase : Phase
  pub area : Area
  pub removable : is_removable phase ≡ true
  pub read : IsPhaseReading me old between pod (At phase area)
  pub looks : Extends (is_look_at (is_pod_spot pod)) me old between
  pub so : P phase me between new

-- how a round went in which the pod was found
abbrev pub RoundWent : PodId → Round → DirAt → DirAt → Type 0
RoundWent pod round.Gone old new = Unit {0}
RoundWent pod round.Removed old new = FoundAnd pod (TakenAway pod) old.process old.trace new.trace
RoundWent pod round.Missed old new = FoundAnd pod (WasMissed pod) old.process old.trace new.trace

abbrev pub RoundRefused : PodId → RemoveError → DirAt → DirAt → Type 0
RoundRefused pod e old new = (which : Which) → e ≡ error.Busy pod which → FoundAnd pod (LockWasRefused pod which) old.process old.trace new.trace

-- the pod was missed in the first round
pub record MissedFirst (pod : PodId) (me : ℕ) (old new : List Event) : Type 0 where
  pub upto : List Event
  pub missed : FoundAnd pod (WasMissed pod) me old upto
  pub rest : Grew upto new

-- this came of the first round, or the pod was missed in it
abbrev pub FirstOrMissed : PodId → (Phase → ℕ → List Event → List Event → Type 0) → ℕ → List Event → List Event → Type 0
FirstOrMissed pod P me old new = FoundAnd pod P me old new ⊎ MissedFirst pod me old new

abbrev pub RemovedFirst : PodId → DirAt → DirAt → Type 0
RemovedFirst pod old new = FirstOrMissed pod (TakenAway pod) old.process old.trace new.trace

abbrev pub RefusedFirst : PodId → RemoveError → DirAt → DirAt → Type 0
RefusedFirst pod e old new = (which : Which) → e ≡ error.Busy pod which → FirstOrMissed pod (LockWasRefused pod which) old.process old.trace new.trace

-- of the steps

abbrev pub PutAwayIfObserved : Bool → PodId → Phase → DirAt → DirAt → Type 0
PutAwayIfObserved observed pod phase old new = observed ≡ true → PutAway pod phase old.process old.trace new.trace

abbrev pub TakenAwayIfObserved : Bool → PodId → Phase → DirAt → DirAt → Type 0
TakenAwayIfObserved observed pod phase old new = observed ≡ true → TakenAway pod phase old.process old.trace new.trace

abbrev pub MissedAtItsArea : Bool → PodId → Phase → Setback → DirAt → DirAt → Type 0
MissedAtItsArea observed pod phase stop old new = stop ≡ Missing → observed ≡ true → MissedAt pod (area_of_phase phase) old.process old.trace new.trace

abbrev pub MissedThereOrAside : Bool → PodId → Phase → Setback → DirAt → DirAt → Type 0
MissedThereOrAside observed pod phase stop old new = stop ≡ Missing → observed ≡ true → WasMissed pod phase old.process old.trace new.trace

abbrev pub RefusedAtItsArea : PodId → Phase → Setback → DirAt → DirAt → Type 0
RefusedAtItsArea pod phase stop old new = (which : Which) → stop ≡ Busy which → RefusedAt pod phase which old.process old.trace new.trace

abbrev pub RefusedThereOrAside : PodId → Phase → Setback → DirAt → DirAt → Type 0
RefusedThereOrAside pod phase stop old new = (which : Which) → stop ≡ Busy which → LockWasRefused pod which phase old.process old.trace new.trace
