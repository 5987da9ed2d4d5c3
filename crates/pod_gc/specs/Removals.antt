-- What the removal of a pod comes to, from round to round.
use Rattle.std.specs.Prelude.{◌≡◌, ◌⊎◌, ℕ, zero, suc, Bool, true, false, List, Result, Ok, Err}
use Rattle.dir_model.specs.declared.area.Area.{Area}
use Rattle.dir_model.specs.declared.area.Phase.{Phase}
use Rattle.dir_model.specs.declared.event.Event.{Event}
use Rattle.dir_model.specs.declared.pod.PodId.{PodId}
use Rattle.dir_model.specs.declared.spot.Which.{Which}
use Rattle.dir_model.specs.Calls.{Extends, AtOwnStep}
use Rattle.dir_model.specs.Causes.{Rose}
use Rattle.dir_model.specs.Replies.{is_look_at}
use Rattle.dir_trait.specs.DirCalls.{DirAt, HeldBetween}
use Rattle.dir_trait.specs.Effects.{Given}
use Rattle.impossible_replies.specs.Replies.{AppWroteOn}
use Rattle.lifecycle.specs.Executions.{IsConforming}
use Rattle.phase_read.specs.declared.found.Found.TheVariants.{At, Gone}
use Rattle.phase_read.specs.Read.{is_pod_spot, IsPhaseReading}
use Rattle.phase_read.specs.Exact.{AtOwnEvent, IsInPhase, IsNowhere}
use Rattle.pod_locks.specs.ClaimCauses.{IsPreparedWithoutManifest}
use Rattle.pod_locks.specs.Work.{Grew}
use Rattle.pod_locks.specs.Elsewhere.{is_owned_phase, IsOwnedElsewhere}
use Rattle.pod_gc.specs.declared.attempt.Round.{Round}
use Rattle.pod_gc.specs.declared.attempt.Round.TheVariants as round
use Rattle.pod_gc.specs.declared.remove_error.RemoveError.{RemoveError}
use Rattle.pod_gc.specs.declared.remove_error.RemoveError.TheVariants.{NoPod, WrongPhase, NoManifest, Busy, DirFault, Stray}
use Rattle.pod_locks.specs.declared.setback.Setback.{Setback}
use Rattle.pod_locks.specs.declared.setback.Setback.TheVariants as setback
use Rattle.pod_gc.specs.RemovalRequests.{is_removable, aside, area_of_phase}
use Rattle.pod_gc.specs.RemovalHolding.{MayRemovePod}
use Rattle.pod_gc.specs.Found.{PutAway}
use Rattle.pod_gc.specs.RemovalSetbacks.{remove_error_of}
use Rattle.pod_locks.specs.Causes.{IsAbsentAt, WasStrayStep, ByApp}
use Rattle.pod_gc.specs.RemovalCauses.{MissedOnTheWay, HasDeletedPod, IsBusyAt}

-- a place that is empty ends the round, and everything else that sets it back the removal
abbrev pub removal_round_of : PodId → Result (Unit {0}) Setback → Result Round RemoveError
removal_round_of pod (Ok done) = Ok round.Removed
removal_round_of pod (Err setback.Missing) = Ok round.Missed
removal_round_of pod (Err stop) = Err (remove_error_of pod stop)

-- it was missing where it stood, or after it had been put aside there
abbrev pub MissedOnItsWay : PodId → Phase → ℕ → List Event → List Event → Type 0
MissedOnItsWay pod phase me old new =
    AtOwnStep me old new (IsAbsentAt pod (area_of_phase phase)) ⊎ ((moved : List Event) × PutAway pod phase me old moved × AtOwnStep me moved new (IsAbsentAt pod (aside phase)))

-- a read found the pod in a phase that allows its removal, and later it was missing where it stood or was put aside
pub record FoundThenMissed (pod : PodId) (me : ℕ) (old new : List Event) : Type 0 where
  pub between : List Event
  pub phase : Phase
  pub area : Area
  pub removable : is_removable phase ≡ true
  pub read : IsPhaseReading me old between pod (At phase area)
  pub missed : AtOwnStep me between new (MissedOnTheWay pod phase)
  pub way : MissedOnItsWay pod phase me between new

-- that so often, one after the other
abbrev pub MissedTimes : ℕ → PodId → ℕ → List Event → List Event → Type 0
MissedTimes zero pod me old new = Grew old new
MissedTimes (suc n) pod me old new = (between : List Event) × MissedTimes n pod me old between × FoundThenMissed pod me between new

-- a read found none, by looks at its locations alone, and where the execution conforms up to its end the pod didn't exist at an own
-- event
pub record FoundNoPod (pod : PodId) (me : ℕ) (old new : List Event) : Type 0 where
  pub read : IsPhaseReading me old new pod Gone
  pub only : Extends (is_look_at (is_pod_spot pod)) me old new
  pub nowhere : IsConforming new → AtOwnEvent me old new (IsNowhere pod)

-- how a round ended that wasn't refused
abbrev pub WentRound : PodId → Round → DirAt → DirAt → Type 0
WentRound pod round.Gone old new = FoundNoPod pod old.process old.trace new.trace
WentRound pod round.Removed old new = HasDeletedPod pod old.process old.trace new.trace
WentRound pod round.Missed old new = FoundThenMissed pod old.process old.trace new.trace

-- it was found and missed, at most so often, and then deleted or not found
pub record RemovalIsEnded (pod : PodId) (me : ℕ) (old new : List Event) : Type 0 where
  pub between : List Event
  pub first : Grew old between
  pub ended : HasDeletedPod pod me between new ⊎ FoundNoPod pod me between new

abbrev pub RemovedLater : PodId → DirAt → DirAt → Type 0
RemovedLater pod old new = RemovalIsEnded pod old.process old.trace new.trace

-- it was found and missed first
pub record FoundThenEnded (pod : PodId) (me : ℕ) (old new : List Event) : Type 0 where
  pub between : List Event
  pub missed : FoundThenMissed pod me old between
  pub ended : RemovalIsEnded pod me between new

-- its own removal of the pod was answered Ok, or the pod was there at the first read and gone at a later one
abbrev pub RemovedBetween : PodId → DirAt → DirAt → Type 0
RemovedBetween pod old new = HasDeletedPod pod old.process old.trace new.trace ⊎ FoundThenEnded pod old.process old.trace new.trace

-- the pod had this phase, which doesn't allow its removal
pub record WasWrongToRemove (pod : PodId) (phase : Phase) (me : ℕ) (old new : List Event) : Type 0 where
  pub wrong : is_removable phase ≡ false
  pub area : Area
  pub was : AtOwnEvent me old new (IsInPhase pod phase area)

-- why a round was refused
pub record RoundCause (observed : Bool) (pod : PodId) (error : RemoveError) (old new : DirAt) : Type 0 where
  pub fault : error ≡ DirFault → Rose old.faults new.faults
  pub there : error ≡ NoPod → ⊥
  pub phase : (phase : Phase) → error ≡ WrongPhase phase → observed ≡ true → IsConforming new.trace → WasWrongToRemove pod phase old.process old.trace new.trace
  pub manifest : error ≡ NoManifest → observed ≡ true → IsConforming new.trace → HeldBetween old new (IsPreparedWithoutManifest pod)
  pub named : (other : PodId) (which : Which) → error ≡ Busy other which → other ≡ pod
  pub stray : error ≡ Stray → observed ≡ true → WasStrayStep old.process old.trace new.trace

-- and why so were the later ones: a stray answer, or a place that was empty after the last read
pub record LaterCause (observed : Bool) (pod : PodId) (error : RemoveError) (old new : DirAt) : Type 0 where
  pub fault : error ≡ DirFault → Rose old.faults new.faults
  pub there : error ≡ NoPod → ⊥
  pub phase : (phase : Phase) → error ≡ WrongPhase phase → observed ≡ true → IsConforming new.trace → WasWrongToRemove pod phase old.process old.trace new.trace
  pub manifest : error ≡ NoManifest → observed ≡ true → IsConforming new.trace → HeldBetween old new (IsPreparedWithoutManifest pod)
  pub named : (other : PodId) (which : Which) → error ≡ Busy other which → other ≡ pod
  pub stray : error ≡ Stray → observed ≡ true → WasStrayStep old.process old.trace new.trace ⊎ MissedTimes 5 pod old.process old.trace new.trace

-- a stray round is one by what a started app wrote
abbrev pub RoundByApp : Bool → PodId → ℕ → RemoveError → DirAt → DirAt → Type 0
RoundByApp observed pod now error old new = error ≡ Stray → ByApp observed (MayRemovePod pod now) old new

-- so are the later ones, or the pod was missed in each
abbrev pub LaterByApp : Bool → PodId → ℕ → RemoveError → DirAt → DirAt → Type 0
LaterByApp observed pod now error old new = error ≡ Stray → observed ≡ true
    → Given (MayRemovePod pod now) old (λ s. IsConforming new.trace → AppWroteOn old.process old.trace new.trace ⊎ MissedTimes 5 pod old.process old.trace new.trace)

-- a pod isn't removed for one of these causes
pub record PodRemovalCause (observed : Bool) (pod : PodId) (error : RemoveError) (old new : DirAt) : Type 0 where
  pub fault : error ≡ DirFault → Rose old.faults new.faults
  pub nowhere : error ≡ NoPod → observed ≡ true → FoundNoPod pod old.process old.trace new.trace
  pub phase : (phase : Phase) → error ≡ WrongPhase phase → observed ≡ true → IsConforming new.trace → WasWrongToRemove pod phase old.process old.trace new.trace
  pub manifest : error ≡ NoManifest → observed ≡ true → IsConforming new.trace → HeldBetween old new (IsPreparedWithoutManifest pod)
  pub named : (other : PodId) (which : Which) → error ≡ Busy other which → other ≡ pod
  pub stray : error ≡ Stray → observed ≡ true → WasStrayStep old.process old.trace new.trace ⊎ MissedTimes 6 pod old.process old.trace new.trace

-- where the removal is refused for another process's sake, there was one: it held the lock that was refused, or it owned the pod
-- that was being made, run or deleted
pub record RemovalRefusedByAnother (pod : PodId) (error : RemoveError) (old new : DirAt) : Type 0 where
  pub busy : (which : Which) → error ≡ Busy pod which → IsBusyAt pod which old.process old.trace new.trace
  pub owner : IsConforming new.trace → (phase : Phase) → error ≡ WrongPhase phase → is_owned_phase phase ≡ true
      → (area : Area) × AtOwnEvent old.process old.trace new.trace (IsOwnedElsewhere old.process pod phase area)
