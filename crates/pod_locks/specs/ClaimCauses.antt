-- Why a pod isn't claimed.
use Rattle.std.specs.Prelude.{◌≡◌, ◌==◌, ◌⊎◌, ◌&&◌, ℕ, Bool, true, false, not, Some, None, is_some, List, [], ◌∷◌, codes}
use Rattle.std.specs.List.{list_any}
use Rattle.dir_model.specs.declared.area.Area.{Area}
use Rattle.dir_model.specs.declared.area.Area.TheVariants as area
use Rattle.dir_model.specs.declared.area.Phase.{Phase}
use Rattle.dir_model.specs.declared.area.Phase.TheVariants as phase
use Rattle.dir_model.specs.declared.event.Event.{Event}
use Rattle.dir_model.specs.declared.opening.Opening.{Opening}
use Rattle.dir_model.specs.declared.opening.Target.{Target}
use Rattle.dir_model.specs.declared.opening.Target.TheVariants as target
use Rattle.dir_model.specs.declared.pod.PodId.{PodId}
use Rattle.dir_model.specs.declared.spot.Which.{Which}
use Rattle.dir_model.specs.declared.spot.Which.TheVariants.{Own, Claim}
use Rattle.dir_model.specs.declared.request.DirError.TheVariants.{Missing, Exists}
use Rattle.dir_model.specs.declared.request.Request.TheVariants.{MoveFolder}
use Rattle.dir_model.specs.declared.request.Reply.TheVariants.{Refused}
use Rattle.dir_model.specs.Calls.{AtOwnStep}
use Rattle.dir_model.specs.Causes.{Rose}
use Rattle.dir_model.specs.Locks.{is_folder}
use Rattle.dir_model.specs.Replies.{refused_in, open_refusal}
use Rattle.dir_model.specs.State.{DirState, folder_at, stands}
use Rattle.dir_model.specs.Trees.{has_file}
use Rattle.dir_trait.specs.DirCalls.{DirAt, HeldBetween}
use Rattle.lifecycle.specs.Executions.{IsConforming}
use Rattle.phase_read.specs.declared.found.Found.TheVariants.{At}
use Rattle.phase_read.specs.Read.{IsPhaseReading}
use Rattle.phase_read.specs.Exact.{AtOwnEvent, IsInPhase, IsNowhere}
use Rattle.pod_locks.specs.declared.claim_error.ClaimError.{ClaimError}
use Rattle.pod_locks.specs.declared.claim_error.ClaimError.TheVariants.{NoPod, WrongPhase, NoManifest, Busy, DirFault, Stray, NoMemory}
use Rattle.pod_locks.specs.declared.claim_setback.Setback.{Setback}
use Rattle.pod_locks.specs.declared.claim_setback.Setback.TheVariants as setback
use Rattle.pod_locks.specs.ClaimRequests.{in_prepared, in_run}
use Rattle.pod_locks.specs.Work.{InOrder, MovedNothing}

abbrev pub is_prepared : Phase → Bool
is_prepared phase.Prepared = true
is_prepared _ = false

-- no folder of the pod stands in prepared
abbrev pub IsNotInPrepared : PodId → DirState → Type 0
IsNotInPrepared pod s = stands s.namespace (in_prepared pod) ≡ false

-- the lock can't be opened in prepared: no folder stands there, or for Claim one without its file
abbrev pub CannotOpen : PodId → Which → DirState → Type 0
CannotOpen pod which s = refused_in (open_refusal which) s.entries (folder_at s.namespace (in_prepared pod)) ≡ Some Missing

-- the pod's folder stands in prepared, without its manifest
pub record IsPreparedWithoutManifest (pod : PodId) (s : DirState) : Type 0 where
  pub folder : ℕ
  pub there : folder_at s.namespace (in_prepared pod) ≡ Some folder
  pub without : has_file s.entries folder (codes "pod") ≡ false

-- Claim couldn't be opened, and later the folder stood there
pub record OpensOwnAlone (pod : PodId) (me : ℕ) (old new : List Event) : Type 0 where
  pub between : List Event
  pub closed : AtOwnStep me old between (CannotOpen pod Claim)
  pub there : AtOwnStep me between new (λ s. stands s.namespace (in_prepared pod) ≡ true)

-- the handle stands for this lock of its folder
abbrev pub is_lock : Which → Target → Bool
is_lock Own (target.Own spot) = true
is_lock Claim (target.Claim spot) = true
is_lock which _ = false

-- another process holds this lock of the folder with this number
abbrev pub is_held_elsewhere : ℕ → Which → ℕ → Opening → Bool
is_held_elsewhere me which folder o = not (o.process == me) && (is_folder folder o.folder && (is_lock which o.target && is_some o.lock))

-- the folder with this number stands in prepared, and the lock can be opened: for Claim it has its file
abbrev pub OpensThere : PodId → Which → ℕ → DirState → Type 0
OpensThere pod which folder s = (folder_at s.namespace (in_prepared pod) ≡ Some folder) × (refused_in (open_refusal which) s.entries (Some folder) ≡ None)

-- the lock was opened in prepared, and later another process held it
pub record PreparedHeldByAnother (pod : PodId) (which : Which) (me : ℕ) (old new : List Event) : Type 0 where
  pub folder : ℕ
  pub between : List Event
  pub found : AtOwnStep me old between (OpensThere pod which folder)
  pub held : AtOwnStep me between new (λ s. list_any (is_held_elsewhere me which folder) s.namespace.openings ≡ true)

-- a read found the pod in prepared, and later its folder was missing there
pub record FoundThenMissedPrepared (pod : PodId) (me : ℕ) (old new : List Event) : Type 0 where
  pub between : List Event
  pub read : IsPhaseReading me old between pod (At phase.Prepared area.Prepared)
  pub missed : AtOwnStep me between new (IsNotInPrepared pod)

-- and that twice
pub record MissedTwice (pod : PodId) (me : ℕ) (old new : List Event) : Type 0 where
  pub between : List Event
  pub first : FoundThenMissedPrepared pod me old between
  pub second : FoundThenMissedPrepared pod me between new

-- the move to run was refused, as a folder of that name stands there
abbrev pub WasBarred : PodId → ℕ → List Event → List Event → Type 0
WasBarred pod me old new = InOrder me old new (record { request = MoveFolder (in_prepared pod) (in_run pod); reply = Refused Exists 0 } ∷ [])

-- the pod had this phase, which isn't that of one that waits to be run
pub record WasWrongToClaim (pod : PodId) (phase : Phase) (me : ℕ) (old new : List Event) : Type 0 where
  pub wrong : is_prepared phase ≡ false
  pub area : Area
  pub was : AtOwnEvent me old new (IsInPhase pod phase area)

-- what stops the taking of locks in prepared, and the move
pub record ClaimWasStopped (observed : Bool) (pod : PodId) (Missed : DirState → Type 0) (stop : Setback) (old new : DirAt) : Type 0 where
  pub still : observed ≡ true → MovedNothing old.process old.trace new.trace
  pub fault : stop ≡ setback.Refused DirFault → Rose old.faults new.faults
  pub missing : stop ≡ setback.Missing → observed ≡ true → HeldBetween old new Missed
  pub manifest : stop ≡ setback.Refused NoManifest → observed ≡ true → OpensOwnAlone pod old.process old.trace new.trace
  pub barred : stop ≡ setback.Refused Stray → observed ≡ true → WasBarred pod old.process old.trace new.trace
  pub named : (other : PodId) (which : Which) → stop ≡ setback.Refused (Busy other which) → other ≡ pod
  pub there : stop ≡ setback.Refused NoPod → ⊥
  pub right : (phase : Phase) → stop ≡ setback.Refused (WrongPhase phase) → ⊥

-- nothing but that the manifest is missing, or that the look failed
abbrev pub IsLookRefusal : ClaimError → Type 0
IsLookRefusal error = (error ≡ NoManifest) ⊎ ((error ≡ DirFault) ⊎ (error ≡ NoMemory))

-- the folder stands there, or it doesn't: where Claim couldn't be opened
pub record ClaimStopsAlone (observed : Bool) (pod : PodId) (stop : Setback) (old new : DirAt) : Type 0 where
  pub still : observed ≡ true → MovedNothing old.process old.trace new.trace
  pub fault : stop ≡ setback.Refused DirFault → Rose old.faults new.faults
  pub missing : stop ≡ setback.Missing → observed ≡ true → HeldBetween old new (IsNotInPrepared pod)
  pub there : stop ≡ setback.Refused NoManifest → observed ≡ true → HeldBetween old new (λ s. stands s.namespace (in_prepared pod) ≡ true)
  pub calm : (error : ClaimError) → stop ≡ setback.Refused error → IsLookRefusal error

-- where the lock was refused, another process held it
abbrev pub ClaimBusyElsewhere : PodId → Setback → DirAt → DirAt → Type 0
ClaimBusyElsewhere pod stop old new = (which : Which) → stop ≡ setback.Refused (Busy pod which) → PreparedHeldByAnother pod which old.process old.trace new.trace

-- the lock was opened in prepared and later had, and no other process held it then
pub record HadAlone (pod : PodId) (which : Which) (me : ℕ) (old new : List Event) : Type 0 where
  pub folder : ℕ
  pub between : List Event
  pub found : AtOwnStep me old between (OpensThere pod which folder)
  pub free : AtOwnStep me between new (λ s. list_any (is_held_elsewhere me which folder) s.namespace.openings ≡ false)

-- and so both were
pub record HadBothAlone (pod : PodId) (me : ℕ) (old new : List Event) : Type 0 where
  pub claim : HadAlone pod Claim me old new
  pub own : HadAlone pod Own me old new

-- before Own is asked for Claim is had
abbrev pub HadClaimBefore : PodId → Which → ℕ → List Event → List Event → Type 0
HadClaimBefore pod Own me old new = HadAlone pod Claim me old new
HadClaimBefore pod Claim me old new = Unit {0}

-- where a lock was refused, another process held it, and the locks were asked for in their order
abbrev pub BusyInTurn : PodId → Setback → DirAt → DirAt → Type 0
BusyInTurn pod stop old new = (which : Which) → stop ≡ setback.Refused (Busy pod which) → PreparedHeldByAnother pod which old.process old.trace new.trace × HadClaimBefore pod which old.process old.trace new.trace

-- a pod isn't claimed for one of these causes
pub record ClaimCause (observed : Bool) (pod : PodId) (error : ClaimError) (old new : DirAt) : Type 0 where
  pub fault : error ≡ DirFault → Rose old.faults new.faults
  pub nowhere : error ≡ NoPod → observed ≡ true → IsConforming new.trace → AtOwnEvent old.process old.trace new.trace (IsNowhere pod)
  pub phase : (phase : Phase) → error ≡ WrongPhase phase → observed ≡ true → IsConforming new.trace → WasWrongToClaim pod phase old.process old.trace new.trace
  pub manifest : error ≡ NoManifest → observed ≡ true → IsConforming new.trace → HeldBetween old new (IsPreparedWithoutManifest pod)
  pub named : (other : PodId) (which : Which) → error ≡ Busy other which → other ≡ pod
  pub stray : error ≡ Stray → observed ≡ true → WasBarred pod old.process old.trace new.trace ⊎ MissedTwice pod old.process old.trace new.trace

-- what sets one attempt back
pub record SetBack (observed : Bool) (pod : PodId) (stop : Setback) (old new : DirAt) : Type 0 where
  pub still : observed ≡ true → MovedNothing old.process old.trace new.trace
  pub missing : stop ≡ setback.Missing → observed ≡ true → FoundThenMissedPrepared pod old.process old.trace new.trace
  pub cause : (error : ClaimError) → stop ≡ setback.Refused error → ClaimCause observed pod error old new
