-- Why a step at a pod wasn't done, and what was done.
use Rattle.std.specs.Prelude.{◌≡◌, ◌==◌, ◌&&◌, ℕ, Bool, true, false, not, Some, None, List, [], ◌∷◌}
use Rattle.std.specs.List.{list_any}
use Rattle.dir_model.specs.declared.area.Area.{Area}
use Rattle.dir_model.specs.declared.event.Event.{Event}
use Rattle.dir_model.specs.declared.opening.Opening.{Opening}
use Rattle.dir_model.specs.declared.pod.PodId.{PodId}
use Rattle.dir_model.specs.declared.spot.Mode.{Mode}
use Rattle.dir_model.specs.declared.spot.Which.{Which}
use Rattle.dir_model.specs.declared.request.DirError.TheVariants as dir
use Rattle.dir_model.specs.declared.request.Reply.{Reply}
use Rattle.dir_model.specs.declared.request.Reply.TheVariants.{Refused}
use Rattle.dir_model.specs.declared.request.Request.{Request}
use Rattle.dir_model.specs.declared.request.Request.TheVariants.{MoveFolder}
use Rattle.dir_model.specs.Calls.{AtOwnStep}
use Rattle.dir_model.specs.Causes.{Rose}
use Rattle.dir_model.specs.Locks.{is_folder, opposes}
use Rattle.dir_model.specs.Replies.{refused_in, open_refusal}
use Rattle.dir_model.specs.State.{DirState, folder_at, stands}
use Rattle.dir_trait.specs.DirCalls.{DirAt, HeldBetween}
use Rattle.dir_trait.specs.Effects.{Given}
use Rattle.dir_rules.specs.declared.seen.Seen.{Seen}
use Rattle.folder_removal.specs.Removal.{is_stray_deletion, WasCalledFor}
use Rattle.impossible_replies.specs.Replies.{AppWroteOn}
use Rattle.lifecycle.specs.Executions.{IsConforming}
use Rattle.dir_model.specs.Spots.{pod_spot}
use Rattle.pod_locks.specs.ClaimCauses.{is_lock}
use Rattle.pod_locks.specs.Work.{InOrder}
use Rattle.pod_locks.specs.declared.setback.Setback.{Setback}
use Rattle.pod_locks.specs.declared.setback.Setback.TheVariants.{Missing, NoManifest, Busy, DirFault, Stray}

-- no folder of the pod stands at this place
abbrev pub IsAbsentAt : PodId → Area → DirState → Type 0
IsAbsentAt pod area s = stands s.namespace (pod_spot pod area) ≡ false

-- the lock can't be opened there: no folder stands there, or for Claim one without its file
abbrev pub CannotOpenAt : PodId → Area → Which → DirState → Type 0
CannotOpenAt pod area which s = refused_in (open_refusal which) s.entries (folder_at s.namespace (pod_spot pod area)) ≡ Some dir.Missing

-- the folder with this number stands at this place, and the lock can be opened: for Claim it has its file
abbrev pub OpensAt : PodId → Area → Which → ℕ → DirState → Type 0
OpensAt pod area which folder s = (folder_at s.namespace (pod_spot pod area) ≡ Some folder) × (refused_in (open_refusal which) s.entries (Some folder) ≡ None)

-- this process asked for this and was answered so
abbrev pub Did : Request → Reply → ℕ → List Event → List Event → Type 0
Did request reply me old new = InOrder me old new (record { request = request; reply = reply } ∷ [])

-- an answer that what the locks keep doesn't explain
abbrev pub is_stray_step : Request → Reply → Bool
is_stray_step (MoveFolder from to) (Refused dir.Exists left) = true
is_stray_step request reply = is_stray_deletion request reply

-- and where it was a listing of what was missing: of the folder itself, which had stood there, or of a directory that a
-- listing had shown
pub record WasStrayStep (me : ℕ) (old new : List Event) : Type 0 where
  pub request : Request
  pub reply : Reply
  pub stray : is_stray_step request reply ≡ true
  pub called : WasCalledFor request reply me old new
  pub did : Did request reply me old new

-- why a step wasn't done
pub record StepWasStopped (observed : Bool) (pod : PodId) (Missed : DirState → Type 0) (stop : Setback) (old new : DirAt) : Type 0 where
  pub fault : stop ≡ DirFault → Rose old.faults new.faults
  pub missing : stop ≡ Missing → observed ≡ true → HeldBetween old new Missed
  pub manifest : stop ≡ NoManifest → ⊥
  pub stray : stop ≡ Stray → observed ≡ true → WasStrayStep old.process old.trace new.trace

-- some process doesn't keep the local rules
abbrev pub BreaksRules : Bool → DirAt → Type 0
BreaksRules observed new = observed ≡ true → IsConforming new.trace → ⊥

-- or, for a process that knew this, a started app wrote on
abbrev pub ByApp : Bool → (Seen → Type 0) → DirAt → DirAt → Type 0
ByApp observed May old new = observed ≡ true → Given May old (λ s. IsConforming new.trace → AppWroteOn old.process old.trace new.trace)

-- it is stray only where some process doesn't keep them
abbrev pub NeverStray : Bool → Setback → DirAt → Type 0
NeverStray observed stop new = stop ≡ Stray → BreaksRules observed new

-- or only where a started app wrote on
abbrev pub StrayByApp : Bool → Setback → (Seen → Type 0) → DirAt → DirAt → Type 0
StrayByApp observed stop May old new = stop ≡ Stray → ByApp observed May old new

-- another process holds this lock of the folder with this number, in a mode that conflicts
abbrev pub is_held_against : ℕ → Which → Mode → ℕ → Opening → Bool
is_held_against me which mode folder o = not (o.process == me) && (is_folder folder o.folder && (is_lock which o.target && opposes mode o.lock))

-- the lock was opened at this place, and later another process held it so
pub record PodHeldByAnother (pod : PodId) (area : Area) (which : Which) (mode : Mode) (me : ℕ) (old new : List Event) : Type 0 where
  pub folder : ℕ
  pub between : List Event
  pub found : AtOwnStep me old between (OpensAt pod area which folder)
  pub held : AtOwnStep me between new (λ s. list_any (is_held_against me which mode folder) s.namespace.openings ≡ true)

-- or no other process held it so
pub record FreeOfOthers (pod : PodId) (area : Area) (which : Which) (mode : Mode) (me : ℕ) (old new : List Event) : Type 0 where
  pub folder : ℕ
  pub between : List Event
  pub found : AtOwnStep me old between (OpensAt pod area which folder)
  pub free : AtOwnStep me between new (λ s. list_any (is_held_against me which mode folder) s.namespace.openings ≡ false)

-- that, where the trace is observed
abbrev pub FreeIfObserved : Bool → PodId → Area → Which → Mode → DirAt → DirAt → Type 0
FreeIfObserved observed pod area which mode old new = observed ≡ true → FreeOfOthers pod area which mode old.process old.trace new.trace

-- where the lock was refused, another process held it
abbrev pub LockBusyElsewhere : PodId → Area → Mode → Setback → DirAt → DirAt → Type 0
LockBusyElsewhere pod area mode stop old new = (which : Which) → stop ≡ Busy which → PodHeldByAnother pod area which mode old.process old.trace new.trace
