-- What was done with a pod that a pass listed.
use Rattle.std.specs.Prelude.{◌≡◌, ◌⊎◌, ℕ, Bool, true, false, not, Option, Some, None, List, codes}
use Rattle.dir_model.specs.declared.area.Area.{Area}
use Rattle.dir_model.specs.declared.area.Area.TheVariants as area
use Rattle.dir_model.specs.declared.area.Phase.{Phase}
use Rattle.dir_model.specs.declared.area.Phase.TheVariants as kind
use Rattle.dir_model.specs.declared.event.Event.{Event}
use Rattle.dir_model.specs.declared.pod.PodId.{PodId}
use Rattle.dir_model.specs.declared.spot.Mode.{Mode}
use Rattle.dir_model.specs.declared.spot.Mode.TheVariants.{Shared, Exclusive}
use Rattle.dir_model.specs.declared.spot.Which.{Which}
use Rattle.dir_model.specs.declared.spot.Which.TheVariants.{Claim, Own}
use Rattle.dir_model.specs.declared.request.Request.TheVariants.{MoveFolder, RemoveFolder}
use Rattle.dir_model.specs.declared.request.Reply.TheVariants.{Done}
use Rattle.dir_model.specs.Between.{LockTold}
use Rattle.dir_model.specs.Calls.{Extends, AtOwnStep}
use Rattle.dir_model.specs.State.{DirState, stands}
use Rattle.dir_rules.specs.declared.seen.Seen.{Seen}
use Rattle.dir_rules.specs.Standing.{is_in}
use Rattle.dir_trait.specs.DirCalls.{DirAt, HeldBetween}
use Rattle.dir_trait.specs.Effects.{Given}
use Rattle.lifecycle.specs.Executions.{IsConforming}
use Rattle.dir_model.specs.Spots.{pod_spot}
use Rattle.phase_read.specs.Exact.{AtOwnEvent, IsInPhase}
use Rattle.pod_locks.specs.Elsewhere.{is_owned_phase, IsOwnedElsewhere}
use Rattle.pod_locks.specs.Causes.{IsAbsentAt, CannotOpenAt, Did, PodHeldByAnother, FreeOfOthers}
use Rattle.pod_locks.specs.Taking.{TookNothing}
use Rattle.pod_gc.specs.RemovalRequests.{is_garbage_place}
use Rattle.pod_gc.specs.RemovalCauses.{MarkedFirst, asked_mode as asked_in_prepared}
use Rattle.pod_gc.specs.declared.ages.Times.{Times}
use Rattle.pod_gc.specs.declared.line.Deed.{Deed}
use Rattle.pod_gc.specs.declared.line.Deed.TheVariants.{Moved, Deleted, Kept, Busy, BusyGate, Left}
use Rattle.pod_gc.specs.Requests.{goes_to, moves_pods, lets_be, looks_over, puts_aside_only, may_be_busy}
use Rattle.pod_gc.specs.Ages.{Showed, is_young, is_ripe}

-- the pod, or in prepared its file `pod`, isn't at this place
abbrev pub IsGoneFrom : PodId → Area → DirState → Type 0
IsGoneFrom pod area.Prepared s = CannotOpenAt pod area.Prepared Claim s
IsGoneFrom pod place s = IsAbsentAt pod place s

-- a look after the pod's own lock was asked for: it still stands there, or not any more
pub record SaysThere (observed : Bool) (pod : PodId) (place : Area) (phase : Phase) (deed : Deed) (old new : DirAt) : Type 0 where
  pub is : (deed ≡ Kept phase) ⊎ (deed ≡ Left)
  pub there : deed ≡ Kept phase → observed ≡ true → HeldBetween old new (λ s. stands s.namespace (pod_spot pod place) ≡ true)
  pub gone : deed ≡ Left → observed ≡ true → HeldBetween old new (IsAbsentAt pod place)

-- the pod is let be
abbrev pub DoesNothing : Deed → Type 0
DoesNothing (Kept phase) = Unit {0}
DoesNothing (Busy which) = Unit {0}
DoesNothing Left = Unit {0}
DoesNothing _ = ⊥

-- the pod is moved under its activation lock, or its own was refused there
abbrev pub is_under_claim : Deed → Bool
is_under_claim (Moved to) = true
is_under_claim (Busy Own) = true
is_under_claim _ = false

-- the pod's own lock was had shared, and then this was done
abbrev pub is_resting : Phase → Bool
is_resting kind.ExitedGarbage = true
is_resting _ = false

abbrev pub is_after_look : Area → Deed → Bool
is_after_look place (Moved to) = not (is_in area.Embryo place)
is_after_look place (Kept phase) = is_resting phase
is_after_look place deed = false

-- a deed and what it rests on, one field for each: of a pod it is never said that the lock of embryo is busy
pub record DeedCause (pod : PodId) (place : Area) (deed : Deed) (me : ℕ) (old new : List Event) : Type 0 where
  pub moved : (to : Area) → deed ≡ Moved to → (moves_pods place ≡ true) × (to ≡ goes_to place) × Did (MoveFolder (pod_spot pod place) (pod_spot pod to)) Done me old new
  pub deleted : deed ≡ Deleted → (is_garbage_place place ≡ true) × Did (RemoveFolder (pod_spot pod place)) Done me old new
  pub kept : (phase : Phase) → deed ≡ Kept phase → (lets_be place phase ≡ true) × (IsConforming new → AtOwnEvent me old new (IsInPhase pod phase place))
  pub left : deed ≡ Left → AtOwnStep me old new (IsGoneFrom pod place)
  pub gate : deed ≡ BusyGate → ⊥
  pub claimed : place ≡ area.Prepared → is_under_claim deed ≡ true → FreeOfOthers pod place Claim Exclusive me old new
  pub freed : is_after_look place deed ≡ true → LockTold me old new (pod_spot pod place) false
  pub alone : deed ≡ Deleted → FreeOfOthers pod place Own Exclusive me old new

-- what is done only where the pod's time is over
abbrev pub is_tried : Deed → Bool
is_tried (Moved to) = true
is_tried (Busy which) = true
is_tried Deleted = true
is_tried _ = false

-- a listing showed the marks, and by the greatest the pod is of this age
abbrev pub ShowedAge : PodId → Area → List ℕ → (Option ℕ → Bool) → Bool → ℕ → List Event → List Event → Type 0
ShowedAge pod place text has_age is_so me old new = (m : Option ℕ) × Showed pod place text m me old new × (has_age m ≡ is_so)

-- what the ages say: a prepared pod waits where it has no created mark or its time isn't over; it is moved, called busy, or said to have
-- left once it was listed, only where it is
pub record WaitedByAge (times : Times) (pod : PodId) (deed : Deed) (me : ℕ) (old new : List Event) : Type 0 where
  pub waits : (phase : Phase) → deed ≡ Kept phase → ShowedAge pod area.Prepared (codes "created-") (is_ripe times.now times.expire) false me old new
  pub ripe : is_tried deed ≡ true → ShowedAge pod area.Prepared (codes "created-") (is_ripe times.now times.expire) true me old new
  pub left : deed ≡ Left → AtOwnStep me old new (IsAbsentAt pod area.Prepared) ⊎ ShowedAge pod area.Prepared (codes "created-") (is_ripe times.now times.expire) true me old new

-- an exited one rests in exited-garbage only where its time isn't over, and is deleted or called busy only where it is or where it has no
-- mark
pub record RestedByAge (times : Times) (pod : PodId) (deed : Deed) (me : ℕ) (old new : List Event) : Type 0 where
  pub rests : (phase : Phase) → deed ≡ Kept phase → ShowedAge pod area.ExitedGarbage (codes "marked-") (is_young times.now times.grace) true me old new
  pub over : is_tried deed ≡ true → ShowedAge pod area.ExitedGarbage (codes "marked-") (is_young times.now times.grace) false me old new

-- the pod is let be for its phase, its age or a lock
abbrev pub is_let_be : Deed → Bool
is_let_be (Kept phase) = true
is_let_be (Busy which) = true
is_let_be _ = false

-- a pod that is let be was looked at alone, of one that isn't there nothing was moved or removed, and of one that was moved nothing was
-- removed; and a pod is said to be busy only where that tells nothing of its phase, in a garbage place by its own
-- lock
pub record TouchesAsDeedSays (pod : PodId) (place : Area) (deed : Deed) (me : ℕ) (old new : List Event) : Type 0 where
  pub still : is_let_be deed ≡ true → Extends (looks_over pod place) me old new
  pub left : deed ≡ Left → TookNothing me old new
  pub moved : (to : Area) → deed ≡ Moved to → Extends (puts_aside_only pod place to) me old new
  pub busy : (which : Which) → deed ≡ Busy which → may_be_busy place ≡ true
  pub own : (which : Which) → deed ≡ Busy which → is_garbage_place place ≡ true → which ≡ Own

-- a deed, what it rests on, that the pod wasn't touched where it is let be, and what the ages say of it
pub record Dealt (times : Times) (pod : PodId) (place : Area) (deed : Deed) (me : ℕ) (old new : List Event) : Type 0 where
  pub cause : DeedCause pod place deed me old new
  pub let_be : TouchesAsDeedSays pod place deed me old new
  pub waited : place ≡ area.Prepared → WaitedByAge times pod deed me old new
  pub rested : place ≡ area.ExitedGarbage → RestedByAge times pod deed me old new
  pub marked : place ≡ area.Run → (to : Area) → deed ≡ Moved to → MarkedFirst pod times.now me old new

-- by that age
pub record RestsBy (young : Bool) (deed : Deed) : Type 0 where
  pub rests : (phase : Phase) → deed ≡ Kept phase → young ≡ true
  pub over : is_tried deed ≡ true → young ≡ false

pub record WaitsBy (ripe : Bool) (deed : Deed) : Type 0 where
  pub waits : (phase : Phase) → deed ≡ Kept phase → ripe ≡ false
  pub goes : is_tried deed ≡ true → ripe ≡ true
  pub left : deed ≡ Left → ripe ≡ true

-- the lock that was refused where this was done: the one that the line of a busy pod names, or the pod's own where it is kept for a phase
-- that has an owner
abbrev pub refused_lock : Deed → Option Which
refused_lock (Busy which) = Some which
refused_lock (Kept kind.Preparing) = Some Own
refused_lock (Kept kind.Running) = Some Own
refused_lock (Kept kind.Deleting) = Some Own
refused_lock _ = None

-- the mode in which that lock was asked for: the pod's own exclusively only to delete it
abbrev pub busy_mode : Area → Which → Mode
busy_mode area.Prepared which = asked_in_prepared which
busy_mode place which = Exclusive

abbrev pub mode_of_deed : Area → Deed → Mode
mode_of_deed place (Busy which) = busy_mode place which
mode_of_deed place deed = Shared

-- where a lock was refused at this place, another process held it; and where the pod is kept for a phase that has an owner, another process
-- was that by the pod's history, in a conforming execution
pub record LeftToAnother (pod : PodId) (place : Area) (deed : Deed) (me : ℕ) (old new : List Event) : Type 0 where
  pub held : (which : Which) → refused_lock deed ≡ Some which → PodHeldByAnother pod place which (mode_of_deed place deed) me old new
  pub owner : IsConforming new → (phase : Phase) → deed ≡ Kept phase → is_owned_phase phase ≡ true → AtOwnEvent me old new (IsOwnedElsewhere me pod phase place)

abbrev pub LeavesToAnother : PodId → Area → Deed → DirAt → DirAt → Type 0
LeavesToAnother pod place deed old new = LeftToAnother pod place deed old.process old.trace new.trace

-- where it was moved from run, its mark was there first
abbrev pub MarksFirst : PodId → ℕ → Deed → DirAt → DirAt → Type 0
MarksFirst pod now deed old new = (to : Area) → deed ≡ Moved to → MarkedFirst pod now old.process old.trace new.trace

-- and where that is known of a process that may do so
abbrev pub LeavesIfObserved : Bool → (Seen → Type 0) → PodId → Area → Deed → DirAt → DirAt → Type 0
LeavesIfObserved observed May pod place deed old new = observed ≡ true → Given May old (λ s. LeavesToAnother pod place deed old new)

-- what is done with a prepared pod once its marks were listed: it is kept for its age, or what was done has its cause
abbrev pub WaitsOr : Bool → PodId → Deed → DirAt → DirAt → Type 0
WaitsOr observed pod deed old new = (deed ≡ Kept kind.Prepared) ⊎ (observed ≡ true → DeedCause pod area.Prepared deed old.process old.trace new.trace)

-- a pod was let be so, where the trace is observed
abbrev pub LetBe : Bool → PodId → Area → Deed → DirAt → DirAt → Type 0
LetBe observed pod place deed old new = observed ≡ true → TouchesAsDeedSays pod place deed old.process old.trace new.trace
