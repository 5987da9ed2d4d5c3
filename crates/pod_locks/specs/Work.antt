-- What the parts of a claim do: which calls they make, in which order, and what they leave open.
use Rattle.std.specs.Prelude.{◌≡◌, ◌≤◌, ◌+◌, ◌||◌, ℕ, Bool, true, false, not, List, [], ◌∷◌, ◌++◌}
use Rattle.std.specs.List.{AllByRecursion}
use Rattle.dir_model.specs.declared.event.Event.{Event}
use Rattle.dir_model.specs.declared.pod.PodId.{PodId}
use Rattle.dir_model.specs.declared.spot.Handle.{Handle}
use Rattle.dir_model.specs.declared.spot.Mode.TheVariants.{Exclusive}
use Rattle.dir_model.specs.declared.spot.Which.{Which}
use Rattle.dir_model.specs.declared.spot.Which.TheVariants.{Own, Claim}
use Rattle.dir_model.specs.declared.request.Request.{Request}
use Rattle.dir_model.specs.declared.request.Request.TheVariants.{Open, TryLock, MoveFolder}
use Rattle.dir_model.specs.declared.request.Reply.{Reply}
use Rattle.dir_model.specs.declared.request.Reply.TheVariants.{Done, Opened}
use Rattle.dir_model.specs.Calls.{CallStep, is_foreign}
use Rattle.dir_model.specs.Local.{Local}
use Rattle.dir_rules.specs.declared.seen.Seen.{Seen}
use Rattle.dir_trait.specs.DirCalls.{DirAt, ExtendsBy}
use Rattle.dir_trait.specs.Knowledge.{Knows}
use Rattle.pod_locks.specs.ClaimRequests.{in_prepared, in_run, claims}

-- at most so many calls were made, each of a claim, and this is open after them
pub record WentClaiming (observed : Bool) (calls : ℕ) (pod : PodId) (local : Local) (old new : DirAt) : Type 0 where
  pub counted : new.calls ≤ old.calls + calls
  pub same : new.process ≡ old.process
  pub faults : old.faults ≤ new.faults
  pub local_is : new.local ≡ local
  pub extends : observed ≡ true → ExtendsBy (claims pod) old new

-- a folder was moved
abbrev pub is_ok_move : Request → Reply → Bool
is_ok_move (MoveFolder from to) Done = true
is_ok_move _ _ = false

-- this process moved nothing between these two moments
pub record MovedNothing (me : ℕ) (old new : List Event) : Type 0 where
  pub more : List Event
  pub grown : new ≡ old ++ more
  pub still : AllByRecursion (λ e. (is_foreign me e || not (is_ok_move e.request e.reply)) ≡ true) more

-- a request of this process, and its reply
pub record Deed : Type 0 where
  pub request : Request
  pub reply : Reply

-- a trace went on
pub record Grew (old new : List Event) : Type 0 where
  pub more : List Event
  pub grown : new ≡ old ++ more

-- one thing after the other
abbrev pub OneByOne : ℕ → List Event → List Event → List Deed → Type 0
OneByOne me old new [] = Grew old new
OneByOne me old new (deed ∷ deeds) =
    (before : List Event) × (after : List Event) × Grew old before × CallStep me before deed.request deed.reply after × OneByOne me after new deeds

-- this process did these things between two moments, in this order
pub record InOrder (me : ℕ) (old new : List Event) (deeds : List Deed) : Type 0 where
  pub each : OneByOne me old new deeds

-- a lock of the pod was opened in prepared, and then had exclusively
abbrev pub taking_deeds : PodId → Which → Handle → List Deed → List Deed
taking_deeds pod which handle rest =
    record { request = Open (in_prepared pod) which; reply = Opened handle } ∷ (record { request = TryLock handle Exclusive; reply = Done } ∷ rest)

-- and then it was moved from prepared to run
abbrev pub moving_deeds : PodId → List Deed
moving_deeds pod = record { request = MoveFolder (in_prepared pod) (in_run pod); reply = Done } ∷ []

-- Claim was taken, then Own was opened and taken, and then the pod was moved
pub record TookBoth (pod : PodId) (own : Handle) (me : ℕ) (old new : List Event) : Type 0 where
  pub claim : Handle
  pub order : InOrder me old new (taking_deeds pod Claim claim (taking_deeds pod Own own (moving_deeds pod)))

-- wherever a process knew this of itself before, it knows that after
abbrev pub WhereObservedKnew : Bool → (Seen → Type 0) → DirAt → (Seen → Type 0) → Type 0
WhereObservedKnew observed May old After = observed ≡ true → (s : Seen) → May s → Knows old s → After s
