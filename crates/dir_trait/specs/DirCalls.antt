-- What a directory shows at a moment, and what one call on it leaves.
use Rattle.std.specs.Prelude.{◌≡◌, ◌≤◌, ◌+◌, ℕ, Bool, true, List, length, drop, Result, Ok, Err}
use Rattle.dir_model.specs.declared.request.DirError.{DirError}
use Rattle.dir_model.specs.Replies.{done_reply, append_reply}
use Rattle.dir_model.specs.declared.event.Event.{Event}
use Rattle.dir_model.specs.declared.request.Request.{Request}
use Rattle.dir_model.specs.declared.request.Reply.{Reply}
use Rattle.dir_model.specs.declared.spot.Spot.{Spot}
use Rattle.dir_model.specs.Between.{LockTold}
use Rattle.dir_model.specs.State.{DirState}
use Rattle.dir_model.specs.Calls.{CallStep, PartialStep, ListStep, Extends, AtOwnStep}
use Rattle.dir_model.specs.Local.{Local, local_replied}

pub record DirAt : Type 0 where
  -- the number of this process
  pub process : ℕ
  -- how often the directory failed
  pub faults : ℕ
  -- a measure of the calls, which one call raises by at most one: the number of calls so far is one
  pub calls : ℕ
  -- what this process has open, by its own answers
  pub local : Local
  -- the events of all processes, where they are observed
  pub trace : List Event

-- what one call of this process leaves, by its request and its reply, and the step that it is where the trace is observed
pub record CallBy (observed : Bool) (old : DirAt) (request : Request) (reply : Reply) (new : DirAt) (Step : Type 0) : Type 0 where
  pub counted : new.calls ≤ old.calls + 1
  pub same : new.process ≡ old.process
  pub faults : old.faults ≤ new.faults
  pub local : new.local ≡ local_replied old.local request reply
  pub step : observed ≡ true → Step

-- one call: the reply is the state's
abbrev pub DirCall : Bool → DirAt → Request → Reply → DirAt → Type 0
DirCall observed old request reply new = CallBy observed old request reply new (CallStep old.process old.trace request reply new.trace)

-- an append, of which some bytes may stand though it was refused
abbrev pub AppendCall : Bool → DirAt → Request → Result (Unit {0}) DirError → DirAt → Type 0
AppendCall observed old request answer new = CallBy observed old request (done_reply answer) new (PartialStep old.process old.trace request (append_reply answer) new.trace)

-- a listing: its beginning and its end
abbrev pub ListCall : Bool → DirAt → Request → Reply → DirAt → Type 0
ListCall observed old request reply new = CallBy observed old request reply new (ListStep old.process old.trace request reply new.trace)

-- a read left what it didn't fill
abbrev pub KeepsUnreadRoom : List ℕ → Result ℕ DirError → List ℕ → Type 0
KeepsUnreadRoom old (Ok count) new = (count ≤ length old) × (drop count new ≡ drop count old)
KeepsUnreadRoom old (Err error) new = new ≡ old

-- the trace went on by calls of this process of which each asks for something of this kind, among interference
abbrev pub ExtendsBy : (Request → Bool) → DirAt → DirAt → Type 0
ExtendsBy asks old new = Extends asks old.process old.trace new.trace

-- P held of the state just after an own event between these two moments
abbrev pub HeldBetween : DirAt → DirAt → (DirState → Type 0) → Type 0
HeldBetween old new P = AtOwnStep old.process old.trace new.trace P

-- a folder stood at the location at an own step between these two moments, and at a later one its lock was held
-- exclusively or not
abbrev pub LockToldBetween : DirAt → DirAt → Spot → Bool → Type 0
LockToldBetween old new spot owned = LockTold old.process old.trace new.trace spot owned
