-- What stood at the moments of a stretch of events.
use Rattle.std.specs.Prelude.{◌≡◌, List, ◌++◌}
use Rattle.dir_model.specs.declared.event.Event.{Event}
use Rattle.dir_model.specs.State.{DirState}
use Rattle.dir_model.specs.Trace.{state_after}

-- a trace between two, which it goes on from and leads to
pub record IsMoment (old trace new : List Event) : Type 0 where
  pub first : List Event
  pub last : List Event
  pub begins : trace ≡ old ++ first
  pub ends : new ≡ trace ++ last

-- at one of them
pub record AtSomeState (old new : List Event) (P : DirState → Type 0) : Type 0 where
  pub trace : List Event
  pub moment : IsMoment old trace new
  pub holds : P (state_after trace)

-- and at each
abbrev pub AtEachState : List Event → List Event → (DirState → Type 0) → Type 0
AtEachState old new P = (trace : List Event) → IsMoment old trace new → P (state_after trace)
