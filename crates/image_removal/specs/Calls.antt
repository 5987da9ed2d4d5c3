-- A call of a process, found in a longer time.
use Rattle.std.specs.Prelude.{◌≡◌, ℕ, List, ◌++◌}
use Rattle.dir_model.specs.declared.event.Event.{Event}
use Rattle.dir_model.specs.declared.request.Request.{Request}
use Rattle.dir_model.specs.declared.request.Reply.{Reply}
use Rattle.dir_model.specs.Calls.{CallStep}

-- between these two traces the process asked for this and was answered so
pub record WasCalled (request : Request) (reply : Reply) (me : ℕ) (old new : List Event) : Type 0 where
  pub before : List Event
  pub after : List Event
  pub earlier : List Event
  pub later : List Event
  pub begins : before ≡ old ++ earlier
  pub step : CallStep me before request reply after
  pub ends : new ≡ after ++ later
