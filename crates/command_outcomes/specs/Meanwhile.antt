-- What a process does between its begin and its finish.
use Rattle.std.specs.Prelude.{ℕ, List}
use Rattle.dir_model.specs.declared.event.Event.{Event}
use Rattle.dir_model.specs.Calls.{Extends, is_begin, is_finish}

-- it began, then this was so, and it finished
pub record Meanwhile (P : ℕ → List Event → List Event → Type 0) (me : ℕ) (old new : List Event) : Type 0 where
  pub begun : List Event
  pub ended : List Event
  pub begins : Extends is_begin me old begun
  pub so : P me begun ended
  pub finishes : Extends is_finish me ended new
