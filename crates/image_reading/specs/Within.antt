-- What came about between two moments, said of longer times too.
use Rattle.std.specs.Prelude.{◌≡◌, List, ◌++◌}
use Rattle.dir_model.specs.declared.event.Event.{Event}
use Rattle.dir_trait.specs.DirCalls.{DirAt}

-- it came about between two moments that lie between these
pub record Within (R : DirAt → DirAt → Type 0) (old new : DirAt) : Type 0 where
  pub first : DirAt
  pub last : DirAt
  pub earlier : List Event
  pub later : List Event
  pub same : first.process ≡ old.process
  pub begins : first.trace ≡ old.trace ++ earlier
  pub ends : new.trace ≡ last.trace ++ later
  pub told : R first last
