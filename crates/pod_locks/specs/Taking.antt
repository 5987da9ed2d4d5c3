-- Stretches in which a process took nothing away.
use Rattle.std.specs.Prelude.{◌≡◌, ◌||◌, ℕ, Bool, true, false, not, List, ◌++◌}
use Rattle.std.specs.List.{AllByRecursion}
use Rattle.dir_model.specs.declared.event.Event.{Event}
use Rattle.dir_model.specs.declared.request.Request.{Request}
use Rattle.dir_model.specs.declared.request.Request.TheVariants.{MoveFolder, RemoveFileIn, RemoveDirIn, RemoveFolder}
use Rattle.dir_model.specs.declared.request.Reply.{Reply}
use Rattle.dir_model.specs.declared.request.Reply.TheVariants.{Done}
use Rattle.dir_model.specs.Calls.{is_foreign}
use Rattle.dir_trait.specs.DirCalls.{DirAt}

-- a folder was moved or removed, or something in one was removed
abbrev pub takes_away : Request → Reply → Bool
takes_away (MoveFolder from to) Done = true
takes_away (RemoveFolder spot) Done = true
takes_away (RemoveFileIn inner) Done = true
takes_away (RemoveDirIn inner) Done = true
takes_away _ _ = false

-- no such request of this process was answered Ok between these two moments
pub record TookNothing (me : ℕ) (old new : List Event) : Type 0 where
  pub more : List Event
  pub grown : new ≡ old ++ more
  pub still : AllByRecursion (λ e. (is_foreign me e || not (takes_away e.request e.reply)) ≡ true) more

-- that, where the trace is observed
abbrev pub TakesNothing : Bool → DirAt → DirAt → Type 0
TakesNothing observed old new = observed ≡ true → TookNothing old.process old.trace new.trace
