-- How a command may come to its end.
use Rattle.std.specs.Prelude.{◌≡◌, ℕ, Bool, true, false, Some, slice_get, Ok, Err}
use Rattle.dir_model.specs.declared.spot.Spot.{Spot}
use Rattle.dir_trait.specs.State.{DirState, is_owned}
use Rattle.command_outcomes.specs.declared.refusal.Refusal.{Refusal}
use Rattle.command_outcomes.specs.declared.refusal.Refusal.TheVariants.{DirFault, BundleFault, NoMemory}
use Rattle.command_outcomes.specs.Moments.{CommandOutcome}

-- the command came to an end of its own: nothing failed, and memory didn't run out
abbrev pub is_own_end : CommandOutcome → Bool
is_own_end (Ok text) = true
is_own_end (Err NoMemory) = false
is_own_end (Err DirFault) = false
is_own_end (Err BundleFault) = false
is_own_end (Err refusal) = true

-- the refusals that may come to any command on the directory
abbrev pub is_common : Refusal → Bool
is_common NoMemory = true
is_common DirFault = true
is_common refusal = false

-- the folders, and whose lock is held exclusively, are as before
pub record IsUnchanged (old new : DirState) : Type 0 where
  pub folders : new.namespace.folders ≡ old.namespace.folders
  pub owned : (folder : ℕ) → is_owned new.namespace folder ≡ is_owned old.namespace folder

-- each folder that stood at a location of another kind than these stands there still
abbrev pub StaysBeside : (Spot → Bool) → DirState → DirState → Type 0
StaysBeside touched old new =
    (folder : ℕ) (place : Spot) → slice_get old.namespace.folders folder ≡ Some (Some place) → touched place ≡ false →
    slice_get new.namespace.folders folder ≡ Some (Some place)
