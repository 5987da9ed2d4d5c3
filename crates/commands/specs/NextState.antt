-- What stands as before where a process has changed some locations alone.
use Rattle.std.specs.Prelude.{◌≡◌, ◌==◌, ℕ, Bool, false, not, Some, List, filter, slice_get}
use Rattle.dir_model.specs.declared.spot.Spot.{Spot}
use Rattle.dir_model.specs.declared.opening.Opening.{Opening}
use Rattle.dir_trait.specs.State.{DirState}
use Rattle.folder_contents.specs.Entries.{entries_in}
use Rattle.command_outcomes.specs.Ends.{IsUnchanged, StaysBeside}

-- what others have open, and how they have locked it
abbrev pub others_openings : ℕ → DirState → List Opening
others_openings me s = filter (λ o. not (o.process == me)) s.namespace.openings

-- each folder that stood elsewhere stands there still, with its tree; and what others have open, with their locks, is as before
pub record LeavesBeside (touched : Spot → Bool) (me : ℕ) (old new : DirState) : Type 0 where
  pub places : StaysBeside touched old new
  pub trees :
      (folder : ℕ) (place : Spot) → slice_get old.namespace.folders folder ≡ Some (Some place) → touched place ≡ false →
      entries_in folder new.entries ≡ entries_in folder old.entries
  pub others : others_openings me new ≡ others_openings me old

-- nothing was touched
abbrev pub is_nowhere : Spot → Bool
is_nowhere place = false

-- so of a process that only looked: the folders, their trees, and whose locks are held are as before
pub record LeavesAll (me : ℕ) (old new : DirState) : Type 0 where
  pub same : IsUnchanged old new
  pub beside : LeavesBeside is_nowhere me old new
