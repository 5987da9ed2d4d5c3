-- That a refused removal removed no folder.
use Rattle.std.specs.Prelude.{◌≡◌, ◌⊎◌, ℕ, true, Ok, Err, Bool}
use Rattle.dir_trait.specs.Causes.{Rose}
use Rattle.dir_trait.specs.DirCalls.{DirAt}
use Rattle.folder_removal.specs.Removal.{KeptFolders}
use Rattle.command_outcomes.specs.Moments.{Moment, CommandOutcome}

-- where it was refused, this process removed no folder
abbrev pub KeepsRefused : Bool → DirAt → DirAt → CommandOutcome → Type 0
KeepsRefused observed old new (Ok text) = Unit {0}
KeepsRefused observed old new (Err refusal) = observed ≡ true → KeptFolders old.process old.trace new.trace

-- of a whole process: with another status than 0 and 12 it removed no folder, but that with 14 the output may have had no memory for the line
abbrev pub RemovesNoneUnlessDone : ℕ → Moment → Moment → Type 0
RemovesNoneUnlessDone status old new =
    (status ≡ 0)
    ⊎ (status ≡ 12)
    ⊎ ((status ≡ 14) × Rose old.out.shortages new.out.shortages)
    ⊎ KeptFolders old.outside.dir.process old.outside.dir.trace new.outside.dir.trace
