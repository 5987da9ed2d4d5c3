-- The command `image gc`.
use Rattle.std.specs.Prelude.{◌≡◌, ◌||◌, ℕ, ◌⊎◌, Bool, true, None, List, ◌++◌, codes, Ok, Err}
use Rattle.std.specs.List.{flat_map}
use Rattle.dir_model.specs.declared.area.Area.{Area}
use Rattle.dir_model.specs.declared.area.Area.TheVariants.{Incoming, Removed}
use Rattle.dir_model.specs.declared.event.Event.{Event}
use Rattle.dir_model.specs.declared.spot.Mode.TheVariants.{Exclusive}
use Rattle.dir_model.specs.declared.spot.Spot.{Spot}
use Rattle.dir_rules.specs.declared.seen.Seen.{Seen}
use Rattle.dir_rules.specs.Standing.{is_in}
use Rattle.dir_trait.specs.Knowledge.{Knows}
use Rattle.dir_trait.specs.State.{DirState, folder_at}
use Rattle.dir_trait.specs.Trace.{state_after}
use Rattle.dir_files.specs.AreaLocks.{IsBusyElsewhere}
use Rattle.dir_trait.specs.DirCalls.{DirAt}
use Rattle.image_removal.specs.declared.pass.SweepLine.{SweepLine}
use Rattle.image_removal.specs.declared.pass.SweepLine.TheVariants.{Moved, Deleted, BusyGate}
use Rattle.image_removal.specs.Causes.{WasStrayRemoval}
use Rattle.image_removal.specs.Passes.{is_uuid}
use Rattle.image_removal.specs.Ended.{EndsImageSweep}
use Rattle.image_removal.specs.Sweeps.{IsSwept, HasTried, BusyApart, BusyNow}
use Rattle.image_removal.specs.Work.{MaySweepStore}
use Rattle.command_outcomes.specs.declared.refusal.Refusal.{Refusal}
use Rattle.command_outcomes.specs.declared.refusal.Refusal.TheVariants.{DirFault, Stray}
use Rattle.command_outcomes.specs.Texts.{area_text}
use Rattle.command_outcomes.specs.Moments.{CommandOutcome}
use Rattle.command_outcomes.specs.Ends.{is_common}
use Rattle.command_outcomes.specs.Meanwhile.{Meanwhile}
use Rattle.commands.specs.SweepTable.{AreSweepLines}
use Rattle.commands.specs.Strays.{NeverComes}

-- the line that it prints of a folder, or of an area whose lock another process holds
abbrev pub sweep_text : SweepLine → List ℕ
sweep_text (Moved name) = name ++ codes " moved removed\n"
sweep_text (Deleted name) = name ++ codes " deleted\n"
sweep_text (BusyGate area) = area_text area ++ codes " busy gate\n"

abbrev pub sweep_texts : List SweepLine → List ℕ
sweep_texts lines = flat_map sweep_text lines

-- the refusals that it may have
abbrev pub image_gc_refusal : Refusal → Bool
image_gc_refusal Stray = true
image_gc_refusal refusal = is_common refusal

-- what these lines say was done, to each folder that its own listings showed, unless another process held an area's lock
abbrev pub SweepsImages : List SweepLine → ℕ → List Event → List Event → Type 0
SweepsImages lines me old new = IsSwept (BusyApart me) lines me old new

-- the sweep ended early: each request so far was about what its own listings showed, and the pass that failed is the last
pub record EndsEarly (me : ℕ) (old new : List Event) : Type 0 where
  pub tried : HasTried me old new
  pub ended : EndsImageSweep BusyNow me old new

-- a step was answered as what the locks keep doesn't explain, and the sweep ended there
pub record StrayInSweep (me : ℕ) (old new : List Event) : Type 0 where
  pub stray : WasStrayRemoval me old new
  pub early : EndsEarly me old new

-- it is so where the process has begun to sweep
abbrev pub WhereSweepingImages : Bool → DirAt → Type 0 → Type 0
WhereSweepingImages observed old P = observed ≡ true → (s : Seen) → Knows old s → MaySweepStore s → P

-- it printed the lines of what it did, where the process has begun to sweep
pub record SweepsStore (observed : Bool) (old new : DirAt) (text : List ℕ) : Type 0 where
  pub lines : List SweepLine
  pub is : text ≡ sweep_texts lines
  pub swept : WhereSweepingImages observed old (SweepsImages lines old.process old.trace new.trace)

-- what was told of the two areas
abbrev pub ImageGcSays : Bool → DirAt → DirAt → CommandOutcome → Type 0
ImageGcSays observed old new (Ok text) = SweepsStore observed old new text
ImageGcSays observed old new (Err Stray) = (observed ≡ true → StrayInSweep old.process old.trace new.trace) × WhereSweepingImages observed old (NeverComes new.trace)
ImageGcSays observed old new (Err DirFault) = observed ≡ true → EndsEarly old.process old.trace new.trace
ImageGcSays observed old new (Err refusal) = Unit {0}

-- of a whole process: it printed the lines of what it did
pub record HasSwept (old new : DirAt) (text : List ℕ) : Type 0 where
  pub lines : List SweepLine
  pub is : text ≡ sweep_texts lines
  pub swept : Meanwhile (SweepsImages lines) old.process old.trace new.trace

abbrev pub HasEndedEarly : DirAt → DirAt → Type 0
HasEndedEarly old new = Meanwhile EndsEarly old.process old.trace new.trace

abbrev pub HasMetStrayInSweep : DirAt → DirAt → Type 0
HasMetStrayInSweep old new = Meanwhile StrayInSweep old.process old.trace new.trace

-- no folder of the area has the text of a uuid as its name, unless another process held the area's lock before
abbrev pub LeavesNoFolder : Area → DirAt → DirAt → Type 0
LeavesNoFolder area old new =
    ((name : List ℕ) → is_uuid name ≡ true → folder_at (state_after new.trace).namespace (record { area = area; name = name }) ≡ None)
    ⊎ IsBusyElsewhere old.process area Exclusive (state_after old.trace)

-- the text is that of the state's lines, of which there is one list
pub record PrintsSweepOfState (me : ℕ) (s : DirState) (text : List ℕ) : Type 0 where
  pub lines : List SweepLine
  pub is : text ≡ sweep_texts lines
  pub are : AreSweepLines me s lines
  pub only : (others : List SweepLine) → AreSweepLines me s others → others ≡ lines

-- what it comes to where nobody else steps: the lines of the state before, and no such folder is left in either area; or by its own
-- answers
abbrev pub SweepsQuietly : DirAt → DirAt → CommandOutcome → Type 0
SweepsQuietly old new (Ok text) = HasSwept old new text × PrintsSweepOfState old.process (state_after old.trace) text × LeavesNoFolder Incoming old new × LeavesNoFolder Removed old new
SweepsQuietly old new (Err Stray) = HasMetStrayInSweep old new × NeverComes new.trace
SweepsQuietly old new (Err refusal) = ⊥

-- where it moves and removes folders
abbrev pub is_swept_place : Spot → Bool
is_swept_place place = is_in place.area Incoming || is_in place.area Removed
