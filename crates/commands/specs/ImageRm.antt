-- The command `image rm`.
use Rattle.std.specs.Prelude.{◌≡◌, ◌⊎◌, ◌||◌, ℕ, Bool, true, None, List, codes, Ok, Err}
use Rattle.ac_types.specs.Ids.{id_text}
use Rattle.ac_types.specs.declared.store_key.StoreKey.{StoreKey}
use Rattle.dir_model.specs.declared.area.Area.TheVariants.{Images, Removed}
use Rattle.dir_model.specs.declared.event.Event.{Event}
use Rattle.dir_model.specs.declared.pod.PodId.{PodId}
use Rattle.dir_model.specs.declared.spot.Mode.TheVariants.{Exclusive}
use Rattle.dir_model.specs.declared.spot.Spot.{Spot}
use Rattle.dir_model.specs.Calls.{Extends, AtOwnStep}
use Rattle.dir_rules.specs.declared.seen.Seen.{Seen}
use Rattle.dir_trait.specs.Knowledge.{Knows}
use Rattle.dir_trait.specs.State.{folder_at, spot_eq}
use Rattle.dir_trait.specs.Trace.{state_after}
use Rattle.dir_files.specs.AreaLocks.{is_taking_area, IsBusyElsewhere}
use Rattle.dir_trait.specs.DirCalls.{DirAt}
use Rattle.image_reading.specs.declared.error.StoreError.{StoreError}
use Rattle.image_reading.specs.declared.error.StoreError.TheVariants as store_error
use Rattle.image_reading.specs.Places.{image_spot, IsImageAbsent}
use Rattle.image_removal.specs.Causes.{StrayRemoval, FoundNoImage}
use Rattle.image_removal.specs.Requests.{away_spot}
use Rattle.image_removal.specs.Removals.{IsRemoved}
use Rattle.image_removal.specs.Work.{MayRemoveImage}
use Rattle.command_outcomes.specs.declared.refusal.Refusal.{Refusal}
use Rattle.command_outcomes.specs.declared.refusal.Refusal.TheVariants.{Busy, NoImage, DirFault, NoMemory, Stray}
use Rattle.command_outcomes.specs.Texts.{named_line}
use Rattle.command_outcomes.specs.Moments.{CommandOutcome}
use Rattle.command_outcomes.specs.Ends.{is_common}
use Rattle.command_outcomes.specs.Meanwhile.{Meanwhile}
use Rattle.commands.specs.Strays.{NeverComes}

-- the line that it prints
abbrev pub removed_image_text : StoreKey → List ℕ
removed_image_text key = named_line (codes "removed ") (id_text key.bytes)

-- the refusals that it may have: of the locks it takes that of the images
abbrev pub image_rm_refusal : Refusal → Bool
image_rm_refusal (Busy Images) = true
image_rm_refusal (NoImage key) = true
image_rm_refusal Stray = true
image_rm_refusal refusal = is_common refusal

-- what is said of an error of a removal or of a sweep
abbrev pub refusal_of_removal : StoreError → Refusal
refusal_of_removal (store_error.Busy area) = Busy area
refusal_of_removal (store_error.NoImage key) = NoImage (id_text key.bytes)
refusal_of_removal store_error.DirFault = DirFault
refusal_of_removal store_error.NoMemory = NoMemory
refusal_of_removal error = Stray

-- that is said of it, or that memory ran out
abbrev pub IsRemovalSaid : StoreError → Refusal → Type 0
IsRemovalSaid error refusal = (refusal ≡ refusal_of_removal error) ⊎ (refusal ≡ NoMemory)

-- the image was moved to removed, and its folder is gone from there, unless another process held the lock of removed
abbrev pub RemovesStoredImage : StoreKey → PodId → ℕ → List Event → List Event → Type 0
RemovesStoredImage key draw me old new = IsRemoved (IsBusyElsewhere me Removed Exclusive) key draw me old new

-- another process held the lock of the images at an own step, and nothing but that lock was asked for
pub record FindsBusy (me : ℕ) (old new : List Event) : Type 0 where
  pub held : AtOwnStep me old new (IsBusyElsewhere me Images Exclusive)
  pub only : Extends (is_taking_area Images Exclusive) me old new

-- it is so where the process has begun to remove an image with that draw
abbrev pub WhereRemovingImage : Bool → PodId → DirAt → Type 0 → Type 0
WhereRemovingImage observed draw old P = observed ≡ true → (s : Seen) → Knows old s → MayRemoveImage draw s → P

-- it printed the image's key, and the image was removed
pub record RemovesImage (observed : Bool) (key : StoreKey) (draw : PodId) (old new : DirAt) (text : List ℕ) : Type 0 where
  pub is : text ≡ removed_image_text key
  pub removed : WhereRemovingImage observed draw old (RemovesStoredImage key draw old.process old.trace new.trace)

-- it named the key, and its own move was answered that no image has it, and none had
pub record FindsNoImage (observed : Bool) (key : StoreKey) (draw : PodId) (old new : DirAt) (named : List ℕ) : Type 0 where
  pub is : named ≡ id_text key.bytes
  pub found : observed ≡ true → FoundNoImage key draw old.process old.trace new.trace

-- what was told of the image and of the locks
abbrev pub ImageRmSays : Bool → StoreKey → PodId → DirAt → DirAt → CommandOutcome → Type 0
ImageRmSays observed key draw old new (Ok text) = RemovesImage observed key draw old new text
ImageRmSays observed key draw old new (Err (Busy area)) = WhereRemovingImage observed draw old (FindsBusy old.process old.trace new.trace)
ImageRmSays observed key draw old new (Err (NoImage named)) = FindsNoImage observed key draw old new named
ImageRmSays observed key draw old new (Err Stray) = (observed ≡ true → StrayRemoval key draw old.process old.trace new.trace) × WhereRemovingImage observed draw old (NeverComes new.trace)
ImageRmSays observed key draw old new (Err refusal) = Unit {0}

-- of a whole process: that it removed the image, that it found none, that it met an answer which the locks don't explain
abbrev pub HasRemoved : StoreKey → PodId → DirAt → DirAt → Type 0
HasRemoved key draw old new = Meanwhile (RemovesStoredImage key draw) old.process old.trace new.trace

abbrev pub HasFoundNone : StoreKey → PodId → DirAt → DirAt → Type 0
HasFoundNone key draw old new = Meanwhile (FoundNoImage key draw) old.process old.trace new.trace

abbrev pub HasMetStray : StoreKey → PodId → DirAt → DirAt → Type 0
HasMetStray key draw old new = Meanwhile (StrayRemoval key draw) old.process old.trace new.trace

-- no image has the key any more, and its folder is gone, unless another process held the lock of removed before
pub record LeavesNone (key : StoreKey) (draw : PodId) (old new : DirAt) : Type 0 where
  pub absent : IsImageAbsent key (state_after new.trace)
  pub gone : (folder_at (state_after new.trace).namespace (away_spot draw) ≡ None) ⊎ IsBusyElsewhere old.process Removed Exclusive (state_after old.trace)

-- what it comes to where nobody else steps: the image is gone; or none had the key before, or the lock was held before, or by its
-- own answers
abbrev pub RemovesQuietly : StoreKey → PodId → DirAt → DirAt → CommandOutcome → Type 0
RemovesQuietly key draw old new (Ok text) = (text ≡ removed_image_text key) × HasRemoved key draw old new × LeavesNone key draw old new
RemovesQuietly key draw old new (Err (Busy area)) = (area ≡ Images) × IsBusyElsewhere old.process Images Exclusive (state_after old.trace)
RemovesQuietly key draw old new (Err (NoImage named)) = (named ≡ id_text key.bytes) × HasFoundNone key draw old new × IsImageAbsent key (state_after old.trace)
RemovesQuietly key draw old new (Err Stray) = HasMetStray key draw old new × NeverComes new.trace
RemovesQuietly key draw old new (Err refusal) = ⊥

-- where it moves and removes folders: the image's place, and its own in removed
abbrev pub is_removal_place : StoreKey → PodId → Spot → Bool
is_removal_place key draw place = spot_eq place (image_spot key) || spot_eq place (away_spot draw)
