-- `image list`, as a whole process of it.
use Rattle.std.specs.Prelude.{◌≡◌, ℕ, true, List, [], Some, Bool}
use Rattle.dep_match.specs.declared.stored.Stored.{Stored}
use Rattle.dir_model.specs.declared.area.Area.TheVariants.{Images}
use Rattle.dir_model.specs.declared.intent.Kind.TheVariants as kind
use Rattle.dir_trait.specs.DirCalls.{DirAt}
use Rattle.command_outcomes.specs.declared.refusal.Refusal.{Refusal}
use Rattle.command_outcomes.specs.declared.refusal.Refusal.TheVariants.{Busy, Damaged}
use Rattle.command_outcomes.specs.Moments.{Moment}
use Rattle.commands.specs.Answers.{WritesOf}
use Rattle.commands.specs.Opening.{directly}
use Rattle.commands.specs.Phases.{names_none}
use Rattle.commands.specs.Command.{Command, nothing, alone, intent_for, WhereAllKeepRules, WhereObserved}
use Rattle.commands.specs.ImageList.{image_list_refusal, lists_images, images_text, ListsLackingPart, ImagesHeldElsewhere, ListsStanding, ListsStore, ImageListSays, ListsImagesQuietly}
use Rattle.commands.specs.NextState.{LeavesAll}

-- another process held the lock of the images exclusively at an own step; or a part of an image wasn't there or had no reading
abbrev pub RefusesImageList : Bool → Refusal → DirAt → DirAt → Type 0
RefusesImageList observed (Busy Images) old new = observed ≡ true → ImagesHeldElsewhere old new
RefusesImageList observed (Damaged path) old new = ListsLackingPart observed path old new
RefusesImageList observed refusal old new = ⊥

-- with status 0 it wrote the lines of the images that it read; and where every process keeps the local rules, they stood together while it
-- had the lock, and are all that stood when its listing began
pub record TellsImageLines (status : ℕ) (old new : Moment) : Type 0 where
  pub read : WhereObserved old (status ≡ 0 → WritesOf (ListsStore old.outside.observed old.outside.dir new.outside.dir) old new)
  pub stood : WhereAllKeepRules old new (status ≡ 0 → WritesOf (ListsStanding old.outside.dir new.outside.dir) old new)

-- it asks for images and their lock
abbrev pub image_list_command : Command
image_list_command = record {
  begins = Some (intent_for kind.ImageList []);
  approach = directly;
  asks = λ now draw. lists_images;
  reads = nothing;
  prints = λ draw bundle text. (images : List Stored) × (text ≡ images_text images);
  refusals = image_list_refusal;
  refused_for = λ now draw refusal old new. RefusesImageList old.outside.observed refusal old.outside.dir new.outside.dir;
  names = names_none;
  tells = λ now draw status old new. TellsImageLines status old new;
  quiet = λ now draw old new o. ListsImagesQuietly old.outside.observed old.outside.dir new.outside.dir o;
  leaves = λ me draw old new. LeavesAll me old new;
  says = alone (λ now draw old new o. ImageListSays old.observed old.dir new.dir o);
}
