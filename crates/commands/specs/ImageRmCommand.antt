-- `image rm KEY`, as a whole process of it.
use Rattle.std.specs.Prelude.{◌≡◌, ℕ, true, [], Some, Bool}
use Rattle.ac_types.specs.Ids.{id_text}
use Rattle.ac_types.specs.declared.store_key.StoreKey.{StoreKey}
use Rattle.dir_model.specs.declared.area.Area.TheVariants.{Images}
use Rattle.dir_model.specs.declared.intent.Draw.{Draw}
use Rattle.dir_model.specs.declared.intent.Kind.TheVariants as kind
use Rattle.dir_trait.specs.DirCalls.{DirAt}
use Rattle.image_removal.specs.Requests.{removes_at}
use Rattle.command_outcomes.specs.declared.refusal.Refusal.{Refusal}
use Rattle.command_outcomes.specs.declared.refusal.Refusal.TheVariants.{Busy, NoImage, Stray}
use Rattle.command_outcomes.specs.Meanwhile.{Meanwhile}
use Rattle.command_outcomes.specs.Moments.{Moment}
use Rattle.commands.specs.Answers.{WritesOf}
use Rattle.commands.specs.Kept.{KeepsRefused, RemovesNoneUnlessDone}
use Rattle.commands.specs.Opening.{directly}
use Rattle.commands.specs.Phases.{names_none}
use Rattle.commands.specs.Command.{Command, nothing, alone, intent_for, WhereObserved}
use Rattle.commands.specs.ImageRm.{image_rm_refusal, removed_image_text, is_removal_place, FindsBusy, HasFoundNone, HasMetStray, HasRemoved, ImageRmSays, RemovesQuietly}
use Rattle.commands.specs.NextState.{LeavesBeside}
use Rattle.commands.specs.Strays.{NeverComes}

-- another process held the lock of the images at an own step, and nothing but that lock was asked for; no image had the key when its
-- own move was answered so; or an answer came that what the locks keep doesn't explain, which doesn't come where every process keeps the
-- local rules
abbrev pub RefusesImageRm : Bool → StoreKey → Draw → Refusal → DirAt → DirAt → Type 0
RefusesImageRm observed key draw (Busy Images) old new = observed ≡ true → Meanwhile FindsBusy old.process old.trace new.trace
RefusesImageRm observed key draw (NoImage named) old new = (named ≡ id_text key.bytes) × (observed ≡ true → HasFoundNone key draw.uuid old new)
RefusesImageRm observed key draw Stray old new = observed ≡ true → HasMetStray key draw.uuid old new × NeverComes new.trace
RefusesImageRm observed key draw refusal old new = ⊥

-- with status 0 it wrote that the image is removed, and removed it. Where it isn't done, it removed no folder
pub record TellsImageRm (key : StoreKey) (draw : Draw) (status : ℕ) (old new : Moment) : Type 0 where
  pub removed : WhereObserved old (status ≡ 0 → WritesOf (λ text. (text ≡ removed_image_text key) × HasRemoved key draw.uuid old.outside.dir new.outside.dir) old new)
  pub kept : WhereObserved old (RemovesNoneUnlessDone status old new)

-- it asks for the locks of images and removed, for its image's move and for the deletion of what was moved
abbrev pub image_rm_command : StoreKey → Command
image_rm_command key = record {
  begins = Some (intent_for kind.ImageRm []);
  approach = directly;
  asks = λ now draw. removes_at key draw.uuid;
  reads = nothing;
  prints = λ draw bundle text. text ≡ removed_image_text key;
  refusals = image_rm_refusal;
  refused_for = λ now draw refusal old new. RefusesImageRm old.outside.observed key draw refusal old.outside.dir new.outside.dir;
  names = names_none;
  tells = λ now draw status old new. TellsImageRm key draw status old new;
  quiet = λ now draw old new o. RemovesQuietly key draw.uuid old.outside.dir new.outside.dir o;
  leaves = λ me draw old new. LeavesBeside (is_removal_place key draw.uuid) me old new;
  says = alone (λ now draw old new o. ImageRmSays old.observed key draw.uuid old.dir new.dir o × KeepsRefused old.observed old.dir new.dir o);
}
