-- `image import PATH`, as a whole process of it.
use Rattle.std.specs.Prelude.{◌≡◌, ◌⊎◌, ◌≤◌, ℕ, true, List, [], Some, Err}
use Rattle.bundle_image.specs.declared.image.BundleImage.{BundleImage}
use Rattle.bundle_image.specs.declared.refusal.BundleRefusal.{BundleRefusal}
use Rattle.bundle_image.specs.Images.{IsBundleImage, FailsBundle}
use Rattle.dir_model.specs.declared.area.Area.{Area}
use Rattle.dir_model.specs.declared.intent.Draw.{Draw}
use Rattle.dir_model.specs.declared.intent.Kind.TheVariants as kind
use Rattle.image_store.specs.Refusals.{bundle_refusal}
use Rattle.image_store.specs.Requests.{building_spot, imports_at}
use Rattle.lifecycle.specs.Executions.{IsConforming}
use Rattle.command_outcomes.specs.declared.refusal.Refusal.{Refusal}
use Rattle.command_outcomes.specs.declared.refusal.Refusal.TheVariants.{Busy, Stray}
use Rattle.command_outcomes.specs.Moments.{Outside, Moment}
use Rattle.commands.specs.Answers.{IsAnswer, WritesOf}
use Rattle.commands.specs.Opening.{directly}
use Rattle.commands.specs.Phases.{names_none}
use Rattle.commands.specs.Command.{Command, reading, alone, intent_for, WhereAllKeepRules}
use Rattle.commands.specs.ImageImport.{image_import_refusal, import_refusal, ImageImportSays, ImportsQuietly, IsAreaHeld, LeavesOthers, PrintsKey, RefusesImage, StoresImage}

-- the bundle's first fault, or what the store has or lacks, in its turn; where a lock was refused, another process held it
-- exclusively at an own step; and no answer is stray where every process keeps the local rules
pub record RefusesImport (path : List ℕ) (refusal : Refusal) (old new : Outside) : Type 0 where
  pub own : image_import_refusal refusal ≡ true
  pub why : RefusesImage path old new refusal
  pub held : (area : Area) → refusal ≡ Busy area → old.observed ≡ true → IsAreaHeld area old.dir new.dir
  pub lawful : refusal ≡ Stray → old.observed ≡ true → IsConforming new.dir.trace → ⊥

-- the bundle's first fault was answered, or the bundle has an image; or the bundle failed, or memory ran out
abbrev pub IsBundleJudgement : List ℕ → ℕ → Moment → Moment → Type 0
IsBundleJudgement path status old new =
    (status ≡ 10)
    ⊎ (status ≡ 14)
    ⊎ ((fault : BundleRefusal) × FailsBundle old.outside.bundle.tree path fault × IsAnswer (Err (import_refusal (bundle_refusal fault))) status old new)
    ⊎ ((image : BundleImage) × IsBundleImage old.outside.bundle.tree path image)

-- with status 0 the line of the image was written that the bundle says, and it is stored
pub record TellsImport (path : List ℕ) (now : ℕ) (draw : Draw) (status : ℕ) (old new : Moment) : Type 0 where
  pub stored : WhereAllKeepRules old new (status ≡ 0 → WritesOf (StoresImage path now draw.uuid old.outside new.outside) old new)
  pub judged : old.outside.bundle.observed ≡ true → IsBundleJudgement path status old new

-- it asks for images and their lock, the lock of incoming, and its own folder
abbrev pub image_import_command : List ℕ → Command
image_import_command path = record {
  begins = Some (intent_for kind.ImageImport []);
  approach = directly;
  asks = λ now draw. imports_at (building_spot draw.uuid);
  reads = reading (λ old new. old.faults ≤ new.faults);
  prints = λ draw bundle text. PrintsKey path bundle text;
  refusals = image_import_refusal;
  refused_for = λ now draw refusal old new. RefusesImport path refusal old.outside new.outside;
  names = names_none;
  tells = λ now draw status old new. TellsImport path now draw status old new;
  quiet = λ now draw old new o. ImportsQuietly path now draw.uuid old.outside new.outside o;
  leaves = λ me draw old new. LeavesOthers draw.uuid me old new;
  says = alone (λ now draw old new o. ImageImportSays path now draw.uuid old new o);
}
