-- What an import comes to where nobody else steps, by the state before.
use Rattle.std.proofs.Common.{◌≡◌, inl, inr, ℕ, true, List}
use Rattle.dir_model.specs.declared.pod.PodId.{PodId}
use Rattle.dir_model.specs.Calls.{Extends}
use Rattle.dir_model.specs.Quiet.{Quiet}
use Rattle.dir_trait.specs.DirCalls.{DirAt}
use Rattle.lifecycle.specs.Executions.{IsConforming}
use Rattle.bundle_image.specs.declared.image.BundleImage.{BundleImage}
use Rattle.image_store.specs.Imports.{key_of_image, digest_of}
use Rattle.image_store.specs.Requests.{building_spot}
use Rattle.command_outcomes.specs.declared.refusal.Refusal.{Refusal}
use Rattle.command_outcomes.specs.Moments.{Outside}
use Rattle.commands.specs.ImageImport.{IsStored, ComesStored, RefusesImage, RefusesQuietly}
use Rattle.commands.proofs.ImagesKept.{image_held, none_held}
use Rattle.commands.proofs.ImportQuiet.{is_modest}
use Rattle.commands.proofs.ImportRefusals.{refusal_stands}
use Rattle.commands.proofs.ImportStanding.{digest_before}
use Rattle.commands.proofs.ImportStays.{import_stays, stays_to_end}

module _ (draw : PodId) (old new : DirAt) (ext : Extends (is_modest (building_spot draw)) old.process old.trace new.trace) (quiet : Quiet old.process old.trace new.trace) where
  -- the image that is stored
  pub comes_stored : IsConforming new.trace → (image : BundleImage) (now : ℕ) → IsStored image now draw old new → ComesStored image now old new
  comes_stored conforming image now (inl x) =
      let stay = import_stays draw ext quiet x.1 in
      inl (x.0, digest_before old new stay (key_of_image image) (digest_of image) x.0, stays_to_end old.trace new.trace ext.more stay ext.grown)
  comes_stored conforming image now (inr came) = inr (none_held draw ext quiet conforming image now came, image_held draw ext quiet conforming image now came)

-- and the refusals
pub refuses_quietly : (path : List ℕ) (draw : PodId) (old new : Outside) (refusal : Refusal) → old.observed ≡ true → Extends (is_modest (building_spot draw)) old.dir.process old.dir.trace new.dir.trace →
    Quiet old.dir.process old.dir.trace new.dir.trace → RefusesImage path old new refusal → RefusesQuietly path old new refusal
refuses_quietly path draw old new refusal t ext quiet x =
    let stay = import_stays draw ext quiet (x.still t) in
    record { why = x; same = stays_to_end old.dir.trace new.dir.trace ext.more stay ext.grown; stands = refusal_stands path old new refusal t stay x }
