-- What a refused import says of the store, by the state before; and no import is refused as stray while every process keeps the rules.
use Rattle.std.proofs.Common.{◌≡◌, inl, inr, ℕ, Bool, true, List, refl, sym, ap, subst, ◌∙◌}
use Rattle.hex.specs.Hex.{encode_lower}
use Rattle.ac_types.specs.declared.store_key.StoreKey.{StoreKey}
use Rattle.ac_types.specs.Ids.{id_text}
use Rattle.tree_digest.specs.declared.listing_error.ListingError.{ListingError}
use Rattle.tree_digest.specs.declared.listing_error.ListingError.TheVariants as listing
use Rattle.dir_model.specs.declared.area.Area.{Area}
use Rattle.dir_model.specs.declared.area.Area.TheVariants.{Incoming}
use Rattle.dir_model.specs.Trace.{state_after}
use Rattle.dir_model.specs.State.{DirState}
use Rattle.dir_trait.specs.DirCalls.{DirAt}
use Rattle.lifecycle.specs.Executions.{IsConforming}
use Rattle.bundle_image.specs.declared.image.BundleImage.{BundleImage}
use Rattle.bundle_image.specs.declared.refusal.BundleRefusal.{BundleRefusal}
use Rattle.bundle_image.specs.declared.refusal.BundleRefusal.TheVariants as bundle
use Rattle.image_reading.specs.declared.error.StoreError.{StoreError}
use Rattle.image_reading.specs.declared.error.StoreError.TheVariants as store_error
use Rattle.image_store.specs.Causes.{Source, Conflicts, DamagedInTurn}
use Rattle.image_store.specs.Imports.{key_of_image, digest_of, IsImportRefused, RefusalComesInTurn}
use Rattle.image_store.specs.Refusals.{bundle_refusal}
use Rattle.image_store.proofs.Lawful.{never_stray}
use Rattle.standing_images.specs.Images.{ImagesStay}
use Rattle.command_outcomes.specs.declared.refusal.Refusal.{Refusal}
use Rattle.command_outcomes.specs.declared.refusal.Refusal.TheVariants.{Stray}
use Rattle.command_outcomes.specs.Moments.{Outside}
use Rattle.commands.specs.ImageImport.{import_refusal, import_listing_refusal, source_of, RefusesImage}
use Rattle.commands.specs.ImageImportTable.{StandsOther, StandsDamaged, RefusesByStanding}
use Rattle.commands.proofs.ImportStanding.{digest_before, damage_before, none_before}

-- a bundle without an image isn't in conflict with one
no_conflict : (r : BundleRefusal) (key : StoreKey) (stored fresh : List ℕ) → store_error.IdConflict key stored fresh ≡ bundle_refusal r → ⊥
no_conflict (bundle.NoFile path) key stored fresh is = cc
no_conflict (bundle.Manifest fault) key stored fresh is = cc
no_conflict (bundle.Id bad) key stored fresh is = cc
no_conflict (bundle.Listing error) key stored fresh is = cc
no_conflict (bundle.BadKind path) key stored fresh is = cc
no_conflict bundle.BundleFault key stored fresh is = cc
no_conflict bundle.NoMemory key stored fresh is = cc

module _ (source : Source) (old new : DirAt) (stay : ImagesStay old.trace new.trace) where
  abbrev before : DirState
  before = state_after old.trace

  other : (image : BundleImage) (key : StoreKey) (stored fresh : List ℕ) → Conflicts true (key_of_image image) key (digest_of image) stored fresh old new →
      StandsOther image (id_text key.bytes) (encode_lower stored) (encode_lower fresh) before
  other image key stored fresh x = record {
    digest = stored;
    there = digest_before old new stay (key_of_image image) stored (x.there refl);
    differs = x.differ;
    key_is = ap (λ (k : StoreKey). id_text k.bytes) x.key_is;
    stored_is = refl;
    fresh_is = ap encode_lower x.new_is;
  }

  damaged : (image : BundleImage) (path : List ℕ) → DamagedInTurn true source (key_of_image image) image.listing path old new → StandsDamaged source image path before
  damaged image path (inl lacks) = inl (damage_before old new stay (key_of_image image) path (lacks refl))
  damaged image path (inr x) = inr (none_before old new stay (key_of_image image) (x.1.absent refl), x.0)

  listing_stands : (e : ListingError) → RefusesByStanding source (import_listing_refusal e) before
  listing_stands (listing.BadLine n) = tt
  listing_stands (listing.NotSorted n) = tt
  listing_stands (listing.NoParent n) = tt
  listing_stands (listing.TooMany limit) = tt
  listing_stands (listing.FileTooLong n) = tt
  listing_stands listing.NoMemory = tt

  conflict_stands : (key : StoreKey) (stored fresh : List ℕ) → IsImportRefused true source (store_error.IdConflict key stored fresh) old new →
      RefusesByStanding source (import_refusal (store_error.IdConflict key stored fresh)) before
  conflict_stands key stored fresh (inl r) = absurd (no_conflict r.0 key stored fresh r.1)
  conflict_stands key stored fresh (inr x) = (x.0, x.1, other x.0 key stored fresh (x.2.conflict key stored fresh refl))

  busy_stands : (area : Area) → RefusalComesInTurn true source (store_error.Busy area) old new → RefusesByStanding source (import_refusal (store_error.Busy area)) before
  busy_stands Incoming turn = let x = turn.late refl in (x.0, x.1, none_before old new stay (key_of_image x.0) (x.2 refl))
  busy_stands area turn = tt

  -- what is said of the store, by the error
  pub error_stands : (e : StoreError) → IsImportRefused true source e old new → RefusalComesInTurn true source e old new → RefusesByStanding source (import_refusal e) before
  error_stands (store_error.IdConflict key stored fresh) refused turn = conflict_stands key stored fresh refused
  error_stands (store_error.Damaged path) refused turn = let x = turn.damaged path refl in (x.0, x.1, damaged x.0 path x.2)
  error_stands (store_error.Busy area) refused turn = busy_stands area turn
  error_stands (store_error.ListingError e) refused turn = listing_stands e
  error_stands e refused turn = tt

-- of what was told of the refusal
pub refusal_stands : (path : List ℕ) (old new : Outside) (refusal : Refusal) → old.observed ≡ true → ImagesStay old.dir.trace new.dir.trace → RefusesImage path old new refusal →
    RefusesByStanding (source_of path old.bundle) refusal (state_after old.dir.trace)
refusal_stands path old new refusal t stay x =
    let source = source_of path old.bundle in
    subst (λ (r : Refusal). RefusesByStanding source r (state_after old.dir.trace)) (sym x.is)
    (error_stands source old.dir new.dir stay x.error
    (subst (λ (observed : Bool). IsImportRefused observed source x.error old.dir new.dir) t x.cause)
    (subst (λ (observed : Bool). RefusalComesInTurn observed source x.error old.dir new.dir) t x.turn))

-- and of the answers
listing_calm : (e : ListingError) {X : Type 0} → Stray ≡ import_listing_refusal e → X
listing_calm (listing.BadLine n) is = cc
listing_calm (listing.NotSorted n) is = cc
listing_calm (listing.NoParent n) is = cc
listing_calm (listing.TooMany limit) is = cc
listing_calm (listing.FileTooLong n) is = cc
listing_calm listing.NoMemory is = cc

pub stray_of : (e : StoreError) → Stray ≡ import_refusal e → e ≡ store_error.Stray
stray_of store_error.Stray is = refl
stray_of (store_error.ListingError e) is = listing_calm e is
stray_of e is = cc

pub refusal_lawful : (path : List ℕ) (old new : Outside) (refusal : Refusal) → RefusesImage path old new refusal → refusal ≡ Stray → old.observed ≡ true → IsConforming new.dir.trace → ⊥
refusal_lawful path old new refusal x is t conforming = never_stray x.cause (stray_of x.error (sym is ∙ x.is)) t conforming
