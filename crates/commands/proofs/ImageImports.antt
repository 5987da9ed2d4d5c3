-- The command `image import`: from its one call to what is told of it.
use Rattle.std.proofs.Common.{arith, ◌≡◌, ◌⊎◌, inl, inr, ℕ, Bool, true, false, List, [], None, Result, Ok, Err, IfErr, IsErrOf, refl, sym, ap, subst, ◌∙◌}
use Rattle.ac_types.specs.declared.store_key.StoreKey.{StoreKey}
use Rattle.dir_model.specs.declared.area.Area.{Area}
use Rattle.dir_model.specs.declared.intent.Intent.{Intent}
use Rattle.dir_model.specs.declared.pod.PodId.{PodId}
use Rattle.dir_model.specs.Causes.{Rose}
use Rattle.dir_rules.specs.declared.standing.Held.{Held}
use Rattle.dir_trait.specs.DirCalls.{DirAt}
use Rattle.dir_trait.specs.Knowledge.{Knows}
use Rattle.lifecycle.specs.Executions.{IsConforming}
use Rattle.tree_digest.specs.declared.listing_error.ListingError.{ListingError}
use Rattle.tree_digest.specs.declared.listing_error.ListingError.TheVariants as listing
use Rattle.bundle_image.specs.declared.image.BundleImage.{BundleImage}
use Rattle.bundle_image.specs.declared.refusal.BundleRefusal.{BundleRefusal}
use Rattle.bundle_image.specs.declared.refusal.BundleRefusal.TheVariants as bundle
use Rattle.image_reading.specs.declared.error.StoreError.{StoreError}
use Rattle.image_reading.specs.declared.error.StoreError.TheVariants as store_error
use Rattle.image_reading.specs.Places.{image_spot}
use Rattle.image_store.specs.declared.importing.Imported.{Imported}
use Rattle.image_store.specs.Causes.{Source, WasThere, ImportBusyElsewhere}
use Rattle.image_store.specs.Imports.{key_of_image, digest_of, IsOf, OfBundle, IsImportRefused, RefusalComesInTurn, IsImported, ImportLeaves, LeavesAtEnd}
use Rattle.image_store.specs.Moves.{Moves, MovesAtEnd}
use Rattle.image_store.specs.Refusals.{bundle_refusal, is_import_refusal}
use Rattle.image_store.specs.Requests.{building_spot}
use Rattle.image_store.specs.Work.{IsImport, IsAlone, WhereImporting, seen_importing}
use Rattle.command_outcomes.specs.declared.refusal.Refusal.{Refusal}
use Rattle.command_outcomes.specs.declared.refusal.Refusal.TheVariants.{Busy, DirFault, BundleFault, NoMemory}
use Rattle.command_outcomes.specs.Moments.{BundleSeen, CommandOutcome}
use Rattle.command_outcomes.specs.Conforming.{seen_at_begin, KeepsRules}
use Rattle.commands.specs.ImageImport.{key_line, image_import_refusal, import_listing_refusal, is_import_error, import_refusal, IsSaidOf, source_of, StoresImage, IsHeldFromImport, RefusesImage, ImageImportSays}
use Rattle.command_outcomes.proofs.Seen.{beside}

-- which refusals an import has
bundle_error : (r : BundleRefusal) → is_import_error (bundle_refusal r) ≡ true
bundle_error (bundle.NoFile path) = refl
bundle_error (bundle.Manifest fault) = refl
bundle_error (bundle.Id bad) = refl
bundle_error (bundle.Listing error) = refl
bundle_error (bundle.BadKind path) = refl
bundle_error bundle.BundleFault = refl
bundle_error bundle.NoMemory = refl

store_error_known : (e : StoreError) → is_import_refusal e ≡ true → is_import_error e ≡ true
store_error_known (store_error.NoImage key) kind = kind
store_error_known (store_error.Busy area) kind = kind
store_error_known e kind = refl

pub import_error : {observed : Bool} {source : Source} {e : StoreError} {a b : DirAt} → IsImportRefused observed source e a b → is_import_error e ≡ true
import_error {observed} {source} {e} (inl x) = ap is_import_error x.1 ∙ bundle_error x.0
import_error {observed} {source} {e} (inr x) = store_error_known e x.2.kind

listing_allowed : (e : ListingError) → image_import_refusal (import_listing_refusal e) ≡ true
listing_allowed (listing.BadLine n) = refl
listing_allowed (listing.NotSorted n) = refl
listing_allowed (listing.NoParent n) = refl
listing_allowed (listing.TooMany limit) = refl
listing_allowed (listing.FileTooLong n) = refl
listing_allowed listing.NoMemory = refl

error_allowed : (e : StoreError) → is_import_error e ≡ true → image_import_refusal (import_refusal e) ≡ true
error_allowed (store_error.NoImage key) known = known
error_allowed (store_error.Busy area) known = known
error_allowed (store_error.ListingError e) known = listing_allowed e
error_allowed e known = refl

pub refusal_allowed : (e : StoreError) (r : Refusal) → is_import_error e ≡ true → IsSaidOf e r → image_import_refusal r ≡ true
refusal_allowed e r known (inl is) = ap image_import_refusal is ∙ error_allowed e known
refusal_allowed e r known (inr is) = ap image_import_refusal is

-- what a refusal was of
listing_no_fault : (e : ListingError) {X : Type 0} → import_listing_refusal e ≡ DirFault → X
listing_no_fault (listing.BadLine n) is = cc
listing_no_fault (listing.NotSorted n) is = cc
listing_no_fault (listing.NoParent n) is = cc
listing_no_fault (listing.TooMany limit) is = cc
listing_no_fault (listing.FileTooLong n) is = cc
listing_no_fault listing.NoMemory is = cc

listing_no_bundle_fault : (e : ListingError) {X : Type 0} → import_listing_refusal e ≡ BundleFault → X
listing_no_bundle_fault (listing.BadLine n) is = cc
listing_no_bundle_fault (listing.NotSorted n) is = cc
listing_no_bundle_fault (listing.NoParent n) is = cc
listing_no_bundle_fault (listing.TooMany limit) is = cc
listing_no_bundle_fault (listing.FileTooLong n) is = cc
listing_no_bundle_fault listing.NoMemory is = cc

listing_not_busy : (e : ListingError) (area : Area) {X : Type 0} → import_listing_refusal e ≡ Busy area → X
listing_not_busy (listing.BadLine n) area is = cc
listing_not_busy (listing.NotSorted n) area is = cc
listing_not_busy (listing.NoParent n) area is = cc
listing_not_busy (listing.TooMany limit) area is = cc
listing_not_busy (listing.FileTooLong n) area is = cc
listing_not_busy listing.NoMemory area is = cc

fault_of : (e : StoreError) → import_refusal e ≡ DirFault → e ≡ store_error.DirFault
fault_of store_error.DirFault is = refl
fault_of (store_error.ListingError e) is = listing_no_fault e is
fault_of e is = cc

bundle_fault_of : (e : StoreError) → import_refusal e ≡ BundleFault → e ≡ store_error.BundleFault
bundle_fault_of store_error.BundleFault is = refl
bundle_fault_of (store_error.ListingError e) is = listing_no_bundle_fault e is
bundle_fault_of e is = cc

pub busy_of : (e : StoreError) (area : Area) → import_refusal e ≡ Busy area → e ≡ store_error.Busy area
busy_of (store_error.Busy here) area is = let same : here ≡ area = cc in ap store_error.Busy same
busy_of (store_error.ListingError e) area is = listing_not_busy e area is
busy_of e area is = cc

said_fault : (e : StoreError) (r : Refusal) → IsSaidOf e r → r ≡ DirFault → e ≡ store_error.DirFault
said_fault e r (inl said) is = fault_of e (sym said ∙ is)
said_fault e r (inr said) is = let clash : NoMemory ≡ DirFault = sym said ∙ is in cc

pub said_bundle_fault : (e : StoreError) (r : Refusal) → IsSaidOf e r → r ≡ BundleFault → e ≡ store_error.BundleFault
said_bundle_fault e r (inl said) is = bundle_fault_of e (sym said ∙ is)
said_bundle_fault e r (inr said) is = let clash : NoMemory ≡ BundleFault = sym said ∙ is in cc

no_bundle_fault : (r : BundleRefusal) {X : Type 0} → bundle_refusal r ≡ store_error.DirFault → X
no_bundle_fault (bundle.NoFile path) is = cc
no_bundle_fault (bundle.Manifest fault) is = cc
no_bundle_fault (bundle.Id bad) is = cc
no_bundle_fault (bundle.Listing error) is = cc
no_bundle_fault (bundle.BadKind path) is = cc
no_bundle_fault bundle.BundleFault is = cc
no_bundle_fault bundle.NoMemory is = cc

refused_fault : {observed : Bool} {source : Source} {e : StoreError} {a b : DirAt} → IsImportRefused observed source e a b → e ≡ store_error.DirFault → Rose a.faults b.faults
refused_fault {observed} {source} {e} (inl x) is = no_bundle_fault x.0 (sym x.1 ∙ is)
refused_fault {observed} {source} {e} (inr x) is = x.2.fault is

pub fault_cause : {observed : Bool} {source : Source} {e : StoreError} {a b : DirAt} (r : Refusal) → IsImportRefused observed source e a b → IsSaidOf e r → r ≡ DirFault → Rose a.faults b.faults
fault_cause {observed} {source} {e} r refused said is = refused_fault refused (said_fault e r said is)

pub printed_allowed : (o : CommandOutcome) (text : List ℕ) → (o ≡ Ok text) ⊎ (o ≡ Err NoMemory) → IfErr o (λ r. image_import_refusal r ≡ true)
printed_allowed o text (inl e) = subst (λ (x : CommandOutcome). IfErr x (λ r. image_import_refusal r ≡ true)) (sym e) tt
printed_allowed o text (inr e) = subst (λ (x : CommandOutcome). IfErr x (λ r. image_import_refusal r ≡ true)) (sym e) refl

abbrev pub is_memory : Refusal → Bool
is_memory NoMemory = true
is_memory r = false

pub printed_no_error : (o : CommandOutcome) (text : List ℕ) (r : Refusal) {X : Type 0} → (o ≡ Ok text) ⊎ (o ≡ Err NoMemory) → IsErrOf o r → is_memory r ≡ false → X
printed_no_error o text r (inl e) is other = let clash : Ok text ≡ Err r = sym e ∙ is in cc
printed_no_error o text r (inr e) is other = let same : Err NoMemory ≡ Err r = sym e ∙ is in let m : NoMemory ≡ r = cc in let clash : true ≡ false = ap is_memory m ∙ other in cc

module _ (observed : Bool) (a b : DirAt) where
  at_begin : (intent : Intent) → Knows a (seen_at_begin intent) → Knows a (seen_importing intent [] false None)
  at_begin intent k = record { tied = k.tied; handles = k.handles }

  -- it keeps the local rules
  leaves_keeps : (draw : PodId) (now : ℕ) (image : BundleImage) (intent : Intent) (hs : List Held) (answer : Result Bool StoreError) → ImportLeaves draw now image intent hs answer a b → KeepsRules b
  leaves_keeps draw now image intent hs (Ok false) l = record { known = _; knows = l.knows; kept = refl }
  leaves_keeps draw now image intent hs (Ok true) l = record { known = _; knows = l.knows; kept = refl }
  leaves_keeps draw now image intent hs (Err e) l = record { known = _; knows = l.knows; kept = refl }

  pub import_keeps : (source : Source) (draw : PodId) (now : ℕ) (answer : Result Imported StoreError) → WhereImporting draw IsAlone false None a (λ intent hs. LeavesAtEnd source draw now intent hs answer a b) →
      (intent : Intent) → IsImport draw intent → Knows a (seen_at_begin intent) → KeepsRules b
  import_keeps source draw now (Ok done) left intent is k = let l = left intent [] is refl (at_begin intent k) in leaves_keeps draw now l.0 intent [] (Ok done.there) l.2
  import_keeps source draw now (Err e) left intent is k =
      let l = left intent [] is refl (at_begin intent k) in
      record { known = seen_importing intent [] l.image_under_lock l.making; knows = l.knows; kept = refl }

  module _ (path : List ℕ) (now : ℕ) (draw : PodId) (before after : BundleSeen) where
    abbrev source : Source
    source = source_of path before

    abbrev Says : CommandOutcome → Type 0
    Says o = ImageImportSays path now draw (beside observed a before) (beside observed b after) o

    abbrev Still : Result Imported StoreError → Type 0
    Still answer = observed ≡ true → MovesAtEnd (building_spot draw) answer a b

    abbrev There : Imported → Type 0
    There done = OfBundle source (λ image. (done.key ≡ key_of_image image) × (done.there ≡ true → observed ≡ true → WasThere (key_of_image image) (digest_of image) a b))

    abbrev Brought : Imported → Type 0
    Brought done = done.there ≡ false → observed ≡ true → IsConforming b.trace → WhereImporting draw IsAlone false None a
        (λ intent hs. OfBundle source (λ image. (done.key ≡ key_of_image image) × IsImported a.process (building_spot draw) (image_spot done.key) (IsOf image now) a.trace b.trace))

    stored : (done : Imported) → There done → Brought done → Still (Ok done) → observed ≡ true → IsConforming b.trace → (intent : Intent) → IsImport draw intent → Knows a (seen_at_begin intent) →
        StoresImage path now draw (beside observed a before) (beside observed b after) (key_line done.key)
    stored done there brought still t conforming intent is k = by done.there refl
      where
        by : (was : Bool) → done.there ≡ was → StoresImage path now draw (beside observed a before) (beside observed b after) (key_line done.key)
        by true at = (there.0, there.1, (ap key_line there.2.0, inl (there.2.1 at t, subst (λ (was : Bool). Moves (building_spot draw) done.key (Ok was) a b) at (still t))))
        by false at =
            let x = brought at t conforming intent [] is refl (at_begin intent k) in
            (x.0, x.1, (ap key_line x.2.0, inr (subst (λ (key : StoreKey). IsImported a.process (building_spot draw) (image_spot key) (IsOf x.0 now) a.trace b.trace) x.2.0 x.2.1)))

    pub printed_says : (done : Imported) (o : CommandOutcome) → (o ≡ Ok (key_line done.key)) ⊎ (o ≡ Err NoMemory) → There done → Brought done → Still (Ok done) → Says o
    printed_says done o (inl e) there brought still = subst Says (sym e) (record {
      key = (there.0, there.1, ap key_line there.2.0);
      stores = λ t conforming intent is k. stored done there brought still t conforming intent is k;
    })
    printed_says done o (inr e) there brought still = subst Says (sym e) tt

    refusal_says : (r : Refusal) → RefusesImage path (beside observed a before) (beside observed b after) r × IsHeldFromImport observed draw r a b → Says (Err r)
    refusal_says NoMemory x = tt
    refusal_says r x = x

    pub refused_says : (e : StoreError) (r : Refusal) → IsSaidOf e r → IsImportRefused observed source e a b → RefusalComesInTurn observed source e a b → Still (Err e) → (observed ≡ true → WhereImporting draw IsAlone false None a (λ intent hs. ImportBusyElsewhere e a b)) → Says (Err r)
    refused_says e r (inr is) refused turn still another = subst (λ (x : Refusal). Says (Err x)) (sym is) tt
    refused_says e r (inl is) refused turn still another = refusal_says r (
      record { error = e; is = is; cause = refused; turn = turn; still = still },
      λ area busy t intent import k. another t intent [] import refl (at_begin intent k) area (busy_of e area (sym is ∙ busy)),
    )
