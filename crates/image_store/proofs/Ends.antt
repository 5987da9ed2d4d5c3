-- What an import comes to, once its bundle was read.
use Rattle.std.proofs.Common.{◌≡◌, ◌⊎◌, inl, inr, ℕ, Bool, true, false, Some, Result, Ok, Err, List, refl, sym, subst}
use Rattle.ac_types.specs.declared.store_key.StoreKey.{StoreKey}
use Rattle.dir_model.specs.declared.intent.Intent.{Intent}
use Rattle.dir_model.specs.declared.pod.PodId.{PodId}
use Rattle.dir_rules.specs.declared.standing.Held.{Held}
use Rattle.dir_trait.specs.Bundles.{BundleTree, bytes_of_node, child_path}
use Rattle.dir_trait.specs.DirCalls.{DirAt}
use Rattle.lifecycle.specs.Executions.{IsConforming}
use Rattle.path_map.specs.declared.entry.Entry.{Entry}
use Rattle.path_map.specs.declared.entry.Entry.TheVariants.{File}
use Rattle.tree_digest.specs.declared.line.ListingLine.{ListingLine}
use Rattle.bundle_image.specs.declared.image.BundleImage.{BundleImage}
use Rattle.image_reading.specs.declared.error.StoreError.{StoreError}
use Rattle.image_reading.specs.Places.{image_spot}
use Rattle.image_store.specs.Requests.{building_spot}
use Rattle.image_store.specs.Work.{HasImportFolder}
use Rattle.image_store.specs.Causes.{bundle_source_at, DamagedInTurn, FindsLackingPart, UnlikeListed, IsUnlikeEntry, ImportCause}
use Rattle.image_store.specs.Imports.{key_of_image, IsOf, ImportLeaves, IsImported}
use Rattle.image_store.proofs.Outcomes.{imported_by}

-- the tree of the bundle is as it was before it was read
module _ {told : Bool} {a b : BundleTree} (same : told ≡ true → b ≡ a) where
  unlike_before : (root path : List ℕ) (e : Entry) → IsUnlikeEntry (bundle_source_at told b root) path e → IsUnlikeEntry (bundle_source_at told a root) path e
  unlike_before root path (File meta size sha) x = λ t bytes is. x t bytes (subst (λ (tree : BundleTree). bytes_of_node (tree (child_path root path)) ≡ Some bytes) (sym (same t)) is)
  unlike_before root path e x = x

  listed_before : {root path : List ℕ} {lines : List ListingLine} → UnlikeListed (bundle_source_at told b root) lines path → UnlikeListed (bundle_source_at told a root) lines path
  listed_before {root} {path} x = record { before = x.before; line = x.line; rest = x.rest; is = x.is; from = x.from; unlike = unlike_before root path x.line.entry x.unlike }

  damage_before : {root path : List ℕ} {lines : List ListingLine} {observed : Bool} {key : StoreKey} {old new : DirAt} → FindsLackingPart observed key path old new ⊎ UnlikeListed (bundle_source_at told b root) lines path → FindsLackingPart observed key path old new ⊎ UnlikeListed (bundle_source_at told a root) lines path
  damage_before (inl lacks) = inl lacks
  damage_before (inr x) = inr (listed_before x)

  pub turn_before_reads : {root path : List ℕ} {lines : List ListingLine} {observed : Bool} {key : StoreKey} {old new : DirAt} → DamagedInTurn observed (bundle_source_at told b root) key lines path old new → DamagedInTurn observed (bundle_source_at told a root) key lines path old new
  turn_before_reads (inl lacks) = inl lacks
  turn_before_reads (inr x) = inr (listed_before x.0, x.1)

  pub cause_before_reads : {may : StoreError → Bool} {observed : Bool} {root : List ℕ} {key : StoreKey} {digest : List ℕ} {lines : List ListingLine} {e : StoreError} {old new : DirAt}
      → ImportCause may observed (bundle_source_at told b root) key digest lines e old new → ImportCause may observed (bundle_source_at told a root) key digest lines e old new
  cause_before_reads x = record { kind = x.kind; fault = x.fault; busy = x.busy; damaged = λ path is. damage_before (x.damaged path is); conflict = x.conflict; stray = x.stray }

-- a refused import leaves at most its own folder
pub refused_leaves : (draw : PodId) (now : ℕ) (image : BundleImage) (intent : Intent) (hs : List Held) (old new : DirAt) (r : Result Bool StoreError) (e : StoreError) → r ≡ Err e → ImportLeaves draw now image intent hs r old new → HasImportFolder draw intent hs new
refused_leaves draw now image intent hs old new r e is x = subst (λ (q : Result Bool StoreError). ImportLeaves draw now image intent hs q old new) is x

-- what was brought stands there just after the move, where the execution conforms
pub brought_is_imported : (draw : PodId) (now : ℕ) (image : BundleImage) (intent : Intent) (hs : List Held) (old new : DirAt) (key : StoreKey) (there : Bool) → there ≡ false → key ≡ key_of_image image → IsConforming new.trace
    → ImportLeaves draw now image intent hs (Ok there) old new → IsImported old.process (building_spot draw) (image_spot key) (IsOf image now) old.trace new.trace
brought_is_imported draw now image intent hs old new key there fresh is conforms x =
    let b = subst (λ (q : Bool). ImportLeaves draw now image intent hs (Ok q) old new) fresh x in
    subst (λ (k : StoreKey). IsImported old.process (building_spot draw) (image_spot k) (IsOf image now) old.trace new.trace) (sym is) (imported_by draw refl conforms b.moved)
