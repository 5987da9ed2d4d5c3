-- What the folder that was built comes to, with what stands in images.
use Rattle.std.proofs.Common.{◌≡◌, ◌==◌, bytes_eq, Bool, true, false, Option, refl, Result, Ok, Err, List, ℕ, ap, take}
use Rattle.std.specs.List.{list_any}
use Rattle.dir_model.specs.declared.area.Area.TheVariants.{Images}
use Rattle.dir_model.specs.declared.intent.Intent.{Intent}
use Rattle.dir_model.specs.declared.spot.Spot.{Spot}
use Rattle.dir_model.specs.declared.request.Request.{Request}
use Rattle.dir_model.specs.declared.request.Request.TheVariants.{ReadIn, ListIn}
use Rattle.dir_model.specs.Areas.{rank}
use Rattle.dir_model.specs.Paths.{is_empty}
use Rattle.dir_model.specs.State.{spot_eq}
use Rattle.dir_model.proofs.Lists.{and_left, and_right}
use Rattle.dir_rules.specs.declared.standing.Held.{Held}
use Rattle.dir_rules.specs.declared.seen.Making.{Making}
use Rattle.dir_rules.specs.Standing.{is_gate_shared}
use Rattle.dir_trait.specs.DirCalls.{DirAt}
use Rattle.dir_trait.specs.Effects.{OnlyAsks}
use Rattle.dir_files.specs.Reads.{may_read}
use Rattle.ac_types.specs.declared.store_key.StoreKey.{StoreKey}
use Rattle.bundle_image.specs.declared.image.BundleImage.{BundleImage}
use Rattle.dir_model.proofs.Chains.{extends_wider}
use Rattle.image_reading.specs.declared.error.StoreError.{StoreError}
use Rattle.image_reading.specs.Places.{image_spot}
use Rattle.image_reading.specs.Looks.{reads_image, OnlyReadsImage}
use Rattle.image_store.specs.Requests.{imports_at}
use Rattle.image_store.specs.Work.{seen_importing, Unbrought}
use Rattle.image_store.specs.Imports.{key_of_image}

-- looks at images are among an import's requests
reads_import : (spot : Spot) (key : StoreKey) (request : Request) → reads_image key request ≡ true → imports_at spot request ≡ true
reads_import spot key (ReadIn inner at room) is = let h = and_left (rank inner.spot.area == rank Images) (bytes_eq inner.spot.name (image_spot key).name) is in rw h refl
reads_import spot key (ListIn inner) is =
    let a = and_left (spot_eq inner.spot (image_spot key)) (is_empty inner.path) is in
    let b = and_right (spot_eq inner.spot (image_spot key)) (is_empty inner.path) is in
    let h = and_left (rank inner.spot.area == rank Images) (bytes_eq inner.spot.name (image_spot key).name) a in
    rw (h, b) refl
reads_import spot key request is = cc

pub worked_reads : {observed : Bool} (spot : Spot) (key : StoreKey) {old new : DirAt} → OnlyReadsImage observed key old new → OnlyAsks observed (imports_at spot) old new
worked_reads {observed} spot key r = record { same = r.same; faults = r.faults; local = r.local; extends = λ t. extends_wider (reads_import spot key) (r.extends t) }

-- under the lock of images it may read there
pub may_read_there : (intent : Intent) (hs : List Held) (image_under_lock : Bool) (making : Option Making) → list_any (is_gate_shared Images) hs ≡ true → may_read Images (seen_importing intent hs image_under_lock making).standing ≡ true
may_read_there intent hs image_under_lock making images = rw images refl

pub unbrought_any : (r : Result Bool StoreError) (Left : Type 0) → Left → Unbrought r Left
unbrought_any (Ok false) Left left = tt
unbrought_any (Ok true) Left left = left
unbrought_any (Err e) Left left = left

pub same_key : (key : StoreKey) (image : BundleImage) → key.bytes ≡ take 32 image.id.bytes → key ≡ key_of_image image
same_key key image is = ap (λ (b : List ℕ). let k : StoreKey = record { bytes = b } in k) is
