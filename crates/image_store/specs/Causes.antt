-- Why an import is refused.
use Rattle.std.specs.Prelude.{◌≡◌, ◌≢◌, ◌⊎◌, ℕ, Bool, true, false, List, ◌∷◌, ◌++◌, codes, Some, length}
use Rattle.sha2.specs.Sha512.{sha512}
use Rattle.ac_types.specs.declared.store_key.StoreKey.{StoreKey}
use Rattle.dir_model.specs.declared.area.Area.{Area}
use Rattle.dir_model.specs.declared.area.Area.TheVariants.{Incoming}
use Rattle.dir_model.specs.declared.spot.Handle.{Handle}
use Rattle.dir_model.specs.declared.spot.Mode.TheVariants.{Shared}
use Rattle.dir_model.specs.declared.request.DirError.TheVariants.{Exists}
use Rattle.dir_model.specs.declared.request.Request.{Request}
use Rattle.dir_model.specs.declared.request.Request.TheVariants.{MoveFolder}
use Rattle.dir_model.specs.declared.request.Reply.{Reply}
use Rattle.dir_model.specs.declared.request.Reply.TheVariants.{Refused}
use Rattle.dir_model.specs.Causes.{Rose}
use Rattle.dir_model.specs.Local.{Local}
use Rattle.dir_model.specs.State.{spot_eq}
use Rattle.dir_model.specs.Calls.{CallStep}
use Rattle.dir_trait.specs.Bundles.{BundleTree, bytes_of_node, child_path}
use Rattle.dir_trait.specs.DirCalls.{DirAt, ExtendsBy, HeldBetween}
use Rattle.path_map.specs.declared.entry.Entry.TheVariants.{File}
use Rattle.path_map.specs.declared.entry.Entry.{Entry}
use Rattle.tree_digest.specs.declared.line.ListingLine.{ListingLine}
use Rattle.folder_building.specs.declared.plan.PlanEntry.{PlanEntry}
use Rattle.folder_building.specs.declared.plan.Content.{Content}
use Rattle.folder_building.specs.declared.plan.Content.TheVariants.{Copied}
use Rattle.dir_files.specs.AreaLocks.{IsBusy, IsBusyElsewhere, and_area_lock}
use Rattle.image_reading.specs.declared.error.StoreError.{StoreError}
use Rattle.image_reading.specs.declared.error.StoreError.TheVariants.{Busy, Damaged, IdConflict, DirFault, Stray}
use Rattle.image_reading.specs.Places.{image_spot, tree_name, IsImageAbsent, IsPresent}
use Rattle.image_reading.specs.Within.{Within}
use Rattle.image_reading.specs.Looks.{reads_image}
use Rattle.image_reading.specs.Files.{LacksTree}
use Rattle.image_reading.specs.Images.{ReadsDigest, LacksInTurn}
use Rattle.image_store.specs.Refusals.{is_import_lock_refusal, is_look_refusal, is_change_refusal, is_fill_refusal, is_place_refusal}
use Rattle.image_store.specs.Plans.{origin_of}
use Rattle.image_store.specs.Requests.{is_stray_import}

-- a lock isn't had: some handle held it exclusively at an own step
pub record LockCause (observed : Bool) (area : Area) (error : StoreError) (old new : DirAt) : Type 0 where
  pub kind : is_import_lock_refusal area error ≡ true
  pub fault : error ≡ DirFault → Rose old.faults new.faults
  pub busy : (here : Area) → error ≡ Busy here → observed ≡ true → HeldBetween old new (IsBusy here Shared)

-- where the lock of an area was refused, a handle of another process held it
abbrev pub ImportBusyElsewhere : StoreError → DirAt → DirAt → Type 0
ImportBusyElsewhere error old new = (area : Area) → error ≡ Busy area → HeldBetween old new (IsBusyElsewhere old.process area Shared)

-- an image with this key and this digest was there
abbrev pub WasThere : StoreKey → List ℕ → DirAt → DirAt → Type 0
WasThere key digest old new = Within (ReadsDigest key digest) old new

-- an image with this key was there, and its digest isn't the new one's
pub record Conflicts (observed : Bool) (key other : StoreKey) (digest stored new_digest : List ℕ) (old new : DirAt) : Type 0 where
  pub key_is : other ≡ key
  pub new_is : new_digest ≡ digest
  pub differ : stored ≢ digest
  pub there : observed ≡ true → WasThere key stored old new

-- a folder of the image stood there, and the path is of the first of its files that is missing or has no reading
abbrev pub LacksThere : StoreKey → List ℕ → DirAt → DirAt → Type 0
LacksThere key path old new = HeldBetween old new (IsPresent key) × LacksInTurn key tree_name (LacksTree key) path old new

abbrev pub FindsLackingPart : Bool → StoreKey → List ℕ → DirAt → DirAt → Type 0
FindsLackingPart observed key path old new = observed ≡ true → Within (LacksThere key path) old new

-- the image that stands there is damaged, or is another
pub record LookCause (observed : Bool) (key : StoreKey) (digest : List ℕ) (error : StoreError) (old new : DirAt) : Type 0 where
  pub kind : is_look_refusal error ≡ true
  pub fault : error ≡ DirFault → Rose old.faults new.faults
  pub damaged : (path : List ℕ) → error ≡ Damaged path → FindsLackingPart observed key path old new
  pub conflict : (other : StoreKey) (stored fresh : List ℕ) → error ≡ IdConflict other stored fresh → Conflicts observed key other digest stored fresh old new

-- a reply of this kind came
pub record WasLastAnswered (is : Request → Reply → Bool) (old new : DirAt) : Type 0 where
  pub request : Request
  pub reply : Reply
  pub so : is request reply ≡ true
  pub step : CallStep old.process old.trace request reply new.trace

abbrev pub WasStrayImport : DirAt → DirAt → Type 0
WasStrayImport old new = Within (WasLastAnswered is_stray_import) old new

-- the folder wasn't made or moved
pub record ChangeCause (observed : Bool) (error : StoreError) (old new : DirAt) : Type 0 where
  pub kind : is_change_refusal error ≡ true
  pub fault : error ≡ DirFault → Rose old.faults new.faults
  pub stray : error ≡ Stray → observed ≡ true → WasStrayImport old new

-- the bundle whose image is imported: whether it tells what stands in it, that, and its path
pub record Source : Type 0 where
  pub told : Bool
  pub tree : BundleTree
  pub root : List ℕ

abbrev pub bundle_source_at : Bool → BundleTree → List ℕ → Source
bundle_source_at told tree root = record { told = told; tree = tree; root = root }

-- the bundle has no file with this size and SHA-512 at the path
abbrev pub IsUnlikeFile : Source → List ℕ → ℕ → List ℕ → Type 0
IsUnlikeFile source path size sha = source.told ≡ true → (bytes : List ℕ) → bytes_of_node (source.tree (child_path source.root path)) ≡ Some bytes → length bytes ≡ size → sha512 bytes ≡ sha → ⊥

abbrev pub IsUnlikeContent : Source → Content → Type 0
IsUnlikeContent source (Copied origin size sha) = IsUnlikeFile source origin.path size sha
IsUnlikeContent source content = ⊥

-- a file that the plan copies from this path isn't what it asks for
pub record UnlikePlanned (source : Source) (plan : List PlanEntry) (path : List ℕ) : Type 0 where
  pub before : List PlanEntry
  pub entry : PlanEntry
  pub rest : List PlanEntry
  pub is : plan ≡ before ++ entry ∷ rest
  pub from : path ≡ origin_of entry
  pub unlike : IsUnlikeContent source entry.content

-- the folder wasn't filled by the plan. That the bundle failed is said of its own count
pub record FillCause (observed : Bool) (source : Source) (plan : List PlanEntry) (error : StoreError) (old new : DirAt) : Type 0 where
  pub kind : is_fill_refusal error ≡ true
  pub fault : error ≡ DirFault → Rose old.faults new.faults
  pub damaged : (path : List ℕ) → error ≡ Damaged path → UnlikePlanned source plan path
  pub stray : error ≡ Stray → observed ≡ true → WasStrayImport old new

abbrev pub IsUnlikeEntry : Source → List ℕ → Entry → Type 0
IsUnlikeEntry source path (File meta size sha) = IsUnlikeFile source path size sha
IsUnlikeEntry source path entry = ⊥

-- a file of the listing isn't what its line says
pub record UnlikeListed (source : Source) (lines : List ListingLine) (path : List ℕ) : Type 0 where
  pub before : List ListingLine
  pub line : ListingLine
  pub rest : List ListingLine
  pub is : lines ≡ before ++ line ∷ rest
  pub from : path ≡ codes "rootfs" ++ line.path
  pub unlike : IsUnlikeEntry source path line.entry

-- nor by the listing
pub record BuildCause (observed : Bool) (source : Source) (lines : List ListingLine) (error : StoreError) (old new : DirAt) : Type 0 where
  pub kind : is_fill_refusal error ≡ true
  pub fault : error ≡ DirFault → Rose old.faults new.faults
  pub damaged : (path : List ℕ) → error ≡ Damaged path → UnlikeListed source lines path
  pub stray : error ≡ Stray → observed ≡ true → WasStrayImport old new

-- the move into images was refused since a folder stood there
abbrev pub is_refused_move : StoreKey → Request → Reply → Bool
is_refused_move key (MoveFolder from to) (Refused Exists left) = spot_eq to (image_spot key)
is_refused_move key request reply = false

abbrev pub KeyWasTaken : StoreKey → DirAt → DirAt → Type 0
KeyWasTaken key old new = WasLastAnswered (is_refused_move key) old new

-- where an image stood, it is damaged, another, or gone
pub record CompareCause (observed : Bool) (key : StoreKey) (digest : List ℕ) (error : StoreError) (old new : DirAt) : Type 0 where
  pub kind : is_place_refusal error ≡ true
  pub fault : error ≡ DirFault → Rose old.faults new.faults
  pub damaged : (path : List ℕ) → error ≡ Damaged path → FindsLackingPart observed key path old new
  pub conflict : (other : StoreKey) (stored fresh : List ℕ) → error ≡ IdConflict other stored fresh → Conflicts observed key other digest stored fresh old new
  pub gone : error ≡ Stray → observed ≡ true → HeldBetween old new (IsImageAbsent key)

-- the move was refused so, it asked for nothing more than reads of that image, and then no folder stood there
pub record Vanishes (key : StoreKey) (old new : DirAt) : Type 0 where
  pub between : DirAt
  pub same : between.process ≡ old.process
  pub taken : KeyWasTaken key old between
  pub reads : ExtendsBy (reads_image key) between new
  pub gone : HeldBetween between new (IsImageAbsent key)

abbrev pub Vanished : StoreKey → DirAt → DirAt → Type 0
Vanished key old new = Within (Vanishes key) old new

-- an answer came that the process's own folder doesn't explain, or the image vanished
abbrev pub StrayCause : StoreKey → DirAt → DirAt → Type 0
StrayCause key old new = WasStrayImport old new ⊎ Vanished key old new

-- what comes only once no image with this key was found there
abbrev pub is_late : StoreError → Bool
is_late (Busy Incoming) = true
is_late Stray = true
is_late error = false

-- an own handle has just got the lock of incoming
abbrev pub GotIncoming : DirAt → Type 0
GotIncoming now = (before : Local) × (gate : Handle) × (now.local ≡ and_area_lock before gate Incoming Shared)

abbrev pub HadIncoming : DirAt → DirAt → Type 0
HadIncoming old new = Within (λ first last. GotIncoming first) old new

-- no image with this key was found there, and the lock of incoming was had
pub record IsMaking (observed : Bool) (key : StoreKey) (old new : DirAt) : Type 0 where
  pub absent : observed ≡ true → HeldBetween old new (IsImageAbsent key)
  pub locked : observed ≡ true → HadIncoming old new

-- and what is damaged is told in its turn: a part of an image that stood there; or, only once none was found there and under the lock
-- of incoming, a file of the bundle
abbrev pub DamagedInTurn : Bool → Source → StoreKey → List ListingLine → List ℕ → DirAt → DirAt → Type 0
DamagedInTurn observed source key lines path old new =
    FindsLackingPart observed key path old new ⊎ (UnlikeListed source lines path × IsMaking observed key old new)

pub record FoundInTurn (observed : Bool) (source : Source) (key : StoreKey) (lines : List ListingLine) (error : StoreError) (old new : DirAt) : Type 0 where
  pub late : is_late error ≡ true → observed ≡ true → HeldBetween old new (IsImageAbsent key)
  pub damaged : (path : List ℕ) → error ≡ Damaged path → DamagedInTurn observed source key lines path old new

-- the folder didn't come into images
pub record PlaceCause (observed : Bool) (key : StoreKey) (digest : List ℕ) (error : StoreError) (old new : DirAt) : Type 0 where
  pub kind : is_place_refusal error ≡ true
  pub fault : error ≡ DirFault → Rose old.faults new.faults
  pub damaged : (path : List ℕ) → error ≡ Damaged path → FindsLackingPart observed key path old new
  pub conflict : (other : StoreKey) (stored fresh : List ℕ) → error ≡ IdConflict other stored fresh → Conflicts observed key other digest stored fresh old new
  pub stray : error ≡ Stray → observed ≡ true → StrayCause key old new

-- once the bundle was read, an import is refused for one of these causes
pub record ImportCause (may : StoreError → Bool) (observed : Bool) (source : Source) (key : StoreKey) (digest : List ℕ) (lines : List ListingLine) (error : StoreError) (old new : DirAt) : Type 0 where
  pub kind : may error ≡ true
  pub fault : error ≡ DirFault → Rose old.faults new.faults
  pub busy : (area : Area) → error ≡ Busy area → observed ≡ true → HeldBetween old new (IsBusy area Shared)
  pub damaged : (path : List ℕ) → error ≡ Damaged path → FindsLackingPart observed key path old new ⊎ UnlikeListed source lines path
  pub conflict : (other : StoreKey) (stored fresh : List ℕ) → error ≡ IdConflict other stored fresh → Conflicts observed key other digest stored fresh old new
  pub stray : error ≡ Stray → observed ≡ true → StrayCause key old new
