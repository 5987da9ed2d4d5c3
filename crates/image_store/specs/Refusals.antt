-- The refusals of lower calls, and those that each part of an import may have.
use Rattle.std.specs.Prelude.{Bool, true, false, Result, Ok, Err}
use Rattle.dir_rules.specs.Standing.{is_in}
use Rattle.dir_model.specs.declared.area.Area.{Area}
use Rattle.dir_model.specs.declared.area.Area.TheVariants.{Images, Incoming}
use Rattle.dir_model.specs.declared.request.DirError.{DirError}
use Rattle.dir_model.specs.declared.request.DirError.TheVariants.{Failed, Exists}
use Rattle.dir_model.specs.declared.request.DirError.TheVariants as dir
use Rattle.dir_files.specs.declared.lock_error.LockError.{LockError}
use Rattle.dir_files.specs.declared.lock_error.LockError.TheVariants as lock
use Rattle.bundle_image.specs.declared.refusal.BundleRefusal.{BundleRefusal}
use Rattle.bundle_image.specs.declared.refusal.BundleRefusal.TheVariants as bundle
use Rattle.image_reading.specs.declared.error.StoreError.{StoreError}
use Rattle.image_reading.specs.declared.error.StoreError.TheVariants.{NoFile, Fault, BadId, ListingError, BadKind, Busy, Damaged, IdConflict, BundleFault, DirFault, NoMemory, Stray}

abbrev pub bundle_refusal : BundleRefusal → StoreError
bundle_refusal (bundle.NoFile path) = NoFile path
bundle_refusal (bundle.Manifest fault) = Fault fault
bundle_refusal (bundle.Id bad) = BadId
bundle_refusal (bundle.Listing error) = ListingError error
bundle_refusal (bundle.BadKind path) = BadKind path
bundle_refusal bundle.BundleFault = BundleFault
bundle_refusal bundle.NoMemory = NoMemory

abbrev pub lock_refusal : Area → LockError → StoreError
lock_refusal area lock.Busy = Busy area
lock_refusal area lock.DirFault = DirFault
lock_refusal area lock.NoMemory = NoMemory

-- the directory refused a make or a move
abbrev pub change_refusal : DirError → StoreError
change_refusal Failed = DirFault
change_refusal dir.NoMemory = NoMemory
change_refusal error = Stray

-- what a refused move into images comes to: whether another folder stands there
abbrev pub move_answer : DirError → Result Bool StoreError
move_answer Exists = Ok true
move_answer error = Err (change_refusal error)

-- the refusals that each part of an import may have
abbrev pub is_import_lock_refusal : Area → StoreError → Bool
is_import_lock_refusal area (Busy here) = is_in area here
is_import_lock_refusal area DirFault = true
is_import_lock_refusal area NoMemory = true
is_import_lock_refusal area error = false

abbrev pub is_look_refusal : StoreError → Bool
is_look_refusal (Damaged path) = true
is_look_refusal (IdConflict key stored fresh) = true
is_look_refusal DirFault = true
is_look_refusal NoMemory = true
is_look_refusal error = false

abbrev pub is_change_refusal : StoreError → Bool
is_change_refusal DirFault = true
is_change_refusal NoMemory = true
is_change_refusal Stray = true
is_change_refusal error = false

abbrev pub is_fill_refusal : StoreError → Bool
is_fill_refusal (Damaged path) = true
is_fill_refusal BundleFault = true
is_fill_refusal error = is_change_refusal error

abbrev pub is_place_refusal : StoreError → Bool
is_place_refusal Stray = true
is_place_refusal error = is_look_refusal error

abbrev pub is_import_work_refusal : StoreError → Bool
is_import_work_refusal BundleFault = true
is_import_work_refusal error = is_place_refusal error

-- the areas whose locks an import takes
abbrev pub is_import_area : Area → Bool
is_import_area Images = true
is_import_area Incoming = true
is_import_area area = false

abbrev pub is_import_refusal : StoreError → Bool
is_import_refusal (Busy area) = is_import_area area
is_import_refusal error = is_import_work_refusal error
