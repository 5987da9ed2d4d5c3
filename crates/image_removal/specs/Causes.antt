-- Why an image isn't removed, or a sweep ends early.
use Rattle.std.specs.Prelude.{◌≡◌, ◌⊎◌, ℕ, Bool, true, false, List, Result, Ok, Err}
use Rattle.ac_types.specs.declared.store_key.StoreKey.{StoreKey}
use Rattle.dir_model.specs.declared.area.Area.{Area}
use Rattle.dir_model.specs.declared.area.Area.TheVariants.{Images}
use Rattle.dir_model.specs.declared.event.Event.{Event}
use Rattle.dir_model.specs.declared.pod.PodId.{PodId}
use Rattle.dir_model.specs.declared.spot.Mode.TheVariants.{Exclusive}
use Rattle.dir_model.specs.declared.request.DirError.{DirError}
use Rattle.dir_model.specs.declared.request.DirError.TheVariants as dir
use Rattle.dir_model.specs.declared.request.Reply.{Reply}
use Rattle.dir_model.specs.declared.request.Reply.TheVariants.{Done, Refused}
use Rattle.dir_model.specs.declared.request.Request.{Request}
use Rattle.dir_model.specs.declared.request.Request.TheVariants.{ListIn}
use Rattle.dir_model.specs.Causes.{Rose}
use Rattle.dir_model.specs.Calls.{CallStep, Extends, AtOwnStep}
use Rattle.dir_rules.specs.Rules.{root_of}
use Rattle.dir_trait.specs.DirCalls.{DirAt, HeldBetween, ExtendsBy}
use Rattle.dir_files.specs.declared.lock_error.LockError.{LockError}
use Rattle.dir_files.specs.declared.lock_error.LockError.TheVariants as lock
use Rattle.dir_files.specs.AreaLocks.{is_taking_area, IsBusy, IsBusyElsewhere}
use Rattle.folder_removal.specs.declared.error.DeleteError.{DeleteError}
use Rattle.folder_removal.specs.declared.error.DeleteError.TheVariants as delete
use Rattle.folder_removal.specs.Removal.{WentUnremoved}
use Rattle.image_reading.specs.declared.error.StoreError.{StoreError}
use Rattle.image_reading.specs.declared.error.StoreError.TheVariants.{Busy, NoImage, DirFault, NoMemory, Stray}
use Rattle.image_reading.specs.Places.{IsImageAbsent}
use Rattle.image_removal.specs.Requests.{puts_away, is_stray_removal}
use Rattle.image_removal.specs.Calls.{WasCalled}

-- the refusals of lower calls
abbrev pub lock_refusal : Area → LockError → StoreError
lock_refusal area lock.Busy = Busy area
lock_refusal area lock.DirFault = DirFault
lock_refusal area lock.NoMemory = NoMemory

-- where the lock of removed is busy, nothing is refused
abbrev pub lock_free : LockError → Result (Unit {0}) StoreError
lock_free lock.Busy = Ok tt
lock_free lock.DirFault = Err DirFault
lock_free lock.NoMemory = Err NoMemory

abbrev pub change_refusal : DirError → StoreError
change_refusal dir.Failed = DirFault
change_refusal dir.NoMemory = NoMemory
change_refusal error = Stray

-- of a look at a folder: whether one stands there
abbrev pub look_answer : DirError → Result Bool StoreError
look_answer dir.Missing = Ok false
look_answer error = Err (change_refusal error)

-- of the move of an image
abbrev pub move_refusal : StoreKey → DirError → StoreError
move_refusal key dir.Missing = NoImage key
move_refusal key error = change_refusal error

abbrev pub delete_refusal : DeleteError → StoreError
delete_refusal delete.DirFault = DirFault
delete_refusal delete.Stray = Stray
delete_refusal delete.NoMemory = NoMemory

-- the refusals of work in a folder under its lock
abbrev pub is_removal_work_refusal : StoreError → Bool
is_removal_work_refusal DirFault = true
is_removal_work_refusal NoMemory = true
is_removal_work_refusal Stray = true
is_removal_work_refusal error = false

-- of a lock or a line that wasn't had
abbrev pub is_fault_refusal : StoreError → Bool
is_fault_refusal DirFault = true
is_fault_refusal NoMemory = true
is_fault_refusal error = false

-- of an image's move
abbrev pub is_move_refusal : StoreError → Bool
is_move_refusal (NoImage key) = true
is_move_refusal error = is_removal_work_refusal error

abbrev pub is_remove_refusal : StoreError → Bool
is_remove_refusal (Busy area) = true
is_remove_refusal error = is_move_refusal error

-- where it was a listing of what was missing, it was one of the folder itself, or of a directory that a listing had shown and that
-- this process hadn't asked to be removed since
abbrev pub IsMissedListingDue : Request → Reply → ℕ → List Event → List Event → Type 0
IsMissedListingDue (ListIn inner) (Refused dir.Missing left) me old new = (inner ≡ root_of inner.spot) ⊎ WentUnremoved inner me old new
IsMissedListingDue request reply me old new = Unit {0}

-- an own step was answered as what the locks keep doesn't explain
pub record WasStrayRemoval (me : ℕ) (old new : List Event) : Type 0 where
  pub request : Request
  pub reply : Reply
  pub stray : is_stray_removal request reply ≡ true
  pub due : IsMissedListingDue request reply me old new
  pub called : WasCalled request reply me old new

abbrev pub WasStrayRemovalBetween : DirAt → DirAt → Type 0
WasStrayRemovalBetween old new = WasStrayRemoval old.process old.trace new.trace

-- why the work in a folder ended early
pub record RemovalWorkCause (observed : Bool) (error : StoreError) (old new : DirAt) : Type 0 where
  pub kind : is_removal_work_refusal error ≡ true
  pub fault : error ≡ DirFault → Rose old.faults new.faults
  pub stray : error ≡ Stray → observed ≡ true → WasStrayRemovalBetween old new

-- its own move was answered that nothing stands there, and nothing did
pub record WasTold (key : StoreKey) (draw : PodId) (me : ℕ) (old new : List Event) : Type 0 where
  pub told : CallStep me old (puts_away key draw) (Refused dir.Missing 0) new
  pub absent : AtOwnStep me old new (IsImageAbsent key)

-- its own move met another folder
abbrev pub MetAnother : StoreKey → PodId → ℕ → List Event → List Event → Type 0
MetAnother key draw me old new = WasCalled (puts_away key draw) (Refused dir.Exists 0) me old new

-- or the move was answered Ok, and a step after it so
pub record MovedThenStray (key : StoreKey) (draw : PodId) (me : ℕ) (old new : List Event) : Type 0 where
  pub between : List Event
  pub moved : WasCalled (puts_away key draw) Done me old between
  pub stray : WasStrayRemoval me between new

abbrev pub StrayRemoval : StoreKey → PodId → ℕ → List Event → List Event → Type 0
StrayRemoval key draw me old new = MetAnother key draw me old new ⊎ MovedThenStray key draw me old new

-- why an image wasn't moved
pub record MoveCause (observed : Bool) (key : StoreKey) (draw : PodId) (error : StoreError) (old new : DirAt) : Type 0 where
  pub kind : is_move_refusal error ≡ true
  pub fault : error ≡ DirFault → Rose old.faults new.faults
  pub absent : (other : StoreKey) → error ≡ NoImage other → (other ≡ key) × (observed ≡ true → WasTold key draw old.process old.trace new.trace)
  pub stray : error ≡ Stray → observed ≡ true → MetAnother key draw old.process old.trace new.trace

-- some handle held the lock of images at an own step, and nothing but that lock was asked for
pub record WasBusy (old new : DirAt) : Type 0 where
  pub busy : HeldBetween old new (IsBusy Images Exclusive)
  pub only : ExtendsBy (is_taking_area Images Exclusive) old new

-- under the lock of images, which was all that it had asked for before, it was told so; then it only gave that lock up
pub record FoundNoImage (key : StoreKey) (draw : PodId) (me : ℕ) (old new : List Event) : Type 0 where
  pub before : List Event
  pub after : List Event
  pub first : Extends (is_taking_area Images Exclusive) me old before
  pub told : WasTold key draw me before after
  pub last : Extends (is_taking_area Images Exclusive) me after new

abbrev pub FoundNoneBetween : StoreKey → PodId → DirAt → DirAt → Type 0
FoundNoneBetween key draw old new = FoundNoImage key draw old.process old.trace new.trace

-- why an image wasn't removed
pub record ImageRemovalCause (observed : Bool) (key : StoreKey) (draw : PodId) (error : StoreError) (old new : DirAt) : Type 0 where
  pub kind : is_remove_refusal error ≡ true
  pub fault : error ≡ DirFault → Rose old.faults new.faults
  pub busy : (area : Area) → error ≡ Busy area → (area ≡ Images) × (observed ≡ true → WasBusy old new)
  pub absent : (other : StoreKey) → error ≡ NoImage other → (other ≡ key) × (observed ≡ true → FoundNoneBetween key draw old new)
  pub stray : error ≡ Stray → observed ≡ true → StrayRemoval key draw old.process old.trace new.trace

-- where the lock of an area was refused, a handle of another process held it
abbrev pub RemovalBusyElsewhere : StoreError → DirAt → DirAt → Type 0
RemovalBusyElsewhere error old new = (area : Area) → error ≡ Busy area → HeldBetween old new (IsBusyElsewhere old.process area Exclusive)
