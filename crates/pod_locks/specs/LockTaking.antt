-- The calls by which the lock of a folder is taken exclusively.
use Rattle.std.specs.Prelude.{◌≡◌, ◌⊎◌, Bool, true, Result, Ok, Err}
use Rattle.dir_model.specs.declared.request.DirError.{DirError}
use Rattle.dir_model.specs.declared.request.DirError.TheVariants.{Failed}
use Rattle.dir_model.specs.declared.request.Request.TheVariants.{Open, TryLock, Close}
use Rattle.dir_model.specs.declared.request.Reply.TheVariants.{Done, Opened, Refused}
use Rattle.dir_model.specs.declared.spot.Handle.{Handle}
use Rattle.dir_model.specs.declared.spot.Mode.TheVariants.{Exclusive}
use Rattle.dir_model.specs.declared.spot.Spot.{Spot}
use Rattle.dir_model.specs.declared.spot.Which.{Which}
use Rattle.dir_model.specs.Causes.{Rose}
use Rattle.dir_model.specs.Local.{IsUnopened}
use Rattle.dir_model.specs.Replies.{may_refuse}
use Rattle.dir_trait.specs.DirCalls.{DirAt, DirCall}
use Rattle.pod_locks.specs.declared.setback.Setback.{Setback}
use Rattle.pod_locks.specs.Setbacks.{step_setback_of, step_lock_setback}

-- it was opened, and had
pub record WasTaken (observed : Bool) (spot : Spot) (which : Which) (handle : Handle) (old new : DirAt) : Type 0 where
  pub between : DirAt
  pub unopened : IsUnopened old.local handle
  pub opened : DirCall observed old (Open spot which) (Opened handle) between
  pub locked : DirCall observed between (TryLock handle Exclusive) Done new

-- it couldn't be opened
pub record WasNotOpened (observed : Bool) (spot : Spot) (which : Which) (stop : Setback) (old new : DirAt) : Type 0 where
  pub error : DirError
  pub may : may_refuse (Open spot which) error ≡ true
  pub cause : error ≡ Failed → Rose old.faults new.faults
  pub opened : DirCall observed old (Open spot which) (Refused error 0) new
  pub stop_is : stop ≡ step_setback_of error

-- it was opened, refused, and given up
pub record WasNotHad (observed : Bool) (spot : Spot) (which : Which) (stop : Setback) (old new : DirAt) : Type 0 where
  pub handle : Handle
  pub between : DirAt
  pub late : DirAt
  pub error : DirError
  pub unopened : IsUnopened old.local handle
  pub may : may_refuse (TryLock handle Exclusive) error ≡ true
  pub cause : error ≡ Failed → Rose between.faults late.faults
  pub opened : DirCall observed old (Open spot which) (Opened handle) between
  pub locked : DirCall observed between (TryLock handle Exclusive) (Refused error 0) late
  pub closed : DirCall observed late (Close handle) Done new
  pub stop_is : stop ≡ step_lock_setback which error

-- by its answer: the lock is had, or it couldn't be opened, or it was refused
abbrev pub TakesLock : Bool → Spot → Which → Result Handle Setback → DirAt → DirAt → Type 0
TakesLock observed spot which (Ok handle) old new = WasTaken observed spot which handle old new
TakesLock observed spot which (Err stop) old new = WasNotOpened observed spot which stop old new ⊎ WasNotHad observed spot which stop old new
