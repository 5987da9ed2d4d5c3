-- Why a sweep ended early.
use Rattle.std.specs.Prelude.{◌≡◌, Bool, true, Result, Ok, Err}
use Rattle.dir_model.specs.Causes.{Rose}
use Rattle.dir_trait.specs.DirCalls.{DirAt}
use Rattle.dir_files.specs.declared.lock_error.LockError.{LockError}
use Rattle.dir_files.specs.declared.lock_error.LockError.TheVariants as lock
use Rattle.dir_model.specs.declared.request.DirError.{DirError}
use Rattle.dir_model.specs.declared.request.DirError.TheVariants as dir
use Rattle.phase_read.specs.declared.found.LookError.{LookError}
use Rattle.phase_read.specs.declared.found.LookError.TheVariants as look
use Rattle.pod_locks.specs.declared.setback.Setback.{Setback}
use Rattle.pod_locks.specs.declared.setback.Setback.TheVariants as stop
use Rattle.dir_rules.specs.declared.seen.Seen.{Seen}
use Rattle.pod_locks.specs.Causes.{WasStrayStep, BreaksRules, ByApp}
use Rattle.pod_gc.specs.declared.gc_error.GcError.{GcError}
use Rattle.pod_gc.specs.declared.gc_error.GcError.TheVariants.{DirFault, Stray, NoMemory}
use Rattle.pod_gc.specs.declared.line.Deed.{Deed}
use Rattle.pod_gc.specs.declared.line.Deed.TheVariants.{Left, Busy}

abbrev pub listing_fault : DirError → GcError
listing_fault dir.Failed = DirFault
listing_fault dir.NoMemory = NoMemory
listing_fault _ = Stray

-- a look at a pod gives DirFault or NoMemory
abbrev pub look_fault : LookError → GcError
look_fault look.DirFault = DirFault
look_fault _ = NoMemory

abbrev pub lock_fault : LockError → GcError
lock_fault lock.DirFault = DirFault
lock_fault _ = NoMemory

abbrev pub step_fault : Setback → GcError
step_fault stop.DirFault = DirFault
step_fault stop.NoMemory = NoMemory
step_fault _ = Stray

-- the deed that a step at a pod comes to, where it is done or set back
abbrev pub deed_of : Result (Unit {0}) Setback → Deed → Result Deed GcError
deed_of (Ok done) deed = Ok deed
deed_of (Err stop.Missing) deed = Ok Left
deed_of (Err stop.NoManifest) deed = Ok Left
deed_of (Err (stop.Busy which)) deed = Ok (Busy which)
deed_of (Err stop) deed = Err (step_fault stop)

-- a sweep ends early for one of these causes
pub record GcCause (observed : Bool) (error : GcError) (old new : DirAt) : Type 0 where
  pub fault : error ≡ DirFault → Rose old.faults new.faults
  pub stray : error ≡ Stray → observed ≡ true → WasStrayStep old.process old.trace new.trace

-- it is stray only where some process doesn't keep the local rules
abbrev pub GcNeverStray : Bool → GcError → DirAt → Type 0
GcNeverStray observed error new = error ≡ Stray → BreaksRules observed new

-- or only where a started app wrote on
abbrev pub GcStrayByApp : Bool → GcError → (Seen → Type 0) → DirAt → DirAt → Type 0
GcStrayByApp observed error May old new = error ≡ Stray → ByApp observed May old new
