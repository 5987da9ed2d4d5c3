-- Locks: what a handle stands for, how it is held, and which of two locks conflict.
use Rattle.std.specs.Prelude.{ℕ, Bool, true, false, ◌&&◌, ◌==◌, Option, Some, None}
use Rattle.dir_model.specs.declared.spot.Handle.{Handle}
use Rattle.dir_model.specs.declared.spot.Mode.{Mode}
use Rattle.dir_model.specs.declared.spot.Mode.TheVariants.{Shared, Exclusive}
use Rattle.dir_model.specs.declared.spot.Spot.{Spot}
use Rattle.dir_model.specs.declared.spot.Which.{Which}
use Rattle.dir_model.specs.declared.spot.Which.TheVariants as which
use Rattle.dir_model.specs.declared.opening.Opening.{Opening}
use Rattle.dir_model.specs.declared.opening.Target.{Target}
use Rattle.dir_model.specs.declared.opening.Target.TheVariants.{Own, Claim, Gate}
use Rattle.dir_model.specs.Areas.{rank}

-- what a handle is opened for
abbrev pub target_of : Spot → Which → Target
target_of spot which.Own = Own spot
target_of spot which.Claim = Claim spot

-- it stands for the lock of a folder itself
abbrev pub is_own : Target → Bool
is_own (Own spot) = true
is_own _ = false

-- this handle of this process
abbrev pub is_handle : ℕ → Handle → Opening → Bool
is_handle process handle o = (o.process == process) && (o.handle.number == handle.number)

-- the lock is held exclusively
abbrev pub is_exclusive : Option Mode → Bool
is_exclusive None = false
is_exclusive (Some Shared) = false
is_exclusive (Some Exclusive) = true

-- a lock in this mode can't be had while another handle holds this
abbrev pub opposes : Mode → Option Mode → Bool
opposes mode None = false
opposes Shared (Some Shared) = false
opposes Shared (Some Exclusive) = true
opposes Exclusive (Some held) = true

-- it is the folder with this number
abbrev pub is_folder : ℕ → Option ℕ → Bool
is_folder number None = false
is_folder number (Some folder) = folder == number

-- both are one folder
abbrev pub is_same_folder : Option ℕ → Option ℕ → Bool
is_same_folder None other = false
is_same_folder (Some number) other = is_folder number other

-- two handles stand for one lock: of one kind, and of one folder or one area
abbrev pub is_one_lock : Target → Option ℕ → Target → Option ℕ → Bool
is_one_lock (Own spot) folder (Own place) other = is_same_folder folder other
is_one_lock (Claim spot) folder (Claim place) other = is_same_folder folder other
is_one_lock (Gate area) folder (Gate gate) other = rank area == rank gate
is_one_lock _ folder _ other = false

-- two handles stand for one lock
abbrev pub is_same_lock : Opening → Opening → Bool
is_same_lock a b = is_one_lock a.target a.folder b.target b.folder

-- the handle holds the lock of the folder with this number exclusively
abbrev pub owns : ℕ → Opening → Bool
owns folder o = is_folder folder o.folder && (is_own o.target && is_exclusive o.lock)
