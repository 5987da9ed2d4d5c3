-- What a process knows by its own answers: what it began as, whether it has finished, and what it has open.
use Rattle.std.specs.Prelude.{◌≡◌, ℕ, Bool, true, false, not, ◌&&◌, ◌==◌, cond, Option, Some, None, is_some, bytes_eq, List, [], ◌∷◌, ◌++◌, map, filter}
use Rattle.std.specs.List.{list_any}
use Rattle.dir_model.specs.declared.intent.Intent.{Intent}
use Rattle.dir_model.specs.declared.spot.Handle.{Handle}
use Rattle.dir_model.specs.declared.spot.Mode.{Mode}
use Rattle.dir_model.specs.declared.opening.Opening.{Opening}
use Rattle.dir_model.specs.declared.opening.Holding.{Holding}
use Rattle.dir_model.specs.declared.opening.Target.{Target}
use Rattle.dir_model.specs.declared.opening.Target.TheVariants.{Own, Gate}
use Rattle.dir_model.specs.declared.request.Request.{Request}
use Rattle.dir_model.specs.declared.request.Request.TheVariants.{Begin, Open, OpenArea, TryLock, Close, Finish}
use Rattle.dir_model.specs.declared.request.Reply.{Reply}
use Rattle.dir_model.specs.declared.request.Reply.TheVariants.{Done, Opened}
use Rattle.dir_model.specs.Areas.{is_stage}
use Rattle.dir_model.specs.Locks.{target_of}
use Rattle.dir_model.specs.State.{Namespace}

-- what a process knows of itself by its own answers
pub record Local : Type 0 where
  -- what it said when it began
  pub intent : Option Intent
  pub finished : Bool
  -- the newest last
  pub holdings : List Holding

-- it hasn't begun
abbrev pub nothing_local : Local
nothing_local = record { intent = None; finished = false; holdings = [] }

-- the handle has this number
abbrev pub is_handle_of : Handle → Holding → Bool
is_handle_of handle h = h.handle.number == handle.number

-- and this handle is open, without a lock
abbrev pub with_handle : Local → Handle → Target → Local
with_handle m handle target = record m { holdings = m.holdings ++ record { handle = handle; target = target; lock = None } ∷ [] }

-- this handle holds its lock
abbrev pub held_in : Handle → Mode → Holding → Holding
held_in handle mode h = cond (is_handle_of handle h) (record h { lock = Some mode }) h

-- and this handle holds its lock in this mode
abbrev pub with_lock : Local → Handle → Mode → Local
with_lock m handle mode = record m { holdings = map (held_in handle mode) m.holdings }

-- and this handle is closed
abbrev pub without : Local → Handle → Local
without m handle = record m { holdings = filter (λ h. not (is_handle_of handle h)) m.holdings }

-- after a request that was answered Ok
abbrev pub local_done : Local → Request → Local
local_done m (Begin intent) = record m { intent = Some intent }
local_done m (TryLock handle mode) = with_lock m handle mode
local_done m (Close handle) = without m handle
local_done m Finish = record m { finished = true; holdings = [] }
local_done m _ = m

-- after a request that was answered with a handle
abbrev pub local_opened : Local → Request → Handle → Local
local_opened m (Open spot which) handle = with_handle m handle (target_of spot which)
local_opened m (OpenArea area) handle = with_handle m handle (Gate area)
local_opened m _ handle = m

-- after a reply
abbrev pub local_replied : Local → Request → Reply → Local
local_replied m request Done = local_done m request
local_replied m request (Opened handle) = local_opened m request handle
local_replied m request _ = m

-- has begun, and hasn't finished
pub record IsActive (m : Local) : Type 0 where
  pub begun : is_some m.intent ≡ true
  pub unfinished : m.finished ≡ false

-- the handle is open in this process
abbrev pub is_open_among : Handle → List Holding → Bool
is_open_among handle hs = list_any (is_handle_of handle) hs

-- the handle is open
abbrev pub IsOpen : Local → Handle → Type 0
IsOpen m handle = is_open_among handle m.holdings ≡ true

-- the handle isn't open
abbrev pub IsUnopened : Local → Handle → Type 0
IsUnopened m handle = is_open_among handle m.holdings ≡ false

-- the handle holds a lock
abbrev pub is_locking : Handle → Holding → Bool
is_locking handle h = is_handle_of handle h && is_some h.lock

-- the handle holds no lock
abbrev pub IsUnlocked : Local → Handle → Type 0
IsUnlocked m handle = list_any (is_locking handle) m.holdings ≡ false

-- an open handle, as its own process knows it
abbrev pub holding_of : Opening → Holding
holding_of o = record { handle = o.handle; target = o.target; lock = o.lock }

-- what a process has open in the namespace
abbrev pub holdings_in : Namespace → ℕ → List Holding
holdings_in n process = map holding_of (filter (λ o. o.process == process) n.openings)

-- it stands for the lock of the pod with this name
abbrev pub is_own_of : List ℕ → Target → Bool
is_own_of name (Own spot) = is_stage spot.area && bytes_eq spot.name name
is_own_of name _ = false

-- a handle is open on the lock of the pod with this name
abbrev pub has_own_open : Local → List ℕ → Bool
has_own_open m name = list_any (λ h. is_own_of name h.target) m.holdings
