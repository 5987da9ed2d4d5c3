-- The lock of an area: who stands against it, and what a process knows that takes it and gives it back.
use Rattle.std.specs.Prelude.{◌≡◌, ℕ, Bool, true, false, not, ◌&&◌, ◌==◌, Option, Some, [], ◌∷◌, ◌++◌, filter}
use Rattle.std.specs.List.{list_any}
use Rattle.dir_model.specs.declared.area.Area.{Area}
use Rattle.dir_model.specs.declared.area.Area.TheVariants.{Incoming, Removed}
use Rattle.dir_model.specs.declared.item.Inner.{Inner}
use Rattle.dir_model.specs.declared.opening.Opening.{Opening}
use Rattle.dir_model.specs.declared.opening.Target.TheVariants.{Gate}
use Rattle.dir_model.specs.declared.spot.Handle.{Handle}
use Rattle.dir_model.specs.declared.spot.Mode.{Mode}
use Rattle.dir_model.specs.declared.spot.Mode.TheVariants.{Shared, Exclusive}
use Rattle.dir_model.specs.declared.request.DirError.{DirError}
use Rattle.dir_model.specs.declared.request.DirError.TheVariants.{Locked}
use Rattle.dir_model.specs.declared.request.Request.{Request}
use Rattle.dir_model.specs.declared.request.Request.TheVariants.{OpenArea, TryLock, Close}
use Rattle.dir_model.specs.Locks.{opposes}
use Rattle.dir_model.specs.Local.{Local}
use Rattle.dir_model.specs.Replies.{is_fault}
use Rattle.dir_model.specs.State.{DirState}
use Rattle.dir_rules.specs.declared.standing.Held.{Held}
use Rattle.dir_rules.specs.declared.seen.Seen.{Seen}
use Rattle.dir_rules.specs.Standing.{is_in, is_gate_of}
use Rattle.dir_rules.specs.LockRules.{is_open_on, may_lock_gate}

-- both are one mode
abbrev pub is_same_mode : Mode → Mode → Bool
is_same_mode Shared Shared = true
is_same_mode Exclusive Exclusive = true
is_same_mode _ _ = false

-- a request of taking the lock: it is opened, asked for, and where it isn't had given up again
abbrev pub is_taking_area : Area → Mode → Request → Bool
is_taking_area area mode (OpenArea here) = is_in area here
is_taking_area area mode (TryLock handle asked) = is_same_mode mode asked
is_taking_area area mode (Close handle) = true
is_taking_area area mode _ = false

-- the request gives this handle up
abbrev pub closes : Handle → Request → Bool
closes handle (Close given) = given.number == handle.number
closes handle _ = false

-- this handle is open on the area's lock, and holds it so
abbrev pub on_gate : Handle → Area → Option Mode → Held
on_gate handle area lock = record { handle = handle; target = Gate area; lock = lock; covered = false }

-- the refusals of a lock
abbrev pub is_lock_refusal : DirError → Bool
is_lock_refusal Locked = true
is_lock_refusal error = is_fault error

-- what a process has open, and that lock
abbrev pub and_area_lock : Local → Handle → Area → Mode → Local
and_area_lock m handle area mode = record m { holdings = m.holdings ++ record { handle = handle; target = Gate area; lock = Some mode } ∷ [] }

-- what a process knows, and that handle
abbrev pub with_gate : Seen → Handle → Area → Option Mode → Seen
with_gate s handle area lock = record s { standing = record s.standing { holdings = on_gate handle area lock ∷ s.standing.holdings } }

-- no own handle is open on the area's lock
abbrev pub is_free_of : Area → Seen → Bool
is_free_of area s = not (is_open_on (Gate area) s.standing.holdings)

-- the local rules allow this process to ask for the area's lock
pub record MayLock (s : Seen) (area : Area) (mode : Mode) : Type 0 where
  pub free : is_free_of area s ≡ true
  pub kind : may_lock_gate s.standing area mode ≡ true

-- the handle holds the area's lock in a mode that conflicts
abbrev pub is_against : Area → Mode → Opening → Bool
is_against area mode o = is_gate_of area o.target && opposes mode o.lock

-- some handle does
abbrev pub IsBusy : Area → Mode → DirState → Type 0
IsBusy area mode s = list_any (is_against area mode) s.namespace.openings ≡ true

-- some handle of another process does
abbrev pub is_busy_elsewhere : ℕ → Area → Mode → DirState → Bool
is_busy_elsewhere me area mode s = list_any (λ o. not (o.process == me) && is_against area mode o) s.namespace.openings

abbrev pub IsBusyElsewhere : ℕ → Area → Mode → DirState → Type 0
IsBusyElsewhere me area mode s = is_busy_elsewhere me area mode s ≡ true

-- no handle of another process does
abbrev pub IsFreeElsewhere : ℕ → Area → Mode → DirState → Type 0
IsFreeElsewhere me area mode s = is_busy_elsewhere me area mode s ≡ false

-- what is known once a shared lock is given back: an image in incoming isn't under that area's lock any more
abbrev pub shared_given : Area → Seen → Seen
shared_given area s = record s { image_under_lock = not (is_in Incoming area) && s.image_under_lock }

-- the lock of removed is what its directories were listed under
abbrev pub is_listed_under : Area → Inner → Bool
is_listed_under area inner = is_in Removed inner.spot.area && is_in Removed area

-- once an exclusive lock is given back: what was listed under it is forgotten
abbrev pub exclusive_given : Area → Seen → Seen
exclusive_given area s = record s {
  listed = filter (λ inner. not (is_listed_under area inner)) s.listed;
  items = filter (λ i. not (is_listed_under area i.inner)) s.items;
  areas = filter (λ a. not (is_in a.area area)) s.areas;
}
