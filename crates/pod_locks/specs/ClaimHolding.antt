-- The two locks of a pod in prepared: what a process has open that takes them, and what it then knows.
use Rattle.std.specs.Prelude.{◌≡◌, Bool, true, false, not, Option, Some, [], ◌∷◌, ◌++◌, Result, Ok, Err}
use Rattle.std.specs.List.{list_any}
use Rattle.dir_model.specs.declared.pod.PodId.{PodId}
use Rattle.dir_model.specs.declared.spot.Handle.{Handle}
use Rattle.dir_model.specs.declared.spot.Mode.{Mode}
use Rattle.dir_model.specs.declared.spot.Mode.TheVariants.{Exclusive}
use Rattle.dir_model.specs.declared.spot.Which.{Which}
use Rattle.dir_model.specs.declared.spot.Which.TheVariants.{Own, Claim}
use Rattle.dir_model.specs.Local.{Local}
use Rattle.dir_model.specs.Locks.{target_of}
use Rattle.dir_rules.specs.declared.standing.Held.{Held}
use Rattle.dir_rules.specs.declared.seen.Seen.{Seen}
use Rattle.dir_rules.specs.Standing.{began_as, is_run_prepared, is_known}
use Rattle.dir_rules.specs.Rules.{is_gate}
use Rattle.dir_rules.specs.Seen.{folder_moved}
use Rattle.pod_locks.specs.ClaimRequests.{in_prepared, in_run}

-- a handle on a lock of the pod that is opened in prepared
abbrev pub on_prepared_lock : PodId → Which → Handle → Option Mode → Bool → Held
on_prepared_lock pod which handle lock covered = record { handle = handle; target = target_of (in_prepared pod) which; lock = lock; covered = covered }

-- what is open, and such a handle with its lock held exclusively
abbrev pub and_prepared_lock : Local → PodId → Which → Handle → Local
and_prepared_lock m pod which handle = record m { holdings = m.holdings ++ record { handle = handle; target = target_of (in_prepared pod) which; lock = Some Exclusive } ∷ [] }

-- what is open after such a lock was asked for
abbrev pub and_locked : {E : Type 0} → Local → PodId → Which → Result Handle E → Local
and_locked m pod which (Ok handle) = and_prepared_lock m pod which handle
and_locked m pod which (Err error) = m

-- what a process knows, and this newest handle
abbrev pub and_held : Held → Seen → Seen
and_held h s = record s { standing = record s.standing { holdings = h ∷ s.standing.holdings } }

-- it is a handle on a folder, not on an area
abbrev pub is_on_folder : Held → Bool
is_on_folder h = not (is_gate h.target)

-- a process that began as one that runs a prepared pod, and has no folder in hand
pub record MayClaim (s : Seen) : Type 0 where
  pub began : began_as is_run_prepared s.standing ≡ true
  pub apart : list_any is_on_folder s.standing.holdings ≡ false
  pub seen_unowned_under_claim : s.standing.seen_unowned_under_claim ≡ []

-- the same process, with the pod's Claim held
pub record HasClaim (pod : PodId) (s : Seen) : Type 0 where
  pub claim : Handle
  pub base : Seen
  pub may : MayClaim base
  pub fresh : is_known claim base.standing ≡ false
  pub is : s ≡ and_held (on_prepared_lock pod Claim claim (Some Exclusive) false) base

-- who may ask for the lock: for Own whoever has held Claim since before it is opened
abbrev pub MayTakePrepared : PodId → Which → Seen → Type 0
MayTakePrepared pod Claim s = MayClaim s
MayTakePrepared pod Own s = HasClaim pod s

-- Own that is opened under Claim is covered by it
abbrev pub is_own_lock : Which → Bool
is_own_lock Own = true
is_own_lock Claim = false

-- it knows that it holds the lock
abbrev pub with_prepared_lock : PodId → Which → Handle → Seen → Seen
with_prepared_lock pod which handle s = and_held (on_prepared_lock pod which handle (Some Exclusive) (is_own_lock which)) s

-- it has moved the pod to run, and holds its Own
abbrev pub with_pod : PodId → Handle → Seen → Seen
with_pod pod own s = record (folder_moved s (in_prepared pod) (in_run pod)) {
  standing = record s.standing { holdings = on_prepared_lock pod Own own (Some Exclusive) false ∷ s.standing.holdings; moves = in_run pod ∷ s.standing.moves };
}
