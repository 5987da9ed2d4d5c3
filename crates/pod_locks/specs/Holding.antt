-- What a process has open and knows before and after a step at a pod.
use Rattle.std.specs.Prelude.{◌≡◌, ◌≤◌, ◌&&◌, Bool, true, false, cond, Option, Some, [], ◌∷◌, ◌++◌, Result, Ok, Err}
use Rattle.std.specs.List.{list_any}
use Rattle.dir_model.specs.declared.area.Area.{Area}
use Rattle.dir_model.specs.declared.area.Area.TheVariants.{Prepared}
use Rattle.dir_model.specs.declared.pod.PodId.{PodId}
use Rattle.dir_model.specs.declared.spot.Handle.{Handle}
use Rattle.dir_model.specs.declared.spot.Mode.{Mode}
use Rattle.dir_model.specs.declared.spot.Mode.TheVariants.{Shared, Exclusive}
use Rattle.dir_model.specs.declared.spot.Which.{Which}
use Rattle.dir_model.specs.declared.spot.Which.TheVariants.{Own}
use Rattle.dir_model.specs.declared.opening.Target.TheVariants as target
use Rattle.dir_model.specs.declared.request.Request.{Request}
use Rattle.dir_model.specs.declared.request.Request.TheVariants.{MoveFolder}
use Rattle.dir_model.specs.Local.{Local}
use Rattle.dir_model.specs.Locks.{target_of}
use Rattle.dir_model.specs.Pods.{pod_text}
use Rattle.dir_rules.specs.declared.standing.Held.{Held}
use Rattle.dir_rules.specs.declared.seen.Seen.{Seen}
use Rattle.dir_rules.specs.declared.seen.ShownItem.{ShownItem}
use Rattle.dir_rules.specs.Standing.{is_in, is_garbage, holds_claim, own_spot, prepared_name, is_own_in_prepared}
use Rattle.dir_rules.specs.LockRules.{is_open_on, may_open, may_lock_own, may_lock_target}
use Rattle.dir_rules.specs.Rules.{allows}
use Rattle.dir_trait.specs.DirCalls.{DirAt, ExtendsBy}
use Rattle.dir_trait.specs.Knowledge.{Knows}
use Rattle.dir_model.specs.Spots.{pod_spot}
use Rattle.pod_locks.specs.ClaimCauses.{is_lock}

-- what is open, and a lock of the pod that was taken at this place
abbrev pub and_pod_lock : Local → PodId → Area → Which → Handle → Local
and_pod_lock m pod area which handle = record m { holdings = m.holdings ++ record { handle = handle; target = target_of (pod_spot pod area) which; lock = Some Exclusive } ∷ [] }

abbrev pub and_taken : {E : Type 0} → Local → PodId → Area → Which → Result Handle E → Local
and_taken m pod area which (Ok handle) = and_pod_lock m pod area which handle
and_taken m pod area which (Err error) = m

-- a handle on a lock of the pod that is opened at this place
abbrev pub on_pod_lock : PodId → Area → Which → Handle → Option Mode → Held
on_pod_lock pod area which handle lock = record { handle = handle; target = target_of (pod_spot pod area) which; lock = lock; covered = false }

-- what a process knows, and this newest handle
abbrev pub and_held : Held → Seen → Seen
and_held h s = record s { standing = record s.standing { holdings = h ∷ s.standing.holdings } }

-- it knows that it holds the lock
abbrev pub with_pod_lock : PodId → Area → Which → Handle → Seen → Seen
with_pod_lock pod area which handle s = and_held (on_pod_lock pod area which handle (Some Exclusive)) s

-- nothing is known to stand in a folder in a garbage place
abbrev pub is_in_garbage : ShownItem → Bool
is_in_garbage i = is_garbage i.inner.spot.area

abbrev pub IsBare : Seen → Type 0
IsBare s = list_any is_in_garbage s.items ≡ false

-- Own that is opened at this place is covered by the pod's Claim
abbrev pub covers : PodId → Area → Seen → Bool
covers pod area s = is_in Prepared area && holds_claim (pod_text pod.bytes) s.standing

-- it has no handle on a lock of that kind
abbrev pub HasNoHandle : Which → Seen → Type 0
HasNoHandle which s = list_any (λ h. is_lock which h.target) s.standing.holdings ≡ false

-- it may ask for Own shared at this place: it has no handle on such a lock, and in prepared it holds Claim
pub record MayLook (pod : PodId) (area : Area) (s : Seen) : Type 0 where
  pub alone : is_open_on (target.Own (pod_spot pod area)) s.standing.holdings ≡ false
  pub single : HasNoHandle Own s
  pub may : may_lock_own s.standing (covers pod area s) (pod_text pod.bytes) area Shared ≡ true

-- it knows that it had Own shared there, and in prepared under Claim
abbrev pub with_look : PodId → Area → Seen → Seen
with_look pod area s = record s {
  standing = record s.standing {
    seen_unowned = own_spot (target.Own (pod_spot pod area)) ++ s.standing.seen_unowned;
    seen_unowned_under_claim = cond (covers pod area s) (prepared_name (target.Own (pod_spot pod area))) [] ++ s.standing.seen_unowned_under_claim;
  };
}

abbrev pub LooksFree : PodId → Area → Seen → DirAt → Type 0
LooksFree pod area s new = Knows new (with_look pod area s)

-- it may take a lock of the pod at this place: Claim in prepared, or Own in a garbage place
pub record MayTakeLock (pod : PodId) (area : Area) (which : Which) (s : Seen) : Type 0 where
  pub alone : is_open_on (target_of (pod_spot pod area) which) s.standing.holdings ≡ false
  pub single : HasNoHandle which s
  pub opens : may_open (pod_spot pod area) which ≡ true
  pub bare : is_own_in_prepared (pod_spot pod area) which ≡ false
  pub may : may_lock_target s.standing false (target_of (pod_spot pod area) which) Exclusive ≡ true

-- it may move the pod to that place, and has no handle on its Own
pub record MayMove (pod : PodId) (from to : Area) (s : Seen) : Type 0 where
  pub allowed : allows s (MoveFolder (pod_spot pod from) (pod_spot pod to)) ≡ true
  pub alone : is_open_on (target.Own (pod_spot pod from)) s.standing.holdings ≡ false
  pub bare : IsBare s

-- it has what it had open, knows of nothing that stands in a garbage place, and each of its requests was allowed, if those
-- before were
pub record KeepsHoldings (s known : Seen) : Type 0 where
  pub intent : known.standing.intent ≡ s.standing.intent
  pub holdings : known.standing.holdings ≡ s.standing.holdings
  pub kept : known.kept ≡ s.kept
  pub bare : IsBare known

pub record KeepsReady (s : Seen) (new : DirAt) : Type 0 where
  pub known : Seen
  pub keeps : KeepsHoldings s known
  pub knows : Knows new known
