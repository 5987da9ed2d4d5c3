-- What a process knows that removes a pod, from step to step.
use Rattle.std.specs.Prelude.{◌≡◌, ◌==◌, ℕ, true, false, []}
use Rattle.std.specs.List.{list_any}
use Rattle.dir_model.specs.declared.area.Area.{Area}
use Rattle.dir_model.specs.declared.area.Area.TheVariants.{Prepared, Run}
use Rattle.dir_model.specs.declared.pod.PodId.{PodId}
use Rattle.dir_model.specs.declared.spot.Handle.{Handle}
use Rattle.dir_model.specs.declared.spot.Which.TheVariants.{Own, Claim}
use Rattle.dir_model.specs.declared.opening.Target.TheVariants as target
use Rattle.dir_model.specs.Pods.{pod_text}
use Rattle.dir_model.specs.State.{spot_eq}
use Rattle.dir_rules.specs.declared.seen.Seen.{Seen}
use Rattle.dir_rules.specs.Standing.{intends, began_as, is_remover, is_known}
use Rattle.dir_rules.specs.LockRules.{is_open_on}
use Rattle.dir_rules.specs.Seen.{is_free, forget_items}
use Rattle.dir_rules.specs.Rules.{asks_for}
use Rattle.dir_trait.specs.DirCalls.{DirAt}
use Rattle.dir_trait.specs.Knowledge.{Knows}
use Rattle.dir_model.specs.Spots.{pod_spot}
use Rattle.pod_locks.specs.ClaimHolding.{is_on_folder}
use Rattle.pod_locks.specs.Holding.{with_pod_lock, is_in_garbage, IsBare, KeepsHoldings}

-- a process that began as one that removes pods at this moment, and has no folder in hand
pub record MayRemove (now : ℕ) (s : Seen) : Type 0 where
  pub began : began_as is_remover s.standing ≡ true
  pub moment : intends (λ i. i.now == now) s.standing.intent ≡ true
  pub apart : list_any is_on_folder s.standing.holdings ≡ false
  pub bare : IsBare s

-- it is asked for the pod's removal, whatever it has listed
abbrev pub AsksForRemoval : PodId → Seen → Type 0
AsksForRemoval pod s = intends (λ i. asks_for i.kind i [] (pod_text pod.bytes)) s.standing.intent ≡ true

pub record MayRemovePod (pod : PodId) (now : ℕ) (s : Seen) : Type 0 where
  pub may : MayRemove now s
  pub asks : AsksForRemoval pod s

-- or by the mark that it has listed
pub record MayDiscard (pod : PodId) (now : ℕ) (s : Seen) : Type 0 where
  pub may : MayRemove now s
  pub asked : intends (λ i. asks_for i.kind i s.created (pod_text pod.bytes)) s.standing.intent ≡ true

-- the same process, with the pod's Claim held
pub record UnderClaim (pod : PodId) (now : ℕ) (s : Seen) : Type 0 where
  pub claim : Handle
  pub base : Seen
  pub may : MayDiscard pod now base
  pub fresh : is_known claim base.standing ≡ false
  pub is : s ≡ with_pod_lock pod Prepared Claim claim base

-- or with its Own held by an open in a garbage place
pub record HasOwn (pod : PodId) (area : Area) (s : Seen) : Type 0 where
  pub own : Handle
  pub base : Seen
  pub apart : list_any is_on_folder base.standing.holdings ≡ false
  pub bare : IsBare base
  pub fresh : is_known own base.standing ≡ false
  pub is : s ≡ with_pod_lock pod area Own own base

-- it may mark the pod in run, where it had its Own shared
pub record MayMark (pod : PodId) (now : ℕ) (s : Seen) : Type 0 where
  pub began : began_as is_remover s.standing ≡ true
  pub moment : intends (λ i. i.now == now) s.standing.intent ≡ true
  pub alone : is_open_on (target.Own (pod_spot pod Run)) s.standing.holdings ≡ false
  pub free : is_free s (pod_spot pod Run) ≡ true
  pub bare : IsBare s

-- and it has marked the pod
pub record Marked (pod : PodId) (s : Seen) (new : DirAt) : Type 0 where
  pub known : Seen
  pub keeps : KeepsHoldings s known
  pub standing : known.standing ≡ s.standing
  pub marked : list_any (spot_eq (pod_spot pod Run)) known.marked ≡ true
  pub knows : Knows new known

-- it has what it had open, and of the garbage places it knows at most what stands in this folder
pub record KeepsBut (pod : PodId) (area : Area) (s : Seen) (new : DirAt) : Type 0 where
  pub known : Seen
  pub intent : known.standing.intent ≡ s.standing.intent
  pub holdings : known.standing.holdings ≡ s.standing.holdings
  pub kept : known.kept ≡ s.kept
  pub others : list_any is_in_garbage (forget_items (pod_spot pod area) known.items) ≡ false
  pub knows : Knows new known
