-- What it means that a process owns a pod in run.
use Rattle.std.specs.Prelude.{◌≡◌, true}
use Rattle.dir_model.specs.declared.area.Area.TheVariants.{Run}
use Rattle.dir_model.specs.declared.pod.PodId.{PodId}
use Rattle.dir_model.specs.Local.{Local, IsUnopened}
use Rattle.dir_model.specs.Pods.{pod_text}
use Rattle.dir_rules.specs.declared.seen.Seen.{Seen}
use Rattle.dir_rules.specs.Rules.{runs}
use Rattle.dir_trait.specs.DirCalls.{DirAt}
use Rattle.dir_trait.specs.Knowledge.{Knows}
use Rattle.pod_locks.specs.declared.owned.Owned.{Owned}

-- it is this pod in run, by a handle that wasn't open before
pub record IsOwned (pod : PodId) (m : Local) (owned : Owned) : Type 0 where
  pub is : owned.pod ≡ pod
  pub area : owned.area ≡ Run
  pub unopened : IsUnopened m owned.own

-- it holds the pod's own lock, and has moved the pod to run last
pub record RunsPod (pod : PodId) (new : DirAt) : Type 0 where
  pub seen : Seen
  pub knows : Knows new seen
  pub runs : runs seen (pod_text pod.bytes) ≡ true
