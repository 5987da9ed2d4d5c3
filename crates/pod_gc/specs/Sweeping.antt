-- A process that sweeps.
use Rattle.std.specs.Prelude.{◌≡◌, ◌==◌, ◌&&◌, ℕ, true, Option, Some, None, find, bytes_eq}
use Rattle.dir_model.specs.declared.area.Area.{Area}
use Rattle.dir_model.specs.declared.area.Area.TheVariants.{Embryo}
use Rattle.dir_model.specs.declared.pod.PodId.{PodId}
use Rattle.dir_model.specs.Pods.{pod_text}
use Rattle.dir_rules.specs.declared.seen.Created.{Created}
use Rattle.dir_rules.specs.declared.seen.Seen.{Seen}
use Rattle.dir_rules.specs.Standing.{intends, began_as, is_gc, excludes_area}
use Rattle.dir_files.specs.AreaLocks.{is_free_of}
use Rattle.dir_trait.specs.DirCalls.{DirAt}
use Rattle.dir_trait.specs.Knowledge.{Knows}
use Rattle.pod_locks.specs.Holding.{KeepsHoldings}
use Rattle.pod_gc.specs.RemovalHolding.{MayRemove}

-- it began as a sweep at this moment with this expire time, and has no folder in hand
pub record MaySweepPods (now expire : ℕ) (s : Seen) : Type 0 where
  pub may : MayRemove now s
  pub sweeps : intends (λ i. is_gc i.kind && (i.expire == expire)) s.standing.intent ≡ true

-- it holds the lock of embryo exclusively: nobody makes a pod
pub record HoldsEmbryo (now : ℕ) (s : Seen) : Type 0 where
  pub may : MayRemove now s
  pub sweeps : began_as is_gc s.standing ≡ true
  pub gate : excludes_area Embryo s.standing ≡ true

-- the last created mark that it knows of the pod is of this moment, if there is any
abbrev pub IsNoted : PodId → Option ℕ → Seen → Type 0
IsNoted pod None s = Unit {0}
IsNoted pod (Some moment) s = find (λ (c : Created). bytes_eq c.name (pod_text pod.bytes)) s.created ≡ Some (record { name = pod_text pod.bytes; moment = moment })

-- it keeps what it had, and has noted that
pub record NotesMark (pod : PodId) (moment : Option ℕ) (s : Seen) (new : DirAt) : Type 0 where
  pub known : Seen
  pub keeps : KeepsHoldings s known
  pub noted : IsNoted pod moment known
  pub knows : Knows new known

-- it sweeps, and has noted the pod's created mark
pub record Ripens (pod : PodId) (created : Option ℕ) (now expire : ℕ) (s : Seen) : Type 0 where
  pub sweeps : MaySweepPods now expire s
  pub noted : IsNoted pod created s

-- it sweeps the pods of this place: those of embryo under that area's lock
pub record MayPassPods (place : Area) (now expire : ℕ) (s : Seen) : Type 0 where
  pub sweeps : MaySweepPods now expire s
  pub gate : place ≡ Embryo → excludes_area Embryo s.standing ≡ true

-- it sweeps, and has no handle on the lock of embryo
pub record MaySweepAll (now expire : ℕ) (s : Seen) : Type 0 where
  pub sweeps : MaySweepPods now expire s
  pub free : is_free_of Embryo s ≡ true
