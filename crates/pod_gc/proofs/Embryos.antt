-- An embryo is moved under the lock of its area.
use Rattle.std.proofs.Common.{ℕ, refl}
use Rattle.plain_laws.proofs.Texts.{same_bytes}
use Rattle.dir_model.specs.declared.area.Area.TheVariants.{Embryo, Garbage}
use Rattle.dir_model.specs.declared.pod.PodId.{PodId}
use Rattle.dir_model.specs.declared.spot.Which.TheVariants.{Own}
use Rattle.dir_model.specs.Pods.{pod_text}
use Rattle.dir_rules.specs.declared.seen.Seen.{Seen}
use Rattle.dir_trait.specs.DirCalls.{DirAt}
use Rattle.dir_trait.specs.Effects.{Given}
use Rattle.dir_model.specs.Spots.{pod_spot}
use Rattle.pod_locks.proofs.ClaimSeen.{off}
use Rattle.pod_locks.specs.Holding.{MayMove, KeepsReady}
use Rattle.pod_gc.proofs.Stages.{spares}
use Rattle.pod_gc.specs.Sweeping.{HoldsEmbryo}

moves_embryo : {now : ℕ} {s : Seen} (pod : PodId) → HoldsEmbryo now s → MayMove pod Embryo Garbage s
moves_embryo {now} {s} pod m = record {
  allowed = rw (same_bytes (pod_text pod.bytes), m.sweeps, m.gate, spares pod s.standing.holdings m.may.apart) refl;
  alone = off Own (pod_spot pod Embryo) s.standing.holdings m.may.apart;
  bare = m.may.bare;
}

pub ready_embryo : {now : ℕ} {a b : DirAt} (pod : PodId) → Given (MayMove pod Embryo Garbage) a (λ s. KeepsReady s b) → Given (HoldsEmbryo now) a (λ s. KeepsReady s b)
ready_embryo pod moves s k m = moves s k (moves_embryo pod m)
