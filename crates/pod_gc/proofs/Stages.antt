-- What a process may do at a dead pod, and what it knows once that is done.
use Rattle.std.proofs.Common.{◌≡◌, ℕ, true, false, List, refl}
use Rattle.std.specs.List.{list_any}
use Rattle.plain_laws.proofs.Texts.{same_bytes}
use Rattle.dir_model.specs.declared.area.Area.{Area}
use Rattle.dir_model.specs.declared.area.Area.TheVariants.{Prepare, Garbage}
use Rattle.dir_model.specs.declared.pod.PodId.{PodId}
use Rattle.dir_model.specs.declared.spot.Mode.TheVariants.{Shared}
use Rattle.dir_model.specs.declared.spot.Which.TheVariants.{Own}
use Rattle.dir_model.specs.Pods.{pod_text}
use Rattle.dir_rules.specs.declared.standing.Held.{Held}
use Rattle.dir_rules.specs.declared.seen.Seen.{Seen}
use Rattle.dir_rules.specs.Rules.{is_deleting}
use Rattle.dir_rules.specs.LockRules.{may_lock_own}
use Rattle.dir_rules.proofs.Looks.{deletes_none}
use Rattle.dir_trait.specs.DirCalls.{DirAt}
use Rattle.dir_trait.specs.Knowledge.{Knows}
use Rattle.dir_trait.specs.Effects.{Given}
use Rattle.dir_model.specs.Spots.{pod_spot}
use Rattle.pod_locks.specs.ClaimHolding.{is_on_folder}
use Rattle.pod_locks.proofs.ClaimSeen.{off, none_kind}
use Rattle.pod_locks.specs.Holding.{covers, MayLook, LooksFree, with_look, MayMove, KeepsReady}
use Rattle.pod_gc.specs.RemovalRequests.{may_lie_dead}
use Rattle.pod_gc.specs.RemovalHolding.{MayRemove}
use Rattle.pod_gc.proofs.Dead.{at_dead}

pub spares : (pod : PodId) (hs : List Held) → list_any is_on_folder hs ≡ false → list_any (is_deleting (pod_text pod.bytes)) hs ≡ false
spares pod hs apart = deletes_none (pod_text pod.bytes) hs (off Own (pod_spot pod Prepare) hs apart)

-- its Own is asked for where it lies
pub looks_dead : {now : ℕ} {s : Seen} (pod : PodId) (place : Area) → may_lie_dead place ≡ true → MayRemove now s → MayLook pod place s
looks_dead {now} {s} pod place dead may = record {
  alone = off Own (pod_spot pod place) s.standing.holdings may.apart;
  single = none_kind Own s.standing.holdings may.apart;
  may = at_dead (λ a. may_lock_own s.standing (covers pod a s) (pod_text pod.bytes) a Shared ≡ true) refl refl place dead;
}

-- an aborted prepare is moved
moves_aborted : {now : ℕ} {s : Seen} (pod : PodId) → MayRemove now s → MayMove pod Prepare Garbage (with_look pod Prepare s)
moves_aborted {now} {s} pod may = record {
  allowed = rw (same_bytes (pod_text pod.bytes), may.began, spares pod s.standing.holdings may.apart) refl;
  alone = off Own (pod_spot pod Prepare) s.standing.holdings may.apart;
  bare = may.bare;
}

pub same_ready : {now : ℕ} {s : Seen} {d : DirAt} → MayRemove now s → Knows d s → KeepsReady s d
same_ready {now} {s} may k = record { known = s; keeps = record { intent = refl; holdings = refl; kept = refl; bare = may.bare }; knows = k }

pub ready_aborted : {now : ℕ} {old mid new : DirAt} (pod : PodId) → Given (MayLook pod Prepare) old (λ s. LooksFree pod Prepare s mid) → Given (MayMove pod Prepare Garbage) mid (λ s. KeepsReady s new)
    → Given (MayRemove now) old (λ s. KeepsReady s new)
ready_aborted pod free moves s k may =
    let x = moves (with_look pod Prepare s) (free s k (looks_dead pod Prepare refl may)) (moves_aborted pod may) in
    record { known = x.known; keeps = record { intent = x.keeps.intent; holdings = x.keeps.holdings; kept = x.keeps.kept; bare = x.keeps.bare }; knows = x.knows }
