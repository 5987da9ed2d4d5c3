-- What a process may do under the pod's Claim, and what it knows once Claim is given up.
use Rattle.std.proofs.Common.{◌≡◌, ℕ, Bool, true, Some, refl, sym, subst, ◌∙◌, arith}
use Rattle.plain_laws.proofs.Texts.{same_bytes}
use Rattle.dir_model.specs.declared.area.Area.TheVariants.{Prepared, Garbage}
use Rattle.dir_model.specs.declared.pod.PodId.{PodId}
use Rattle.dir_model.specs.declared.spot.Handle.{Handle}
use Rattle.dir_model.specs.declared.spot.Mode.TheVariants.{Shared, Exclusive}
use Rattle.dir_model.specs.declared.spot.Which.{Which}
use Rattle.dir_model.specs.declared.spot.Which.TheVariants.{Own, Claim}
use Rattle.dir_model.specs.declared.request.Request.TheVariants.{Close}
use Rattle.dir_model.specs.declared.request.Reply.TheVariants.{Done}
use Rattle.dir_model.specs.Local.{Local, IsUnopened}
use Rattle.dir_model.specs.Pods.{pod_text}
use Rattle.dir_model.proofs.Chains.{and_call, and_more, extends_wider}
use Rattle.dir_rules.specs.declared.seen.Seen.{Seen}
use Rattle.dir_rules.specs.Conforms.{Looked}
use Rattle.dir_trait.specs.DirCalls.{DirAt, DirCall}
use Rattle.dir_trait.specs.Knowledge.{Knows, OnlyLooks}
use Rattle.dir_trait.proofs.Knowing.{knows_call}
use Rattle.dir_trait.proofs.Looking.{fresh_of}
use Rattle.dir_trait.specs.Effects.{OnlyAsks, LeavesOpen, Given}
use Rattle.dir_model.specs.Spots.{pod_spot}
use Rattle.pod_locks.proofs.ClaimCalls.{lock_closed}
use Rattle.pod_locks.proofs.ClaimSeen.{off, none_kind}
use Rattle.pod_locks.proofs.Times.{at_part}
use Rattle.pod_locks.proofs.Traces.{grown_none}
use Rattle.pod_locks.specs.declared.setback.Setback.{Setback}
use Rattle.pod_locks.specs.declared.setback.Setback.TheVariants as stop
use Rattle.pod_locks.specs.Requests.{looks_at}
use Rattle.pod_locks.specs.Holding.{and_pod_lock, on_pod_lock, with_pod_lock, with_look, IsBare, MayLook, LooksFree, MayTakeLock, MayMove, KeepsHoldings, KeepsReady}
use Rattle.pod_locks.specs.Causes.{StepWasStopped, IsAbsentAt, CannotOpenAt, LockBusyElsewhere}
use Rattle.pod_locks.proofs.Calls.{Follows}
use Rattle.pod_locks.proofs.Within.{held_within}
use Rattle.pod_locks.proofs.Knowing.{knows_as}
use Rattle.pod_gc.specs.RemovalRequests.{removes}
use Rattle.pod_gc.specs.RemovalHolding.{MayDiscard, UnderClaim}
use Rattle.pod_gc.specs.RemovalCauses.{is_look_setback, RemovalStopsAlone, StoppedAlone, BusyInPrepared, BusyByLooks}
use Rattle.pod_gc.proofs.Closing.{given_keeps}
use Rattle.pod_gc.proofs.CallKinds.{looks_remove}
use Rattle.pod_gc.proofs.Stages.{spares, same_ready}

module _ {now : ℕ} (pod : PodId) (claim : Handle) (base : Seen) (may : MayDiscard pod now base) where
  abbrev Under : Seen
  Under = with_pod_lock pod Prepared Claim claim base

  base_looks : MayLook pod Prepared Under
  base_looks = record {
    alone = off Own (pod_spot pod Prepared) base.standing.holdings may.may.apart;
    single = none_kind Own base.standing.holdings may.may.apart;
    may = rw (same_bytes (pod_text pod.bytes), may.may.began) refl;
  }

  base_moves : MayMove pod Prepared Garbage (with_look pod Prepared Under)
  base_moves = record {
    allowed = rw (same_bytes (pod_text pod.bytes), may.may.began, may.asked, spares pod base.standing.holdings may.may.apart, same_bytes (pod_text pod.bytes)) refl;
    alone = off Own (pod_spot pod Prepared) base.standing.holdings may.may.apart;
    bare = may.may.bare;
  }

pub looks_under : {now : ℕ} {s : Seen} (pod : PodId) → UnderClaim pod now s → MayLook pod Prepared s
looks_under pod u = subst (λ (x : Seen). MayLook pod Prepared x) (sym u.is) (base_looks pod u.claim u.base u.may)

moves_under : {now : ℕ} {s : Seen} (pod : PodId) → UnderClaim pod now s → MayMove pod Prepared Garbage (with_look pod Prepared s)
moves_under pod u = subst (λ (x : Seen). MayMove pod Prepared Garbage (with_look pod Prepared x)) (sym u.is) (base_moves pod u.claim u.base u.may)

pub bare_under : {now : ℕ} {s : Seen} {d : DirAt} {pod : PodId} → UnderClaim pod now s → Knows d s → KeepsReady s d
bare_under {now} {s} {d} {pod} u k = subst (λ (x : Seen). KeepsReady x d) (sym u.is) (record { known = with_pod_lock pod Prepared Claim u.claim u.base; keeps = record { intent = refl; holdings = refl; kept = refl; bare = u.may.may.bare }; knows = knows_as u.is k })

pub ready_under : {now : ℕ} {old mid new : DirAt} (pod : PodId) → Given (MayLook pod Prepared) old (λ s. LooksFree pod Prepared s mid) → Given (MayMove pod Prepared Garbage) mid (λ s. KeepsReady s new)
    → Given (UnderClaim pod now) old (λ s. KeepsReady s new)
ready_under pod free moves s k u =
    let x = moves (with_look pod Prepared s) (free s k (looks_under pod u)) (moves_under pod u) in
    record { known = x.known; keeps = record { intent = x.keeps.intent; holdings = x.keeps.holdings; kept = x.keeps.kept; bare = x.keeps.bare }; knows = x.knows }

-- looks leave it as it was
looked_keeps : {s known : Seen} → IsBare s → Looked s known → KeepsHoldings s known
looked_keeps {s} bare l = subst (λ (x : Seen). KeepsHoldings s x) (sym l.same) (record { intent = refl; holdings = refl; kept = refl; bare = bare })

-- Own is asked for shared
pub busy_own : (old new : DirAt) (pod : PodId) (e : Setback) → ((which : Which) → e ≡ stop.Busy which → which ≡ Own) → LockBusyElsewhere pod Prepared Shared e old new → BusyInPrepared pod e old new
busy_own old new pod e named busy Own is = busy Own is
busy_own old new pod e named busy Claim is = let w = named Claim is in cc

-- Claim is asked for exclusively
pub busy_claim : (old new : DirAt) (pod : PodId) (e : Setback) → ((which : Which) → e ≡ stop.Busy which → which ≡ Claim) → LockBusyElsewhere pod Prepared Exclusive e old new → BusyInPrepared pod e old new
busy_claim old new pod e named busy Claim is = busy Claim is
busy_claim old new pod e named busy Own is = let w = named Own is in cc

-- who may ask for Claim
pub takes_claim : {now : ℕ} {s : Seen} (pod : PodId) → MayDiscard pod now s → MayTakeLock pod Prepared Claim s
takes_claim {now} {s} pod may = record { alone = off Claim (pod_spot pod Prepared) s.standing.holdings may.may.apart; single = none_kind Claim s.standing.holdings may.may.apart; opens = refl; bare = refl; may = refl }

pub discards_under : {now : ℕ} {s : Seen} {d : DirAt} {h : Handle} (pod : PodId) → Knows d s → IsUnopened d.local h → MayDiscard pod now s → UnderClaim pod now (with_pod_lock pod Prepared Claim h s)
discards_under {now} {s} {d} {h} pod k unopened may = record { claim = h; base = s; may = may; fresh = fresh_of h k unopened; is = refl }

-- and once it is given up
pub ready_claimed : {observed : Bool} {now : ℕ} {a b c d : DirAt} {h : Handle} (pod : PodId) → observed ≡ true → IsUnopened a.local h → Given (MayTakeLock pod Prepared Claim) a (λ s. Knows b (with_pod_lock pod Prepared Claim h s))
    → Given (UnderClaim pod now) b (λ s. KeepsReady s c) → DirCall observed c (Close h) Done d → Given (MayDiscard pod now) a (λ s. KeepsReady s d)
ready_claimed {observed} {now} {a} {b} {c} {d} {h} pod t unopened held under z s k may =
    let x = under (with_pod_lock pod Prepared Claim h s) (held s k (takes_claim pod may)) (discards_under pod k unopened may) in
    record {
      known = _;
      keeps = given_keeps (on_pod_lock pod Prepared Claim h (Some Exclusive)) s x.known (fresh_of h k unopened) may.may.apart refl x.keeps.holdings x.keeps.intent x.keeps.kept x.keeps.bare;
      knows = knows_call t x.knows refl refl z;
    }

-- a part of the time in which another process held the lock
pub busy_within : {observed : Bool} {pod : PodId} {e : Setback} {a b c d : DirAt} → observed ≡ true → Follows observed a b → Follows observed c d → BusyInPrepared pod e b c → BusyInPrepared pod e a d
busy_within t ab cd busy which is = held_within (ab.grown t) ab.same (cd.grown t) (busy which is)

-- what is open, and which calls were made, once Claim was taken and given up
pub worked_claimed : {observed : Bool} {a b c d : DirAt} {h : Handle} (pod : PodId) (now : ℕ) → IsUnopened a.local h → LeavesOpen observed (looks_at pod Prepared) (and_pod_lock a.local pod Prepared Claim h) a b → OnlyAsks observed (removes pod now) b c
    → DirCall observed c (Close h) Done d → OnlyAsks observed (removes pod now) a d
worked_claimed {observed} {a} {b} {c} {d} {h} pod now unopened w v z = record {
  same = z.same ∙ (v.same ∙ w.same);
  faults = omega (arith, w.faults, v.faults, z.faults);
  local = lock_closed a.local h pod Claim unopened (v.local ∙ w.local_is) z.local;
  extends = λ t. and_call (and_more (extends_wider (looks_remove pod now Prepared (omega arith)) (w.extends t)) w.same (v.extends t)) (v.same ∙ w.same) refl (z.step t);
}

-- Claim couldn't be opened, and the folder was looked for
pub worked_alone : {observed : Bool} {a b c : DirAt} (pod : PodId) (now : ℕ) → LeavesOpen observed (looks_at pod Prepared) a.local a b → OnlyAsks observed (looks_at pod Prepared) b c → OnlyAsks observed (removes pod now) a c
worked_alone {observed} {a} {b} {c} pod now w v = record {
  same = v.same ∙ w.same;
  faults = omega (arith, w.faults, v.faults);
  local = v.local ∙ w.local_is;
  extends = λ t. extends_wider (looks_remove pod now Prepared (omega arith)) (and_more (w.extends t) w.same (v.extends t));
}

look_only : (e : Setback) → is_look_setback e ≡ true → (e ≡ stop.Stray → ⊥) × ((which : Which) → e ≡ stop.Busy which → ⊥)
look_only stop.Missing calm = (λ is. cc, λ w is. cc)
look_only stop.NoManifest calm = (λ is. cc, λ w is. cc)
look_only stop.DirFault calm = (λ is. cc, λ w is. cc)
look_only stop.NoMemory calm = (λ is. cc, λ w is. cc)
look_only stop.Stray calm = cc
look_only (stop.Busy which) calm = cc

pub alone_stops : {observed : Bool} {e : Setback} {a b c : DirAt} (pod : PodId) → Follows observed a b → StepWasStopped observed pod (CannotOpenAt pod Prepared Claim) stop.Missing a b → RemovalStopsAlone observed pod e b c → StoppedAlone observed pod e a c
alone_stops {observed} {e} {a} {b} {c} pod ab first s = record {
  fault = λ is. let r = s.fault is in omega (arith, ab.faults, r);
  missing = λ is t. at_part (ab.grown t) ab.same grown_none (s.missing is t);
  manifest = λ is t. record { between = b.trace; closed = first.missing refl t; there = at_part grown_none ab.same grown_none (s.there is t) };
  stray = λ is t. absurd ((look_only e s.calm).0 is);
}

pub alone_busy : {observed : Bool} {e : Setback} {b c : DirAt} {pod : PodId} (a : DirAt) → RemovalStopsAlone observed pod e b c → BusyInPrepared pod e a c
alone_busy {observed} {e} a s which is = absurd ((look_only e s.calm).1 which is)

pub ready_looked : {now : ℕ} {a b c : DirAt} {pod : PodId} → Given (MayTakeLock pod Prepared Claim) a (λ s. Knows b s) → OnlyLooks b c → Given (MayDiscard pod now) a (λ s. KeepsReady s c)
ready_looked {now} {a} {b} {c} {pod} left looks s k may =
    let x = looks s (left s k (takes_claim pod may)) in
    record { known = x.known; keeps = looked_keeps may.may.bare x.looked; knows = x.knows }

pub ready_left : {now : ℕ} {a b : DirAt} {pod : PodId} → Given (MayTakeLock pod Prepared Claim) a (λ s. Knows b s) → Given (MayDiscard pod now) a (λ s. KeepsReady s b)
ready_left {now} {a} {b} {pod} left s k may = same_ready may.may (left s k (takes_claim pod may))

-- Claim wasn't taken, and the pod isn't missing
pub worked_untaken : {observed : Bool} {a b : DirAt} (pod : PodId) (now : ℕ) → LeavesOpen observed (looks_at pod Prepared) a.local a b → OnlyAsks observed (removes pod now) a b
worked_untaken {observed} {a} {b} pod now w = record { same = w.same; faults = w.faults; local = w.local_is; extends = λ t. extends_wider (looks_remove pod now Prepared (omega arith)) (w.extends t) }

pub stops_else : {observed : Bool} {e : Setback} {a b : DirAt} (pod : PodId) → (e ≡ stop.Missing → ⊥) → StepWasStopped observed pod (CannotOpenAt pod Prepared Claim) e a b → StoppedAlone observed pod e a b
stops_else pod other s = record { fault = s.fault; missing = λ is t. absurd (other is); manifest = λ is t. absurd (s.manifest is); stray = s.stray }

pub stops_alone : {observed : Bool} {pod : PodId} {e : Setback} {a b : DirAt} → StepWasStopped observed pod (IsAbsentAt pod Prepared) e a b → StoppedAlone observed pod e a b
stops_alone s = record { fault = s.fault; missing = s.missing; manifest = λ is t. absurd (s.manifest is); stray = s.stray }

-- no lock was refused where Claim couldn't be opened
pub alone_calm : {observed : Bool} {e : Setback} {b c : DirAt} {pod : PodId} {which : Which} → RemovalStopsAlone observed pod e b c → e ≡ stop.Busy which → ⊥
alone_calm {observed} {e} {b} {c} {pod} {which} s is = (look_only e s.calm).1 which is

pub claim_calm : Own ≡ Claim → ⊥
claim_calm is = cc

-- a lock was refused, and nothing but looks was asked for
pub looks_alone : {observed : Bool} {e : Setback} {b c : DirAt} {pod : PodId} (a : DirAt) → RemovalStopsAlone observed pod e b c → BusyByLooks observed pod Prepared e a c
looks_alone a s which is = absurd (alone_calm s is)

pub looks_claimed : {observed : Bool} {e : Setback} {l : Local} {a b c d : DirAt} {h : Handle} (pod : PodId) → LeavesOpen observed (looks_at pod Prepared) l a b → c.process ≡ b.process → DirCall observed c (Close h) Done d → BusyByLooks observed pod Prepared e b c → BusyByLooks observed pod Prepared e a d
looks_claimed pod w same z busy which is t = and_call (and_more (w.extends t) w.same (busy which is t)) (same ∙ w.same) refl (z.step t)
