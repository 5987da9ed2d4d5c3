-- What a process knows after each part of a claim.
use Rattle.std.proofs.Common.{◌≡◌, ℕ, Bool, true, None, refl, sym, ap, subst, ◌∙◌}
use Rattle.dir_model.specs.declared.pod.PodId.{PodId}
use Rattle.dir_model.specs.declared.spot.Handle.{Handle}
use Rattle.dir_model.specs.declared.spot.Mode.TheVariants.{Exclusive}
use Rattle.dir_model.specs.declared.spot.Which.{Which}
use Rattle.dir_model.specs.declared.spot.Which.TheVariants.{Own}
use Rattle.dir_model.specs.declared.request.DirError.{DirError}
use Rattle.dir_model.specs.declared.request.DirError.TheVariants.{Missing, Exists, NotEmpty, Locked, Failed}
use Rattle.dir_model.specs.declared.request.DirError.TheVariants as dir
use Rattle.dir_model.specs.declared.request.Request.TheVariants.{Open, TryLock, MoveFolder, Close}
use Rattle.dir_model.specs.declared.request.Reply.TheVariants.{Done, Opened, Refused}
use Rattle.dir_model.specs.Calls.{CallStep}
use Rattle.dir_model.specs.Local.{IsUnopened}
use Rattle.dir_rules.specs.declared.seen.Seen.{Seen}
use Rattle.dir_rules.specs.Conforms.{IsTied}
use Rattle.dir_rules.proofs.Looks.{looked_same}
use Rattle.dir_trait.specs.DirCalls.{DirAt, DirCall}
use Rattle.dir_trait.specs.Knowledge.{Knows, LookedInto}
use Rattle.dir_trait.proofs.Knowing.{knows_call}
use Rattle.dir_trait.proofs.Looking.{fresh_of}
use Rattle.pod_locks.specs.ClaimRequests.{in_prepared, in_run}
use Rattle.pod_locks.specs.ClaimHolding.{on_prepared_lock, and_held, HasClaim, MayTakePrepared, is_own_lock, with_prepared_lock, with_pod}
use Rattle.pod_locks.specs.declared.claim_error.ClaimError.TheVariants.{Busy}
use Rattle.pod_locks.specs.declared.claim_setback.Setback.TheVariants as setback
use Rattle.pod_locks.specs.declared.setback.Setback.{Setback as StepSetback}
use Rattle.pod_locks.specs.declared.setback.Setback.TheVariants as step
use Rattle.pod_locks.specs.ClaimSetbacks.{claim_step_setback}
use Rattle.pod_locks.specs.Setbacks.{step_setback_of, step_lock_setback}
use Rattle.pod_locks.specs.ClaimCauses.{ClaimBusyElsewhere, PreparedHeldByAnother}
use Rattle.pod_locks.specs.Work.{WhereObservedKnew}
use Rattle.pod_locks.proofs.ClaimOpposed.{held_step}
use Rattle.pod_locks.proofs.Times.{held_part}
use Rattle.pod_locks.proofs.Traces.{grown_none, grown_call}
use Rattle.pod_locks.proofs.ClaimSeen.{CanTake, can_take, not_opened, lock_had, lock_refused, free_given, own_given, moved_seen, unmoved_seen}
use Rattle.pod_locks.proofs.Knowing.{knows_as}

-- a lock of the pod was opened
pub knows_opened : {observed : Bool} {pod : PodId} {which : Which} {h : Handle} {old mid : DirAt} {z : Seen} → observed ≡ true → CanTake pod which z → Knows old z → DirCall observed old (Open (in_prepared pod) which) (Opened h) mid
    → Knows mid (and_held (on_prepared_lock pod which h None (is_own_lock which)) z)
knows_opened {observed} {pod} {which} {h} t can k x = knows_as (can.opens h) (knows_call t k refl refl x)

-- and had, or not
pub knows_taken : {observed : Bool} {h : Handle} {old mid new : DirAt} (pod : PodId) (which : Which) → IsUnopened old.local h → DirCall observed old (Open (in_prepared pod) which) (Opened h) mid → DirCall observed mid (TryLock h Exclusive) Done new
    → WhereObservedKnew observed (MayTakePrepared pod which) old (λ z. Knows new (with_prepared_lock pod which h z))
knows_taken {observed} {h} pod which unopened x y t z may k =
    let can = can_take pod which z may in
    knows_as (lock_had pod which h (is_own_lock which) z (fresh_of h k unopened) can.alone can.may) (knows_call t (knows_opened t can k x) refl refl y)

pub knows_untaken : {observed : Bool} {h : Handle} {old mid late new : DirAt} (pod : PodId) (which : Which) (e : DirError) → IsUnopened old.local h → DirCall observed old (Open (in_prepared pod) which) (Opened h) mid
    → DirCall observed mid (TryLock h Exclusive) (Refused e 0) late → DirCall observed late (Close h) Done new → WhereObservedKnew observed (MayTakePrepared pod which) old (λ z. Knows new z)
knows_untaken {observed} {h} pod which e unopened x y w t z may k =
    let can = can_take pod which z may in
    let fresh = fresh_of h k unopened in
    let asked = knows_as (lock_refused pod which h (is_own_lock which) z fresh can.alone can.may e) (knows_call t (knows_opened t can k x) refl refl y) in
    knows_as (free_given pod which h (is_own_lock which) z fresh) (knows_call t asked refl refl w)

pub knows_unopened : {observed : Bool} {old new : DirAt} (pod : PodId) (which : Which) (e : DirError) → DirCall observed old (Open (in_prepared pod) which) (Refused e 0) new → WhereObservedKnew observed (MayTakePrepared pod which) old (λ z. Knows new z)
knows_unopened pod which e x t z may k = knows_as (not_opened pod which z e) (knows_call t k refl refl x)

-- the pod was moved, or not, under both locks
module _ {observed : Bool} {pod : PodId} {own : Handle} {a b c : DirAt} (unopened : IsUnopened a.local own)
    (held : WhereObservedKnew observed (MayTakePrepared pod Own) a (λ z. Knows b (with_prepared_lock pod Own own z))) where
  pub knows_moved : DirCall observed b (MoveFolder (in_prepared pod) (in_run pod)) Done c → WhereObservedKnew observed (HasClaim pod) a (λ z. Knows c (with_pod pod own z))
  knows_moved y t z has k =
      let both = knows_as (ap (with_prepared_lock pod Own own) has.is) (held t z has k) in
      knows_as (sym (ap (with_pod pod own) has.is)) (knows_as (moved_seen pod own has.claim has.base has.may) (knows_call t both refl refl y))

  pub knows_unmoved : {d : DirAt} (e : DirError) → DirCall observed b (MoveFolder (in_prepared pod) (in_run pod)) (Refused e 0) c → DirCall observed c (Close own) Done d → WhereObservedKnew observed (HasClaim pod) a (λ z. Knows d z)
  knows_unmoved e y w t z has k =
      let both = knows_as (ap (with_prepared_lock pod Own own) has.is) (held t z has k) in
      let asked = knows_as (unmoved_seen pod own has.claim has.base has.may e) (knows_call t both refl refl y) in
      knows_as (own_given pod own true z (fresh_of own k unopened)) (knows_call t (knows_as (sym (ap (with_prepared_lock pod Own own) has.is)) asked) refl refl w)

-- what it knew, and no looks more
pub looked_none : {d : DirAt} {s : Seen} → Knows d s → LookedInto s d
looked_none {d} {s} k = record { known = s; looked = looked_same s; knows = k }

-- the lock was refused: another process held it
pub busy_elsewhere : {observed : Bool} {h : Handle} {old mid late new : DirAt} (pod : PodId) (which : Which) (e : DirError) → DirCall observed old (Open (in_prepared pod) which) (Opened h) mid
    → DirCall observed mid (TryLock h Exclusive) (Refused e 0) late → DirCall observed late (Close h) Done new → WhereObservedKnew observed (MayTakePrepared pod which) old (λ z. ClaimBusyElsewhere pod (claim_step_setback pod (step_lock_setback which e)) old new)
busy_elsewhere {observed} {h} {old} {mid} {late} {new} pod which e x y w t z may k other is = by e is y
  where
    by : (e : DirError) → claim_step_setback pod (step_lock_setback which e) ≡ setback.Refused (Busy pod other) → DirCall observed mid (TryLock h Exclusive) (Refused e 0) late → PreparedHeldByAnother pod other old.process old.trace new.trace
    by Locked is y =
        let same : which ≡ other = cc in
        let can = can_take pod which z may in
        let asks = subst (λ (p : ℕ). CallStep p mid.trace (TryLock h Exclusive) (Refused Locked 0) late.trace) x.same (y.step t) in
        let tied = subst (λ (p : ℕ). IsTied p mid.trace (and_held (on_prepared_lock pod which h None (is_own_lock which)) z)) x.same (knows_opened t can k x).tied in
        let held = held_step old.process old.trace mid.trace late.trace h pod which (x.step t) asks z can.single tied in
        subst (λ (w : Which). PreparedHeldByAnother pod w old.process old.trace new.trace) same (held_part grown_none refl (grown_call (w.step t)) held)
    by Missing is y = cc
    by Exists is y = cc
    by NotEmpty is y = cc
    by Failed is y = cc
    by dir.NoMemory is y = cc

-- a lock that couldn't be opened isn't told as busy
pub never_opened_busy : (pod : PodId) (which : Which) (e : DirError) → claim_step_setback pod (step_setback_of e) ≡ setback.Refused (Busy pod which) → ⊥
never_opened_busy pod which Missing is = cc
never_opened_busy pod which Exists is = cc
never_opened_busy pod which NotEmpty is = cc
never_opened_busy pod which Locked is = cc
never_opened_busy pod which Failed is = cc
never_opened_busy pod which dir.NoMemory is = cc

-- the lock that is told as busy is the one that the step names
pub busy_named : (pod other : PodId) (which named : Which) (stop : StepSetback) → ((w : Which) → stop ≡ step.Busy w → w ≡ which)
    → claim_step_setback pod stop ≡ setback.Refused (Busy other named) → named ≡ which
busy_named pod other which named (step.Busy w) own is = let same : named ≡ w = cc in same ∙ own w refl
busy_named pod other which named step.Missing own is = cc
busy_named pod other which named step.NoManifest own is = cc
busy_named pod other which named step.DirFault own is = cc
busy_named pod other which named step.Stray own is = cc
busy_named pod other which named step.NoMemory own is = cc
