-- What a process knows after each single step at a pod.
use Rattle.std.proofs.Common.{◌≡◌, ℕ, Bool, true, false, refl, subst, ◌∙◌}
use Rattle.dir_model.specs.declared.area.Area.{Area}
use Rattle.dir_model.specs.declared.pod.PodId.{PodId}
use Rattle.dir_model.specs.declared.spot.Handle.{Handle}
use Rattle.dir_model.specs.declared.spot.Mode.{Mode}
use Rattle.dir_model.specs.declared.spot.Mode.TheVariants.{Shared, Exclusive}
use Rattle.dir_model.specs.declared.spot.Which.{Which}
use Rattle.dir_model.specs.declared.spot.Which.TheVariants.{Own}
use Rattle.dir_model.specs.declared.request.DirError.{DirError}
use Rattle.dir_model.specs.declared.request.DirError.TheVariants.{Missing, Exists, NotEmpty, Locked, Failed}
use Rattle.dir_model.specs.declared.request.DirError.TheVariants as dir
use Rattle.dir_model.specs.declared.request.Request.TheVariants.{Open, TryLock, MoveFolder, Close}
use Rattle.dir_model.specs.declared.request.Reply.TheVariants.{Done, Opened, Refused}
use Rattle.dir_model.specs.Calls.{CallStep}
use Rattle.dir_model.specs.Local.{IsUnopened}
use Rattle.dir_model.proofs.LockTold.{told_free, told_held}
use Rattle.dir_rules.specs.declared.seen.Seen.{Seen}
use Rattle.dir_rules.specs.Conforms.{IsTied}
use Rattle.dir_trait.specs.DirCalls.{DirAt, DirCall, LockToldBetween}
use Rattle.dir_trait.specs.Knowledge.{Knows}
use Rattle.dir_trait.proofs.Knowing.{knows_call}
use Rattle.dir_trait.proofs.Looking.{fresh_of}
use Rattle.dir_trait.specs.Effects.{Given}
use Rattle.dir_model.specs.Spots.{pod_spot}
use Rattle.pod_locks.proofs.Traces.{grown_none, grown_call}
use Rattle.pod_locks.specs.declared.setback.Setback.TheVariants as stop
use Rattle.pod_locks.specs.Setbacks.{step_setback_of, step_lock_setback}
use Rattle.pod_locks.specs.Holding.{and_held, covers, HasNoHandle, MayLook, LooksFree, MayTakeLock, with_pod_lock, MayMove, KeepsReady}
use Rattle.pod_locks.specs.Causes.{PodHeldByAnother, FreeIfObserved, LockBusyElsewhere}
use Rattle.pod_locks.proofs.Opposed.{asked_on, held_step, free_step}
use Rattle.pod_locks.proofs.Within.{held_within, told_within}
use Rattle.pod_locks.proofs.Seen.{probed, not_probed, not_opened, lock_opened, lock_unopened, lock_had, lock_refused, lock_given, moved_keeps, unmoved}

pub knows_as : {d : DirAt} {a b : Seen} → a ≡ b → Knows d a → Knows d b
knows_as {d} is k = subst (λ (s : Seen). Knows d s) is k

-- Own was asked for shared
module _ {observed : Bool} (pod : PodId) (a : Area) {h : Handle} {old mid late new : DirAt} (unopened : IsUnopened old.local h) (x : DirCall observed old (Open (pod_spot pod a) Own) (Opened h) mid) where
  pub knows_probed : DirCall observed mid (TryLock h Shared) Done late → DirCall observed late (Close h) Done new → observed ≡ true → Given (MayLook pod a) old (λ s. LooksFree pod a s new)
  knows_probed y z t s k may = knows_as (probed pod a h s (fresh_of h k unopened) may) (knows_call t (knows_call t (knows_call t k refl refl x) refl refl y) refl refl z)

  pub knows_unprobed : (e : DirError) → DirCall observed mid (TryLock h Shared) (Refused e 0) late → DirCall observed late (Close h) Done new → observed ≡ true → Given (MayLook pod a) old (λ s. Knows new s)
  knows_unprobed e y z t s k may = knows_as (not_probed pod a h s (fresh_of h k unopened) may e) (knows_call t (knows_call t (knows_call t k refl refl x) refl refl y) refl refl z)

pub knows_unopened : {observed : Bool} {old new : DirAt} (pod : PodId) (a : Area) (e : DirError) → DirCall observed old (Open (pod_spot pod a) Own) (Refused e 0) new → observed ≡ true → Given (MayLook pod a) old (λ s. Knows new s)
knows_unopened pod a e x t s k may = knows_as (not_opened pod a s e) (knows_call t k refl refl x)

-- a lock was taken, or not
module _ {observed : Bool} (pod : PodId) (a : Area) (which : Which) {h : Handle} {old mid : DirAt} (unopened : IsUnopened old.local h) (x : DirCall observed old (Open (pod_spot pod a) which) (Opened h) mid) where
  pub knows_taken : {new : DirAt} → DirCall observed mid (TryLock h Exclusive) Done new → observed ≡ true → Given (MayTakeLock pod a which) old (λ s. Knows new (with_pod_lock pod a which h s))
  knows_taken y t s k may =
      let fresh = fresh_of h k unopened in
      knows_as (lock_had pod a which h s fresh may) (knows_call t (knows_as (lock_opened pod a which h s fresh may) (knows_call t k refl refl x)) refl refl y)

  pub knows_untaken : {late new : DirAt} (e : DirError) → DirCall observed mid (TryLock h Exclusive) (Refused e 0) late → DirCall observed late (Close h) Done new → observed ≡ true → Given (MayTakeLock pod a which) old (λ s. Knows new s)
  knows_untaken e y z t s k may =
      let fresh = fresh_of h k unopened in
      let asked = knows_as (lock_refused pod a which h s fresh may e) (knows_call t (knows_as (lock_opened pod a which h s fresh may) (knows_call t k refl refl x)) refl refl y) in
      knows_as (lock_given pod a which h s fresh) (knows_call t asked refl refl z)

-- and where it was, no other process held it
pub free_taken : {observed : Bool} {h : Handle} {old mid new : DirAt} (pod : PodId) (a : Area) (which : Which) (mode : Mode) → DirCall observed old (Open (pod_spot pod a) which) (Opened h) mid → DirCall observed mid (TryLock h mode) Done new
    → FreeIfObserved observed pod a which mode old new
free_taken {observed} {h} {old} {mid} {new} pod a which mode x y t =
    free_step old.process old.trace mid.trace new.trace h pod a which mode (x.step t) (subst (λ (p : ℕ). CallStep p mid.trace (TryLock h mode) Done new.trace) x.same (y.step t))

pub knows_unlocked : {observed : Bool} {old new : DirAt} (pod : PodId) (a : Area) (which : Which) (e : DirError) → DirCall observed old (Open (pod_spot pod a) which) (Refused e 0) new → observed ≡ true → Given (MayTakeLock pod a which) old (λ s. Knows new s)
knows_unlocked pod a which e x t s k may = knows_as (lock_unopened pod a which s may e) (knows_call t k refl refl x)

-- the lock was refused: another process held it

pub busy_elsewhere : {observed : Bool} {h : Handle} {old mid late new : DirAt} (pod : PodId) (a : Area) (which : Which) (mode : Mode) (covered : Bool) (e : DirError) → DirCall observed old (Open (pod_spot pod a) which) (Opened h) mid
    → DirCall observed mid (TryLock h mode) (Refused e 0) late → DirCall observed late (Close h) Done new → observed ≡ true → (z : Seen) → HasNoHandle which z → Knows mid (and_held (asked_on pod a which h covered) z) → LockBusyElsewhere pod a mode (step_lock_setback which e) old new
busy_elsewhere {observed} {h} {old} {mid} {late} {new} pod a which mode covered e x y w t z single k other is = by e is y
  where
    by : (e : DirError) → step_lock_setback which e ≡ stop.Busy other → DirCall observed mid (TryLock h mode) (Refused e 0) late → PodHeldByAnother pod a other mode old.process old.trace new.trace
    by Locked is y =
        let same : which ≡ other = cc in
        let asks = subst (λ (p : ℕ). CallStep p mid.trace (TryLock h mode) (Refused Locked 0) late.trace) x.same (y.step t) in
        let tied = subst (λ (p : ℕ). IsTied p mid.trace (and_held (asked_on pod a which h covered) z)) x.same k.tied in
        let held = held_step old.process old.trace mid.trace late.trace h pod a which mode covered (x.step t) asks z single tied in
        subst (λ (v : Which). PodHeldByAnother pod a v mode old.process old.trace new.trace) same (held_within grown_none refl (grown_call (w.step t)) held)
    by Missing is y = cc
    by Exists is y = cc
    by NotEmpty is y = cc
    by Failed is y = cc
    by dir.NoMemory is y = cc

pub lock_named : (which : Which) (e : DirError) (other : Which) → step_lock_setback which e ≡ stop.Busy other → other ≡ which
lock_named which Locked other is = cc
lock_named which Missing other is = cc
lock_named which Exists other is = cc
lock_named which NotEmpty other is = cc
lock_named which Failed other is = cc
lock_named which dir.NoMemory other is = cc

pub never_busy : (e : DirError) (which : Which) → step_setback_of e ≡ stop.Busy which → ⊥
never_busy Missing which is = cc
never_busy Exists which is = cc
never_busy NotEmpty which is = cc
never_busy Locked which is = cc
never_busy Failed which is = cc
never_busy dir.NoMemory which is = cc

module _ {observed : Bool} (pod : PodId) (a : Area) {h : Handle} {old mid late new : DirAt} (unopened : IsUnopened old.local h) where
  pub busy_probe : (e : DirError) → DirCall observed old (Open (pod_spot pod a) Own) (Opened h) mid → DirCall observed mid (TryLock h Shared) (Refused e 0) late → DirCall observed late (Close h) Done new → observed ≡ true
      → Given (MayLook pod a) old (λ s. LockBusyElsewhere pod a Shared (step_lock_setback Own e) old new)
  busy_probe e x y w t s k may = busy_elsewhere pod a Own Shared (covers pod a s) e x y w t s may.single (knows_call t k refl refl x)

  pub busy_take : (which : Which) (e : DirError) → DirCall observed old (Open (pod_spot pod a) which) (Opened h) mid → DirCall observed mid (TryLock h Exclusive) (Refused e 0) late → DirCall observed late (Close h) Done new → observed ≡ true
      → Given (MayTakeLock pod a which) old (λ s. LockBusyElsewhere pod a Exclusive (step_lock_setback which e) old new)
  busy_take which e x y w t s k may = busy_elsewhere pod a which Exclusive false e x y w t s may.single (knows_as (lock_opened pod a which h s (fresh_of h k unopened) may) (knows_call t k refl refl x))

-- the pod was moved, or not
module _ {observed : Bool} (pod : PodId) (from to : Area) {old new : DirAt} where
  pub ready_moved : DirCall observed old (MoveFolder (pod_spot pod from) (pod_spot pod to)) Done new → observed ≡ true → Given (MayMove pod from to) old (λ s. KeepsReady s new)
  ready_moved x t s k may = record { known = _; keeps = moved_keeps pod from to s may; knows = knows_call t k refl refl x }

  pub ready_unmoved : (e : DirError) → DirCall observed old (MoveFolder (pod_spot pod from) (pod_spot pod to)) (Refused e 0) new → observed ≡ true → Given (MayMove pod from to) old (λ s. KeepsReady s new)
  ready_unmoved e x t s k may = record {
    known = s;
    keeps = record { intent = refl; holdings = refl; kept = refl; bare = may.bare };
    knows = knows_as (unmoved pod from to s may e) (knows_call t k refl refl x);
  }

-- whether it was held is told of the folder that stood there

module _ {observed : Bool} {h : Handle} {old mid late new : DirAt} (pod : PodId) (a : Area) (x : DirCall observed old (Open (pod_spot pod a) Own) (Opened h) mid) (z : DirCall observed late (Close h) Done new) where
  pub told_probed : DirCall observed mid (TryLock h Shared) Done late → observed ≡ true → LockToldBetween old new (pod_spot pod a) false
  told_probed y t =
      let asks = subst (λ (p : ℕ). CallStep p mid.trace (TryLock h Shared) Done late.trace) x.same (y.step t) in
      told_within grown_none refl (grown_call (subst (λ (p : ℕ). CallStep p late.trace (Close h) Done new.trace) (y.same ∙ x.same) (z.step t))) (told_free _ _ _ _ _ _ (x.step t) asks)

  pub told_busy : (e : DirError) → DirCall observed mid (TryLock h Shared) (Refused e 0) late → (which : Which) → step_lock_setback Own e ≡ stop.Busy which → observed ≡ true → LockToldBetween old new (pod_spot pod a) true
  told_busy Locked y which is t =
      let asks = subst (λ (p : ℕ). CallStep p mid.trace (TryLock h Shared) (Refused Locked 0) late.trace) x.same (y.step t) in
      told_within grown_none refl (grown_call (subst (λ (p : ℕ). CallStep p late.trace (Close h) Done new.trace) (y.same ∙ x.same) (z.step t))) (told_held _ _ _ _ _ _ (x.step t) asks)
  told_busy Missing y which is t = cc
  told_busy Exists y which is t = cc
  told_busy NotEmpty y which is t = cc
  told_busy Failed y which is t = cc
  told_busy dir.NoMemory y which is t = cc
