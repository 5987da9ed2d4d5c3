-- Single calls of a claim: what they leave open, and what their refusals rest on.
use Rattle.std.proofs.Common.{◌≡◌, ℕ, Bool, true, false, cond, Option, Some, None, Err, List, [], ◌∷◌, ◌++◌, refl, sym, ap, ◌∙◌, append-nil, arith}
use Rattle.plain_laws.proofs.Texts.{same_bytes}
use Rattle.dir_model.specs.declared.event.Event.{Event}
use Rattle.dir_model.specs.declared.opening.Holding.{Holding}
use Rattle.dir_model.specs.declared.pod.PodId.{PodId}
use Rattle.dir_model.specs.declared.spot.Handle.{Handle}
use Rattle.dir_model.specs.declared.spot.Mode.TheVariants.{Exclusive}
use Rattle.dir_model.specs.declared.spot.Which.{Which}
use Rattle.dir_model.specs.declared.request.DirError.{DirError}
use Rattle.dir_model.specs.declared.request.DirError.TheVariants.{Missing, Exists, NotEmpty, Locked, Failed}
use Rattle.dir_model.specs.declared.request.DirError.TheVariants as dir
use Rattle.dir_model.specs.declared.request.Request.TheVariants.{Open, TryLock, MoveFolder, Close}
use Rattle.dir_model.specs.declared.request.Reply.TheVariants.{Done, Opened, Refused}
use Rattle.dir_model.specs.declared.tree.TreeEntry.{TreeEntry}
use Rattle.dir_model.specs.Calls.{CallStep, AtOwnStep}
use Rattle.dir_model.specs.Causes.{Rose}
use Rattle.dir_model.specs.Local.{Local, held_in, with_handle, with_lock as locked_with, without, IsUnopened}
use Rattle.dir_model.specs.Locks.{target_of}
use Rattle.dir_model.specs.Replies.{may_refuse, refused_in, open_refusal, is_error}
use Rattle.dir_model.specs.State.{DirState, stands, folder_at}
use Rattle.dir_model.specs.Pods.{pod_text}
use Rattle.dir_model.proofs.Allowed.{allowed_reply}
use Rattle.dir_model.proofs.Chains.{nothing_yet, and_call}
use Rattle.dir_model.proofs.Holdings.{tried_by, closed_after_lock, none_locked}
use Rattle.dir_model.proofs.Lists.{and_both, same_self, map_push}
use Rattle.dir_model.proofs.Moments.{step_at}
use Rattle.dir_model.proofs.Spots.{spot_self}
use Rattle.dir_trait.specs.DirCalls.{DirAt, DirCall}
use Rattle.pod_locks.specs.ClaimRequests.{in_prepared, in_run, claims}
use Rattle.pod_locks.specs.ClaimHolding.{and_prepared_lock}
use Rattle.pod_locks.specs.ClaimSetbacks.{claim_setback_of, claim_step_setback}
use Rattle.pod_locks.specs.Setbacks.{step_setback_of, step_lock_setback}
use Rattle.pod_locks.specs.Work.{WentClaiming, MovedNothing}
use Rattle.pod_locks.specs.ClaimCauses.{CannotOpen, IsNotInPrepared, ClaimWasStopped}
use Rattle.pod_locks.proofs.Traces.{one_deed}

-- what is open

pub locked_is : {a b : Local} (m : Local) (h : Handle) (pod : PodId) (which : Which) → IsUnopened m h → a ≡ with_handle m h (target_of (in_prepared pod) which) → b ≡ locked_with a h Exclusive → b ≡ and_prepared_lock m pod which h
locked_is {a} {b} m h pod which unopened open_is lock_is =
    let fresh : Holding = record { handle = h; target = target_of (in_prepared pod) which; lock = None } in
    lock_is ∙ (ap (λ (x : Local). locked_with x h Exclusive) open_is
    ∙ ap (λ (hs : List Holding). let r : Local = record m { holdings = hs } in r)
    (map_push (held_in h Exclusive) m.holdings fresh ∙ (ap (λ (hs : List Holding). hs ++ held_in h Exclusive fresh ∷ [])
    (none_locked h Exclusive m.holdings unopened) ∙ ap (λ b. m.holdings ++ cond b (record fresh { lock = Some Exclusive }) fresh ∷ []) (same_self h.number))))

pub lock_closed : {b c : Local} (m : Local) (h : Handle) (pod : PodId) (which : Which) → IsUnopened m h → b ≡ and_prepared_lock m pod which h → c ≡ without b h → c ≡ m
lock_closed {b} {c} m h pod which unopened is close_is =
    close_is ∙ (ap (λ (x : Local). without x h) (is ∙ sym (locked_is m h pod which unopened refl refl)) ∙ closed_after_lock m h (target_of (in_prepared pod) which) unopened Exclusive)

-- the calls are among those of a claim

pub asks_open : (pod : PodId) (which : Which) → claims pod (Open (in_prepared pod) which) ≡ true
asks_open pod which = rw (same_bytes (pod_text pod.bytes)) refl

pub asks_move : (pod : PodId) → claims pod (MoveFolder (in_prepared pod) (in_run pod)) ≡ true
asks_move pod = and_both _ _ (spot_self (in_prepared pod)) (spot_self (in_run pod))

module _ {observed : Bool} {pod : PodId} {which : Which} {h : Handle} {old mid : DirAt} (unopened : IsUnopened old.local h)
    (x : DirCall observed old (Open (in_prepared pod) which) (Opened h) mid) where
  pub went_taken : {new : DirAt} → DirCall observed mid (TryLock h Exclusive) Done new → WentClaiming observed 3 pod (and_prepared_lock old.local pod which h) old new
  went_taken y = record {
    counted = omega (arith, x.counted, y.counted);
    same = y.same ∙ x.same;
    faults = omega (arith, x.faults, y.faults);
    local_is = locked_is old.local h pod which unopened x.local y.local;
    extends = λ t. and_call (and_call nothing_yet refl (asks_open pod which) (x.step t)) x.same refl (y.step t);
  }

  pub went_untaken : {late new : DirAt} (e : DirError) → DirCall observed mid (TryLock h Exclusive) (Refused e 0) late → DirCall observed late (Close h) Done new → WentClaiming observed 3 pod old.local old new
  went_untaken e y z = record {
    counted = omega (arith, x.counted, y.counted, z.counted);
    same = z.same ∙ (y.same ∙ x.same);
    faults = omega (arith, x.faults, y.faults, z.faults);
    local_is = tried_by h (target_of (in_prepared pod) which) Exclusive (Err e) unopened x.local y.local z.local;
    extends = λ t. and_call (and_call (and_call nothing_yet refl (asks_open pod which) (x.step t)) x.same refl (y.step t)) (y.same ∙ x.same) refl (z.step t);
  }

pub went_unopened : {observed : Bool} {pod : PodId} {which : Which} {old new : DirAt} (e : DirError) → DirCall observed old (Open (in_prepared pod) which) (Refused e 0) new → WentClaiming observed 3 pod old.local old new
went_unopened {observed} {pod} {which} e x = record {
  counted = omega (arith, x.counted);
  same = x.same;
  faults = x.faults;
  local_is = x.local;
  extends = λ t. and_call nothing_yet refl (asks_open pod which) (x.step t);
}

-- what the refusals rest on

missing_by : (r : DirError) → is_error Missing (Some r) ≡ true → Some r ≡ Some Missing
missing_by Missing is = refl
missing_by _ is = cc

pub is_missing : (o : Option DirError) → is_error Missing o ≡ true → o ≡ Some Missing
is_missing None is = cc
is_missing (Some r) is = missing_by r is

cannot_open : (s : DirState) (me : ℕ) (pod : PodId) (which : Which) → is_error Missing (refused_in (open_refusal which) s.entries (folder_at s.namespace (in_prepared pod))) ≡ true
    → refused_in (open_refusal which) (s.entries ++ []) (folder_at s.namespace (in_prepared pod)) ≡ Some Missing
cannot_open s me pod which is = ap (λ (es : List TreeEntry). refused_in (open_refusal which) es (folder_at s.namespace (in_prepared pod))) (append-nil s.entries) ∙ is_missing _ is

pub missed_open : {me : ℕ} {old new : List Event} (pod : PodId) (which : Which) → CallStep me old (Open (in_prepared pod) which) (Refused Missing 0) new → AtOwnStep me old new (CannotOpen pod which)
missed_open {me} {old} {new} pod which s = step_at me old (Open (in_prepared pod) which) (Refused Missing 0) new (CannotOpen pod which) refl refl
    (λ s allowed. cannot_open s me pod which (allowed_reply s me (Open (in_prepared pod) which) (Refused Missing 0) allowed)) s

pub from_missing : (b to : Bool) → is_error Missing (cond b (cond to (Some Exists) None) (Some Missing)) ≡ true → b ≡ false
from_missing true true is = cc
from_missing true false is = cc
from_missing false to is = refl

pub missed_move : {me : ℕ} {old new : List Event} (pod : PodId) → CallStep me old (MoveFolder (in_prepared pod) (in_run pod)) (Refused Missing 0) new → AtOwnStep me old new (IsNotInPrepared pod)
missed_move {me} {old} {new} pod s = step_at me old (MoveFolder (in_prepared pod) (in_run pod)) (Refused Missing 0) new (IsNotInPrepared pod) refl refl
    (λ s allowed. from_missing (stands s.namespace (in_prepared pod)) (stands s.namespace (in_run pod)) (allowed_reply s me (MoveFolder (in_prepared pod) (in_run pod)) (Refused Missing 0) allowed)) s

abbrev Quiet : Bool → DirAt → DirAt → Type 0
Quiet observed old new = observed ≡ true → MovedNothing old.process old.trace new.trace

-- the lock was refused
pub lock_stops : {observed : Bool} {pod : PodId} {Missed : DirState → Type 0} {old new : DirAt} (which : Which) (h : Handle) (e : DirError) → may_refuse (TryLock h Exclusive) e ≡ true
    → (e ≡ Failed → Rose old.faults new.faults) → Quiet observed old new → ClaimWasStopped observed pod Missed (claim_step_setback pod (step_lock_setback which e)) old new
lock_stops which h Locked may rose still = record { still = still; fault = λ is. cc; missing = λ is. cc; manifest = λ is. cc; barred = λ is. cc; named = λ other w is. cc; there = λ is. cc; right = λ p is. cc }
lock_stops which h Failed may rose still = record { still = still; fault = λ is. rose refl; missing = λ is. cc; manifest = λ is. cc; barred = λ is. cc; named = λ other w is. cc; there = λ is. cc; right = λ p is. cc }
lock_stops which h dir.NoMemory may rose still = record { still = still; fault = λ is. cc; missing = λ is. cc; manifest = λ is. cc; barred = λ is. cc; named = λ other w is. cc; there = λ is. cc; right = λ p is. cc }
lock_stops which h Missing may rose still = cc
lock_stops which h Exists may rose still = cc
lock_stops which h NotEmpty may rose still = cc

-- it couldn't be opened
pub open_stops : {observed : Bool} {pod : PodId} {which : Which} {old new : DirAt} (e : DirError) → may_refuse (Open (in_prepared pod) which) e ≡ true
    → (e ≡ Failed → Rose old.faults new.faults) → Quiet observed old new → DirCall observed old (Open (in_prepared pod) which) (Refused e 0) new → ClaimWasStopped observed pod (CannotOpen pod which) (claim_step_setback pod (step_setback_of e)) old new
open_stops {observed} {pod} {which} Missing may rose still x = record { still = still; fault = λ is. cc; missing = λ is t. missed_open pod which (x.step t); manifest = λ is. cc; barred = λ is. cc; named = λ other w is. cc; there = λ is. cc; right = λ p is. cc }
open_stops Failed may rose still x = record { still = still; fault = λ is. rose refl; missing = λ is. cc; manifest = λ is. cc; barred = λ is. cc; named = λ other w is. cc; there = λ is. cc; right = λ p is. cc }
open_stops dir.NoMemory may rose still x = record { still = still; fault = λ is. cc; missing = λ is. cc; manifest = λ is. cc; barred = λ is. cc; named = λ other w is. cc; there = λ is. cc; right = λ p is. cc }
open_stops Locked may rose still x = cc
open_stops Exists may rose still x = cc
open_stops NotEmpty may rose still x = cc

-- the pod wasn't moved
pub move_stops : {observed : Bool} {pod : PodId} {old new : DirAt} (e : DirError) → may_refuse (MoveFolder (in_prepared pod) (in_run pod)) e ≡ true
    → (e ≡ Failed → Rose old.faults new.faults) → Quiet observed old new → DirCall observed old (MoveFolder (in_prepared pod) (in_run pod)) (Refused e 0) new → ClaimWasStopped observed pod (IsNotInPrepared pod) (claim_setback_of e) old new
move_stops {observed} {pod} Missing may rose still x = record { still = still; fault = λ is. cc; missing = λ is t. missed_move pod (x.step t); manifest = λ is. cc; barred = λ is. cc; named = λ other w is. cc; there = λ is. cc; right = λ p is. cc }
move_stops Exists may rose still x = record { still = still; fault = λ is. cc; missing = λ is. cc; manifest = λ is. cc; barred = λ is t. one_deed (x.step t); named = λ other w is. cc; there = λ is. cc; right = λ p is. cc }
move_stops Failed may rose still x = record { still = still; fault = λ is. rose refl; missing = λ is. cc; manifest = λ is. cc; barred = λ is. cc; named = λ other w is. cc; there = λ is. cc; right = λ p is. cc }
move_stops dir.NoMemory may rose still x = record { still = still; fault = λ is. cc; missing = λ is. cc; manifest = λ is. cc; barred = λ is. cc; named = λ other w is. cc; there = λ is. cc; right = λ p is. cc }
move_stops Locked may rose still x = cc
move_stops NotEmpty may rose still x = cc
