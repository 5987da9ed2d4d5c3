-- What is read before a pod is taken, and what follows of it.
use Rattle.std.proofs.Common.{◌≡◌, inl, inr, ◌+◌, ◌≤◌, ℕ, Bool, true, false, cond, Option, Some, None, is_some, List, [], ◌∷◌, ◌++◌, refl, sym, ap, subst, ◌∙◌, append_assoc, arith, codes}
use Rattle.dir_model.specs.declared.area.Area.{Area}
use Rattle.dir_model.specs.declared.area.Area.TheVariants as area
use Rattle.dir_model.specs.declared.area.Phase.{Phase}
use Rattle.dir_model.specs.declared.area.Phase.TheVariants as phase
use Rattle.dir_model.specs.declared.event.Event.{Event}
use Rattle.dir_model.specs.declared.pod.PodId.{PodId}
use Rattle.dir_model.specs.declared.spot.Handle.{Handle}
use Rattle.dir_model.specs.declared.spot.Mode.TheVariants.{Shared}
use Rattle.dir_model.specs.declared.spot.Spot.{Spot}
use Rattle.dir_model.specs.declared.spot.Which.{Which}
use Rattle.dir_model.specs.declared.spot.Which.TheVariants.{Claim}
use Rattle.dir_model.specs.declared.request.DirError.TheVariants.{Missing}
use Rattle.dir_model.specs.declared.request.Request.{Request}
use Rattle.dir_model.specs.declared.request.Request.TheVariants.{Open, TryLock, Close}
use Rattle.dir_model.specs.declared.tree.TreeEntry.{TreeEntry}
use Rattle.dir_model.specs.Areas.{phase_in}
use Rattle.dir_model.specs.Calls.{AtOwnStep}
use Rattle.dir_model.specs.Causes.{Rose}
use Rattle.dir_model.specs.Local.{Local}
use Rattle.dir_model.specs.Replies.{is_look_at, refused_in, open_refusal}
use Rattle.dir_model.specs.State.{DirState, spot_eq, stands, folder_at}
use Rattle.dir_model.specs.Trace.{state_after}
use Rattle.dir_model.specs.Trees.{has_file}
use Rattle.dir_model.proofs.Chains.{extends_wider}
use Rattle.dir_model.proofs.Moments.{at_grown, some_number}
use Rattle.dir_rules.specs.declared.seen.Seen.{Seen}
use Rattle.dir_rules.specs.Conforms.{Looked}
use Rattle.dir_rules.proofs.Looks.{looked_more}
use Rattle.dir_laws.proofs.Rose.{rose_later}
use Rattle.dir_trait.specs.DirCalls.{DirAt, ExtendsBy, HeldBetween}
use Rattle.dir_trait.specs.Knowledge.{Knows, LookedInto, OnlyLooks}
use Rattle.lifecycle.specs.Executions.{IsConforming}
use Rattle.lifecycle.proofs.Stays.{stays_between}
use Rattle.phase_read.specs.declared.found.Found.TheVariants.{At}
use Rattle.phase_read.specs.declared.found.LookError.{LookError}
use Rattle.phase_read.specs.declared.found.LookError.TheVariants as look
use Rattle.phase_read.specs.Read.{IsPhaseReading, WasFound, is_pod_spot}
use Rattle.phase_read.specs.Exact.{AtOwnEvent, IsInPhase, IsNowhere}
use Rattle.phase_read.proofs.InTurn.{left_out_grown}
use Rattle.phase_read.proofs.Stages.{pod_spot_only}
use Rattle.pod_locks.specs.declared.claim_error.ClaimError.{ClaimError}
use Rattle.pod_locks.specs.declared.claim_error.ClaimError.TheVariants.{NoPod, WrongPhase, NoManifest, Busy}
use Rattle.pod_locks.specs.declared.claim_setback.Setback.{Setback}
use Rattle.pod_locks.specs.declared.claim_setback.Setback.TheVariants as setback
use Rattle.pod_locks.specs.ClaimRequests.{in_prepared, claims}
use Rattle.pod_locks.specs.ClaimSetbacks.{look_refusal}
use Rattle.pod_locks.specs.ClaimHolding.{MayClaim, with_pod}
use Rattle.pod_locks.specs.Work.{WentClaiming, Grew, MovedNothing, TookBoth, WhereObservedKnew}
use Rattle.pod_locks.specs.ClaimCauses.{is_prepared, CannotOpen, IsNotInPrepared, IsPreparedWithoutManifest, OpensOwnAlone, WasWrongToClaim, ClaimWasStopped, ClaimStopsAlone, BusyInTurn, ClaimCause, SetBack}
use Rattle.pod_locks.specs.Claims.{HasPod}
use Rattle.pod_locks.proofs.Times.{Follows, at_part, deeds_part, in_turn_part}
use Rattle.pod_locks.proofs.Traces.{grown_none, grown_by, still_looks, still_more}

-- a look is a request of a claim
look_claims : (pod : PodId) (test : Spot → Bool) → ((spot : Spot) → test spot ≡ true → is_pod_spot pod spot ≡ true) → (r : Request) → is_look_at test r ≡ true → claims pod r ≡ true
look_claims pod test f (Open spot which) is = f spot is
look_claims pod test f (TryLock handle mode) is = refl
look_claims pod test f (Close handle) is = refl
look_claims pod test f _ is = cc

pub went_looked : {observed : Bool} {pod : PodId} {n : ℕ} {a b : DirAt} → b.calls ≤ a.calls + n → b.process ≡ a.process → a.faults ≤ b.faults → b.local ≡ a.local → (observed ≡ true → ExtendsBy (is_look_at (is_pod_spot pod)) a b) → WentClaiming observed n pod a.local a b
went_looked {observed} {pod} counted same faults local extends = record {
  counted = counted;
  same = same;
  faults = faults;
  local_is = local;
  extends = λ t. extends_wider (look_claims pod (is_pod_spot pod) (λ spot is. is)) (extends t);
}

pub looks_there : {observed : Bool} {spot : Spot} (pod : PodId) (a b : DirAt) → spot ≡ in_prepared pod → (observed ≡ true → ExtendsBy (is_look_at (spot_eq spot)) a b) → observed ≡ true → ExtendsBy (is_look_at (is_pod_spot pod)) a b
looks_there {observed} {spot} pod a b is extends t =
    extends_wider (wider (is_pod_spot pod) (λ here same. pod_spot_only pod (in_prepared pod) here (omega arith) refl same)) (subst (λ (s : Spot). ExtendsBy (is_look_at (spot_eq s)) a b) is (extends t))
  where
    wider : (test : Spot → Bool) → ((here : Spot) → spot_eq (in_prepared pod) here ≡ true → test here ≡ true) → (r : Request) → is_look_at (spot_eq (in_prepared pod)) r ≡ true → is_look_at test r ≡ true
    wider test f (Open here which) is = f here is
    wider test f (TryLock handle Shared) is = refl
    wider test f (TryLock handle _) is = cc
    wider test f (Close handle) is = refl
    wider test f _ is = cc

-- the folder was looked for alone
module _ {observed : Bool} {pod : PodId} {a b : DirAt} (extends : observed ≡ true → ExtendsBy (is_look_at (is_pod_spot pod)) a b) where
  pub alone_there : (observed ≡ true → HeldBetween a b (λ s. stands s.namespace (in_prepared pod) ≡ true)) → ClaimStopsAlone observed pod (setback.Refused NoManifest) a b
  alone_there there = record { still = λ t. still_looks (extends t); fault = λ is. cc; missing = λ is. cc; there = λ is t. there t; calm = λ error is. inl cc }

  pub alone_missing : (observed ≡ true → HeldBetween a b (IsNotInPrepared pod)) → ClaimStopsAlone observed pod setback.Missing a b
  alone_missing absent = record { still = λ t. still_looks (extends t); fault = λ is. cc; missing = λ is t. absent t; there = λ is. cc; calm = λ error is. cc }

  pub alone_failed : (e : LookError) → (e ≡ look.DirFault → Rose a.faults b.faults) → ClaimStopsAlone observed pod (setback.Refused (look_refusal e)) a b
  alone_failed look.DirFault rose = record { still = λ t. still_looks (extends t); fault = λ is. rose refl; missing = λ is. cc; there = λ is. cc; calm = λ error is. inr (inl cc) }
  alone_failed _ rose = record { still = λ t. still_looks (extends t); fault = λ is. cc; missing = λ is. cc; there = λ is. cc; calm = λ error is. inr (inr cc) }

-- the pod was read
phase_by : (p : Phase) → is_prepared p ≡ true → p ≡ phase.Prepared
phase_by phase.Prepared is = refl
phase_by _ is = cc

prepared_in : (a : Area) (b : Bool) → phase_in a b ≡ Some phase.Prepared → a ≡ area.Prepared
prepared_in area.Prepared b is = refl
prepared_in area.Embryo b is = cc
prepared_in area.Prepare true is = cc
prepared_in area.Prepare false is = cc
prepared_in area.Run true is = cc
prepared_in area.Run false is = cc
prepared_in area.ExitedGarbage true is = cc
prepared_in area.ExitedGarbage false is = cc
prepared_in area.Garbage true is = cc
prepared_in area.Garbage false is = cc
prepared_in _ b is = cc

found_in : {me : ℕ} {a b : List Event} {spot : Spot} {p : Phase} → WasFound me a b spot p → (owned : Bool) × (phase_in spot.area owned ≡ Some p)
found_in (inl s) = (false, s.is)
found_in (inr s) = (s.0, s.2)

pub found_prepared : {me : ℕ} {old new : List Event} (pod : PodId) (p : Phase) (at : Area) → is_prepared p ≡ true → IsPhaseReading me old new pod (At p at) → IsPhaseReading me old new pod (At phase.Prepared area.Prepared)
found_prepared {me} {old} {new} pod p at is read =
    let here = subst (λ (q : Phase). IsPhaseReading me old new pod (At q at)) (phase_by p is) read in
    let place = found_in here.found in
    subst (λ (b : Area). IsPhaseReading me old new pod (At phase.Prepared b)) (prepared_in at place.0 place.1) here

-- why a read doesn't find it in prepared
pub cause_wrong : {observed : Bool} {a b : DirAt} (pod : PodId) (p : Phase) (at : Area) → is_prepared p ≡ false → (observed ≡ true → IsConforming b.trace → AtOwnEvent a.process a.trace b.trace (IsInPhase pod p at)) → ClaimCause observed pod (WrongPhase p) a b
cause_wrong {observed} {a} {b} pod p at wrong exact = record {
  fault = λ is. cc;
  nowhere = λ is. cc;
  phase = λ q is t conforming. let same : p ≡ q = cc in subst (λ (x : Phase). WasWrongToClaim pod x a.process a.trace b.trace) same (record { wrong = wrong; area = at; was = exact t conforming });
  manifest = λ is. cc;
  named = λ other which is. cc;
  stray = λ is. cc;
}

pub cause_gone : {observed : Bool} {a b : DirAt} (pod : PodId) → (observed ≡ true → IsConforming b.trace → AtOwnEvent a.process a.trace b.trace (IsNowhere pod)) → ClaimCause observed pod NoPod a b
cause_gone pod exact = record { fault = λ is. cc; nowhere = λ is t conforming. exact t conforming; phase = λ q is. cc; manifest = λ is. cc; named = λ other which is. cc; stray = λ is. cc }

pub cause_failed : {observed : Bool} {a b : DirAt} (pod : PodId) (e : LookError) → (e ≡ look.DirFault → Rose a.faults b.faults) → ClaimCause observed pod (look_refusal e) a b
cause_failed pod look.DirFault rose = record { fault = λ is. rose refl; nowhere = λ is. cc; phase = λ q is. cc; manifest = λ is. cc; named = λ other which is. cc; stray = λ is. cc }
cause_failed pod _ rose = record { fault = λ is. cc; nowhere = λ is. cc; phase = λ q is. cc; manifest = λ is. cc; named = λ other which is. cc; stray = λ is. cc }

-- nor is a lock refused then
pub look_calm : (pod : PodId) (e : LookError) (which : Which) → look_refusal e ≡ Busy pod which → ⊥
look_calm pod look.DirFault which is = cc
look_calm pod _ which is = cc

-- where the pod was found in prepared, and stood there later again, it stood there between

pub reading_grew : {me : ℕ} {old new : List Event} (pod : PodId) → IsPhaseReading me old new pod (At phase.Prepared area.Prepared) → AtOwnStep me old new (λ s. stands s.namespace (in_prepared pod) ≡ true)
reading_grew {me} {old} {new} pod r = by r.found
  where
    before : Grew old r.between
    before = let g = left_out_grown pod me old r.between (area.Prepare ∷ area.Embryo ∷ []) r.earlier in record { more = g.0; grown = g.1 }

    by : WasFound me r.between new (in_prepared pod) phase.Prepared → AtOwnStep me old new (λ s. stands s.namespace (in_prepared pod) ≡ true)
    by (inl s) = at_part before refl grown_none s.there
    by (inr s) =
        let told = s.1 in
        let last = at_grown told.told in
        let at : AtOwnStep me r.between told.between (λ w. stands w.namespace (in_prepared pod) ≡ true) = record {
          before = told.found.before;
          step = told.found.step;
          later = told.found.later;
          rest = told.found.rest;
          begins = told.found.begins;
          ends = told.found.ends;
          own = told.found.own;
          holds = ap is_some told.found.holds;
        } in
        at_part before refl (record { more = last.0; grown = last.1 }) at

abbrev pub Moment : {me : ℕ} {old new : List Event} {P : DirState → Type 0} → AtOwnStep me old new P → List Event
Moment at = at.before ++ at.step ∷ []

pub later_is : {me : ℕ} {a b c : List Event} {P Q : DirState → Type 0} (x : AtOwnStep me a b P) (y : AtOwnStep me b c Q) → Moment y ≡ Moment x ++ (x.rest ++ (y.later ++ y.step ∷ []))
later_is x y =
    ap (λ h. h ++ y.step ∷ []) (y.begins ∙ ap (λ h. h ++ y.later) x.ends)
    ∙ (append_assoc ((x.before ++ x.step ∷ []) ++ x.rest) y.later (y.step ∷ [])
    ∙ append_assoc (x.before ++ x.step ∷ []) x.rest (y.later ++ y.step ∷ []))

no_file : (es : List TreeEntry) (folder : ℕ) → refused_in (open_refusal Claim) es (Some folder) ≡ Some Missing → has_file es folder (codes "pod") ≡ false
no_file es folder is = by (has_file es folder (codes "pod")) is
  where
    by : (b : Bool) → cond b None (Some Missing) ≡ Some Missing → b ≡ false
    by true h = cc
    by false h = refl

pub stood_between : {me : ℕ} {a b c d : List Event} (pod : PodId) → AtOwnStep me a b (λ s. stands s.namespace (in_prepared pod) ≡ true) → (y : AtOwnStep me b c (CannotOpen pod Claim))
    → AtOwnStep me c d (λ s. stands s.namespace (in_prepared pod) ≡ true) → IsConforming d → IsPreparedWithoutManifest pod (state_after (Moment y))
stood_between {me} {a} {b} {c} {d} pod x y z conforming =
    let k = some_number (folder_at (state_after (Moment x)).namespace (in_prepared pod)) x.holds in
    let p = x.rest ++ (y.later ++ y.step ∷ []) in
    let q = y.rest ++ (z.later ++ z.step ∷ []) in
    let yx : Moment y ≡ Moment x ++ p = later_is x y in
    let zx : Moment z ≡ (Moment x ++ p) ++ q = later_is y z ∙ ap (λ h. h ++ q) yx in
    let whole : d ≡ ((Moment x ++ p) ++ q) ++ z.rest = z.ends ∙ ap (λ h. h ++ z.rest) zx in
    let still = stays_between d conforming (in_prepared pod) k.0 (Moment x) p q z.rest (omega arith) whole k.1 (subst (λ (h : List Event). stands (state_after h).namespace (in_prepared pod) ≡ true) zx z.holds) in
    let there = subst (λ (h : List Event). folder_at (state_after h).namespace (in_prepared pod) ≡ Some k.0) (sym yx) still in
    record {
      folder = k.0;
      there = there;
      without = no_file (state_after (Moment y)).entries k.0 (subst (λ (o : Option ℕ). refused_in (open_refusal Claim) (state_after (Moment y)).entries o ≡ Some Missing) there y.holds);
    }

pub lacks_manifest : {me : ℕ} {a b c : List Event} (pod : PodId) → IsPhaseReading me a b pod (At phase.Prepared area.Prepared) → OpensOwnAlone pod me b c → IsConforming c → AtOwnStep me a c (IsPreparedWithoutManifest pod)
lacks_manifest {me} {a} {b} {c} pod read alone conforming =
    let x = reading_grew pod read in
    let g = at_grown x in
    let last = at_grown alone.there in
    let y = alone.closed in
    let at : AtOwnStep me b alone.between (IsPreparedWithoutManifest pod) = record {
      before = y.before;
      step = y.step;
      later = y.later;
      rest = y.rest;
      begins = y.begins;
      ends = y.ends;
      own = y.own;
      holds = stood_between pod x y alone.there conforming;
    } in
    at_part (record { more = g.0; grown = g.1 }) refl (record { more = last.0; grown = last.1 }) at

-- the read, and then the rest of the attempt

pub may_looked : {s t : Seen} → Looked s t → MayClaim s → MayClaim t
may_looked {s} {t} l may = subst MayClaim (sym l.same) (record { began = may.began; apart = may.apart; seen_unowned_under_claim = may.seen_unowned_under_claim })

module _ {observed : Bool} {pod : PodId} {n : ℕ} {l : Local} {a b : DirAt} (w : WentClaiming observed n pod l a b) (still : observed ≡ true → MovedNothing a.process a.trace b.trace)
    (found : observed ≡ true → IsPhaseReading a.process a.trace b.trace pod (At phase.Prepared area.Prepared)) where
  follows : Follows observed a b
  follows = record { same = w.same; faults = w.faults; grown = λ t. grown_by (w.extends t); still = still }

  pub set_back_after : {c : DirAt} (stop : Setback) → ClaimWasStopped observed pod (IsNotInPrepared pod) stop b c → SetBack observed pod stop a c
  set_back_after {c} stop s = record {
    still = λ t. still_more (still t) w.same (s.still t);
    missing = λ is t. record { between = b.trace; read = found t; missed = at_part grown_none w.same grown_none (s.missing is t) };
    cause = λ error is. record {
      fault = λ e. rose_later a.faults b.faults c.faults w.faults (s.fault (is ∙ ap (λ (x : ClaimError). setback.Refused x) e));
      nowhere = λ e. absurd (s.there (is ∙ ap (λ (x : ClaimError). setback.Refused x) e));
      phase = λ p e. absurd (s.right p (is ∙ ap (λ (x : ClaimError). setback.Refused x) e));
      manifest = λ e t conforming. lacks_manifest pod (found t) (subst (λ (p : ℕ). OpensOwnAlone pod p b.trace c.trace) w.same (s.manifest (is ∙ ap (λ (x : ClaimError). setback.Refused x) e) t)) conforming;
      named = λ other which e. s.named other which (is ∙ ap (λ (x : ClaimError). setback.Refused x) e);
      stray = λ e t. inl (deeds_part (grown_by (w.extends t)) w.same grown_none (s.barred (is ∙ ap (λ (x : ClaimError). setback.Refused x) e) t));
    };
  }

  pub took_after : {own : Handle} (c : DirAt) → observed ≡ true → TookBoth pod own b.process b.trace c.trace → TookBoth pod own a.process a.trace c.trace
  took_after c t o = record { claim = o.claim; order = deeds_part (grown_by (w.extends t)) w.same grown_none o.order }

  module _ (known : observed ≡ true → OnlyLooks a b) where
    pub another_after : (c : DirAt) (stop : Setback) → WhereObservedKnew observed MayClaim b (λ s. BusyInTurn pod stop b c) → WhereObservedKnew observed MayClaim a (λ s. BusyInTurn pod stop a c)
    another_after c stop x t s may k = λ which is. let now = known t s k in in_turn_part pod which (grown_by (w.extends t)) w.same grown_none (x t now.known (may_looked now.looked may) now.knows which is)

    pub held_after : (c : DirAt) (own : Handle) → WhereObservedKnew observed MayClaim b (λ s. Knows c (with_pod pod own s)) → WhereObservedKnew observed MayClaim a (λ s. HasPod pod own s c)
    held_after c own x t s may k = let now = known t s k in record { known = now.known; looked = now.looked; knows = x t now.known (may_looked now.looked may) now.knows }

    pub left_after : (c : DirAt) → WhereObservedKnew observed MayClaim b (λ s. LookedInto s c) → WhereObservedKnew observed MayClaim a (λ s. LookedInto s c)
    left_after c x t s may k =
        let now = known t s k in
        let then = x t now.known (may_looked now.looked may) now.knows in
        record { known = then.known; looked = looked_more now.looked then.looked; knows = then.knows }

-- the same of a result

-- the read refused the claim
pub refused_first : {observed : Bool} {pod : PodId} {error : ClaimError} {a b : DirAt} → (observed ≡ true → MovedNothing a.process a.trace b.trace) → ClaimCause observed pod error a b → SetBack observed pod (setback.Refused error) a b
refused_first {observed} {pod} {error} {a} {b} still cause = record {
  still = still;
  missing = λ is. cc;
  cause = λ e is. let same : error ≡ e = cc in subst (λ (x : ClaimError). ClaimCause observed pod x a b) same cause;
}
