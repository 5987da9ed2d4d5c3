-- The parts of a claim, one after the other: what they leave open, and what stops them.
use Rattle.std.proofs.Common.{◌≡◌, inl, inr, ◌+◌, ◌≤◌, ◌==◌, not, ℕ, Bool, true, false, IfOk, IfErr, Option, Some, None, is_some, Result, Ok, Err, List, [], ◌∷◌, ◌++◌, refl, ap, subst, ◌∙◌, arith}
use Rattle.plain_laws.proofs.Lists.{none_before, none_last}
use Rattle.plain_laws.proofs.Numbers.{flipped}
use Rattle.dir_model.specs.declared.opening.Holding.{Holding}
use Rattle.dir_model.specs.declared.pod.PodId.{PodId}
use Rattle.dir_model.specs.declared.spot.Handle.{Handle}
use Rattle.dir_model.specs.declared.spot.Mode.TheVariants.{Exclusive}
use Rattle.dir_model.specs.declared.spot.Which.{Which}
use Rattle.dir_model.specs.declared.spot.Which.TheVariants.{Own, Claim}
use Rattle.dir_model.specs.declared.request.DirError.{DirError}
use Rattle.dir_model.specs.declared.request.DirError.TheVariants.{Missing}
use Rattle.dir_model.specs.declared.request.Request.TheVariants.{MoveFolder, Close}
use Rattle.dir_model.specs.declared.request.Reply.TheVariants.{Done, Refused}
use Rattle.dir_model.specs.declared.tree.TreeEntry.{TreeEntry}
use Rattle.dir_model.specs.Local.{Local, is_handle_of, without, IsUnopened}
use Rattle.dir_model.specs.Locks.{target_of}
use Rattle.dir_model.specs.Replies.{refused_in, open_refusal}
use Rattle.dir_model.specs.State.{DirState, folder_at}
use Rattle.dir_model.proofs.Chains.{and_call, and_more}
use Rattle.dir_model.proofs.Lists.{same_self, filter_push, filter_past}
use Rattle.dir_model.proofs.Moments.{at_weaker}
use Rattle.dir_model.proofs.Holdings.{none_closed}
use Rattle.dir_rules.specs.declared.seen.Seen.{Seen}
use Rattle.dir_trait.specs.DirCalls.{DirAt, DirCall}
use Rattle.dir_trait.specs.Knowledge.{Knows, LookedInto}
use Rattle.dir_trait.proofs.Knowing.{knows_call}
use Rattle.dir_trait.proofs.Looking.{fresh_of}
use Rattle.pod_locks.specs.declared.claim_error.ClaimError.{ClaimError}
use Rattle.pod_locks.specs.declared.claim_error.ClaimError.TheVariants.{NoPod, WrongPhase, Busy, Stray}
use Rattle.pod_locks.specs.declared.claim_setback.Setback.{Setback}
use Rattle.pod_locks.specs.declared.claim_setback.Setback.TheVariants as setback
use Rattle.pod_locks.specs.ClaimRequests.{in_prepared, in_run}
use Rattle.pod_locks.specs.ClaimHolding.{and_prepared_lock, and_locked, MayClaim, HasClaim, with_prepared_lock, with_pod}
use Rattle.pod_locks.specs.Work.{WentClaiming, MovedNothing, InOrder, TookBoth, WhereObservedKnew, Grew, taking_deeds, moving_deeds}
use Rattle.pod_locks.specs.ClaimCauses.{CannotOpen, IsNotInPrepared, ClaimWasStopped, ClaimStopsAlone, IsLookRefusal, ClaimBusyElsewhere, BusyInTurn, HadAlone, HadBothAlone, HadClaimBefore}
use Rattle.pod_locks.proofs.ClaimCalls.{asks_move, lock_closed}
use Rattle.pod_locks.proofs.ClaimKnowing.{looked_none}
use Rattle.pod_locks.proofs.ClaimSeen.{claim_back, claim_back_after}
use Rattle.pod_locks.proofs.Times.{Follows, at_part, alone_had, stops_part, busy_part}
use Rattle.pod_locks.proofs.Traces.{grown_none, grown_call, deeds_then, deeds_before, still_more}
use Rattle.pod_locks.proofs.Knowing.{knows_as}

-- more calls are allowed
pub went_wider : {observed : Bool} {pod : PodId} {m n : ℕ} {l : Local} {a b : DirAt} → m ≤ n → WentClaiming observed m pod l a b → WentClaiming observed n pod l a b
went_wider less w = record { counted = omega (arith, less, w.counted); same = w.same; faults = w.faults; local_is = w.local_is; extends = w.extends }

pub went_as : {observed : Bool} {pod : PodId} {n : ℕ} {l m : Local} {a b : DirAt} → l ≡ m → WentClaiming observed n pod l a b → WentClaiming observed n pod m a b
went_as {observed} {pod} {n} {l} {m} {a} {b} is w = subst (λ (x : Local). WentClaiming observed n pod x a b) is w

pub went_more : {observed : Bool} {pod : PodId} {m n : ℕ} {l k : Local} {a b c : DirAt} → WentClaiming observed m pod l a b → WentClaiming observed n pod k b c → WentClaiming observed (m + n) pod k a c
went_more {observed} {pod} {m} {n} {l} {k} {a} {b} {c} ab bc = record {
  counted = omega (arith, ab.counted, bc.counted);
  same = bc.same ∙ ab.same;
  faults = omega (arith, ab.faults, bc.faults);
  local_is = bc.local_is;
  extends = λ t. and_more (ab.extends t) ab.same (bc.extends t);
}

pub locked_ok : (m : Local) (pod : PodId) (which : Which) (r : Result Handle Setback) (h : Handle) → r ≡ Ok h → and_locked m pod which r ≡ and_prepared_lock m pod which h
locked_ok m pod which r h is = ap (and_locked m pod which) is

-- the move under both locks
module _ {observed : Bool} (pod : PodId) (own : Handle) {a b c : DirAt} (w : WentClaiming observed 3 pod (and_prepared_lock a.local pod Own own) a b) where
  pub went_run : DirCall observed b (MoveFolder (in_prepared pod) (in_run pod)) Done c → WentClaiming observed 5 pod (and_prepared_lock a.local pod Own own) a c
  went_run y = record {
    counted = omega (arith, w.counted, y.counted);
    same = y.same ∙ w.same;
    faults = omega (arith, w.faults, y.faults);
    local_is = y.local ∙ w.local_is;
    extends = λ t. and_call (w.extends t) w.same (asks_move pod) (y.step t);
  }

  pub went_unrun : {d : DirAt} (e : DirError) → IsUnopened a.local own → DirCall observed b (MoveFolder (in_prepared pod) (in_run pod)) (Refused e 0) c → DirCall observed c (Close own) Done d → WentClaiming observed 5 pod a.local a d
  went_unrun e unopened y z = record {
    counted = omega (arith, w.counted, y.counted, z.counted);
    same = z.same ∙ (y.same ∙ w.same);
    faults = omega (arith, w.faults, y.faults, z.faults);
    local_is = lock_closed a.local own pod Own unopened (y.local ∙ w.local_is) z.local;
    extends = λ t. and_call (and_call (w.extends t) w.same (asks_move pod) (y.step t)) (y.same ∙ w.same) refl (z.step t);
  }

-- what a lock that was had is followed by
pub follows_taken : {observed : Bool} {pod : PodId} {n : ℕ} {l : Local} {a b : DirAt} → WentClaiming observed n pod l a b → (observed ≡ true → MovedNothing a.process a.trace b.trace) → Follows observed a b
follows_taken w still = record { same = w.same; faults = w.faults; grown = λ t. record { more = (w.extends t).more; grown = (w.extends t).grown }; still = still }

-- Own can't be opened where no folder stands
pub none_there : (es : List TreeEntry) (o : Option ℕ) → refused_in (open_refusal Own) es o ≡ Some Missing → is_some o ≡ false
none_there es None is = refl
none_there es (Some folder) is = cc

pub own_absent : {observed : Bool} {pod : PodId} {stop : Setback} {a b : DirAt} → ClaimWasStopped observed pod (CannotOpen pod Own) stop a b → ClaimWasStopped observed pod (IsNotInPrepared pod) stop a b
own_absent {observed} {pod} {stop} {a} {b} s = record {
  still = s.still;
  fault = s.fault;
  missing = λ is t. at_weaker (IsNotInPrepared pod) (λ w h. none_there w.entries (folder_at w.namespace (in_prepared pod)) h) (s.missing is t);
  manifest = s.manifest;
  barred = s.barred;
  named = s.named;
  there = s.there;
  right = s.right;
}

-- whatever stops it but a missing location
pub stops_else : {observed : Bool} {pod : PodId} {stop : Setback} {a b : DirAt} {P Q : DirState → Type 0} → (stop ≡ setback.Missing → ⊥) → ClaimWasStopped observed pod P stop a b → ClaimWasStopped observed pod Q stop a b
stops_else {observed} {pod} {stop} other s = record {
  still = s.still;
  fault = s.fault;
  missing = λ is t. absurd (other is);
  manifest = s.manifest;
  barred = s.barred;
  named = s.named;
  there = s.there;
  right = s.right;
}

-- what stops a look
look_only : (error : ClaimError) → IsLookRefusal error → (error ≡ Stray → ⊥) × (((other : PodId) (which : Which) → error ≡ Busy other which → ⊥) × ((error ≡ NoPod → ⊥) × ((phase : _) → error ≡ WrongPhase phase → ⊥)))
look_only error (inl is) = (λ e. cc, (λ o w e. cc, (λ e. cc, λ p e. cc)))
look_only error (inr (inl is)) = (λ e. cc, (λ o w e. cc, (λ e. cc, λ p e. cc)))
look_only error (inr (inr is)) = (λ e. cc, (λ o w e. cc, (λ e. cc, λ p e. cc)))

-- Claim couldn't be opened, and then the folder was looked for
pub alone_stops : {observed : Bool} {pod : PodId} {stop : Setback} {a b c : DirAt} → ClaimWasStopped observed pod (CannotOpen pod Claim) setback.Missing a b → b.process ≡ a.process → a.faults ≤ b.faults → (observed ≡ true → Grew a.trace b.trace)
    → ClaimStopsAlone observed pod stop b c → ClaimWasStopped observed pod (IsNotInPrepared pod) stop a c
alone_stops {observed} {pod} {stop} {a} {b} {c} first same faults grew s =
    let ab : Follows observed a b = record { same = same; faults = faults; grown = grew; still = first.still } in
    record {
      still = λ t. still_more (first.still t) same (s.still t);
      fault = λ is. let r = s.fault is in omega (arith, faults, r);
      missing = λ is t. at_part (grew t) same grown_none (s.missing is t);
      manifest = λ is t. record { between = b.trace; closed = first.missing refl t; there = at_part grown_none same grown_none (s.there is t) };
      barred = λ is t. absurd ((look_only Stray (s.calm Stray is)).0 refl);
      named = λ other which is. absurd ((look_only (Busy other which) (s.calm (Busy other which) is)).1.0 other which refl);
      there = λ is. (look_only NoPod (s.calm NoPod is)).1.1.0 refl;
      right = λ phase is. (look_only (WrongPhase phase) (s.calm (WrongPhase phase) is)).1.1.1 phase refl;
    }

pub alone_calm : {observed : Bool} {pod : PodId} {stop : Setback} {b c : DirAt} (a : DirAt) → ClaimStopsAlone observed pod stop b c → BusyInTurn pod stop a c
alone_calm {observed} {pod} {stop} a s which is = absurd ((look_only (Busy pod which) (s.calm (Busy pod which) is)).1.0 pod which refl)

-- Claim is given up, once the pod was taken under it, or not

abbrev held_on : PodId → Which → Handle → Holding
held_on pod which h = record { handle = h; target = target_of (in_prepared pod) which; lock = Some Exclusive }

module _ (m : Local) (pod : PodId) (claim own : Handle) (new : IsUnopened (and_prepared_lock m pod Claim claim) own) where
  pub still_unopened : IsUnopened m own
  still_unopened = none_before (is_handle_of own) m.holdings (held_on pod Claim claim) new

  pub other_number : (own.number == claim.number) ≡ false
  other_number = flipped claim.number own.number (none_last (is_handle_of own) m.holdings (held_on pod Claim claim) new)

  pub claim_closed : IsUnopened m claim → without (and_prepared_lock (and_prepared_lock m pod Claim claim) pod Own own) claim ≡ and_prepared_lock m pod Own own
  claim_closed unopened = ap (λ (hs : List Holding). let r : Local = record m { holdings = hs } in r)
      (filter_push (λ x. not (is_handle_of claim x)) (m.holdings ++ held_on pod Claim claim ∷ []) (held_on pod Own own) (ap not other_number)
      ∙ (ap (λ (l : List Holding). l ++ held_on pod Own own ∷ []) (filter_past (λ x. not (is_handle_of claim x)) m.holdings (held_on pod Claim claim) (ap not (same_self claim.number)))
      ∙ ap (λ (l : List Holding). l ++ held_on pod Own own ∷ []) (none_closed claim m.holdings unopened)))

pub unopened_before : {l : Local} (m : Local) (pod : PodId) (claim own : Handle) → l ≡ and_prepared_lock m pod Claim claim → IsUnopened l own → IsUnopened (and_prepared_lock m pod Claim claim) own
unopened_before m pod claim own is new = subst (λ (x : Local). IsUnopened x own) is new

claim_given_local : {late new l : Local} (m : Local) (pod : PodId) (claim : Handle) (r : Result Handle Setback) → IsUnopened m claim → l ≡ and_prepared_lock m pod Claim claim → IfOk r (λ own. IsUnopened l own)
    → late ≡ and_locked l pod Own r → new ≡ without late claim → new ≡ and_locked m pod Own r
claim_given_local m pod claim (Ok own) unopened at fresh is close_is =
    close_is ∙ (ap (λ (x : Local). without x claim) (is ∙ ap (λ (x : Local). and_prepared_lock x pod Own own) at) ∙ claim_closed m pod claim own (unopened_before m pod claim own at fresh) unopened)
claim_given_local m pod claim (Err e) unopened at fresh is close_is = lock_closed m claim pod Claim unopened (is ∙ at) close_is

module _ {observed : Bool} {pod : PodId} {claim : Handle} {a b c d : DirAt} (r : Result Handle Setback) (unopened : IsUnopened a.local claim) (w : WentClaiming observed 3 pod (and_prepared_lock a.local pod Claim claim) a b)
    (fresh : IfOk r (λ own. IsUnopened b.local own)) (z : DirCall observed c (Close claim) Done d) where
  pub went_under : WentClaiming observed 5 pod (and_locked b.local pod Own r) b c → WentClaiming observed 9 pod (and_locked a.local pod Own r) a d
  went_under v = record {
    counted = omega (arith, w.counted, v.counted, z.counted);
    same = z.same ∙ (v.same ∙ w.same);
    faults = omega (arith, w.faults, v.faults, z.faults);
    local_is = claim_given_local a.local pod claim r unopened w.local_is fresh v.local_is z.local;
    extends = λ t. and_call (and_more (w.extends t) w.same (v.extends t)) (v.same ∙ w.same) refl (z.step t);
  }

  pub fresh_under : IfOk r (λ own. IsUnopened a.local own)
  fresh_under = by r fresh
    where
      by : (r : Result Handle Setback) → IfOk r (λ own. IsUnopened b.local own) → IfOk r (λ own. IsUnopened a.local own)
      by (Ok own) f = still_unopened a.local pod claim own (unopened_before a.local pod claim own w.local_is f)
      by (Err e) f = tt

  pub order_under : b.process ≡ a.process → (observed ≡ true → InOrder a.process a.trace b.trace (taking_deeds pod Claim claim [])) → IfOk r (λ own. observed ≡ true → InOrder b.process b.trace c.trace (taking_deeds pod Own own (moving_deeds pod)))
      → IfOk r (λ own. observed ≡ true → TookBoth pod own a.process a.trace d.trace)
  order_under same first second = by r second
    where
      by : (r : Result Handle Setback) → IfOk r (λ own. observed ≡ true → InOrder b.process b.trace c.trace (taking_deeds pod Own own (moving_deeds pod))) → IfOk r (λ own. observed ≡ true → TookBoth pod own a.process a.trace d.trace)
      by (Ok own) f = λ t. record { claim = claim; order = deeds_then (first t) same (deeds_before (f t) (grown_call (z.step t))) }
      by (Err e) f = tt

  pub alone_under : (observed ≡ true → HadAlone pod Claim a.process a.trace d.trace) → (observed ≡ true → Grew a.trace b.trace) → b.process ≡ a.process → IfOk r (λ own. observed ≡ true → HadAlone pod Own b.process b.trace c.trace) → IfOk r (λ own. observed ≡ true → HadBothAlone pod a.process a.trace d.trace)
  alone_under first ab same second = by r second
    where
      by : (r : Result Handle Setback) → IfOk r (λ own. observed ≡ true → HadAlone pod Own b.process b.trace c.trace) → IfOk r (λ own. observed ≡ true → HadBothAlone pod a.process a.trace d.trace)
      by (Ok own) f = λ t. record { claim = first t; own = alone_had (ab t) same (grown_call (z.step t)) (f t) }
      by (Err e) f = tt

  pub stopped_under : Follows observed a b → c.process ≡ b.process → Follows observed c d → IfErr r (λ e. ClaimWasStopped observed pod (IsNotInPrepared pod) e b c) → IfErr r (λ e. ClaimWasStopped observed pod (IsNotInPrepared pod) e a d)
  stopped_under ab bc cd s = by r s
    where
      by : (r : Result Handle Setback) → IfErr r (λ e. ClaimWasStopped observed pod (IsNotInPrepared pod) e b c) → IfErr r (λ e. ClaimWasStopped observed pod (IsNotInPrepared pod) e a d)
      by (Ok own) f = tt
      by (Err e) f = stops_part ab bc cd f

  -- what the process knows under Claim, and without it
  module _ (held : WhereObservedKnew observed MayClaim a (λ s. Knows b (with_prepared_lock pod Claim claim s))) where
    has_claim : {s : Seen} → MayClaim s → Knows a s → HasClaim pod (with_prepared_lock pod Claim claim s)
    has_claim {s} may k = record { claim = claim; base = s; may = may; fresh = fresh_of claim k unopened; is = refl }

    pub another_under : Follows observed a b → c.process ≡ b.process → Follows observed c d → IfErr r (λ e. WhereObservedKnew observed (HasClaim pod) b (λ s. ClaimBusyElsewhere pod e b c)) → (observed ≡ true → HadAlone pod Claim a.process a.trace d.trace) → IfErr r (λ e. WhereObservedKnew observed MayClaim a (λ s. BusyInTurn pod e a d))
    another_under ab bc cd x alone = by r x
      where
        had : (which : Which) → HadAlone pod Claim a.process a.trace d.trace → HadClaimBefore pod which a.process a.trace d.trace
        had Own o = o
        had Claim o = tt

        by : (r : Result Handle Setback) → IfErr r (λ e. WhereObservedKnew observed (HasClaim pod) b (λ s. ClaimBusyElsewhere pod e b c)) → IfErr r (λ e. WhereObservedKnew observed MayClaim a (λ s. BusyInTurn pod e a d))
        by (Ok own) f = tt
        by (Err e) f = λ t s may k which is. (busy_part {stop = e} t ab bc cd (f t (with_prepared_lock pod Claim claim s) (has_claim may k) (held t s may k)) which is, had which (alone t))

    pub held_under : IfOk r (λ own. WhereObservedKnew observed (HasClaim pod) b (λ s. Knows c (with_pod pod own s))) → IfOk r (λ own. WhereObservedKnew observed MayClaim a (λ s. Knows d (with_pod pod own s)))
    held_under x = by r fresh x
      where
        by : (r : Result Handle Setback) → IfOk r (λ own. IsUnopened b.local own) → IfOk r (λ own. WhereObservedKnew observed (HasClaim pod) b (λ s. Knows c (with_pod pod own s))) → IfOk r (λ own. WhereObservedKnew observed MayClaim a (λ s. Knows d (with_pod pod own s)))
        by (Ok own) f g = λ t s may k. knows_as (claim_back_after pod claim s may (fresh_of claim k unopened) own (other_number a.local pod claim own (unopened_before a.local pod claim own w.local_is f)))
            (knows_call t (g t (with_prepared_lock pod Claim claim s) (has_claim may k) (held t s may k)) refl refl z)
        by (Err e) f g = tt

    pub left_under : IfErr r (λ e. WhereObservedKnew observed (HasClaim pod) b (λ s. Knows c s)) → IfErr r (λ e. WhereObservedKnew observed MayClaim a (λ s. LookedInto s d))
    left_under x = by r x
      where
        by : (r : Result Handle Setback) → IfErr r (λ e. WhereObservedKnew observed (HasClaim pod) b (λ s. Knows c s)) → IfErr r (λ e. WhereObservedKnew observed MayClaim a (λ s. LookedInto s d))
        by (Ok own) g = tt
        by (Err e) g = λ t s may k. looked_none (knows_as (claim_back pod claim s may (fresh_of claim k unopened)) (knows_call t (g t (with_prepared_lock pod Claim claim s) (has_claim may k) (held t s may k)) refl refl z))
