-- One attempt or two, and what a claim comes to.
use Rattle.std.proofs.Common.{◌≡◌, ◌⊎◌, inl, inr, ℕ, Bool, true, false, Some, None, List, [], ◌∷◌, ◌++◌, refl, sym, ap, subst, ◌∙◌, append_assoc, append-nil, arith}
use Rattle.std.specs.List.{list_any}
use Rattle.plain_laws.proofs.Texts.{same_bytes}
use Rattle.dir_model.specs.declared.area.Area.{Area}
use Rattle.dir_model.specs.declared.area.Area.TheVariants as area
use Rattle.dir_model.specs.declared.area.Phase.{Phase}
use Rattle.dir_model.specs.declared.area.Phase.TheVariants as phase
use Rattle.dir_model.specs.declared.event.Event.{Event}
use Rattle.dir_model.specs.declared.pod.PodId.{PodId}
use Rattle.dir_model.specs.declared.spot.Handle.{Handle}
use Rattle.dir_model.specs.declared.spot.Which.{Which}
use Rattle.dir_model.specs.declared.spot.Which.TheVariants.{Own}
use Rattle.dir_model.specs.declared.request.DirError.TheVariants.{Missing, Exists}
use Rattle.dir_model.specs.declared.request.Request.TheVariants.{MoveFolder}
use Rattle.dir_model.specs.declared.request.Reply.TheVariants.{Refused}
use Rattle.dir_model.specs.Areas.{is_stage}
use Rattle.dir_model.specs.Calls.{AtOwnStep}
use Rattle.dir_model.specs.Local.{Local}
use Rattle.dir_model.specs.Pods.{pod_text}
use Rattle.dir_model.specs.State.{DirState, stands, folder_at}
use Rattle.dir_model.specs.Trace.{state_after}
use Rattle.dir_model.proofs.Allowed.{allowed_reply}
use Rattle.dir_model.proofs.Lists.{and_both}
use Rattle.dir_model.proofs.Moments.{at_grown, step_at}
use Rattle.dir_rules.proofs.Looks.{looked_more}
use Rattle.dir_laws.proofs.Rose.{rose_later}
use Rattle.dir_laws.proofs.Refusals.{exists_by}
use Rattle.dir_trait.specs.DirCalls.{DirAt}
use Rattle.dir_trait.specs.Knowledge.{LookedInto}
use Rattle.lifecycle.specs.declared.machine.PodState.{PodState}
use Rattle.lifecycle.specs.declared.machine.PodState.TheVariants as state
use Rattle.lifecycle.specs.PodMachine.{pod_state, pod_phase, phase_of_state, is_area_of_state, exists}
use Rattle.lifecycle.specs.Executions.{IsConforming}
use Rattle.lifecycle.proofs.Draws.{conforming_left}
use Rattle.lifecycle.proofs.Phases.{exists_stands, stands_exists}
use Rattle.lifecycle.proofs.Stays.{stays_between, one_folder}
use Rattle.phase_read.specs.Exact.{AtOwnEvent, IsNowhere}
use Rattle.phase_read.proofs.Exact.{event_within}
use Rattle.phase_read.proofs.InTurn.{left_out_after}
use Rattle.pod_locks.specs.Running.{RunsPod}
use Rattle.pod_locks.specs.declared.claim_error.ClaimError.{ClaimError}
use Rattle.pod_locks.specs.declared.claim_error.ClaimError.TheVariants.{NoPod, WrongPhase, NoManifest, Busy, DirFault, Stray, NoMemory}
use Rattle.pod_locks.specs.declared.claim_setback.Setback.{Setback}
use Rattle.pod_locks.specs.declared.claim_setback.Setback.TheVariants as setback
use Rattle.pod_locks.specs.ClaimRequests.{in_prepared, in_run}
use Rattle.pod_locks.specs.ClaimSetbacks.{last_refusal}
use Rattle.pod_locks.specs.ClaimHolding.{MayClaim, and_prepared_lock, with_pod}
use Rattle.pod_locks.specs.Work.{WentClaiming, Grew, MovedNothing, TookBoth, WhereObservedKnew}
use Rattle.pod_locks.specs.ClaimCauses.{is_prepared, is_held_elsewhere, IsNotInPrepared, IsPreparedWithoutManifest, PreparedHeldByAnother, FoundThenMissedPrepared, MissedTwice, WasBarred, WasWrongToClaim, BusyInTurn, ClaimCause, SetBack}
use Rattle.pod_locks.specs.Claims.{HasPod, ClaimRefusedByAnother, IsFree, IsFreeThroughout, IsClaimFailure}
use Rattle.pod_locks.proofs.Parts.{went_more}
use Rattle.pod_locks.proofs.Reading.{Moment, later_is, reading_grew, may_looked}
use Rattle.pod_locks.proofs.ClaimSeen.{runs_pod}
use Rattle.pod_locks.proofs.Times.{at_part, deeds_part, in_turn_part}
use Rattle.pod_locks.proofs.Traces.{grown_none, grown_more, grown_by, still_more}

-- what was so after the first attempt was so after both

pub event_part : {me other : ℕ} {a b c : List Event} {P : List Event → Type 0} → Grew a b → other ≡ me → AtOwnEvent other b c P → AtOwnEvent me a c P
event_part {me} {other} {a} {b} {c} {P} ab same at = event_within ab.more [] ab.grown (sym (append-nil c)) (subst (λ (p : ℕ). AtOwnEvent p b c P) same at)

missed_part : {pod : PodId} {me other : ℕ} {b c : List Event} → other ≡ me → FoundThenMissedPrepared pod other b c → FoundThenMissedPrepared pod me b c
missed_part {pod} {me} {other} {b} {c} same m = subst (λ (p : ℕ). FoundThenMissedPrepared pod p b c) same m

twice_part : {pod : PodId} {me other : ℕ} {a b c : List Event} → FoundThenMissedPrepared pod me a b → other ≡ me → FoundThenMissedPrepared pod other b c → MissedTwice pod me a c
twice_part {pod} {me} {other} {a} {b} {c} first same second = record { between = b; first = first; second = missed_part same second }

module _ {observed : Bool} {pod : PodId} {n : ℕ} {l : Local} {a b : DirAt} (w : WentClaiming observed n pod l a b) where
  missed_after : {d : List Event} → observed ≡ true → FoundThenMissedPrepared pod a.process b.trace d → FoundThenMissedPrepared pod a.process a.trace d
  missed_after {d} t m = record {
    between = m.between;
    read = record {
      stage = m.read.stage;
      between = m.read.between;
      earlier = left_out_after pod a.process a.process a.trace b.trace m.read.between (area.Prepare ∷ area.Embryo ∷ []) (w.extends t) refl m.read.earlier;
      found = m.read.found;
    };
    missed = m.missed;
  }

  barred_part : (c : DirAt) → observed ≡ true → WasBarred pod b.process b.trace c.trace ⊎ MissedTwice pod b.process b.trace c.trace → WasBarred pod a.process a.trace c.trace ⊎ MissedTwice pod a.process a.trace c.trace
  barred_part c t (inl barred) = inl (deeds_part (grown_by (w.extends t)) w.same grown_none barred)
  barred_part c t (inr twice) = inr (record { between = twice.between; first = missed_after t (missed_part w.same twice.first); second = missed_part w.same twice.second })

  pub cause_after : {c : DirAt} {error : ClaimError} → ClaimCause observed pod error b c → ClaimCause observed pod error a c
  cause_after {c} {error} x = record {
    fault = λ is. rose_later a.faults b.faults c.faults w.faults (x.fault is);
    nowhere = λ is t conforming. event_part (grown_by (w.extends t)) w.same (x.nowhere is t conforming);
    phase = λ p is t conforming. let y = x.phase p is t conforming in record { wrong = y.wrong; area = y.area; was = event_part (grown_by (w.extends t)) w.same y.was };
    manifest = λ is t conforming. at_part (grown_by (w.extends t)) w.same grown_none (x.manifest is t conforming);
    named = x.named;
    stray = λ is t. barred_part c t (x.stray is t);
  }

  pub took_part : {own : Handle} (c : DirAt) → observed ≡ true → TookBoth pod own b.process b.trace c.trace → TookBoth pod own a.process a.trace c.trace
  took_part c t o = record { claim = o.claim; order = deeds_part (grown_by (w.extends t)) w.same grown_none o.order }

  -- the first attempt met a missing location, and so the second may
  pub last_cause : {c : DirAt} (stop : Setback) → SetBack observed pod setback.Missing a b → SetBack observed pod stop b c → ClaimCause observed pod (last_refusal stop) a c
  last_cause {c} setback.Missing first second = record {
    fault = λ is. cc;
    nowhere = λ is. cc;
    phase = λ p is. cc;
    manifest = λ is. cc;
    named = λ other which is. cc;
    stray = λ is t. inr (twice_part (first.missing refl t) w.same (second.missing refl t));
  }
  last_cause {c} (setback.Refused error) first second = cause_after (second.cause error refl)

  pub last_still : {stop : Setback} (c : DirAt) → SetBack observed pod setback.Missing a b → SetBack observed pod stop b c → observed ≡ true → MovedNothing a.process a.trace c.trace
  last_still c first second t = still_more (first.still t) w.same (second.still t)

  -- what it knew, and looks
  module _ (left : WhereObservedKnew observed MayClaim a (λ s. LookedInto s b)) where
    pub left_twice : (c : DirAt) → WhereObservedKnew observed MayClaim b (λ s. LookedInto s c) → WhereObservedKnew observed MayClaim a (λ s. LookedInto s c)
    left_twice c x t s may k =
        let now = left t s may k in
        let then = x t now.known (may_looked now.looked may) now.knows in
        record { known = then.known; looked = looked_more now.looked then.looked; knows = then.knows }

    pub held_twice : (c : DirAt) (own : Handle) → WhereObservedKnew observed MayClaim b (λ s. HasPod pod own s c) → WhereObservedKnew observed MayClaim a (λ s. HasPod pod own s c)
    held_twice c own x t s may k =
        let now = left t s may k in
        let then = x t now.known (may_looked now.looked may) now.knows in
        record { known = then.known; looked = looked_more now.looked then.looked; knows = then.knows }

    pub another_twice : (c : DirAt) (stop : Setback) → WhereObservedKnew observed MayClaim b (λ s. BusyInTurn pod stop b c) → WhereObservedKnew observed MayClaim a (λ s. ClaimRefusedByAnother pod (last_refusal stop) a c)
    another_twice c setback.Missing x t s may k which is = cc
    another_twice c (setback.Refused error) x t s may k which is =
        let now = left t s may k in
        in_turn_part pod which (grown_by (w.extends t)) w.same grown_none (x t now.known (may_looked now.looked may) now.knows which (ap (λ (e : ClaimError). setback.Refused e) is))

pub another_once : {observed : Bool} {pod : PodId} (error : ClaimError) (a b : DirAt) → WhereObservedKnew observed MayClaim a (λ s. BusyInTurn pod (setback.Refused error) a b) → WhereObservedKnew observed MayClaim a (λ s. ClaimRefusedByAnother pod error a b)
another_once error a b x t s may k which is = x t s may k which (ap (λ (e : ClaimError). setback.Refused e) is)

-- it runs the pod
pub runs_it : {observed : Bool} {pod : PodId} {own : Handle} (a b : DirAt) → WhereObservedKnew observed MayClaim a (λ s. HasPod pod own s b) → WhereObservedKnew observed MayClaim a (λ s. RunsPod pod b)
runs_it {observed} {pod} {own} a b x t s may k = let h = x t s may k in record { seen = with_pod pod own h.known; knows = h.knows; runs = runs_pod pod own h.known }

-- what is open after both
pub went_twice : {observed : Bool} {pod : PodId} {l : Local} {a b c : DirAt} → WentClaiming observed 28 pod a.local a b → WentClaiming observed 28 pod l b c → WentClaiming observed 56 pod l a c
went_twice w v = went_more w v

pub owned_twice : (pod : PodId) (m : Local) (n : Local) (own own' : Handle) → n ≡ m → own' ≡ own → and_prepared_lock n pod Own own ≡ and_prepared_lock m pod Own own'
owned_twice pod m n own own' is same = ap (λ (x : Local). and_prepared_lock x pod Own own) is ∙ ap (λ (h : Handle). and_prepared_lock m pod Own h) (sym same)

-- a pod whose phase is prepared stands there

is_waiting : (s : PodState) → phase_of_state s ≡ Some phase.Prepared → s ≡ state.Prepared
is_waiting state.Prepared is = refl
is_waiting _ is = cc

pub place_waiting : (a : Area) → is_area_of_state a state.Prepared ≡ true → a ≡ area.Prepared
place_waiting area.Prepared is = refl
place_waiting _ is = cc

stands_waiting : (pod : PodId) (h : List Event) → IsConforming h → pod_phase (pod_text pod.bytes) h ≡ Some phase.Prepared → stands (state_after h).namespace (in_prepared pod) ≡ true
stands_waiting pod h conforming is =
    let u = pod_text pod.bytes in
    let waiting = is_waiting (pod_state u h) is in
    let x = exists_stands u h conforming (ap exists waiting) in
    let at = stands_exists u h (record { area = x.0; name = u }) conforming (and_both (is_stage x.0) _ x.1.0 (same_bytes u)) x.1.1 in
    let place : x.0 ≡ area.Prepared = place_waiting x.0 (sym (ap (is_area_of_state x.0) waiting) ∙ at.1) in
    subst (λ (a : Area). stands (state_after h).namespace (record { area = a; name = u }) ≡ true) place x.1.1

-- where nothing stands against the claim

module _ (pod : PodId) (a c : DirAt) (free : IsFreeThroughout pod a c) (conforming : IsConforming c.trace) where
  abbrev Within : (DirState → Type 0) → Type 0
  Within P = AtOwnStep a.process a.trace c.trace P

  conforms_at : {P : DirState → Type 0} (at : Within P) → IsConforming (Moment at)
  conforms_at at = conforming_left (Moment at) at.rest (subst IsConforming at.ends conforming)

  free_at : {P : DirState → Type 0} (at : Within P) → IsFree pod a.process (Moment at)
  free_at at = free at.before at.later at.rest at.step at.begins at.ends at.own

  there_at : {P : DirState → Type 0} (at : Within P) → stands (state_after (Moment at)).namespace (in_prepared pod) ≡ true
  there_at at = stands_waiting pod (Moment at) (conforms_at at) (free_at at).waits

  never_absent : Within (IsNotInPrepared pod) → ⊥
  never_absent at = let e : true ≡ false = sym (there_at at) ∙ at.holds in cc

  never_lacking : Within (IsPreparedWithoutManifest pod) → ⊥
  never_lacking at = let e : true ≡ false = sym ((free_at at).manifest at.holds.folder at.holds.there) ∙ at.holds.without in cc

  never_gone : AtOwnEvent a.process a.trace c.trace (IsNowhere pod) → ⊥
  never_gone at = let e : None ≡ Some phase.Prepared = sym at.holds ∙ (free at.before at.later at.rest at.step at.begins at.ends at.own).waits in cc

  never_wrong : (p : Phase) → WasWrongToClaim pod p a.process a.trace c.trace → ⊥
  never_wrong p w =
      let at = w.was in
      let e : Some p ≡ Some phase.Prepared = sym at.holds.is ∙ (free at.before at.later at.rest at.step at.begins at.ends at.own).waits in
      let same : p ≡ phase.Prepared = cc in
      let clash : true ≡ false = sym (ap is_prepared same) ∙ w.wrong in cc

  never_barred : Within (λ s. stands s.namespace (in_run pod) ≡ true) → ⊥
  never_barred at =
      let e : false ≡ true = one_folder (Moment at) (in_prepared pod) (in_run pod) (conforms_at at) refl refl refl (there_at at) at.holds in cc

  never_held : (which : Which) → PreparedHeldByAnother pod which a.process a.trace c.trace → ⊥
  never_held which h =
      let x = h.found in
      let y = h.held in
      let grown = at_grown x in
      let at : Within (λ s. list_any (is_held_elsewhere a.process which h.folder) s.namespace.openings ≡ true) = record {
        before = y.before;
        step = y.step;
        later = grown.0 ++ y.later;
        rest = y.rest;
        begins = y.begins ∙ ap (λ h. h ++ y.later) grown.1 ∙ append_assoc a.trace grown.0 y.later;
        ends = y.ends;
        own = y.own;
        holds = y.holds;
      } in
      let p = x.rest ++ (y.later ++ y.step ∷ []) in
      let yx : Moment y ≡ Moment x ++ p = later_is x y in
      let whole : c.trace ≡ ((Moment x ++ p) ++ []) ++ y.rest = y.ends ∙ (ap (λ h. h ++ y.rest) yx ∙ ap (λ h. h ++ y.rest) (sym (append-nil (Moment x ++ p)))) in
      let stood = subst (λ (h : List Event). stands (state_after h).namespace (in_prepared pod) ≡ true) (yx ∙ sym (append-nil (Moment x ++ p))) (there_at at) in
      let still = stays_between c.trace conforming (in_prepared pod) h.folder (Moment x) p [] y.rest (omega arith) whole x.holds.0 stood in
      let there = subst (λ (h' : List Event). folder_at (state_after h').namespace (in_prepared pod) ≡ Some h.folder) (sym yx) still in
      let e : false ≡ true = sym ((free_at at).unheld h.folder which there) ∙ y.holds in cc

barred_at : {me : ℕ} {old new : List Event} (pod : PodId) → WasBarred pod me old new → AtOwnStep me old new (λ s. stands s.namespace (in_run pod) ≡ true)
barred_at {me} {old} {new} pod b =
    let o = b.each in
    at_part o.2 refl o.4 (step_at me o.0 (MoveFolder (in_prepared pod) (in_run pod)) (Refused Exists 0) o.1 (λ s. stands s.namespace (in_run pod) ≡ true) refl refl
    (λ s allowed. exists_by (stands s.namespace (in_prepared pod)) (stands s.namespace (in_run pod)) (allowed_reply s me (MoveFolder (in_prepared pod) (in_run pod)) (Refused Exists 0) allowed)) o.3)

missed_grew : {pod : PodId} {me : ℕ} {old new : List Event} → FoundThenMissedPrepared pod me old new → Grew old new
missed_grew {pod} m =
    let first = at_grown (reading_grew pod m.read) in
    let last = at_grown m.missed in
    grown_more (record { more = first.0; grown = first.1 }) (record { more = last.0; grown = last.1 })

missed_at : {pod : PodId} {me : ℕ} {old new : List Event} → MissedTwice pod me old new → AtOwnStep me old new (IsNotInPrepared pod)
missed_at {pod} m =
    let first = at_grown (reading_grew pod m.first.read) in
    at_part (record { more = first.0; grown = first.1 }) refl (missed_grew m.second) m.first.missed

-- then only a failure refuses it
pub only_failures : {observed : Bool} {pod : PodId} {a c : DirAt} (error : ClaimError) → observed ≡ true → ClaimCause observed pod error a c → ClaimRefusedByAnother pod error a c → IsConforming c.trace → IsFreeThroughout pod a c → IsClaimFailure error
only_failures {observed} {pod} {a} {c} NoPod t x busy conforming free = absurd (never_gone pod a c free conforming (x.nowhere refl t conforming))
only_failures {observed} {pod} {a} {c} (WrongPhase p) t x busy conforming free = absurd (never_wrong pod a c free conforming p (x.phase p refl t conforming))
only_failures {observed} {pod} {a} {c} NoManifest t x busy conforming free = absurd (never_lacking pod a c free conforming (x.manifest refl t conforming))
only_failures {observed} {pod} {a} {c} (Busy other which) t x busy conforming free = absurd (never_held pod a c free conforming which (busy which (ap (λ (p : PodId). Busy p which) (x.named other which refl))).0)
only_failures DirFault t x busy conforming free = inl refl
only_failures NoMemory t x busy conforming free = inr refl
only_failures {observed} {pod} {a} {c} Stray t x busy conforming free = by (x.stray refl t)
  where
    by : WasBarred pod a.process a.trace c.trace ⊎ MissedTwice pod a.process a.trace c.trace → IsClaimFailure Stray
    by (inl b) = absurd (never_barred pod a c free conforming (barred_at pod b))
    by (inr m) = absurd (never_absent pod a c free conforming (missed_at m))
