-- What a process that looks for a pod finds is the pod's phase at one of its own steps.
use Rattle.std.proofs.Common.{arith, ◌≡◌, ◌⊎◌, inl, inr, ◌≤◌, ◌<◌, ◌+◌, ℕ, Bool, true, false, Option, None, List, [], ◌∷◌, ◌++◌, refl, sym, ap, subst, ◌∙◌, append_assoc}
use Rattle.std.specs.Prelude.{zero, suc}
use Rattle.plain_laws.proofs.Booleans.{clash}
use Rattle.dir_model.specs.declared.area.Area.{Area}
use Rattle.dir_model.specs.declared.area.Area.TheVariants as area
use Rattle.dir_model.specs.declared.area.Phase.{Phase}
use Rattle.dir_model.specs.declared.event.Event.{Event}
use Rattle.dir_model.specs.Areas.{is_stage}
use Rattle.dir_model.specs.State.{DirState, stands, empty_state}
use Rattle.dir_model.specs.Trace.{state_after}
use Rattle.dir_model.specs.Calls.{AtOwnStep}
use Rattle.dir_model.proofs.Moments.{at_grown}
use Rattle.lifecycle.specs.declared.machine.PodState.{PodState}
use Rattle.lifecycle.specs.declared.machine.PodState.TheVariants.{Absent, Embryo, Preparing, AbortedPrepare, Prepared, Running, Exited, ExitedGarbage, Garbage, Deleting, Gone}
use Rattle.lifecycle.specs.PodMachine.{pod_state, pod_phase, phase_of_state, exists, is_area_of_state, pod_progress, age_in}
use Rattle.lifecycle.specs.Executions.{IsConforming}
use Rattle.lifecycle.specs.Ownership.{place_in}
use Rattle.lifecycle.specs.Readings.{WasPhase, LocksTellPhases, IsMissedIn, stages_back, MissesTellGone}
use Rattle.lifecycle.proofs.Draws.{conforming_left}
use Rattle.lifecycle.proofs.Run.{good}
use Rattle.lifecycle.proofs.Phases.{stands_in}
use Rattle.lifecycle.proofs.Forward.{ages, age_out, between}
use Rattle.lifecycle.proofs.Stays.{machine_append, owned_phase}

pub at_most : (m n : ℕ) → (m ≤ n) ⊎ (n < m)
at_most zero n = inl (omega arith)
at_most (suc m) zero = inr (omega arith)
at_most (suc m) (suc n) = by (at_most m n)
  where
    by : (m ≤ n) ⊎ (n < m) → (suc m ≤ suc n) ⊎ (suc n < suc m)
    by (inl l) = inl (omega (arith, l))
    by (inr l) = inr (omega (arith, l))

-- a pod that is far enough along for a place, and isn't there, is past it
pub past : (a : Area) (s : PodState) → is_stage a ≡ true → age_in a ≤ pod_progress s → is_area_of_state a s ≡ false → age_out a < pod_progress s
past a s pod l off = by (at_most (pod_progress s) (age_out a))
  where
    by : (pod_progress s ≤ age_out a) ⊎ (age_out a < pod_progress s) → age_out a < pod_progress s
    by (inl g) = clash (is_area_of_state a s) (between a s pod l g) off
    by (inr g) = g

pub existing : (s : PodState) → exists s ≡ true → 1 ≤ pod_progress s
existing Absent e = cc
existing Gone e = cc
existing (Embryo m) e = omega arith
existing (Preparing o) e = omega arith
existing AbortedPrepare e = omega arith
existing Prepared e = omega arith
existing (Running o) e = omega arith
existing Exited e = omega arith
existing ExitedGarbage e = omega arith
existing Garbage e = omega arith
existing (Deleting o area.ExitedGarbage) e = omega arith
existing (Deleting o f) e = omega arith

pub ended_at : (s : PodState) → 8 < pod_progress s → exists s ≡ false
ended_at Gone l = refl
ended_at Absent l = absurd (omega (arith, l))
ended_at (Embryo m) l = absurd (omega (arith, l))
ended_at (Preparing o) l = absurd (omega (arith, l))
ended_at AbortedPrepare l = absurd (omega (arith, l))
ended_at Prepared l = absurd (omega (arith, l))
ended_at (Running o) l = absurd (omega (arith, l))
ended_at Exited l = absurd (omega (arith, l))
ended_at ExitedGarbage l = absurd (omega (arith, l))
ended_at Garbage l = absurd (omega (arith, l))
ended_at (Deleting o area.ExitedGarbage) l = absurd (omega (arith, l))
ended_at (Deleting o f) l = absurd (omega (arith, l))

pub gone_phase : (s : PodState) → exists s ≡ false → phase_of_state s ≡ None
gone_phase Absent h = refl
gone_phase Gone h = refl
gone_phase s h = cc

pub off_place : (u : List ℕ) (a : Area) (h : List Event) → is_stage a ≡ true → IsConforming h →
    stands (state_after h).namespace (place_in u a) ≡ false → is_area_of_state a (pod_state u h) ≡ false
off_place u a h stage conforming miss = by (is_area_of_state a (pod_state u h)) refl
  where
    by : (c : Bool) → is_area_of_state a (pod_state u h) ≡ c → is_area_of_state a (pod_state u h) ≡ false
    by false e = e
    by true e = clash (stands (state_after h).namespace (place_in u a))
        (stands_in u (state_after h).namespace (pod_state u h) a (good u h conforming).inv.pod stage e) miss

-- a pod only gets further along
pub grows : (u : List ℕ) (h more : List Event) → pod_progress (pod_state u h) ≤ pod_progress (pod_state u (h ++ more))
grows u h more = subst (λ (s : PodState). pod_progress (pod_state u h) ≤ pod_progress s)
    (sym (machine_append u h more empty_state Absent)) (ages u more (state_after h) (pod_state u h))

module _ (me : ℕ) (old : List Event) (u : List ℕ) where
  -- the trace up to a step
  abbrev At : {b c : List Event} {P : DirState → Type 0} → AtOwnStep me b c P → List Event
  At {b} {c} {P} x = x.before ++ x.step ∷ []

  -- the phase at a step of a part
  was : {b c : List Event} {P : DirState → Type 0} (x : AtOwnStep me b c P) (more : List Event) (phase : Option Phase) →
      b ≡ old ++ more → pod_phase u (At x) ≡ phase → WasPhase me old c u phase
  was {b} {c} {P} x more phase begins is = record {
    before = x.before;
    step = x.step;
    later = more ++ x.later;
    rest = x.rest;
    begins = x.begins ∙ ap (λ h. h ++ x.later) begins ∙ append_assoc old more x.later;
    ends = x.ends;
    own = x.own;
    is = is;
  }

  -- what was so in a part was so in the whole
  longer : {b c : List Event} {phase : Option Phase} → WasPhase me old b u phase → (more : List Event) → c ≡ b ++ more →
      WasPhase me old c u phase
  longer {b} {c} {phase} x more is = record {
    before = x.before;
    step = x.step;
    later = x.later;
    rest = x.rest ++ more;
    begins = x.begins;
    ends = is ∙ (ap (λ h. h ++ more) x.ends ∙ append_assoc (x.before ++ x.step ∷ []) x.rest more);
    own = x.own;
    is = x.is;
  }

  abbrev Misses : List Event → List Event → Area → Type 0
  Misses b c a = AtOwnStep me b c (λ s. stands s.namespace (place_in u a) ≡ false)

  conforms_at : {b c : List Event} {P : DirState → Type 0} (x : AtOwnStep me b c P) → IsConforming c → IsConforming (At x)
  conforms_at {b} {c} {P} x conforming =
      conforming_left (At x) x.rest (subst (λ (h : List Event). IsConforming h) x.ends conforming)

  -- the pod was past the stages before: then it is past this one as well
  further : (a : Area) (m : ℕ) (b c : List Event) → is_stage a ≡ true → age_in a ≤ m + 1 → IsConforming c →
      m < pod_progress (pod_state u b) → (x : Misses b c a) → age_out a < pod_progress (pod_state u (At x))
  further a m b c stage near conforming so_far x =
      let is : At x ≡ b ++ (x.later ++ x.step ∷ []) = ap (λ h. h ++ x.step ∷ []) x.begins
      ∙ append_assoc b x.later (x.step ∷ []) in
      let up : pod_progress (pod_state u b) ≤ pod_progress (pod_state u (At x)) =
      subst (λ (h : List Event). pod_progress (pod_state u b) ≤ pod_progress (pod_state u h)) (sym is)
      (grows u b (x.later ++ x.step ∷ [])) in
      past a (pod_state u (At x)) stage (omega (arith, up, so_far, near))
      (off_place u a (At x) stage (conforms_at x conforming) x.holds)

  -- it didn't exist at some step, or it is past the stages so far
  abbrev Sought : List Event → ℕ → Type 0
  Sought b m = WasPhase me old b u None ⊎ (m < pod_progress (pod_state u b))

  later : {b c : List Event} {P : DirState → Type 0} (m : ℕ) (x : AtOwnStep me b c P) → m < pod_progress (pod_state u (At x)) →
      m < pod_progress (pod_state u c)
  later {b} {c} {P} m x l =
      let up : pod_progress (pod_state u (At x)) ≤ pod_progress (pod_state u c) =
      subst (λ (h : List Event). pod_progress (pod_state u (At x)) ≤ pod_progress (pod_state u h)) (sym x.ends)
      (grows u (At x) x.rest) in
      omega (arith, l, up)

  first : {b c : List Event} (more : List Event) → b ≡ old ++ more → IsConforming c → (x : Misses b c area.Embryo) → Sought c 1
  first {b} {c} more begins conforming x = by (exists (pod_state u (At x))) refl
    where
      by : (e : Bool) → exists (pod_state u (At x)) ≡ e → Sought c 1
      by false e = inl (was x more None begins (gone_phase (pod_state u (At x)) e))
      by true e = inr (later 1 x (past area.Embryo (pod_state u (At x)) refl (existing (pod_state u (At x)) e)
          (off_place u area.Embryo (At x) refl (conforms_at x conforming) x.holds)))

  next : (a : Area) (m : ℕ) {b c : List Event} → is_stage a ≡ true → age_in a ≤ m + 1 → IsConforming c → Misses b c a →
      Sought b m → Sought c (age_out a)
  next a m {b} {c} stage near conforming x (inl w) = let g = at_grown x in inl (longer w g.0 g.1)
  next a m {b} {c} stage near conforming x (inr l) = inr (later (age_out a) x (further a m b c stage near conforming l x))

  last : {b c : List Event} (more : List Event) → b ≡ old ++ more → IsConforming c → Misses b c area.Garbage →
      Sought b 7 → WasPhase me old c u None
  last {b} {c} more begins conforming x (inl w) = let g = at_grown x in longer w g.0 g.1
  last {b} {c} more begins conforming x (inr l) =
      was x more None begins (gone_phase (pod_state u (At x))
      (ended_at (pod_state u (At x)) (further area.Garbage 7 b c refl (same 8) conforming l x)))
    where
      same : (n : ℕ) → n ≤ n
      same n = omega arith

  missed_grown : (areas : List Area) (b : List Event) → IsMissedIn me old b u areas → (more : List Event) × (b ≡ old ++ more)
  missed_grown [] b m = m
  missed_grown (a ∷ areas) b (c, m, x) =
      let g = missed_grown areas c m in
      let h = at_grown x in
      (g.0 ++ h.0, h.1 ∙ (ap (λ l. l ++ h.0) g.1 ∙ append_assoc old g.0 h.0))

  before : {b c : List Event} {P : DirState → Type 0} → AtOwnStep me b c P → IsConforming c → IsConforming b
  before {b} {c} {P} x conforming =
      let g = at_grown x in
      conforming_left b g.0 (subst (λ (h : List Event). IsConforming h) g.1 conforming)

  pub missed_is_gone : (new : List Event) → IsConforming new → IsMissedIn me old new u stages_back → WasPhase me old new u None
  missed_is_gone new c6 (t5, (t4, (t3, (t2, (t1, (t0, m0, x0), x1), x2), x3), x4), x5) =
      let c5 = before x5 c6 in
      let c4 = before x4 c5 in
      let c3 = before x3 c4 in
      let c2 = before x2 c3 in
      let c1 = before x1 c2 in
      let s0 = first m0.0 m0.1 c1 x0 in
      let s1 = next area.Prepare 1 refl (same 2) c2 x1 s0 in
      let s2 = next area.Prepared 3 refl (same 4) c3 x2 s1 in
      let s3 = next area.Run 4 refl (same 5) c4 x3 s2 in
      let s4 = next area.ExitedGarbage 6 refl (same 7) c5 x4 s3 in
      let g = missed_grown (area.ExitedGarbage ∷ area.Run ∷ area.Prepared ∷ area.Prepare ∷ area.Embryo ∷ []) t5
      (t4, (t3, (t2, (t1, (t0, m0, x0), x1), x2), x3), x4) in
      last g.0 g.1 c6 x5 s4
    where
      same : (n : ℕ) → n ≤ n
      same n = omega arith

pub misses_tell_gone : (trace : List Event) → IsConforming trace → MissesTellGone trace
misses_tell_gone trace conforming me old name missed = missed_is_gone me old name trace conforming missed

pub locks_tell_phases : (trace : List Event) → IsConforming trace → LocksTellPhases trace
locks_tell_phases trace conforming me old spot owned stage at = record {
  before = at.before;
  step = at.step;
  later = at.later;
  rest = at.rest;
  begins = at.begins;
  ends = at.ends;
  own = at.own;
  is = sym (owned_phase (at.before ++ at.step ∷ []) spot owned
      (conforming_left (at.before ++ at.step ∷ []) at.rest (subst (λ (h : List Event). IsConforming h) at.ends
      conforming)) stage at.holds);
}
