-- A pod that a listing shows existed at some moment, and one that exists all the time exists at each own step.
use Rattle.std.proofs.Common.{◌≡◌, ℕ, Bool, true, false, ◌||◌, bytes_eq, None, List, [], ◌∷◌, ◌++◌, refl, sym, ap, ◌∙◌, append_assoc, append-nil}
use Rattle.std.specs.List.{AllByRecursion}
use Rattle.plain_laws.proofs.Texts.{same_bytes}
use Rattle.dir_model.specs.declared.area.Area.{Area}
use Rattle.dir_model.specs.declared.event.Event.{Event}
use Rattle.dir_model.specs.declared.request.Request.TheVariants.{ListArea}
use Rattle.dir_model.specs.declared.request.Reply.TheVariants.{Names}
use Rattle.dir_model.specs.Areas.{is_stage}
use Rattle.dir_model.specs.Calls.{event}
use Rattle.dir_model.specs.Listings.{has_name}
use Rattle.dir_model.specs.State.{DirState, stands, empty_state}
use Rattle.dir_model.specs.Trace.{state_after, states_next}
use Rattle.dir_model.proofs.Chains.{states_next-append}
use Rattle.dir_model.proofs.Lists.{and_both}
use Rattle.dir_laws.specs.Stretches.{StandsInArea}
use Rattle.lifecycle.specs.declared.machine.PodState.{PodState}
use Rattle.lifecycle.specs.declared.machine.PodState.TheVariants.{Absent, Gone}
use Rattle.lifecycle.specs.Executions.{IsConforming}
use Rattle.lifecycle.specs.Ownership.{place_in}
use Rattle.lifecycle.specs.PodMachine.{exists, phase_of_state, pod_state}
use Rattle.lifecycle.specs.Readings.{WasPhase}
use Rattle.lifecycle.proofs.Phases.{stands_exists}
use Rattle.phase_read.specs.Read.{stages}
use Rattle.pod_lookup.specs.AreaListings.{AreListed, NameWasShown}
use Rattle.pod_lookup.specs.Moments.{AtEachMoment, AtSomeMoment, Exists}
use Rattle.pod_lookup.proofs.AreaNames.{area_named}
use Rattle.pod_lookup.proofs.Shown.{conforms, listed_grown, listed_on, any_parts}
use Rattle.pod_lookup.proofs.Still.{sometime_at}

-- of names that listings showed, each was shown by one of them
pub shown_by : (me : ℕ) (old new : List Event) (name : List ℕ) (areas : List Area) → AllByRecursion (λ a. is_stage a ≡ true) areas → (c : List Event) (names : List (List ℕ)) (more : List Event) → new ≡ c ++ more → AreListed me old c areas names → has_name names name ≡ true → NameWasShown me old new name
shown_by me old new name [] pods c names more ends l there = let e : false ≡ true = sym (ap (λ ns. has_name ns name) l.1) ∙ there in cc
shown_by me old new name (a ∷ areas) pods c names more ends (b, first, own, is, l, w) there =
    let g = listed_grown w in
    by (has_name own name) refl (shown_by me old new name areas pods.1 b first (g.0 ++ more) (ends ∙ (ap (λ h. h ++ more) g.1 ∙ append_assoc b g.0 more)) l)
  where
    else_not : (p q : Bool) → q ≡ false → (p || q) ≡ true → p ≡ true
    else_not true q off h = refl
    else_not false true off h = cc
    else_not false false off h = cc

    by : (s : Bool) → has_name own name ≡ s → (has_name first name ≡ true → NameWasShown me old new name) → NameWasShown me old new name
    by true s before = record {
      area = a;
      stage = pods.0;
      from = b;
      upto = c;
      earlier = (listed_on me old areas b first l).0;
      later = more;
      begins = (listed_on me old areas b first l).1;
      ends = ends;
      names = own;
      listed = w;
      shown = s;
    }
    by false s before =
        let all : (has_name first name || has_name own name) ≡ true = sym (any_parts (λ n. bytes_eq n name) first own) ∙ (ap (λ ns. has_name ns name) (sym is) ∙ there) in
        before (else_not (has_name first name) (has_name own name) s all)

pub shown_in_stages : (me : ℕ) (old new : List Event) (name : List ℕ) (names : List (List ℕ)) → AreListed me old new stages names → has_name names name ≡ true → NameWasShown me old new name
shown_in_stages me old new name names l there = shown_by me old new name stages (refl, (refl, (refl, (refl, (refl, (refl, tt)))))) new names [] (sym (append-nil new)) l there

-- a pod whose folder stands there exists
stands_there : (name : List ℕ) (a : Area) (trace : List Event) → is_stage a ≡ true → IsConforming trace → stands (state_after trace).namespace (place_in name a) ≡ true → Exists name trace
stands_there name a trace stage conforming there = (stands_exists name trace (place_in name a) conforming (and_both (is_stage a) (bytes_eq name name) stage (same_bytes name)) there).0

pub shown_existed : (me : ℕ) (old new : List Event) (name : List ℕ) → NameWasShown me old new name → IsConforming new → AtSomeMoment old new (Exists name)
shown_existed me old new name w conforming =
    let s = w.listed.stretch in
    let m = sometime_at (StandsInArea w.area name) (state_after s.begun) s.others (w.listed.only name w.shown) in
    let end : List Event = event me (ListArea w.area) (Names w.names) ∷ [] in
    let later : List Event = (w.earlier ++ s.earlier) ++ m.0 in
    let here : s.begun ++ m.0 ≡ old ++ later = ap (λ h. h ++ m.0) (s.begins ∙ (ap (λ h. h ++ s.earlier) w.begins ∙ append_assoc old w.earlier s.earlier)) ∙ append_assoc old (w.earlier ++ s.earlier) m.0 in
    let rest : List Event = m.1 ++ (end ++ w.later) in
    let whole : new ≡ (s.begun ++ m.0) ++ rest = w.ends ∙ (ap (λ h. h ++ w.later) (s.ends ∙ ap (λ h. (s.begun ++ h) ++ end) m.2) ∙ simp append_assoc) in
    let ends : new ≡ (old ++ later) ++ rest = whole ∙ ap (λ h. h ++ rest) here in
    let now : states_next (state_after s.begun) m.0 ≡ state_after (old ++ later) = sym (states_next-append empty_state s.begun m.0) ∙ ap state_after here in
    let stood : stands (state_after (old ++ later)).namespace (place_in name w.area) ≡ true =
    ap (λ (t : DirState). stands t.namespace (place_in name w.area)) (sym now) ∙ (sym (area_named (states_next (state_after s.begun) m.0).namespace w.area name) ∙ m.3) in
    record {
      later = later;
      rest = rest;
      ends = ends;
      holds = stands_there name w.area (old ++ later) w.stage (conforms (old ++ later) new rest ends conforming) stood;
    }

-- a pod that exists has a phase
pub has_phase : (s : PodState) → exists s ≡ true → phase_of_state s ≡ None → ⊥
has_phase Absent e none = cc
has_phase Gone e none = cc
has_phase s e none = cc

-- so one that exists all the time was without one at no own step
pub never_gone : (me : ℕ) (old new : List Event) (name : List ℕ) → AtEachMoment old new (Exists name) → WasPhase me old new name None → ⊥
never_gone me old new name each w =
    let later : List Event = w.later ++ w.step ∷ [] in
    let here : w.before ++ w.step ∷ [] ≡ old ++ later = ap (λ h. h ++ w.step ∷ []) w.begins ∙ append_assoc old w.later (w.step ∷ []) in
    has_phase _ (each later w.rest (w.ends ∙ ap (λ h. h ++ w.rest) here)) (ap (λ h. phase_of_state (pod_state name h)) (sym here) ∙ w.is)
