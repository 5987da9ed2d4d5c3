-- A pod that a listing of run didn't show wasn't running at the listing's own beginning or end.
use Rattle.std.proofs.Common.{arith, ◌≡◌, ◌<◌, ℕ, Bool, true, false, Some, List, [], ◌∷◌, ◌++◌, refl, sym, ap, subst, ◌∙◌, append-nil, append_assoc}
use Rattle.dir_model.specs.declared.area.Area.TheVariants as area
use Rattle.dir_model.specs.declared.area.Phase.TheVariants as phase
use Rattle.dir_model.specs.declared.event.Event.{Event}
use Rattle.dir_model.specs.declared.pod.PodId.{PodId}
use Rattle.dir_model.specs.declared.request.Request.TheVariants.{ListArea}
use Rattle.dir_model.specs.declared.request.Reply.TheVariants.{Begun, Names}
use Rattle.dir_model.specs.Calls.{event}
use Rattle.dir_model.specs.Listings.{has_name}
use Rattle.dir_model.specs.Pods.{pod_text}
use Rattle.dir_files.specs.Listed.{ShowsArea, ShowsAreaBetween}
use Rattle.dir_trait.specs.DirCalls.{DirAt}
use Rattle.lifecycle.specs.declared.machine.PodState.{PodState}
use Rattle.lifecycle.specs.declared.machine.PodState.TheVariants.{Absent, Embryo, Preparing, AbortedPrepare, Prepared, Running, Exited, ExitedGarbage, Garbage, Deleting, Gone}
use Rattle.lifecycle.specs.Executions.{IsConforming}
use Rattle.lifecycle.specs.PodMachine.{pod_state, phase_of_state, pod_progress}
use Rattle.phase_read.specs.Exact.{AtOwnEvent}
use Rattle.pod_lookup.proofs.Shown.{further, own_event, own_end}
use Rattle.metadata.specs.PodViews.{WasNotRunning}

-- whether it runs
runs : PodState → Bool
runs (Running owner) = true
runs s = false

not_running : (s : PodState) → runs s ≡ false → phase_of_state s ≡ Some phase.Running → ⊥
unfolding runs
not_running (Running owner) off is = cc
not_running Absent off is = cc
not_running (Embryo m) off is = cc
not_running (Preparing o) off is = cc
not_running AbortedPrepare off is = cc
not_running Prepared off is = cc
not_running Exited off is = cc
not_running ExitedGarbage off is = cc
not_running Garbage off is = cc
not_running (Deleting o f) off is = cc
not_running Gone off is = cc

old_enough : (s : PodState) → runs s ≡ true → 4 < pod_progress s
unfolding runs
old_enough (Running owner) is = omega arith
old_enough s is = cc

too_old : (s : PodState) → 6 < pod_progress s → runs s ≡ false
unfolding runs
too_old (Running owner) l = absurd (omega (arith, l))
too_old s l = refl

module _ {me : ℕ} {old new : List Event} {names : List (List ℕ)} (w : ShowsArea me old new area.Run names) (u : List ℕ) (off : has_name names u ≡ false) where
  abbrev Off : List Event → Type 0
  Off trace = phase_of_state (pod_state u trace) ≡ Some phase.Running → ⊥

  at_begin : runs (pod_state u w.stretch.begun) ≡ false → AtOwnEvent me old new Off
  at_begin is = record {
    before = old ++ w.stretch.before;
    step = event me (ListArea area.Run) Begun;
    later = w.stretch.before;
    rest = w.stretch.others ++ event me (ListArea area.Run) (Names names) ∷ [];
    begins = refl;
    ends = w.stretch.ends ∙ (append_assoc w.stretch.begun w.stretch.others (event me (ListArea area.Run) (Names names) ∷ []) ∙ ap (λ h. h ++ (w.stretch.others ++ event me (ListArea area.Run) (Names names) ∷ [])) w.stretch.opens);
    own = own_event me area.Run;
    holds = subst Off w.stretch.opens (not_running (pod_state u w.stretch.begun) is);
  }

  at_end : runs (pod_state u new) ≡ false → AtOwnEvent me old new Off
  at_end is = record {
    before = w.stretch.begun ++ w.stretch.others;
    step = event me (ListArea area.Run) (Names names);
    later = w.stretch.earlier ++ w.stretch.others;
    rest = [];
    begins = ap (λ h. h ++ w.stretch.others) w.stretch.begins ∙ append_assoc old w.stretch.earlier w.stretch.others;
    ends = w.stretch.ends ∙ sym (append-nil ((w.stretch.begun ++ w.stretch.others) ++ event me (ListArea area.Run) (Names names) ∷ []));
    own = own_end me area.Run names;
    holds = subst Off w.stretch.ends (not_running (pod_state u new) is);
  }

  hidden : IsConforming new → AtOwnEvent me old new Off
  hidden conforming = by (runs (pod_state u w.stretch.begun)) refl
    where
      by : (b : Bool) → runs (pod_state u w.stretch.begun) ≡ b → AtOwnEvent me old new Off
      by false is = at_begin is
      by true is = at_end (too_old (pod_state u new) (further w u 4 refl (omega arith) conforming off (old_enough (pod_state u w.stretch.begun) is)))

pub hidden_pod : (old new : DirAt) (names : List (List ℕ)) (pod : PodId) → ShowsAreaBetween old new area.Run names → has_name names (pod_text pod.bytes) ≡ false → WasNotRunning pod old new
hidden_pod old new names pod w off conforming = hidden w (pod_text pod.bytes) off conforming
