-- What one round of a visit tells: the pod was found, and later its manifest was looked for there.
use Rattle.std.proofs.Common.{arith, ◌≡◌, inl, inr, ◌≤◌, ◌<◌, ℕ, suc, true, false, bytes_eq, Option, Some, is_some, List, [], ◌∷◌, ◌++◌, refl, sym, ap, subst, ◌∙◌, append_assoc, append-nil}
use Rattle.std.proofs.lemmas.Slice.Eq.{bytes_eq-Decides}
use Rattle.manifests.specs.PodData.{pod_data}
use Rattle.dir_model.specs.declared.area.Area.{Area}
use Rattle.dir_model.specs.declared.area.Area.TheVariants as area
use Rattle.dir_model.specs.declared.area.Phase.{Phase}
use Rattle.dir_model.specs.declared.event.Event.{Event}
use Rattle.dir_model.specs.declared.pod.PodId.{PodId}
use Rattle.dir_model.specs.Areas.{rank, is_stage}
use Rattle.dir_model.specs.Pods.{pod_text}
use Rattle.dir_model.specs.State.{DirState, stands, folder_at}
use Rattle.dir_model.specs.Trace.{state_after}
use Rattle.dir_model.specs.Calls.{AtOwnStep}
use Rattle.dir_model.proofs.Lists.{and_both}
use Rattle.dir_model.proofs.Moments.{at_within, at_weaker, at_grown, some_number}
use Rattle.dir_trait.specs.DirCalls.{DirAt}
use Rattle.lifecycle.specs.PodMachine.{pod_state, is_area_of_state, pod_progress, age_in}
use Rattle.lifecycle.specs.Executions.{IsConforming}
use Rattle.lifecycle.proofs.Forward.{age_out, out_age}
use Rattle.lifecycle.proofs.Invariant.{placed_age}
use Rattle.lifecycle.proofs.Phases.{stands_exists}
use Rattle.lifecycle.proofs.Stays.{stays_between}
use Rattle.dir_model.specs.Spots.{pod_spot}
use Rattle.phase_read.specs.Exact.{AtOwnEvent, IsInPhase, IsNowhere}
use Rattle.phase_read.proofs.Exact.{event_within, stage_of}
use Rattle.lifecycle.proofs.Looking.{past, off_place, ended_at, gone_phase}
use Rattle.pod_lookup.proofs.Shown.{conforms, ages_on}
use Rattle.pod_report.specs.declared.sight.Sight.{Sight}
use Rattle.pod_report.specs.declared.sight.Sight.TheVariants.{Moved, Lacking, Manifest}
use Rattle.pod_report.specs.declared.attempt.Round.TheVariants.{Missed}
use Rattle.pod_report.specs.Manifests.{PodHasManifest, HasManifestIn, HasUnreadable, HasNoFile, PodLacksManifest}
use Rattle.pod_report.specs.Sights.{Sees, WasMissingThere}
use Rattle.pod_report.specs.Rounds.{age_past, moved_from, report_round_of, RoundTells}
use Rattle.pod_report.specs.Visits.{IsPhase}
use Rattle.pod_report.proofs.Leaving.{left_more}

pub event_grown : {me : ℕ} {a b : List Event} {P : List Event → Type 0} → AtOwnEvent me a b P → (more : List Event) × (b ≡ a ++ more)
event_grown {me} {a} {b} {P} at = (at.later ++ (at.step ∷ [] ++ at.rest), at.ends ∙ (ap (λ h. (h ++ at.step ∷ []) ++ at.rest) at.begins ∙ simp append_assoc))

module _ (pod : PodId) (phase : Phase) (area : Area) (within : rank area ≤ 5) {me : ℕ} {old mid : List Event} (found : AtOwnEvent me old mid (IsInPhase pod phase area)) where
  abbrev u : List ℕ
  u = pod_text pod.bytes

  abbrev X : List Event
  X = found.before ++ found.step ∷ []

  -- the phase that was found
  pub phase_met : {new : List Event} (rest : List Event) → new ≡ mid ++ rest → AtOwnEvent me old new (IsPhase pod phase)
  phase_met {new} rest is =
      let at = event_within [] rest (sym (append-nil old)) is found in
      record { before = found.before; step = found.step; later = found.later; rest = found.rest ++ rest; begins = found.begins; ends = is ∙ (ap (λ h. h ++ rest) found.ends ∙ append_assoc X found.rest rest); own = found.own; holds = found.holds.is }

  grown_met : (more : List Event) × (mid ≡ old ++ more)
  grown_met = event_grown found

  -- a later moment is the one at which it was found, and more
  after_met : {b : List Event} {P : DirState → Type 0} (y : AtOwnStep me mid b P) → y.before ++ y.step ∷ [] ≡ X ++ (found.rest ++ (y.later ++ y.step ∷ []))
  after_met {b} {P} y =
      ap (λ h. h ++ y.step ∷ []) (y.begins ∙ ap (λ h. h ++ y.later) found.ends)
      ∙ (append_assoc (X ++ found.rest) y.later (y.step ∷ []) ∙ append_assoc X found.rest (y.later ++ y.step ∷ []))

  -- no file was there, while the pod was
  pub no_file_met : {new : List Event} → IsConforming new → WasMissingThere pod area me mid new → AtOwnStep me old new (HasNoFile pod area)
  no_file_met {new} conforming w =
      let y = w.missing in
      let z = w.there in
      let spot = pod_spot pod area in
      let b = found.rest ++ (y.later ++ y.step ∷ []) in
      let c = y.rest ++ (z.later ++ z.step ∷ []) in
      let Y : List Event = y.before ++ y.step ∷ [] in
      let yx : Y ≡ X ++ b = after_met y in
      let zy : z.before ++ z.step ∷ [] ≡ Y ++ c =
      ap (λ h. h ++ z.step ∷ []) (z.begins ∙ ap (λ h. h ++ z.later) y.ends)
      ∙ (append_assoc (Y ++ y.rest) z.later (z.step ∷ []) ∙ append_assoc Y y.rest (z.later ++ z.step ∷ [])) in
      let zx : z.before ++ z.step ∷ [] ≡ (X ++ b) ++ c = zy ∙ ap (λ h. h ++ c) yx in
      let whole : new ≡ ((X ++ b) ++ c) ++ z.rest = z.ends ∙ ap (λ h. h ++ z.rest) zx in
      let k = some_number (folder_at (state_after X).namespace spot) found.holds.there in
      let still : folder_at (state_after (X ++ b)).namespace spot ≡ Some k.0 =
      stays_between new conforming spot k.0 X b c z.rest within whole k.1 (subst (λ (h : List Event). stands (state_after h).namespace spot ≡ true) zx z.holds) in
      let here : stands (state_after Y).namespace spot ≡ true = subst (λ (h : List Event). stands (state_after h).namespace spot ≡ true) (sym yx) (ap (λ (o : Option ℕ). is_some o) still) in
      let at : AtOwnStep me mid w.between (HasNoFile pod area) = record { before = y.before; step = y.step; later = y.later; rest = y.rest; begins = y.begins; ends = y.ends; own = y.own; holds = record { there = here; missing = y.holds } } in
      let g = grown_met in
      let h = at_grown z in
      at_within g.0 h.0 g.1 h.1 at

  -- it isn't there any more
  module _ {new : List Event} (conforming : IsConforming new) (y : AtOwnStep me mid new (λ s. stands s.namespace (pod_spot pod area) ≡ false)) where
    abbrev Y : List Event
    Y = y.before ++ y.step ∷ []

    here : is_area_of_state area (pod_state u X) ≡ true
    here = (stands_exists u X (pod_spot pod area)
        (conforms X new (found.rest ++ (at_grown y).0) ((at_grown y).1 ∙ (ap (λ h. h ++ (at_grown y).0) found.ends ∙ append_assoc X found.rest (at_grown y).0)) conforming)
        (and_both (is_stage area) (bytes_eq u u) (stage_of area within) ((bytes_eq-Decides u u).1 refl)) found.holds.there).1

    off : is_area_of_state area (pod_state u Y) ≡ false
    off = off_place u area Y (stage_of area within) (conforms Y new y.rest y.ends conforming) y.holds

    older : pod_progress (pod_state u X) ≤ pod_progress (pod_state u Y)
    older = ages_on u X Y (found.rest ++ (y.later ++ y.step ∷ [])) (after_met y)

    pub beyond : age_out area < pod_progress (pod_state u Y)
    beyond =
        let low : age_in area ≤ pod_progress (pod_state u X) = placed_age area (pod_state u X) here in
        let up = older in
        past area (pod_state u Y) (stage_of area within) (omega (arith, low, up)) off

    pub gone_met : age_out area ≡ 8 → AtOwnEvent me old new (IsNowhere pod)
    gone_met last =
        let far = beyond in
        let more : 8 < pod_progress (pod_state u Y) = omega (arith, far, last) in
        let g = grown_met in
        record {
          before = y.before;
          step = y.step;
          later = g.0 ++ y.later;
          rest = y.rest;
          begins = y.begins ∙ (ap (λ h. h ++ y.later) g.1 ∙ append_assoc old g.0 y.later);
          ends = y.ends;
          own = y.own;
          holds = gone_phase (pod_state u Y) (ended_at (pod_state u Y) more);
        }

    pub missed_met : (n : ℕ) → moved_from area ≡ Missed → age_past n ≤ pod_progress (pod_state u old) → (age_past (suc n) ≤ pod_progress (pod_state u new)) × (suc n ≤ 5)
    missed_met n missed so_far =
        let up = ages_on u old X (found.later ++ found.step ∷ []) (ap (λ h. h ++ found.step ∷ []) found.begins ∙ append_assoc old found.later (found.step ∷ [])) in
        let most : pod_progress (pod_state u X) ≤ age_out area = out_age area (pod_state u X) here in
        let l = left_more n area (stage_of area within) missed (omega (arith, so_far, up, most)) in
        let far = beyond in
        let on = ages_on u Y new y.rest y.ends in
        (omega (arith, l.0, far, on), l.1)

-- what a round tells
module _ (pod : PodId) (phase : Phase) (old mid new : DirAt) (same : mid.process ≡ old.process) (rest : List Event) (grown : new.trace ≡ mid.trace ++ rest) (conforming : IsConforming new.trace) where
  pub met_moved : (area : Area) → rank area ≤ 5 → AtOwnEvent old.process old.trace mid.trace (IsInPhase pod phase area) → AtOwnStep old.process mid.trace new.trace (λ s. stands s.namespace (pod_spot pod area) ≡ false) → RoundTells pod (moved_from area) old new
  met_moved area.Garbage within found y = gone_met pod phase area.Garbage within found conforming y refl
  met_moved area.Embryo within found y = λ n l. let m = missed_met pod phase area.Embryo within found conforming y n refl l in record { left = m.0; most = m.1 }
  met_moved area.Prepare within found y = λ n l. let m = missed_met pod phase area.Prepare within found conforming y n refl l in record { left = m.0; most = m.1 }
  met_moved area.Prepared within found y = λ n l. let m = missed_met pod phase area.Prepared within found conforming y n refl l in record { left = m.0; most = m.1 }
  met_moved area.Run within found y = λ n l. let m = missed_met pod phase area.Run within found conforming y n refl l in record { left = m.0; most = m.1 }
  met_moved area.ExitedGarbage within found y = λ n l. let m = missed_met pod phase area.ExitedGarbage within found conforming y n refl l in record { left = m.0; most = m.1 }
  met_moved area.Incoming within found y = absurd (omega (arith, within))
  met_moved area.Images within found y = absurd (omega (arith, within))
  met_moved area.Trees within found y = absurd (omega (arith, within))
  met_moved area.Removed within found y = absurd (omega (arith, within))

  pub round_tells : (area : Area) (sight : Sight) → rank area ≤ 5 → AtOwnEvent old.process old.trace mid.trace (IsInPhase pod phase area) → Sees pod area sight mid new → RoundTells pod (report_round_of phase area sight) old new
  round_tells area (Manifest m) within found sees =
      let g = event_grown found in
      let seen : AtOwnStep old.process mid.trace new.trace (HasManifestIn pod area (pod_data m)) = subst (λ (me : ℕ). AtOwnStep me mid.trace new.trace (HasManifestIn pod area (pod_data m))) same sees in
      record {
        phase = phase_met pod phase area within found rest grown;
        manifest = at_within g.0 [] g.1 (sym (append-nil new.trace)) (at_weaker (PodHasManifest pod (pod_data m)) (λ s h. (area, stage_of area within, h)) seen);
      }
  round_tells area Lacking within found (inl sees) =
      let g = event_grown found in
      let seen : AtOwnStep old.process mid.trace new.trace (HasUnreadable pod area) = subst (λ (me : ℕ). AtOwnStep me mid.trace new.trace (HasUnreadable pod area)) same sees in
      record {
        phase = phase_met pod phase area within found rest grown;
        manifest = at_within g.0 [] g.1 (sym (append-nil new.trace)) (at_weaker (PodLacksManifest pod) (λ s h. (area, stage_of area within, inl h)) seen);
      }
  round_tells area Lacking within found (inr sees) =
      let seen : WasMissingThere pod area old.process mid.trace new.trace = subst (λ (me : ℕ). WasMissingThere pod area me mid.trace new.trace) same sees in
      record {
        phase = phase_met pod phase area within found rest grown;
        manifest = at_weaker (PodLacksManifest pod) (λ s h. (area, stage_of area within, inr h)) (no_file_met pod phase area within found conforming seen);
      }
  round_tells area Moved within found sees = met_moved area within found (subst (λ (me : ℕ). AtOwnStep me mid.trace new.trace (λ s. stands s.namespace (pod_spot pod area) ≡ false)) same sees)
