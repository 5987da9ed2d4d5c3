-- Where nobody else steps, a pod that was found to run did so before, and one that was found not to didn't.
use Rattle.std.proofs.Common.{◌≡◌, ℕ, Bool, true, false, ◌==◌, cond, bytes_eq, Some, List, [], ◌∷◌, ◌++◌, refl, sym, ap, ◌∙◌}
use Rattle.std.proofs.lemmas.Slice.Eq.{bytes_eq-Decides}
use Rattle.dir_model.specs.declared.area.Area.{Area}
use Rattle.dir_model.specs.declared.area.Area.TheVariants as area
use Rattle.dir_model.specs.declared.area.Phase.{Phase}
use Rattle.dir_model.specs.declared.area.Phase.TheVariants as phase
use Rattle.dir_model.specs.declared.event.Event.{Event}
use Rattle.dir_model.specs.declared.pod.PodId.{PodId}
use Rattle.dir_model.specs.declared.spot.Spot.{Spot}
use Rattle.dir_model.specs.Areas.{rank, is_stage, phase_in}
use Rattle.dir_model.specs.Pods.{pod_text}
use Rattle.dir_model.specs.State.{DirState, folder_at, stands, is_owned, is_owned_in, is_owned_at}
use Rattle.dir_model.specs.Trace.{state_after}
use Rattle.dir_model.proofs.Lists.{and_left, and_both}
use Rattle.dir_model.proofs.Moments.{some_number}
use Rattle.dir_rules.specs.Standing.{is_spot_of_pod}
use Rattle.dir_trait.specs.DirCalls.{DirAt}
use Rattle.lifecycle.specs.Executions.{IsConforming}
use Rattle.lifecycle.specs.PodMachine.{pod_phase}
use Rattle.lifecycle.proofs.Phases.{phase_of_place}
use Rattle.lifecycle.proofs.Stays.{one_folder}
use Rattle.phase_read.specs.declared.found.Found.{Found}
use Rattle.phase_read.specs.declared.found.Found.TheVariants.{At, Gone}
use Rattle.dir_model.specs.Spots.{pod_spot}
use Rattle.phase_read.specs.Sequential.{sequential_read}
use Rattle.pod_lookup.proofs.Shown.{conforms}
use Rattle.pod_report.specs.Requests.{OnlyAsksFor}
use Rattle.pod_report.proofs.QuietSurvey.{SameWorld}
use Rattle.metadata.specs.Looks.{looks_in_run}
use Rattle.metadata.specs.PodViews.{WasRunning, WasNotRunning}
use Rattle.running_views.specs.Laws.{ReadsUndisturbed}
use Rattle.pod_report.proofs.QuietLines.{same_folder}
use Rattle.pod_report.proofs.SameStatus.{same_stands}
use Rattle.running_views.proofs.QuietReads.{world_at}

-- ---- by one state

skipped : (b : Bool) (here later found : Found) → b ≡ false → later ≡ found → cond b here later ≡ found
skipped false here later found off is = is
skipped true here later found off is = cc

found_there : (b owned : Bool) (later : Found) → b ≡ true → owned ≡ true → cond b (At (cond owned phase.Running phase.Exited) area.Run) later ≡ At phase.Running area.Run
found_there true true later there held = refl
found_there true false later there held = cc
found_there false owned later there held = cc

past : (b : Bool) (p : Phase) (a : Area) (later : Found) → (a ≡ area.Run → ⊥) → cond b (At p a) later ≡ At phase.Running area.Run → later ≡ At phase.Running area.Run
past true p a later other h = let same : a ≡ area.Run = cc in absurd (other same)
past false p a later other h = h

no_later : (b c : Bool) (p q : Phase) → cond b (At p area.ExitedGarbage) (cond c (At q area.Garbage) Gone) ≡ At phase.Running area.Run → ⊥
no_later true c p q h = cc
no_later false true p q h = cc
no_later false false p q h = cc

there_held : (b owned : Bool) (later : Found) → (later ≡ At phase.Running area.Run → ⊥) → cond b (At (cond owned phase.Running phase.Exited) area.Run) later ≡ At phase.Running area.Run → (b ≡ true) × (owned ≡ true)
there_held true true later none h = (refl, refl)
there_held true false later none h = cc
there_held false owned later none h = absurd (none h)

module _ (s : DirState) (pod : PodId) where
  abbrev Stands : Area → Bool
  Stands a = stands s.namespace (pod_spot pod a)

  abbrev Held : Area → Bool
  Held a = is_owned_at s.namespace (pod_spot pod a)

  -- it stands in run alone, and its lock is held
  runs_is : ((a : Area) → is_stage a ≡ true → (rank area.Run == rank a) ≡ false → Stands a ≡ false) → Stands area.Run ≡ true → Held area.Run ≡ true → sequential_read s pod ≡ At phase.Running area.Run
  runs_is off there held =
      skipped (Stands area.Embryo) _ _ _ (off area.Embryo refl refl) (skipped (Stands area.Prepare) _ _ _ (off area.Prepare refl refl)
      (skipped (Stands area.Prepared) _ _ _ (off area.Prepared refl refl) (found_there (Stands area.Run) (Held area.Run) _ there held)))

  is_held : sequential_read s pod ≡ At phase.Running area.Run → (Stands area.Run ≡ true) × (Held area.Run ≡ true)
  is_held h =
      there_held (Stands area.Run) (Held area.Run) _ (no_later (Stands area.ExitedGarbage) (Stands area.Garbage) _ _)
      (past (Stands area.Prepared) _ area.Prepared _ (λ e. cc) (past (Stands area.Prepare) _ area.Prepare _ (λ e. cc) (past (Stands area.Embryo) _ area.Embryo _ (λ e. cc) h)))

held_runs : (b : Bool) → phase_in area.Run b ≡ Some phase.Running → b ≡ true
held_runs true is = refl
held_runs false is = cc

-- ---- by what was told between two moments

module _ {old new : DirAt} (only : OnlyAsksFor true looks_in_run old new) (alone : ReadsUndisturbed old new) (pod : PodId) where
  abbrev before : DirState
  before = state_after old.trace

  abbrev u : List ℕ
  u = pod_text pod.bytes

  abbrev spot : Spot
  spot = pod_spot pod area.Run

  of_pod : is_spot_of_pod u spot ≡ true
  of_pod = and_both (is_stage area.Run) (bytes_eq u u) refl ((bytes_eq-Decides u u).1 refl)

  off : (h : List Event) → IsConforming h → SameWorld old.process before (state_after h) → stands before.namespace spot ≡ true →
      (a : Area) → is_stage a ≡ true → (rank area.Run == rank a) ≡ false → stands before.namespace (pod_spot pod a) ≡ false
  off h good w there a stage apart = by (stands before.namespace (pod_spot pod a)) refl
    where
      by : (b : Bool) → stands before.namespace (pod_spot pod a) ≡ b → b ≡ false
      by false is = refl
      by true is =
          let one = one_folder h spot (pod_spot pod a) good refl stage refl (same_stands w spot ∙ there) (same_stands w (pod_spot pod a) ∙ is) in
          let clash : true ≡ false = sym (and_left (rank area.Run == rank a) (bytes_eq u u) one) ∙ apart in cc

  pub runs_before : WasRunning pod old new → stands before.namespace spot ≡ true → sequential_read before pod ≡ At phase.Running area.Run
  runs_before was there =
      let at = was alone.conforms in
      let h : List Event = at.before ++ at.step ∷ [] in
      let w : SameWorld old.process before (state_after h) = world_at only alone at.before at.step at.later at.rest at.begins at.ends in
      let good = conforms h new.trace at.rest at.ends alone.conforms in
      let k = some_number (folder_at before.namespace spot) there in
      let table = phase_of_place u h spot k.0 good of_pod (same_folder w spot ∙ k.1) in
      let phase : phase_in area.Run (is_owned (state_after h).namespace k.0) ≡ Some phase.Running = table ∙ at.holds in
      let held : is_owned_at before.namespace spot ≡ true =
      ap (is_owned_in before.namespace) k.1 ∙ (sym (w.names.owned k.0) ∙ held_runs (is_owned (state_after h).namespace k.0) phase) in
      runs_is before pod (off h good w there) there held

  pub stopped_before : WasNotRunning pod old new → sequential_read before pod ≡ At phase.Running area.Run → ⊥
  stopped_before was runs =
      let at = was alone.conforms in
      let h : List Event = at.before ++ at.step ∷ [] in
      let w : SameWorld old.process before (state_after h) = world_at only alone at.before at.step at.later at.rest at.begins at.ends in
      let good = conforms h new.trace at.rest at.ends alone.conforms in
      let x = is_held before pod runs in
      let k = some_number (folder_at before.namespace spot) x.0 in
      let table = phase_of_place u h spot k.0 good of_pod (same_folder w spot ∙ k.1) in
      let held : is_owned (state_after h).namespace k.0 ≡ true = w.names.owned k.0 ∙ (sym (ap (is_owned_in before.namespace) k.1) ∙ x.1) in
      let phase : pod_phase u h ≡ Some phase.Running = sym table ∙ ap (phase_in area.Run) held in
      at.holds phase
