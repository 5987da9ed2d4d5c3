-- Where nobody else steps, what refused a removal was so before.
use Rattle.std.proofs.Common.{◌≡◌, ℕ, Bool, true, false, not, ◌&&◌, ◌==◌, cond, bytes_eq, Option, Some, List, ◌++◌, refl, sym, ap, subst, ◌∙◌}
use Rattle.plain_laws.proofs.Texts.{same_bytes}
use Rattle.dir_model.specs.declared.area.Area.{Area}
use Rattle.dir_model.specs.declared.area.Area.TheVariants as area
use Rattle.dir_model.specs.declared.area.Phase.{Phase}
use Rattle.dir_model.specs.declared.area.Phase.TheVariants as kind
use Rattle.dir_model.specs.declared.event.Event.{Event}
use Rattle.dir_model.specs.declared.pod.PodId.{PodId}
use Rattle.dir_model.specs.declared.spot.Which.{Which}
use Rattle.dir_model.specs.Areas.{rank, is_stage, phase_in}
use Rattle.dir_model.specs.Calls.{Extends}
use Rattle.dir_model.specs.Pods.{pod_text}
use Rattle.dir_model.specs.Quiet.{Quiet}
use Rattle.dir_model.specs.State.{DirState, folder_at, stands, is_owned_in, is_owned_at}
use Rattle.dir_model.specs.Trace.{state_after}
use Rattle.dir_model.proofs.Lists.{and_left}
use Rattle.dir_model.proofs.Moments.{some_number}
use Rattle.lifecycle.specs.declared.machine.PodState.{PodState}
use Rattle.lifecycle.specs.declared.machine.PodState.TheVariants as state
use Rattle.lifecycle.specs.PodMachine.{pod_state, pod_phase, phase_of_state, owner_of, exists}
use Rattle.lifecycle.specs.Executions.{IsConforming}
use Rattle.lifecycle.proofs.Draws.{conforming_left}
use Rattle.lifecycle.proofs.Makes.{of_same}
use Rattle.lifecycle.proofs.Phases.{exists_stands, phase_of_place}
use Rattle.lifecycle.proofs.Stays.{one_folder}
use Rattle.phase_read.specs.declared.found.Found.{Found}
use Rattle.phase_read.specs.declared.found.Found.TheVariants.{At}
use Rattle.dir_model.specs.Spots.{pod_spot}
use Rattle.phase_read.specs.Read.{is_pod_spot}
use Rattle.phase_read.specs.Sequential.{sequential_read, found_in}
use Rattle.phase_read.specs.Exact.{AtOwnEvent}
use Rattle.metadata.proofs.Views.{event_so}
use Rattle.pod_locks.specs.Elsewhere.{IsOwnedElsewhere}
use Rattle.pod_gc.specs.RemovalRequests.{removes}
use Rattle.commands.specs.Opening.{OnceFound}
use Rattle.commands.specs.Rm.{FindsPodBusy, ConformingHadPhase, WasOwned}
use Rattle.commands.specs.RemovalQuiet.{HasPhaseNow, IsHeldNow}
use Rattle.commands.proofs.OwnSteps.{in_process, event_process}
use Rattle.commands.proofs.Held.{was_held}
use Rattle.commands.proofs.LateTurns.{is_lasting, lasting_back, removes_late, rm_moves}

-- the phase that didn't allow the removal

embryo_lasts : (me : ℕ) (x : PodState) → phase_of_state x ≡ Some kind.Embryo → is_lasting me x ≡ true
embryo_lasts me (state.Embryo maker) is = refl
embryo_lasts me x is = cc

owned_lasts : (me owner : ℕ) (x : PodState) → owner_of x ≡ Some owner → (owner == me) ≡ false → is_lasting me x ≡ true
owned_lasts me owner (state.Preparing o) is other = refl
owned_lasts me owner (state.Running o) is other = refl
owned_lasts me owner (state.Deleting o from) is other = let same : o ≡ owner = cc in ap (λ (q : ℕ). not (q == me)) same ∙ ap not other
owned_lasts me owner x is other = cc

module _ (pod : PodId) (h : List Event) (conforming : IsConforming h) where
  abbrev u : List ℕ
  u = pod_text pod.bytes

  abbrev now : DirState
  now = state_after h

  abbrev Stands : Area → Bool
  Stands a = stands now.namespace (pod_spot pod a)

  pub lone : (a b : Area) → is_stage a ≡ true → is_stage b ≡ true → Stands a ≡ true → (rank a == rank b) ≡ false → Stands b ≡ false
  lone a b p q there apart = by (Stands b) refl
    where
      by : (s : Bool) → Stands b ≡ s → s ≡ false
      by false is = refl
      by true is =
          let one = one_folder h (pod_spot pod a) (pod_spot pod b) conforming p q refl there is in
          let clash : true ≡ false = sym (and_left (rank a == rank b) (bytes_eq u u) one) ∙ apart in cc

  here_is : (a : Area) (p : Phase) → is_stage a ≡ true → Stands a ≡ true → pod_phase u h ≡ Some p → phase_in a (is_owned_at now.namespace (pod_spot pod a)) ≡ Some p
  here_is a p stage there is =
      let k = some_number (folder_at now.namespace (pod_spot pod a)) there in
      ap (λ (o : Option ℕ). phase_in a (is_owned_in now.namespace o)) k.1 ∙ (phase_of_place u h (pod_spot pod a) k.0 conforming (ap (λ b. b && bytes_eq u u) stage ∙ same_bytes u) k.1 ∙ is)

  found_is : (a : Area) (p : Phase) (later : Found) → Stands a ≡ true → phase_in a (is_owned_at now.namespace (pod_spot pod a)) ≡ Some p → cond (Stands a) (found_in a (phase_in a (is_owned_at now.namespace (pod_spot pod a)))) later ≡ At p a
  found_is a p later there is = rw (there, is) refl

  later_is : (a : Area) (here later found : Found) → Stands a ≡ false → later ≡ found → cond (Stands a) here later ≡ found
  later_is a here later found there is = rw there is

  module _ (p : Phase) where
    pub reads : (a : Area) → is_stage a ≡ true → Stands a ≡ true → phase_in a (is_owned_at now.namespace (pod_spot pod a)) ≡ Some p → ((b : Area) → is_stage b ≡ true → (rank a == rank b) ≡ false → Stands b ≡ false) → sequential_read now pod ≡ At p a
    reads area.Embryo stage there is none = found_is area.Embryo p _ there is
    reads area.Prepare stage there is none = later_is area.Embryo _ _ _ (none area.Embryo refl refl) (found_is area.Prepare p _ there is)
    reads area.Prepared stage there is none = later_is area.Embryo _ _ _ (none area.Embryo refl refl) (later_is area.Prepare _ _ _ (none area.Prepare refl refl) (found_is area.Prepared p _ there is))
    reads area.Run stage there is none =
        later_is area.Embryo _ _ _ (none area.Embryo refl refl) (later_is area.Prepare _ _ _ (none area.Prepare refl refl) (later_is area.Prepared _ _ _ (none area.Prepared refl refl) (found_is area.Run p _ there is)))
    reads area.ExitedGarbage stage there is none =
        later_is area.Embryo _ _ _ (none area.Embryo refl refl) (later_is area.Prepare _ _ _ (none area.Prepare refl refl) (later_is area.Prepared _ _ _ (none area.Prepared refl refl)
        (later_is area.Run _ _ _ (none area.Run refl refl) (found_is area.ExitedGarbage p _ there is))))
    reads area.Garbage stage there is none =
        later_is area.Embryo _ _ _ (none area.Embryo refl refl) (later_is area.Prepare _ _ _ (none area.Prepare refl refl) (later_is area.Prepared _ _ _ (none area.Prepared refl refl)
        (later_is area.Run _ _ _ (none area.Run refl refl) (later_is area.ExitedGarbage _ _ _ (none area.ExitedGarbage refl refl) (found_is area.Garbage p _ there is)))))
    reads a stage there is none = cc

    phase_exists : (x : PodState) → phase_of_state x ≡ Some p → exists x ≡ true
    phase_exists state.Absent is = cc
    phase_exists state.Gone is = cc
    phase_exists x is = refl

    pub has_phase_now : pod_phase u h ≡ Some p → HasPhaseNow pod p h
    has_phase_now is =
        let x = exists_stands u h conforming (phase_exists (pod_state u h) is) in
        record { area = x.0; is = record { there = x.1.1; is = is }; reads = reads x.0 x.1.0 x.1.1 (here_is x.0 p x.1.0 x.1.1 is) (λ b q apart. lone x.0 b x.1.0 q x.1.1 apart) }

module _ (pod : PodId) (now : ℕ) {me : ℕ} {old new : List Event} (ext : Extends (in_process (removes pod now)) me old new) (quiet : Quiet me old new) where
  abbrev its : List ℕ
  its = pod_text pod.bytes

  -- that phase the pod had before
  had_phase : (p : Phase) → AtOwnEvent me old new (λ h. (phase_of_state (pod_state its h) ≡ Some p) × (is_lasting me (pod_state its h) ≡ true)) → pod_phase its old ≡ Some p
  had_phase p at = lasting_back (removes pod now) (removes_late pod now) its (λ x. phase_of_state x ≡ Some p) at ext quiet

  before_end : {ended : List Event} → (more : List Event) → new ≡ ended ++ more → IsConforming new → IsConforming ended
  before_end {ended} more grown conforming = conforming_left ended more (subst IsConforming grown conforming)

  by_embryo : OnceFound (ConformingHadPhase pod kind.Embryo) me old new → IsConforming new → pod_phase its old ≡ Some kind.Embryo
  by_embryo m conforming =
      let w = m.so (before_end m.finishes.more m.finishes.grown conforming) in
      had_phase kind.Embryo (event_process m.begins m.finishes (event_so (λ h. (phase_of_state (pod_state its h) ≡ Some kind.Embryo) × (is_lasting me (pod_state its h) ≡ true)) (λ h x. (x.is, embryo_lasts me (pod_state its h) x.is)) w.was))

  by_owner : (p : Phase) → (a : Area) × AtOwnEvent me old new (IsOwnedElsewhere me pod p a) → pod_phase its old ≡ Some p
  by_owner p other =
      had_phase p (event_so (λ h. (phase_of_state (pod_state its h) ≡ Some p) × (is_lasting me (pod_state its h) ≡ true)) (λ h x. (x.was.is, owned_lasts me x.owner (pod_state its h) x.is x.other)) other.1)

  owner_process : (p : Phase) (m : OnceFound (WasOwned pod p) me old new) → (a : Area) × AtOwnEvent me m.begun m.ended (IsOwnedElsewhere me pod p a) → (a : Area) × AtOwnEvent me old new (IsOwnedElsewhere me pod p a)
  owner_process p m x = (x.0, event_process m.begins m.finishes x.1)

  had : (p : Phase) → OnceFound (ConformingHadPhase pod p) me old new → OnceFound (WasOwned pod p) me old new → IsConforming new → pod_phase its old ≡ Some p
  had kind.Embryo m o conforming = by_embryo m conforming
  had kind.Preparing m o conforming = by_owner kind.Preparing (owner_process kind.Preparing o (o.so (before_end o.finishes.more o.finishes.grown conforming) refl))
  had kind.Running m o conforming = by_owner kind.Running (owner_process kind.Running o (o.so (before_end o.finishes.more o.finishes.grown conforming) refl))
  had kind.Deleting m o conforming = by_owner kind.Deleting (owner_process kind.Deleting o (o.so (before_end o.finishes.more o.finishes.grown conforming) refl))
  had kind.AbortedPrepare m o conforming = let clash : true ≡ false = (m.so (before_end m.finishes.more m.finishes.grown conforming)).wrong in cc
  had kind.Prepared m o conforming = let clash : true ≡ false = (m.so (before_end m.finishes.more m.finishes.grown conforming)).wrong in cc
  had kind.Exited m o conforming = let clash : true ≡ false = (m.so (before_end m.finishes.more m.finishes.grown conforming)).wrong in cc
  had kind.ExitedGarbage m o conforming = let clash : true ≡ false = (m.so (before_end m.finishes.more m.finishes.grown conforming)).wrong in cc
  had kind.Garbage m o conforming = let clash : true ≡ false = (m.so (before_end m.finishes.more m.finishes.grown conforming)).wrong in cc

  pub rm_wrong_before : (p : Phase) → OnceFound (ConformingHadPhase pod p) me old new → OnceFound (WasOwned pod p) me old new → IsConforming new → HasPhaseNow pod p old
  rm_wrong_before p m o conforming =
      has_phase_now pod old (conforming_left old quiet.more (subst IsConforming quiet.grown conforming)) p (had p m o conforming)

  pub rm_held_before : (which : Which) → OnceFound (FindsPodBusy pod which) me old new → IsHeldNow (is_pod_spot pod) which me (state_after old)
  rm_held_before which m =
      was_held (is_pod_spot pod) (λ a b same. of_same its a b same) (removes pod now) (removes_late pod now) (λ from to is here. rm_moves pod now from to is) me pod (λ a stage. ap (λ b. b && bytes_eq its its) stage ∙ same_bytes its) which old m.begun m.ended new
      (record { more = m.begins.more; grown = m.begins.grown }) (record { more = m.finishes.more; grown = m.finishes.grown }) ext quiet m.so.busy
