-- Where nobody else steps, a pod that a process made for its run is left in run.
use Rattle.std.proofs.Common.{◌≡◌, ◌⊎◌, inl, inr, ℕ, Bool, true, false, ◌&&◌, ◌||◌, Some, List, [], ◌∷◌, ◌++◌, append_assoc, refl, sym, ap, subst, ◌∙◌}
use Rattle.ac_types.specs.declared.image_ref.ImageRef.{ImageRef}
use Rattle.dir_model.specs.declared.area.Area.TheVariants.{Embryo, Images, Prepare, Run}
use Rattle.dir_model.specs.declared.event.Event.{Event}
use Rattle.dir_model.specs.declared.pod.PodId.{PodId}
use Rattle.dir_model.specs.declared.spot.Mode.TheVariants.{Shared}
use Rattle.dir_model.specs.declared.spot.Spot.{Spot}
use Rattle.dir_model.specs.declared.request.Request.TheVariants.{MoveFolder, Finish}
use Rattle.dir_model.specs.declared.request.Reply.TheVariants.{Done}
use Rattle.dir_model.specs.Calls.{event, Extends, CallStep}
use Rattle.dir_model.specs.Quiet.{Quiet}
use Rattle.dir_model.specs.State.{spot_eq, folder_at}
use Rattle.dir_model.specs.Trace.{state_after}
use Rattle.dir_model.proofs.Moments.{some_number}
use Rattle.dir_files.specs.AreaLocks.{IsFreeElsewhere}
use Rattle.folder_contents.specs.Handing.{then_moved}
use Rattle.folder_contents.proofs.Spots.{one_location}
use Rattle.lifecycle.specs.PodMachine.{arrival}
use Rattle.pod_build.specs.Preparations.{IsPrepared}
use Rattle.pod_build.specs.Requests.{prepares}
use Rattle.pod_locks.specs.ClaimRequests.{in_run}
use Rattle.pod_locks.specs.Work.{Grew}
use Rattle.pod_locks.proofs.Traces.{grown_more, grown_call}
use Rattle.commands.proofs.Whole.{prepared_move, prepared_wider}
use Rattle.commands.specs.References.{AreReferences, OfReferences}
use Rattle.dir_model.specs.Spots.{pod_spot}
use Rattle.commands.proofs.OwnSteps.{in_process}
use Rattle.commands.specs.PrepareTable.{NothingRefuses}
use Rattle.commands.specs.Run.{makes_and_runs}
use Rattle.commands.specs.RunQuiet.{IsLeftInRun, HasMadeAndLeft}
use Rattle.commands.proofs.EndsQuiet.{MakesNoNote}
use Rattle.commands.proofs.NotesStand.{RemovesNothing}
use Rattle.commands.proofs.Passing.{Leaves, is_unmarked, is_past, left_in_run, stood_before, moved_here}
use Rattle.commands.specs.Wants.{Wants}
use Rattle.pod_manifest.specs.Wishes.{Wishes}
use Rattle.standing_images.specs.Images.{AreStore}

module _ (draw : PodId) where
  -- its moves begin in embryo or in prepare, and lead to prepare or to run
  two_moves : (a b c d : Bool) → (((a && b) || ((c && d) || false)) || false) ≡ true → ((a ≡ true) × (b ≡ true)) ⊎ ((c ≡ true) × (d ≡ true))
  two_moves true true c d h = inl (refl, refl)
  two_moves true false true true h = inr (refl, refl)
  two_moves false b true true h = inr (refl, refl)
  two_moves true false true false h = cc
  two_moves true false false d h = cc
  two_moves false b true false h = cc
  two_moves false b false d h = cc

  its_moves : (from to : Spot) → makes_and_runs draw (MoveFolder from to) ≡ true → ((from ≡ pod_spot draw Embryo) × (to ≡ pod_spot draw Prepare)) ⊎ ((from ≡ pod_spot draw Prepare) × (to ≡ pod_spot draw Run))
  its_moves from to h = elim (two_moves (spot_eq from (pod_spot draw Embryo)) (spot_eq to (pod_spot draw Prepare)) (spot_eq from (pod_spot draw Prepare)) (spot_eq to (pod_spot draw Run)) h) [
    | inl x ↦ inl (one_location from (pod_spot draw Embryo) x.0, one_location to (pod_spot draw Prepare) x.1)
    | inr x ↦ inr (one_location from (pod_spot draw Prepare) x.0, one_location to (pod_spot draw Run) x.1)
  ]

  from_apart : (from to : Spot) → ((from ≡ pod_spot draw Embryo) × (to ≡ pod_spot draw Prepare)) ⊎ ((from ≡ pod_spot draw Prepare) × (to ≡ pod_spot draw Run)) → spot_eq from (in_run draw) ≡ false
  from_apart from to (inl x) = subst (λ (y : Spot). spot_eq y (in_run draw) ≡ false) (sym x.0) refl
  from_apart from to (inr x) = subst (λ (y : Spot). spot_eq y (in_run draw) ≡ false) (sym x.0) refl

  to_unmarked : (from to : Spot) → ((from ≡ pod_spot draw Embryo) × (to ≡ pod_spot draw Prepare)) ⊎ ((from ≡ pod_spot draw Prepare) × (to ≡ pod_spot draw Run)) → is_unmarked (arrival to.area) ≡ true
  to_unmarked from to (inl x) = subst (λ (y : Spot). is_unmarked (arrival y.area) ≡ true) (sym x.1) refl
  to_unmarked from to (inr x) = subst (λ (y : Spot). is_unmarked (arrival y.area) ≡ true) (sym x.1) refl

  pub run_leaves : Leaves (in_run draw) (makes_and_runs draw)
  run_leaves = record {
    moves = λ from to h. from_apart from to (its_moves from to h);
    marks = λ from to h. to_unmarked from to (its_moves from to h);
    removes = λ spot h. cc;
  }

  pub run_removes : RemovesNothing (makes_and_runs draw)
  run_removes = record { files = λ inner h. cc; dirs = λ inner h. cc }

  pub run_notes : MakesNoNote draw (prepares draw Run)
  run_notes = record { none = λ path. refl }

  -- the pod that it made
  pub made_left : {wishes : Wishes} {me : ℕ} {old ended new : List Event} {refs : List ImageRef} → Extends (in_process (makes_and_runs draw)) me old new → Quiet me old new → CallStep me ended Finish Done new → (x : IsPrepared refs wishes me draw Run old new) → IsLeftInRun draw x.folder new
  made_left {wishes} {me} {old} {ended} {new} {refs} ext quiet finish x =
      let from = pod_spot draw Prepare in
      let k = some_number (folder_at (state_after x.before).namespace from) (stood_before draw (makes_and_runs draw) run_leaves me old new x.before x.later from ext quiet x.meanwhile x.begins x.moved finish.run) in
      let same : Some x.folder ≡ Some k.0 = sym x.stands ∙ (moved_here draw (makes_and_runs draw) run_leaves me old new x.before x.later from ext quiet x.meanwhile x.begins x.moved finish.run ∙ k.1) in
      left_in_run draw (makes_and_runs draw) run_leaves me old new x.before x.later from ext quiet x.meanwhile x.begins x.moved finish.run x.folder (is_past finish) (k.1 ∙ sym same)

-- and where it was made in a part of the process: its move is in that part
abbrev pub MadeUntil : Wants → ℕ → PodId → List Event → List Event → List Event → Type 0
MadeUntil wants me draw old made new =
    (x : HasMadeAndLeft wants me draw old new) × ((tail : List Event) × (made ≡ then_moved x.2.0.before me (pod_spot draw Prepare) (pod_spot draw Run) ++ tail))

pub made_and_left : (wants : Wants) (draw : PodId) {me : ℕ} {old begun made ended new : List Event} → Extends (in_process (makes_and_runs draw)) me old new → Quiet me old new → Grew old begun → Grew made ended → CallStep me ended Finish Done new →
    ((refs : List ImageRef) (y : IsPrepared refs wants.wishes me draw Run old new) → AreStore y.faithful.images (state_after old)) → IsFreeElsewhere me Images Shared (state_after old) → ((refs : List ImageRef) → AreReferences wants.images refs → NothingRefuses me draw refs wants.wishes (state_after old)) →
    OfReferences wants.images (λ refs. IsPrepared refs wants.wishes me draw Run begun made) → MadeUntil wants me draw old made new
made_and_left wants draw {me} {old} {begun} {made} {ended} {new} ext quiet first after finish chosen free unrefused x =
    let last = grown_more after (grown_call finish) in
    let wide = prepared_wider {a = old} {c = made} first.more last.more first.grown last.grown x.2 in
    let same : wide.before ≡ x.2.before = prepared_move old begun made new first.more last.more first.grown last.grown x.2 in
    let step = event me (MoveFolder (pod_spot draw Prepare) (pod_spot draw Run)) Done in
    let parted : made ≡ (wide.before ++ step ∷ []) ++ x.2.later =
    x.2.moved ∙ (sym (append_assoc x.2.before (step ∷ []) x.2.later) ∙ ap (λ (h : List Event). (h ++ step ∷ []) ++ x.2.later) (sym same)) in
    ((x.0, x.1, (wide, made_left draw ext quiet finish wide, chosen x.0 wide, free, unrefused x.0 x.1)), (x.2.later, parted))
