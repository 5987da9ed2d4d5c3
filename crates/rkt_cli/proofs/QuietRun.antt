-- Where nobody else steps and nothing fails, a run gives what the state and the bundle before it say.
use Rattle.std.proofs.Common.{◌≡◌, ◌⊎◌, inl, inr, ℕ, Bool, true, false, List, [], Option, Some, None, Ok, Err, refl, sym, ap, subst, ◌∙◌}
use Rattle.dir_files.specs.AreaLocks.{is_against, IsBusyElsewhere, IsFreeElsewhere}
use Rattle.dir_model.specs.declared.area.Area.{Area}
use Rattle.ac_types.specs.declared.store_key.StoreKey.{StoreKey}
use Rattle.dir_model.specs.declared.area.Area.TheVariants.{Images}
use Rattle.dir_model.specs.declared.spot.Mode.TheVariants.{Shared, Exclusive}
use Rattle.dir_model.specs.declared.intent.Draw.{Draw}
use Rattle.dir_model.specs.declared.intent.Intent.{Intent}
use Rattle.dir_model.specs.declared.intent.Kind.TheVariants as kind
use Rattle.dir_model.specs.declared.pod.PodId.{PodId}
use Rattle.dir_model.specs.declared.request.Request.{Request}
use Rattle.dir_model.specs.declared.request.Request.TheVariants.{Begin}
use Rattle.dir_model.specs.declared.spot.Spot.{Spot}
use Rattle.dir_model.specs.declared.request.Reply.TheVariants.{Done}
use Rattle.dir_model.specs.State.{DirState, is_owned}
use Rattle.dir_model.specs.Trace.{state_after, state_next}
use Rattle.dir_model.specs.Calls.{event, Extends}
use Rattle.dir_model.specs.Quiet.{Quiet, OwnsNothing}
use Rattle.dir_model.proofs.Chains.{extends_wider}
use Rattle.dir_model.proofs.Quiet.{is_harmless, end_quiet}
use Rattle.dir_model.specs.Quiet.{SameNamespace}
use Rattle.commands.specs.Opening.{directly}
use Rattle.commands.proofs.Starts.{look_lists}
use Rattle.rkt_cli.specs.Commands.{approach_in}
use Rattle.dir_trait.specs.Bundles.{bytes_of_node}
use Rattle.dir_trait.specs.DirCalls.{DirAt}
use Rattle.image_store.specs.Requests.{building_spot}
use Rattle.image_removal.specs.Requests.{removes_at, sweeps_store}
use Rattle.image_removal.proofs.Begun.{begun_removes}
use Rattle.phase_read.specs.Read.{is_pod_spot}
use Rattle.rkt_cli.specs.Tasks.{Task}
use Rattle.rkt_cli.specs.Tasks.{Status, PodList, CatManifest, Validate, ImageList, ImageImport, ImageRm, ImageGc, Prepare, RunPrepared, Run, Rm, Gc, Metadata, Demo}
use Rattle.command_outcomes.specs.declared.refusal.Refusal.{Refusal}
use Rattle.command_outcomes.specs.declared.refusal.Refusal.TheVariants.{Busy, NoImage, NoPod, WrongPhase, NoManifest, PodBusy, DirFault, BundleFault, NoMemory, Damaged, Stray}
use Rattle.command_outcomes.specs.Moments.{BundleSeen, Outside, Moment, CommandOutcome}
use Rattle.command_outcomes.specs.Ends.{is_own_end, IsUnchanged}
use Rattle.commands.specs.CatManifest.{cat_manifest_report}
use Rattle.commands.specs.PodList.{list_report}
use Rattle.commands.proofs.ReportsKept.{inspects_change, lines_stable, manifest_stable, service_changes, status_stable, surveys_change, visits_change}
use Rattle.pod_report.proofs.Going.{visits_survey}
use Rattle.rkt_cli.proofs.DemoRan.{demo_own}
use Rattle.rkt_cli.proofs.Reported.{report_leaves, report_quiet}
use Rattle.rkt_cli.proofs.ServiceRan.{service_quiet}
use Rattle.commands.specs.Status.{status_report}
use Rattle.pod_report.proofs.QuietSurvey.{inspect_calm, survey_calm}
use Rattle.commands.specs.ImageList.{image_list_refusal, ListsImagesQuietly}
use Rattle.commands.specs.ImageImport.{IsAreaHeld, ImportsQuietly, RefusesQuietly, is_building_place}
use Rattle.commands.specs.NextState.{LeavesBeside, is_nowhere}
use Rattle.commands.specs.ImageRm.{image_rm_refusal, is_removal_place, FindsBusy, RemovesQuietly}
use Rattle.commands.specs.ImageGc.{is_swept_place, SweepsQuietly}
use Rattle.command_outcomes.specs.Conforming.{seen_at_begin}
use Rattle.commands.specs.Answers.{inside_in, IsAnswer}
use Rattle.commands.specs.Command.{intent_for}
use Rattle.commands.specs.GcCommand.{gc_intent}
use Rattle.rkt_cli.specs.Commands.{uses_dir, runs_apps, intent_of, asks, ComesQuietly, LeavesQuietly}
use Rattle.rkt_cli.specs.Promises.{AnswersTask, Undisturbed, Works, IsPlainAnswer}
use Rattle.rkt_cli.specs.Runs.{CommandRan, Performs, InProcess, Apart, Printed, RunsTaskOrNothing, RunOfLine, IsRunOfTask, end_status}
use Rattle.rkt_cli.proofs.Grades.{graded_same}
use Rattle.rkt_cli.proofs.Judged.{judged_whole}
use Rattle.command_outcomes.proofs.Seen.{rose_wider}
use Rattle.rkt_cli.proofs.Outcomes.{rose_between, answered, WasAnswered}
use Rattle.rkt_cli.proofs.Conforming.{begun_knows, process_conforms}
use Rattle.rkt_cli.proofs.Listed.{listed_in_process, lacked_in_process}
use Rattle.commands.proofs.StoreQuiet.{is_tame, lists_is_tame, at_tame, end_tame}
use Rattle.commands.proofs.EndsQuiet.{unborn_before}
use Rattle.commands.proofs.PrepareStore.{refuses_by_state, words_unrefused}
use Rattle.commands.proofs.Openings.{free_before}
use Rattle.commands.proofs.StoreChosen.{chosen_of}
use Rattle.commands.proofs.StoreKept.{prepare_keeps}
use Rattle.commands.proofs.TakenBefore.{prepare_elsewhere, taken_before}
use Rattle.commands.proofs.StoreTexts.{prints_store, names_damage}
use Rattle.rkt_cli.proofs.StoreRan.{imports}
use Rattle.commands.proofs.StrayAnswers.{pod_never}
use Rattle.rkt_cli.proofs.Imports.{import_printed, stored_in_process, import_refused}
use Rattle.commands.proofs.ImageImports.{is_memory}
use Rattle.commands.proofs.ImagesKept.{images_kept}
use Rattle.commands.proofs.ImportComes.{comes_stored, refuses_quietly}
use Rattle.commands.proofs.ImportRefusals.{refusal_lawful}
use Rattle.commands.specs.Prepare.{prepares_pod, RefusesPod, IsAreaHeld as IsPodAreaHeld}
use Rattle.commands.specs.PrepareQuiet.{PreparesQuietly, is_making_spot}
use Rattle.commands.specs.PrepareTable.{NothingRefuses, RefusesByState}
use Rattle.commands.specs.References.{AreReferences}
use Rattle.ac_types.specs.declared.image_ref.ImageRef.{ImageRef}
use Rattle.pod_lookup.proofs.QuietLook.{lists_harmless}
use Rattle.metadata.proofs.Calm.{looks_calm}
use Rattle.rkt_cli.proofs.PodKept.{pod_stands}
use Rattle.rkt_cli.proofs.PodRan.{prepare_intent, began, free_in_process, planned_in_process, prepare_faithful, prepare_refused}
use Rattle.rkt_cli.proofs.Removals.{removal_done, removal_none, removal_stray, sweep_done, sweep_stray}
use Rattle.commands.proofs.RemovalEnds.{removal_ends, none_before}
use Rattle.commands.proofs.SweepEnds.{incoming_left, removed_left}
use Rattle.commands.proofs.SweepLines.{prints_lines}
use Rattle.commands.proofs.Changes.{claim_changes, gc_changes, import_changes, list_changes, prepare_changes, removal_changes, rm_changes, run_changes, sweep_changes}
use Rattle.commands.proofs.NextState.{leaves_beside}
use Rattle.commands.proofs.RemovalQuiet.{ChangesAt, held_before}
use Rattle.commands.proofs.OwnSteps.{in_process}
use Rattle.commands.proofs.ImportQuiet.{is_modest, imports_is_modest, at_modest, end_modest}
use Rattle.pod_gc.specs.RemovalRequests.{removes}
use Rattle.commands.specs.Gc.{times_of}
use Rattle.commands.specs.RemovalQuiet.{RemovesPodQuietly, SweepsPodsQuietly, is_pods_place}
use Rattle.commands.proofs.RemovedQuietly.{rm_removed_quietly, rm_none_quietly, rm_wrong_quietly, rm_lacking_quietly, rm_busy_quietly, gc_swept_quietly}
use Rattle.rkt_cli.proofs.PodRemovals.{rm_intent, rm_printed, rm_done, rm_none, rm_wrong, rm_bare, rm_busy, rm_stray, gc_done, gc_stray}
use Rattle.rkt_cli.proofs.RunsQuiet.{RunsQuietly, runs_quietly}
use Rattle.rkt_cli.proofs.Sessions.{all_parts, all_in_process, begin_part, no_looks, quiet_act, quiet_begin, state_begun, idle}
use Rattle.commands.specs.Wants.{Wants}

-- undisturbed it came to an end of its own, or memory ran out
own_end : (line : Task) (now : ℕ) (draw : Draw) (old new : Outside) (o : CommandOutcome) → CommandRan line now draw old new o → Undisturbed line old new → (o ≡ Err NoMemory) ⊎ (is_own_end o ≡ true)
own_end line now draw old new (Ok text) d u = inr refl
own_end line now draw old new (Err NoMemory) d u = inl refl
own_end line now draw old new (Err DirFault) d u = absurd (u.works d.refusals (d.cause refl))
own_end line now draw old new (Err BundleFault) d u = absurd (u.bundle_works d.refusals (d.bundle_cause refl))
own_end line now draw old new (Err r) d u = inr refl

module _ (line : Task) (now : ℕ) (draw : Draw) (intent : Intent) (old new : Outside) (o : CommandOutcome) (s : InProcess line now draw intent old new o) (u : Undisturbed line old new) where
  abbrev t : old.observed ≡ true
  t = u.observed s.uses

  state : approach_in line ≡ directly → state_after s.begun.dir.trace ≡ state_next (state_after old.dir.trace) (event old.dir.process (Begin intent) Done)
  state direct = state_begun s t direct (u.alone s.uses)

  -- a look for its pod changes no folder, and not whose lock is held exclusively
  looked_same : SameNamespace old.dir.process (state_after old.dir.trace).namespace (state_after s.begun.dir.trace).namespace
  looked_same =
      let q = u.alone s.uses in
      end_quiet (begin_part s t is_harmless refl (λ r h. lists_harmless r (look_lists (approach_in line) r h))) (quiet_begin s t q) (idle s t q)

  quiet_between : Quiet s.begun.dir.process s.begun.dir.trace s.ended.dir.trace
  quiet_between = subst (λ (p : ℕ). Quiet p s.begun.dir.trace s.ended.dir.trace) (sym s.me) (quiet_act s t (u.alone s.uses))

  undisturbed_act : Undisturbed line s.begun s.ended
  undisturbed_act = record {
    observed = λ h. s.told ∙ t;
    alone = λ h. quiet_between;
    works = λ h rose. u.works h (rose_wider old.dir.faults s.begun.dir.faults s.ended.dir.faults new.dir.faults s.risen rose s.faults);
    bundle_observed = λ h. ap (λ (x : BundleSeen). x.observed) s.bundle_before ∙ u.bundle_observed h;
    bundle_works = λ h rose. u.bundle_works h (rose_between old.bundle.faults s.begun.bundle.faults s.ended.bundle.faults new.bundle.faults (ap (λ (x : BundleSeen). x.faults) s.bundle_before) rose (ap (λ (x : BundleSeen). x.faults) s.bundle_after));
  }

  idle_act : OwnsNothing s.begun.dir.process (state_after s.begun.dir.trace).namespace
  idle_act = subst (λ (p : ℕ). OwnsNothing p (state_after s.begun.dir.trace).namespace) (sym s.me) looked_same.mine

  ends_own : (o ≡ Err NoMemory) ⊎ (is_own_end o ≡ true)
  ends_own = own_end line now draw s.begun s.ended o s.ran undisturbed_act

  unchanged : ((r : Request) → asks line now draw r ≡ true → is_harmless r ≡ true) → IsUnchanged (state_after old.dir.trace) (state_after new.dir.trace)
  unchanged harmless =
      let q = u.alone s.uses in
      let same = end_quiet (all_parts s t is_harmless refl (λ r h. lists_harmless r (look_lists (approach_in line) r h)) harmless refl) q (idle s t q) in
      record { folders = same.folders; owned = same.owned }

  tame_unchanged : approach_in line ≡ directly → ((r : Request) → asks line now draw r ≡ true → is_tame r ≡ true) → IsUnchanged (state_after old.dir.trace) (state_after new.dir.trace)
  tame_unchanged direct tame =
      let q = u.alone s.uses in
      let end = end_tame (all_parts s t is_tame refl (λ r h. no_looks line direct r h) tame refl) q (idle s t q) in
      record { folders = end.same.folders; owned = end.same.owned }

  -- what isn't touched is as it was
  beside : (touched : Spot → Bool) → ChangesAt touched (asks line now draw) → LeavesBeside touched old.dir.process (state_after old.dir.trace) (state_after new.dir.trace)
  beside touched c = leaves_beside touched (asks line now draw) c (all_in_process s t) (u.alone s.uses)

-- what `image list` comes to
busy_area : (area : Area) → image_list_refusal (Busy area) ≡ true → area ≡ Images
busy_area Images h = refl
busy_area area h = let clash : false ≡ true = h in cc

busy_before : (now : ℕ) (draw : Draw) (intent : Intent) (old new : Outside) (area : Area) → InProcess ImageList now draw intent old new (Err (Busy area)) → Undisturbed ImageList old new → IsBusyElsewhere old.dir.process Images Shared (state_after old.dir.trace)
busy_before now draw intent old new area s u =
    let t = u.observed refl in
    let me = s.begun.dir.process in
    let held = s.ran.says (s.told ∙ t) (seen_at_begin intent) (begun_knows s t) refl in
    let ext : Extends is_tame me s.begun.dir.trace s.ended.dir.trace = extends_wider lists_is_tame (s.ran.extends (s.told ∙ t)) in
    let found = at_tame (IsBusyElsewhere me Images Shared) held ext (quiet_between ImageList now draw intent old new (Err (Busy area)) s u) (idle_act ImageList now draw intent old new (Err (Busy area)) s u) in
    let first : IsBusyElsewhere me Images Shared (state_after s.begun.dir.trace) = found.1.others (is_against Images Shared) found.2 in
    subst (λ (p : ℕ). IsBusyElsewhere p Images Shared (state_after old.dir.trace)) s.me (subst (λ (x : DirState). IsBusyElsewhere me Images Shared x) (state ImageList now draw intent old new (Err (Busy area)) s u refl) first)

-- its own requests
list_extends : (now : ℕ) (draw : Draw) (intent : Intent) (old new : Outside) (o : CommandOutcome) → InProcess ImageList now draw intent old new o → Undisturbed ImageList old new → Extends is_tame old.dir.process old.dir.trace new.dir.trace
list_extends now draw intent old new o s u = all_parts s (u.observed refl) is_tame refl (λ r h. no_looks ImageList refl r h) lists_is_tame refl

list_quiet : (now : ℕ) (draw : Draw) (intent : Intent) (old new : Outside) (o : CommandOutcome) → InProcess ImageList now draw intent old new o → Undisturbed ImageList old new → is_own_end o ≡ true → ListsImagesQuietly old.observed old.dir new.dir o
list_quiet now draw intent old new (Ok text) s u own =
    let read = listed_in_process s s.ran.says.0 in
    (read, prints_store old.dir new.dir (u.observed refl) (list_extends now draw intent old new (Ok text) s u) (u.alone refl) text read)
list_quiet now draw intent old new (Err (Busy area)) s u own = (busy_area area s.ran.refusals, busy_before now draw intent old new area s u)
list_quiet now draw intent old new (Err (Damaged path)) s u own =
    let lacks = lacked_in_process s s.ran.says in
    (lacks, names_damage old.dir new.dir (u.observed refl) (list_extends now draw intent old new (Err (Damaged path)) s u) (u.alone refl) path lacks)
list_quiet now draw intent old new (Err NoMemory) s u own = let clash : false ≡ true = own in cc
list_quiet now draw intent old new (Err DirFault) s u own = let clash : false ≡ true = own in cc
list_quiet now draw intent old new (Err BundleFault) s u own = let clash : false ≡ true = own in cc
list_quiet now draw intent old new (Err r) s u own = let clash : false ≡ true = s.ran.refusals in cc

-- and `image import`
import_held_before : (path : List ℕ) (now : ℕ) (draw : Draw) (intent : Intent) (old new : Outside) (area : Area) (s : InProcess (ImageImport path) now draw intent old new (Err (Busy area))) → Undisturbed (ImageImport path) old new →
    IsAreaHeld area s.begun.dir s.ended.dir → IsBusyElsewhere old.dir.process area Shared (state_after old.dir.trace)
import_held_before path now draw intent old new area s u held =
    let t = u.observed refl in
    let me = s.begun.dir.process in
    let o : CommandOutcome = Err (Busy area) in
    let ext : Extends (is_modest (building_spot draw.uuid)) me s.begun.dir.trace s.ended.dir.trace = extends_wider (imports_is_modest (building_spot draw.uuid)) (s.ran.extends (s.told ∙ t)) in
    let found = at_modest (building_spot draw.uuid) (IsBusyElsewhere me area Shared) held ext (quiet_between (ImageImport path) now draw intent old new o s u) (idle_act (ImageImport path) now draw intent old new o s u) in
    let first : IsBusyElsewhere me area Shared (state_after s.begun.dir.trace) = found.1.others (is_against area Shared) found.2 in
    subst (λ (p : ℕ). IsBusyElsewhere p area Shared (state_after old.dir.trace)) s.me
    (subst (λ (x : DirState). IsBusyElsewhere me area Shared x) (state (ImageImport path) now draw intent old new o s u refl) first)

-- its own requests
import_extends : (path : List ℕ) (now : ℕ) (draw : Draw) (intent : Intent) (old new : Outside) (o : CommandOutcome) → InProcess (ImageImport path) now draw intent old new o → Undisturbed (ImageImport path) old new →
    Extends (is_modest (building_spot draw.uuid)) old.dir.process old.dir.trace new.dir.trace
import_extends path now draw intent old new o s u = all_parts s (u.observed refl) (is_modest (building_spot draw.uuid)) refl (λ r h. cc) (imports_is_modest (building_spot draw.uuid)) refl

import_refuses : (path : List ℕ) (now : ℕ) (draw : Draw) (intent : Intent) (old new : Outside) (r : Refusal) → is_memory r ≡ false → InProcess (ImageImport path) now draw intent old new (Err r) → Undisturbed (ImageImport path) old new →
    RefusesQuietly path old new r
import_refuses path now draw intent old new r other s u =
    refuses_quietly path draw.uuid old new r (u.observed refl) (import_extends path now draw intent old new (Err r) s u) (u.alone refl) (import_refused path now draw (Some intent) old new r other (inl s))

import_quiet : (path : List ℕ) (now : ℕ) (draw : Draw) (intent : Intent) (old new : Outside) (o : CommandOutcome) (said : intent_of (ImageImport path) now draw ≡ Some intent) → InProcess (ImageImport path) now draw intent old new o →
    Undisturbed (ImageImport path) old new → is_own_end o ≡ true → ImportsQuietly path now draw.uuid old new o
import_quiet path now draw intent old new (Ok text) said s u own = (
  import_printed path now draw (Some intent) old new text (inl s),
  λ conforming.
      let ext = import_extends path now draw intent old new (Ok text) s u in
      let x = stored_in_process path now draw intent old new text said s (u.observed refl) conforming in
      record {
        stores = (x.0, x.1, (x.2.0, comes_stored draw.uuid old.dir new.dir ext (u.alone refl) conforming x.0 now x.2.1));
        keeps = images_kept draw.uuid ext (u.alone refl) conforming;
      },
)
import_quiet path now draw intent old new (Err (Busy area)) said s u own =
    let held = s.ran.says.1 area refl (s.told ∙ u.observed refl) intent (imports path now draw intent said) (begun_knows s (u.observed refl)) in
    (import_refuses path now draw intent old new (Busy area) refl s u, import_held_before path now draw intent old new area s u held)
import_quiet path now draw intent old new (Err NoMemory) said s u own = let clash : false ≡ true = own in cc
import_quiet path now draw intent old new (Err DirFault) said s u own = let clash : false ≡ true = own in cc
import_quiet path now draw intent old new (Err BundleFault) said s u own = let clash : false ≡ true = own in cc
import_quiet path now draw intent old new (Err Stray) said s u own =
    let x = import_refuses path now draw intent old new Stray refl s u in
    (x, λ conforming. refusal_lawful path old new Stray x.why refl (u.observed refl) conforming)
import_quiet path now draw intent old new (Err r) said s u own = import_refuses path now draw intent old new r refl s u

import_owned : (path : List ℕ) (now : ℕ) (draw : Draw) (intent : Intent) (old new : Outside) (o : CommandOutcome) → InProcess (ImageImport path) now draw intent old new o → Undisturbed (ImageImport path) old new →
    (folder : ℕ) → is_owned (state_after new.dir.trace).namespace folder ≡ is_owned (state_after old.dir.trace).namespace folder
import_owned path now draw intent old new o s u = (end_modest (building_spot draw.uuid) (import_extends path now draw intent old new o s u) (u.alone refl) (idle s (u.observed refl) (u.alone refl))).owned

-- and `image rm`
removal_area : (area : Area) → image_rm_refusal (Busy area) ≡ true → area ≡ Images
removal_area Images h = refl
removal_area area h = let clash : false ≡ true = h in cc

abbrev removal_intent : ℕ → Draw → Intent
removal_intent now draw = intent_for kind.ImageRm [] now draw

removal_held : (key : StoreKey) (now : ℕ) (draw : Draw) (old new : Outside) (area : Area) → InProcess (ImageRm key) now draw (removal_intent now draw) old new (Err (Busy area)) → Undisturbed (ImageRm key) old new →
    IsBusyElsewhere old.dir.process Images Exclusive (state_after old.dir.trace)
removal_held key now draw old new area s u =
    let t = u.observed refl in
    let me = s.begun.dir.process in
    let o : CommandOutcome = Err (Busy area) in
    let intent = removal_intent now draw in
    let found : FindsBusy me s.begun.dir.trace s.ended.dir.trace = s.ran.says.0 (s.told ∙ t) (seen_at_begin intent) (begun_knows s t) (begun_removes intent draw.uuid refl refl) in
    let first : IsBusyElsewhere me Images Exclusive (state_after s.begun.dir.trace) = held_before (is_against Images Exclusive) found.held (quiet_between (ImageRm key) now draw intent old new o s u) in
    subst (λ (p : ℕ). IsBusyElsewhere p Images Exclusive (state_after old.dir.trace)) s.me
    (subst (λ (x : DirState). IsBusyElsewhere me Images Exclusive x) (state (ImageRm key) now draw intent old new o s u refl) first)

removal_extends : (key : StoreKey) (now : ℕ) (draw : Draw) (intent : Intent) (old new : Outside) (o : CommandOutcome) → InProcess (ImageRm key) now draw intent old new o → Undisturbed (ImageRm key) old new →
    Extends (in_process (removes_at key draw.uuid)) old.dir.process old.dir.trace new.dir.trace
removal_extends key now draw intent old new o s u = all_in_process s (u.observed refl)

removal_quiet : (key : StoreKey) (now : ℕ) (draw : Draw) (old new : Outside) (o : CommandOutcome) → InProcess (ImageRm key) now draw (removal_intent now draw) old new o → Undisturbed (ImageRm key) old new → is_own_end o ≡ true →
    RemovesQuietly key draw.uuid old.dir new.dir o
removal_quiet key now draw old new (Ok text) s u own =
    let done = removal_done key now draw old new text (inl s) (u.observed refl) in
    let ends = removal_ends key draw.uuid (removal_extends key now draw (removal_intent now draw) old new (Ok text) s u) (u.alone refl) done in
    (s.ran.says.0.is, done, record { absent = ends.0; gone = ends.1 })
removal_quiet key now draw old new (Err (Busy area)) s u own = (removal_area area s.ran.refusals, removal_held key now draw old new area s u)
removal_quiet key now draw old new (Err (NoImage named)) s u own =
    let found = removal_none key now draw (Some (removal_intent now draw)) old new named (inl s) (u.observed refl) in
    (s.ran.says.0.is, found, none_before key draw.uuid (u.alone refl) found)
removal_quiet key now draw old new (Err Stray) s u own = removal_stray key now draw old new (inl s) (u.observed refl)
removal_quiet key now draw old new (Err NoMemory) s u own = let clash : false ≡ true = own in cc
removal_quiet key now draw old new (Err DirFault) s u own = let clash : false ≡ true = own in cc
removal_quiet key now draw old new (Err BundleFault) s u own = let clash : false ≡ true = own in cc
removal_quiet key now draw old new (Err r) s u own = let clash : false ≡ true = s.ran.refusals in cc

-- and `image gc`
sweep_quiet : (now : ℕ) (draw : Draw) (old new : Outside) (o : CommandOutcome) → InProcess ImageGc now draw (intent_for kind.ImageGc [] now draw) old new o → Undisturbed ImageGc old new → is_own_end o ≡ true →
    SweepsQuietly old.dir new.dir o
sweep_quiet now draw old new (Ok text) s u own =
    let done = sweep_done now draw old new text (inl s) (u.observed refl) in
    let ext : Extends (in_process sweeps_store) old.dir.process old.dir.trace new.dir.trace = all_in_process s (u.observed refl) in
    (done, prints_lines ext (u.alone refl) done.swept text done.is, incoming_left ext (u.alone refl) done.swept, removed_left ext (u.alone refl) done.swept)
sweep_quiet now draw old new (Err Stray) s u own = sweep_stray now draw old new (inl s) (u.observed refl)
sweep_quiet now draw old new (Err NoMemory) s u own = let clash : false ≡ true = own in cc
sweep_quiet now draw old new (Err DirFault) s u own = let clash : false ≡ true = own in cc
sweep_quiet now draw old new (Err BundleFault) s u own = let clash : false ≡ true = own in cc
sweep_quiet now draw old new (Err r) s u own = let clash : false ≡ true = s.ran.refusals in cc

-- and `prepare`
abbrev prepare_asks : Draw → Request → Bool
prepare_asks draw = prepares_pod draw.uuid

prepare_held : (wants : Wants) (now : ℕ) (draw : Draw) (old new : Outside) (area : Area) (s : InProcess (Prepare wants) now draw (prepare_intent now draw) old new (Err (Busy area))) → Undisturbed (Prepare wants) old new →
    IsBusyElsewhere old.dir.process area Shared (state_after old.dir.trace)
prepare_held wants now draw old new area s u =
    let t = u.observed refl in
    let me = s.begun.dir.process in
    let o : CommandOutcome = Err (Busy area) in
    let intent = prepare_intent now draw in
    let held : IsPodAreaHeld area s.begun.dir s.ended.dir = s.ran.says.2 area refl (s.told ∙ t) intent (began now draw) (begun_knows s t) in
    let first : IsBusyElsewhere me area Shared (state_after s.begun.dir.trace) = held_before (is_against area Shared) held (quiet_between (Prepare wants) now draw intent old new o s u) in
    subst (λ (p : ℕ). IsBusyElsewhere p area Shared (state_after old.dir.trace)) s.me
    (subst (λ (x : DirState). IsBusyElsewhere me area Shared x) (state (Prepare wants) now draw intent old new o s u refl) first)

-- its own requests
prepare_extends : (wants : Wants) (now : ℕ) (draw : Draw) (intent : Intent) (old new : Outside) (o : CommandOutcome) → InProcess (Prepare wants) now draw intent old new o → Undisturbed (Prepare wants) old new →
    Extends (in_process (prepare_asks draw)) old.dir.process old.dir.trace new.dir.trace
prepare_extends wants now draw intent old new o s u = all_in_process s (u.observed refl)

-- why it was refused, by the state before
prepare_by_state : (wants : Wants) (now : ℕ) (draw : Draw) (old new : Outside) (r : Refusal) (s : InProcess (Prepare wants) now draw (prepare_intent now draw) old new (Err r)) → Undisturbed (Prepare wants) old new →
    ((area : Area) → r ≡ Busy area → IsBusyElsewhere old.dir.process area Shared (state_after old.dir.trace)) → RefusesPod old.observed wants now draw old.dir new.dir r → RefusesByState wants draw.uuid r old.dir.process (state_after old.dir.trace)
prepare_by_state wants now draw old new r s u held why =
    let ext = prepare_extends wants now draw (prepare_intent now draw) old new (Err r) s u in
    let conforms = process_conforms (Prepare wants) now draw old new (Err r) (u.observed refl) (prepare_intent now draw) s in
    refuses_by_state wants now draw old.dir new.dir r (u.observed refl) (prepare_keeps draw.uuid ext (u.alone refl))
    (taken_before draw.uuid (in_process (prepares_pod draw.uuid)) (prepare_elsewhere draw.uuid) old.dir new.dir ext (u.alone refl) conforms)
    (λ at. free_before (is_against Images Shared) at ext (u.alone refl)) held why

-- where it was prepared, nobody else held the lock of images before, and nothing refused its references
prepare_free : (wants : Wants) (now : ℕ) (draw : Draw) (old new : Outside) (text : List ℕ) → InProcess (Prepare wants) now draw (prepare_intent now draw) old new (Ok text) → Undisturbed (Prepare wants) old new →
    IsFreeElsewhere old.dir.process Images Shared (state_after old.dir.trace)
prepare_free wants now draw old new text s u =
    free_before (is_against Images Shared) (free_in_process s (began now draw) (u.observed refl) s.ran.says.1) (prepare_extends wants now draw (prepare_intent now draw) old new (Ok text) s u) (u.alone refl)

prepare_unrefused : (wants : Wants) (now : ℕ) (draw : Draw) (old new : Outside) (text : List ℕ) → InProcess (Prepare wants) now draw (prepare_intent now draw) old new (Ok text) → Undisturbed (Prepare wants) old new →
    (refs : List ImageRef) → AreReferences wants.images refs → NothingRefuses old.dir.process draw.uuid refs wants.wishes (state_after old.dir.trace)
prepare_unrefused wants now draw old new text s u =
    let ext = prepare_extends wants now draw (prepare_intent now draw) old new (Ok text) s u in
    let conforms = process_conforms (Prepare wants) now draw old new (Ok text) (u.observed refl) (prepare_intent now draw) s in
    words_unrefused wants now draw old.dir new.dir old.observed (u.observed refl) (prepare_keeps draw.uuid ext (u.alone refl))
    (taken_before draw.uuid (in_process (prepares_pod draw.uuid)) (prepare_elsewhere draw.uuid) old.dir new.dir ext (u.alone refl) conforms)
    (prepare_free wants now draw old new text s u) (planned_in_process s (began now draw) (u.observed refl) s.ran.says.1)

prepare_quiet : (wants : Wants) (now : ℕ) (draw : Draw) (old new : Outside) (o : CommandOutcome) → InProcess (Prepare wants) now draw (prepare_intent now draw) old new o → Undisturbed (Prepare wants) old new → is_own_end o ≡ true →
    PreparesQuietly old.observed wants now draw old.dir new.dir o
prepare_quiet wants now draw old new (Ok text) s u own = (
  s.ran.says.0,
  prepare_free wants now draw old new text s u,
  λ conforming.
      let x = prepare_faithful wants now draw old new text (inl s) (u.observed refl) conforming in
      let ext = prepare_extends wants now draw (prepare_intent now draw) old new (Ok text) s u in
      let unborn = unborn_before (prepare_intent now draw) (s.begins (u.observed refl)).begins in (
        x.0,
        x.1,
        (
          x.2,
          pod_stands draw.uuid ext (u.alone refl) conforming x.2,
          chosen_of old.dir new.dir x.2 (prepare_keeps draw.uuid ext (u.alone refl)) unborn,
          prepare_unrefused wants now draw old new text s u x.0 x.1,
        ),
      ),
)
prepare_quiet wants now draw old new (Err (Busy area)) s u own =
    let why = prepare_refused wants now draw (Some (prepare_intent now draw)) old new (Busy area) refl (inl s) in
    let held = prepare_held wants now draw old new area s u in
    (why, held, prepare_by_state wants now draw old new (Busy area) s u (λ other is. let same : area ≡ other = cc in subst (λ (a : Area). IsBusyElsewhere old.dir.process a Shared (state_after old.dir.trace)) same held) why)
prepare_quiet wants now draw old new (Err NoMemory) s u own = let clash : false ≡ true = own in cc
prepare_quiet wants now draw old new (Err DirFault) s u own = let clash : false ≡ true = own in cc
prepare_quiet wants now draw old new (Err BundleFault) s u own = let clash : false ≡ true = own in cc
prepare_quiet wants now draw old new (Err Stray) s u own =
    let why = prepare_refused wants now draw (Some (prepare_intent now draw)) old new Stray refl (inl s) in
    (why, pod_never now draw wants old.dir new.dir why (u.observed refl))
prepare_quiet wants now draw old new (Err r) s u own =
    let why = prepare_refused wants now draw (Some (prepare_intent now draw)) old new r refl (inl s) in
    (why, prepare_by_state wants now draw old new r s u (λ area is. cc) why)

-- `rm` and `gc`
rm_quiet : {word : List ℕ} (pod : PodId) (now : ℕ) (draw : Draw) (old new : Outside) (o : CommandOutcome) → InProcess (Rm word pod) now draw (rm_intent word now draw) old new o → Undisturbed (Rm word pod) old new → is_own_end o ≡ true → RemovesPodQuietly pod old.dir new.dir o
rm_quiet {word = word} pod now draw old new o s u own = by o s own
  where
    t : old.observed ≡ true
    t = u.observed refl

    quiet : Quiet old.dir.process old.dir.trace new.dir.trace
    quiet = u.alone refl

    ext : {word : List ℕ} (o : CommandOutcome) → InProcess (Rm word pod) now draw (rm_intent word now draw) old new o → Extends (in_process (removes pod now)) old.dir.process old.dir.trace new.dir.trace
    ext o s = all_in_process s t

    by : {word : List ℕ} (o : CommandOutcome) → InProcess (Rm word pod) now draw (rm_intent word now draw) old new o → is_own_end o ≡ true → RemovesPodQuietly pod old.dir new.dir o
    by {word = word} (Ok text) s own =
        rm_removed_quietly pod now old.dir new.dir (ext (Ok text) s) quiet (idle s t quiet) text (rm_printed word pod now draw (Some (rm_intent word now draw)) old new text (inl s)) (rm_done word pod now draw (Some (rm_intent word now draw)) old new text (inl s) t)
    by {word = word} (Err NoPod) s own = rm_none_quietly pod now old.dir new.dir (ext (Err NoPod) s) quiet (idle s t quiet) (rm_none word pod now draw (Some (rm_intent word now draw)) old new t (inl s))
    by (Err (WrongPhase phase)) s own = rm_wrong_quietly pod now old.dir new.dir (ext (Err (WrongPhase phase)) s) quiet (idle s t quiet) phase (rm_wrong pod now draw old new phase (inl s) t)
    by {word = word} (Err (NoManifest other)) s own =
        let x = rm_bare word pod now draw (Some (rm_intent word now draw)) old new other (inl s) in
        rm_lacking_quietly pod now old.dir new.dir (ext (Err (NoManifest other)) s) quiet (idle s t quiet) other x.0 (x.1 t)
    by (Err (PodBusy other which)) s own =
        let x = rm_busy pod now draw old new other which (inl s) in
        rm_busy_quietly pod now old.dir new.dir (ext (Err (PodBusy other which)) s) quiet (idle s t quiet) other which x.0 (x.1 t)
    by {word = word} (Err Stray) s own = rm_stray {word = word} pod now draw old new (inl s) t
    by (Err NoMemory) s own = let clash : false ≡ true = own in cc
    by (Err DirFault) s own = let clash : false ≡ true = own in cc
    by (Err BundleFault) s own = let clash : false ≡ true = own in cc
    by (Err r) s own = let clash : false ≡ true = s.ran.refusals in cc

gc_quiet : {grace : ℕ} {expire : ℕ} (now : ℕ) (draw : Draw) (old new : Outside) (o : CommandOutcome) → InProcess (Gc grace expire) now draw (gc_intent grace expire now draw) old new o → Undisturbed (Gc grace expire) old new → is_own_end o ≡ true →
    SweepsPodsQuietly (times_of now grace expire) old.dir new.dir o
gc_quiet {grace = grace} {expire = expire} now draw old new (Ok text) s u own =
    let t = u.observed refl in
    let quiet = u.alone refl in
    gc_swept_quietly (times_of now grace expire) old.dir new.dir text (all_in_process s t) quiet (idle s t quiet) (gc_done now draw old new text (inl s) t)
gc_quiet {grace = grace} {expire = expire} now draw old new (Err Stray) s u own = gc_stray {grace = grace} {expire = expire} now draw old new (inl s) (u.observed refl)
gc_quiet now draw old new (Err NoMemory) s u own = let clash : false ≡ true = own in cc
gc_quiet now draw old new (Err DirFault) s u own = let clash : false ≡ true = own in cc
gc_quiet now draw old new (Err BundleFault) s u own = let clash : false ≡ true = own in cc
gc_quiet now draw old new (Err r) s u own = let clash : false ≡ true = s.ran.refusals in cc

-- each command
comes_of : (line : Task) (now : ℕ) (draw : Draw) (intent : Intent) (old new : Moment) (o : CommandOutcome) → intent_of line now draw ≡ Some intent → InProcess line now draw intent old.outside new.outside o → Undisturbed line old.outside new.outside → is_own_end o ≡ true → RunsQuietly line now draw (inside_in old) (inside_in new) o → ComesQuietly line now draw old new o
comes_of (Status word pod) now draw intent old new o said s u own ran = report_quiet s u (status_report pod) (λ me s t w. status_stable me s t w pod) s.ran.says own
comes_of PodList now draw intent old new o said s u own ran = report_quiet s u list_report lines_stable s.ran.says own
comes_of (CatManifest word pod) now draw intent old new o said s u own ran = report_quiet s u (cat_manifest_report pod) (λ me s t w. manifest_stable me s t w pod) s.ran.says own
comes_of (Validate path) now draw intent old new o said s u own ran = let clash : false ≡ true = s.uses in cc
comes_of ImageList now draw intent old new o said s u own ran = list_quiet now draw intent old.outside new.outside o s u own
comes_of (ImageImport path) now draw intent old new o said s u own ran = import_quiet path now draw intent old.outside new.outside o said s u own
comes_of (ImageRm key) now draw intent old new o said s u own ran =
    removal_quiet key now draw old.outside new.outside o (subst (λ (i : Intent). InProcess (ImageRm key) now draw i old.outside new.outside o) (let e : intent ≡ removal_intent now draw = cc in e) s) u own
comes_of ImageGc now draw intent old new o said s u own ran =
    sweep_quiet now draw old.outside new.outside o (subst (λ (i : Intent). InProcess ImageGc now draw i old.outside new.outside o) (let e : intent ≡ intent_for kind.ImageGc [] now draw = cc in e) s) u own
comes_of (Prepare wants) now draw intent old new o said s u own ran =
    prepare_quiet wants now draw old.outside new.outside o (subst (λ (i : Intent). InProcess (Prepare wants) now draw i old.outside new.outside o) (let e : intent ≡ prepare_intent now draw = cc in e) s) u own
comes_of (RunPrepared word pod address) now draw intent old new o said s u own ran = ran
comes_of (Run wants address) now draw intent old new o said s u own ran = ran
comes_of (Rm word pod) now draw intent old new o said s u own ran =
    rm_quiet pod now draw old.outside new.outside o (subst (λ (i : Intent). InProcess (Rm word pod) now draw i old.outside new.outside o) (let e : intent ≡ rm_intent word now draw = cc in e) s) u own
comes_of (Gc grace expire) now draw intent old new o said s u own ran =
    gc_quiet now draw old.outside new.outside o (subst (λ (i : Intent). InProcess (Gc grace expire) now draw i old.outside new.outside o) (let e : intent ≡ gc_intent grace expire now draw = cc in e) s) u own
comes_of (Metadata address count) now draw intent old new o said s u own ran = service_quiet address count o s.ran.says s.ran.refusals own
comes_of (Demo count) now draw intent old new o said s u own ran = let clash : false ≡ true = s.uses in cc

comes_apart : (line : Task) (now : ℕ) (draw : Draw) (old new : Moment) (o : CommandOutcome) → Apart line now draw old.outside new.outside o → Undisturbed line old.outside new.outside → is_own_end o ≡ true → ComesQuietly line now draw old new o
comes_apart (Status word pod) now draw old new o p u own = let clash : true ≡ false = p.apart in cc
comes_apart PodList now draw old new o p u own = let clash : true ≡ false = p.apart in cc
comes_apart (CatManifest word pod) now draw old new o p u own = let clash : true ≡ false = p.apart in cc
comes_apart (Validate path) now draw old new o p u own = let s = p.ran.says own in s.is ∙ judged_whole path s.found (bytes_of_node (old.outside.bundle.tree path)) (s.told (u.bundle_observed refl))
comes_apart ImageList now draw old new o p u own = let clash : true ≡ false = p.apart in cc
comes_apart (ImageImport path) now draw old new o p u own = let clash : true ≡ false = p.apart in cc
comes_apart (ImageRm key) now draw old new o p u own = let clash : true ≡ false = p.apart in cc
comes_apart ImageGc now draw old new o p u own = let clash : true ≡ false = p.apart in cc
comes_apart (Prepare wants) now draw old new o p u own = let clash : true ≡ false = p.apart in cc
comes_apart (RunPrepared word pod address) now draw old new o p u own = let clash : true ≡ false = p.apart in cc
comes_apart (Run wants address) now draw old new o p u own = let clash : true ≡ false = p.apart in cc
comes_apart (Rm word pod) now draw old new o p u own = let clash : true ≡ false = p.apart in cc
comes_apart (Gc grace expire) now draw old new o p u own = let clash : true ≡ false = p.apart in cc
comes_apart (Metadata address count) now draw old new o p u own = let clash : true ≡ false = p.apart in cc
comes_apart (Demo count) now draw old new o p u own = demo_own count o p.ran.says own

-- what each command leaves
leaves_quietly : (line : Task) (now : ℕ) (draw : Draw) (intent : Intent) (old new : Outside) (o : CommandOutcome) → InProcess line now draw intent old new o → Undisturbed line old new → LeavesQuietly line old.dir.process draw (state_after old.dir.trace) (state_after new.dir.trace)
leaves_quietly (Status word pod) now draw intent old new o s u = record {
  same = report_leaves s u (inspect_calm pod);
  beside = beside (Status word pod) now draw intent old new o s u is_nowhere (inspects_change pod);
}
leaves_quietly PodList now draw intent old new o s u = record {
  same = report_leaves s u survey_calm;
  beside = beside PodList now draw intent old new o s u is_nowhere surveys_change;
}
leaves_quietly (CatManifest word pod) now draw intent old new o s u = record {
  same = report_leaves s u (λ r h. survey_calm r (visits_survey pod r h));
  beside = beside (CatManifest word pod) now draw intent old new o s u is_nowhere (visits_change pod);
}
leaves_quietly (Validate path) now draw intent old new o s u = let clash : false ≡ true = s.uses in cc
leaves_quietly ImageList now draw intent old new o s u = record {
  same = tame_unchanged ImageList now draw intent old new o s u refl lists_is_tame;
  beside = beside ImageList now draw intent old new o s u is_nowhere list_changes;
}
leaves_quietly (ImageImport path) now draw intent old new o s u = record {
  beside = beside (ImageImport path) now draw intent old new o s u (is_building_place draw.uuid) (import_changes draw.uuid);
  owned = import_owned path now draw intent old new o s u;
}
leaves_quietly (ImageRm key) now draw intent old new o s u = beside (ImageRm key) now draw intent old new o s u (is_removal_place key draw.uuid) (removal_changes key draw.uuid)
leaves_quietly ImageGc now draw intent old new o s u = beside ImageGc now draw intent old new o s u is_swept_place sweep_changes
leaves_quietly (Prepare wants) now draw intent old new o s u = beside (Prepare wants) now draw intent old new o s u (is_making_spot draw.uuid) (prepare_changes draw.uuid)
leaves_quietly (RunPrepared word pod address) now draw intent old new o s u = beside (RunPrepared word pod address) now draw intent old new o s u (is_pod_spot pod) (claim_changes pod)
leaves_quietly (Run wants address) now draw intent old new o s u = beside (Run wants address) now draw intent old new o s u (is_pod_spot draw.uuid) (run_changes draw.uuid)
leaves_quietly (Rm word pod) now draw intent old new o s u = beside (Rm word pod) now draw intent old new o s u (is_pod_spot pod) (rm_changes pod now)
leaves_quietly (Gc grace expire) now draw intent old new o s u = beside (Gc grace expire) now draw intent old new o s u is_pods_place (gc_changes now)
leaves_quietly (Metadata address count) now draw intent old new o s u = record {
  same = report_leaves s u looks_calm;
  beside = beside (Metadata address count) now draw intent old new o s u is_nowhere service_changes;
}
leaves_quietly (Demo count) now draw intent old new o s u = let clash : false ≡ true = s.uses in cc

leaves_apart : (line : Task) (now : ℕ) (draw : Draw) (old new : Outside) (o : CommandOutcome) → Apart line now draw old new o → LeavesQuietly line old.dir.process draw (state_after old.dir.trace) (state_after new.dir.trace)
leaves_apart (Status word pod) now draw old new o p = let clash : true ≡ false = p.apart in cc
leaves_apart PodList now draw old new o p = let clash : true ≡ false = p.apart in cc
leaves_apart (CatManifest word pod) now draw old new o p = let clash : true ≡ false = p.apart in cc
leaves_apart (Validate path) now draw old new o p = ap (λ (d : DirAt). state_after d.trace) p.dir
leaves_apart ImageList now draw old new o p = let clash : true ≡ false = p.apart in cc
leaves_apart (ImageImport path) now draw old new o p = let clash : true ≡ false = p.apart in cc
leaves_apart (ImageRm key) now draw old new o p = let clash : true ≡ false = p.apart in cc
leaves_apart ImageGc now draw old new o p = let clash : true ≡ false = p.apart in cc
leaves_apart (Prepare wants) now draw old new o p = let clash : true ≡ false = p.apart in cc
leaves_apart (RunPrepared word pod address) now draw old new o p = let clash : true ≡ false = p.apart in cc
leaves_apart (Run wants address) now draw old new o p = let clash : true ≡ false = p.apart in cc
leaves_apart (Rm word pod) now draw old new o p = let clash : true ≡ false = p.apart in cc
leaves_apart (Gc grace expire) now draw old new o p = let clash : true ≡ false = p.apart in cc
leaves_apart (Metadata address count) now draw old new o p = let clash : true ≡ false = p.apart in cc
leaves_apart (Demo count) now draw old new o p = ap (λ (d : DirAt). state_after d.trace) p.dir

abbrev IsQuiet : Task → ℕ → Draw → Moment → Moment → CommandOutcome → Type 0
IsQuiet line now draw old new o =
    (o ≡ Err NoMemory)
    ⊎ (ComesQuietly line now draw old new o × LeavesQuietly line old.outside.dir.process draw (state_after old.outside.dir.trace) (state_after new.outside.dir.trace))

performs_quiet : (line : Task) (now : ℕ) (draw : Draw) (intent : Option Intent) (old new : Moment) (o : CommandOutcome) → intent_of line now draw ≡ intent → Performs line now draw intent old.outside new.outside o → Undisturbed line old.outside new.outside →
    ((OwnsNothing old.outside.dir.process (state_after old.outside.dir.trace).namespace) → RunsQuietly line now draw (inside_in old) (inside_in new) o) → IsQuiet line now draw old new o
performs_quiet line now draw (Some intent) old new o said (inr n) u ran = inl n.is
performs_quiet line now draw (Some intent) old new o said (inl s) u ran =
    let a = old.outside in
    let b = new.outside in
    elim (ends_own line now draw intent a b o s u) [ inl e ↦ inl e | inr own ↦ inr (comes_of line now draw intent old new o said s u own (ran (idle s (u.observed s.uses) (u.alone s.uses))), leaves_quietly line now draw intent a b o s u) ]
performs_quiet line now draw None old new o said p u ran =
    elim (own_end line now draw old.outside new.outside o p.ran u) [ inl e ↦ inl e | inr own ↦ inr (comes_apart line now draw old new o p u own, leaves_apart line now draw old.outside new.outside o p) ]

-- a command that starts apps works on the directory
runs_use : (line : Task) → runs_apps line ≡ true → uses_dir line ≡ true
runs_use (RunPrepared word pod address) runs = refl
runs_use (Run wants address) runs = refl
runs_use line runs = cc

-- and what it comes to is said, or memory ran out
said_quiet : (o : CommandOutcome) (old new : Moment) (status : ℕ) → WasAnswered o status old new → Works old.out new.out → (status ≡ 14) ⊎ IsAnswer o status old new
said_quiet o old new status (inl e) works = inl e
said_quiet o old new status (inr (inl x)) works = absurd (works x.2)
said_quiet o old new status (inr (inr x)) works = inr x

module _ (now : ℕ) (draw : Draw) (old new : Moment) (status : ℕ) where
  -- what is told of a run of apps
  ran_quietly : (line : Task) → (r : RunOfLine line now draw (intent_of line now draw) old new status) → Undisturbed line old.outside new.outside →
      OwnsNothing old.outside.dir.process (state_after old.outside.dir.trace).namespace → RunsQuietly line now draw (inside_in old) (inside_in new) r.outcome
  ran_quietly line r u idle = subst (λ (o : CommandOutcome). RunsQuietly line now draw (inside_in old) (inside_in new) o) (sym r.outcome_is)
      (runs_quietly line now draw (inside_in old) (inside_in new) r.answer (λ runs. u.observed (runs_use line runs)) (λ runs. u.alone (runs_use line runs)) (λ runs. idle) r.came)

  quiet_of : (task : Task) → RunsTaskOrNothing task now draw old new status → Undisturbed task old.outside new.outside → Works old.out new.out → (status ≡ 14) ⊎ IsPlainAnswer task now draw status old new
  quiet_of task (inr n) u works = inl n.is
  quiet_of task (inl r) u works = by (performs_quiet task now draw (intent_of task now draw) old new r.outcome refl r.performs u (ran_quietly task r u))
    where
      by : IsQuiet task now draw old new r.outcome → (status ≡ 14) ⊎ IsPlainAnswer task now draw status old new
      by (inl e) = inl (r.is ∙ ap end_status ((subst (λ (o : CommandOutcome). Printed o old.out new.out r.end) e r.printed).refused.0))
      by (inr (comes, left)) = elim (said_quiet r.outcome old new status (answered r.outcome old new r.end status r.printed r.reported r.is) works) [ inl x ↦ inl x | inr x ↦ inr (r.outcome, comes, x, left) ]

pub quiet : {task : Task} {now : ℕ} {draw : Draw} {old new : Moment} {status : ℕ} → IsRunOfTask task now draw old new status → Undisturbed task old.outside new.outside → Works old.out new.out → (status ≡ 14) ⊎ AnswersTask task now draw status old new
quiet {task} {now} {draw} {old} {new} {status} run u works =
    elim (quiet_of now draw old new run.plain task run.ran u works) [ inl e ↦ inl (graded_same task run.plain status 14 run.is e refl) | inr x ↦ inr (run.plain, run.is, x) ]
