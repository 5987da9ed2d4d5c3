-- Where nobody else steps, what a whole process of `run-prepared` or `run` has told is told of the state before and of that which it leaves.
use Rattle.std.proofs.Common.{◌≡◌, ℕ, Bool, true, false, List, [], Ok, refl, ap, subst, ◌∙◌}
use Rattle.dir_model.specs.declared.area.Area.TheVariants.{Images, Run}
use Rattle.dir_model.specs.declared.event.Event.{Event}
use Rattle.dir_model.specs.declared.intent.Draw.{Draw}
use Rattle.dir_model.specs.declared.intent.Intent.{Intent}
use Rattle.dir_model.specs.declared.pod.PodId.{PodId}
use Rattle.dir_model.specs.declared.request.Request.TheVariants.{Finish}
use Rattle.dir_model.specs.declared.request.Reply.TheVariants.{Done}
use Rattle.dir_model.specs.declared.spot.Mode.TheVariants.{Shared}
use Rattle.dir_model.specs.Calls.{Extends, CallStep}
use Rattle.dir_model.specs.Quiet.{Quiet, OwnsNothing}
use Rattle.dir_model.specs.State.{has_begun}
use Rattle.dir_model.specs.Trace.{state_after}
use Rattle.dir_model.proofs.Moments.{at_within}
use Rattle.dir_trait.specs.DirCalls.{DirAt}
use Rattle.dir_trait.specs.Knowledge.{Knows}
use Rattle.dir_files.specs.AreaLocks.{is_against, IsFreeElsewhere}
use Rattle.spawner.specs.Calls.{SpawnerAt}
use Rattle.lifecycle.specs.Executions.{IsConforming}
use Rattle.pod_build.specs.Causes.{IsMadeByPlan}
use Rattle.pod_build.specs.Preparations.{Began}
use Rattle.pod_build.specs.Requests.{prepares}
use Rattle.pod_locks.specs.declared.claim_error.ClaimError.{ClaimError}
use Rattle.pod_locks.specs.declared.claim_error.ClaimError.TheVariants as claim
use Rattle.pod_locks.specs.ClaimRequests.{claims}
use Rattle.pod_locks.specs.Work.{Grew}
use Rattle.pod_locks.proofs.ClaimLawful.{never_stray}
use Rattle.pod_locks.proofs.Traces.{grown_more, grown_call, grown_by}
use Rattle.pod_build.specs.Progress.{seen_making, nothing_made}
use Rattle.command_outcomes.specs.declared.refusal.Refusal.{Refusal}
use Rattle.command_outcomes.specs.declared.told.Told.{Told}
use Rattle.command_outcomes.specs.Moments.{Answer, SpawnerSeen}
use Rattle.commands.specs.Prepare.{pod_line}
use Rattle.commands.specs.References.{OfReferences}
use Rattle.commands.proofs.Openings.{free_before}
use Rattle.commands.proofs.OwnSteps.{in_process}
use Rattle.commands.specs.RunPrepared.{runs_prepared, CanClaim, ClaimsAndRuns, IsUnclaimed}
use Rattle.commands.specs.Run.{makes_and_runs, MakesAndRuns}
use Rattle.commands.specs.RunQuiet.{HasPassed, HasMadeAndLeft, UnclaimedFor, TellsItsEnds, held_before, entries_made}
use Rattle.commands.specs.RunTable.{IsRefusedFor, RunsAll, StoppedFor}
use Rattle.stage1.specs.Runs.{HasRun}
use Rattle.commands.proofs.EndsQuiet.{early_part, ran_ends, unborn_before}
use Rattle.commands.proofs.ClaimQuiet.{claimed_passed, claim_leaves, claim_removes, claim_notes}
use Rattle.commands.proofs.ClaimTable.{none_why, wrong_why, lacking_why, busy_why, claimed_why}
use Rattle.commands.proofs.ClaimBefore.{RefusedClaim, none_before, wrong_before, lacked_before, lock_before}
use Rattle.commands.proofs.Parts.{Part}
use Rattle.commands.proofs.PrepareStore.{words_unrefused}
use Rattle.commands.proofs.TakenBefore.{run_elsewhere, taken_before}
use Rattle.commands.proofs.Whole.{made_whole}
use Rattle.commands.proofs.StoreChosen.{chosen_of}
use Rattle.commands.proofs.StoreKept.{run_keeps}
use Rattle.commands.proofs.NewRunQuiet.{MadeUntil, made_and_left, run_leaves, run_removes, run_notes}
use Rattle.commands.proofs.RanByFolder.{KeepsHeld, claimed_keeps, made_keeps, runs_all, stopped_for}
use Rattle.commands.proofs.RunRefused.{WasStopped}
use Rattle.commands.specs.Wants.{Wants}
use Rattle.commands.specs.Opening.{Approach, Opens}
use Rattle.pod_locks.proofs.ClaimLawful.{conforms_before}

module _ (seen observed : Bool) (pod : PodId) (address : List ℕ) (d d' : DirAt) (s s' : SpawnerAt) (answer : Answer) (t : seen ≡ true) (old new : List Event) where
  -- a pod that was claimed, whatever came of its run
  pub run_prepared_passed : Extends (in_process (runs_prepared pod)) d.process old new → Quiet d.process old new → Grew old d.trace → CallStep d.process d'.trace Finish Done new → (x : ClaimsAndRuns seen observed pod address d d' s s' answer) → Grew x.claimed.trace d'.trace →
      HasPassed pod d.process old new
  run_prepared_passed ext quiet first finish x after =
      claimed_passed pod x.owned.own ext quiet first (x.took t) after finish (λ conforming. claimed_why pod ext quiet conforming first (grown_more after (grown_call finish)) (x.alone t))

  -- and one that wasn't
  pub run_prepared_unclaimed : RefusedClaim pod d.process old d.trace d'.trace new → OwnsNothing d.process (state_after old).namespace → CanClaim d → (x : IsUnclaimed seen pod d d' s s' answer) → UnclaimedFor pod x.error d.process old new
  run_prepared_unclaimed r idle can x = by x.error refl
    where
      at_end : IsConforming new → IsConforming d'.trace
      at_end conforming = conforms_before (record { more = r.finishes.more; grown = r.finishes.grown }) conforming

      at_begin : IsConforming new → IsConforming old
      at_begin conforming = conforms_before (record { more = r.quiet.more; grown = r.quiet.grown }) conforming

      by : (e : ClaimError) → x.error ≡ e → UnclaimedFor pod e d.process old new
      by claim.NoPod is = λ conforming. let none = none_before pod r (at_begin conforming) (x.cause.nowhere is t (at_end conforming)) in (none, none_why d.process pod (state_after old) none)
      by (claim.WrongPhase phase) is = λ conforming.
          let cause = x.cause.phase phase is t (at_end conforming) in
          let had = wrong_before pod r phase (at_begin conforming) idle (x.still t) cause (λ owned. x.owner t can.0 can.2 can.1 (at_end conforming) phase is owned) in
          (had, wrong_why d.process pod phase old cause.wrong had)
      by claim.NoManifest is = λ conforming. let lacks = lacked_before pod r (x.cause.manifest is t (at_end conforming)) in (lacks, lacking_why d.process pod old (at_begin conforming) lacks)
      by (claim.Busy other which) is =
          let named = x.cause.named other which is in
          let another = x.another t can.0 can.2 can.1 which (is ∙ ap (λ (p : PodId). claim.Busy p which) named) in
          let held = lock_before pod r which another.0 in
          (named, held, λ conforming. busy_why pod r.whole r.quiet (at_begin conforming) which (grown_by r.begins) (grown_by r.finishes) another.0 another.1 held)
      by claim.Stray is = λ conforming. never_stray x.cause is t (at_end conforming)
      by e is = tt

module _ (seen observed : Bool) (wants : Wants) (address : List ℕ) (now : ℕ) (draw : Draw) (d d' : DirAt) (s s' : SpawnerAt) (answer : Answer) (t : seen ≡ true) (old new : List Event) where
  -- a pod that was made for its run, whatever came of it
  pub run_made_left : Extends (in_process (makes_and_runs draw.uuid)) d.process old new → Quiet d.process old new → Grew old d.trace → CallStep d.process d'.trace Finish Done new → has_begun (state_after old).namespace d.process ≡ false → (intent : Intent) → Began Run draw now intent →
      Knows d (seen_making intent [] nothing_made) → (x : MakesAndRuns seen observed wants address now draw d d' s s' answer) → Grew x.made.trace d'.trace → IsConforming new → MadeUntil wants d.process draw.uuid old x.made.trace new
  run_made_left ext quiet first finish unborn intent began knows x after conforming =
      let made = grown_more after (grown_call finish) in
      let early : DirAt = record d { trace = old } in
      let late : DirAt = record d { trace = new } in
      let whole : Part early d x.made late = record { earlier = first.more; later = made.more; same = refl; begins = first.grown; ends = made.grown } in
      let free = free_before (is_against Images Shared) (at_within {P = IsFreeElsewhere d.process Images Shared} first.more made.more first.grown made.grown (x.free t)) ext quiet in
      let before = taken_before draw.uuid (in_process (makes_and_runs draw.uuid)) (run_elsewhere draw.uuid) early late ext quiet (conforming.rules d.process) in
      let planned : OfReferences wants.images (λ refs. IsMadeByPlan seen refs wants.wishes draw now early late) =
      (x.planned.0, x.planned.1, made_whole draw {b = d} {c = x.made} (λ sees. whole) x.planned.2) in
      made_and_left wants draw.uuid ext quiet first after finish (λ refs y. chosen_of early late y (run_keeps draw.uuid ext quiet) unborn)
      free (words_unrefused wants now draw early late seen t (run_keeps draw.uuid ext quiet) before free planned) (x.faithful t (conforms_before made conforming) intent [] began refl knows)

-- and what was told of its apps, by what its folder held: the marks and the statuses stand in the pod
module _ (seen : Bool) (so sn : SpawnerSeen) (d d' : DirAt) (t : seen ≡ true) (old new : List Event) (quiet : Quiet d.process old new) (approach : Approach) (intent : Intent) (begins : Opens approach intent d.process old d.trace)
    (stays : d'.process ≡ d.process) (first : Grew old d.trace) (finish : CallStep d.process d'.trace Finish Done new) where
  module _ (pod : PodId) (address : List ℕ) (ext : Extends (in_process (runs_prepared pod)) d.process old new) (passed : HasPassed pod d.process old new) where
    claimed_holds : {answer : Answer} (x : ClaimsAndRuns seen so.observed pod address d d' so.shown sn.shown answer) → IsConforming new → KeepsHeld pod passed.folder (held_before passed) x.claimed d'
    claimed_holds x conforming = claimed_keeps pod x.owned.own x.claimed d' x.same ext quiet first (x.took t) (x.then t) finish (early_part d approach intent refl begins (x.asked t)) conforming passed.folder passed.stood

    pub run_prepared_ends : (told : Told) → ClaimsAndRuns seen so.observed pod address d d' so.shown sn.shown (Ok told) → (y : TellsItsEnds pod [] new told.text) × (IsConforming new → RunsAll pod address (held_before passed) y.ends so sn)
    run_prepared_ends told x =
        let ran = subst (λ (p : PodId). HasRun seen so.observed p x.owned.own address x.says.ends x.claimed d' so.shown sn.shown) x.is_owned.is x.says.ran in (
          record {
            ends = x.says.ends;
            is = ap (λ (w : Told). w.text) x.says.is;
            stand = ran_ends pod (runs_prepared pod) (claims pod) (claim_leaves pod) (claim_removes pod) (claim_notes pod) d.process old new ext quiet finish.run (unborn_before intent begins.begins) t x.owned.own address x.says.ends x.claimed d' so.shown sn.shown x.same stays
                (early_part d approach intent refl begins (x.asked t)) (x.then t) finish ran passed.folder passed.left.there;
          },
          λ conforming. runs_all pod address passed.folder (held_before passed) x.claimed d' (claimed_holds x conforming) t x.owned.own x.says.ends so sn ran,
        )

    pub run_prepared_stopped : {answer : Answer} (x : ClaimsAndRuns seen so.observed pod address d d' so.shown sn.shown answer) (r : Refusal) → WasStopped seen pod address r x.claimed d' so sn → IsRefusedFor pod r new (λ error. StoppedFor pod address (held_before passed) error so sn)
    run_prepared_stopped x r w = record {
      error = w.0;
      is = w.1;
      why = λ conforming. stopped_for pod address passed.folder (held_before passed) x.claimed d' (claimed_holds x conforming) t so sn w.0 (λ is. w.3 is t (conforms_before (grown_call finish) conforming)) w.2;
    }

  module _ (wants : Wants) (address : List ℕ) (now : ℕ) (draw : Draw) (ext : Extends (in_process (makes_and_runs draw.uuid)) d.process old new) where
    made_holds : {answer : Answer} (x : MakesAndRuns seen so.observed wants address now draw d d' so.shown sn.shown answer) (h : MadeUntil wants d.process draw.uuid old x.made.trace new) → IsConforming new → KeepsHeld draw.uuid h.0.2.0.folder (entries_made h.0.2.0) x.made d'
    made_holds x h conforming = made_keeps draw.uuid x.made d' x.same ext quiet (x.then t) finish (early_part d approach intent refl begins (x.asked t)) h.0.2.0 h.1.0 h.1.1 conforming

    pub run_ends : (told : Told) (x : MakesAndRuns seen so.observed wants address now draw d d' so.shown sn.shown (Ok told)) (h : MadeUntil wants d.process draw.uuid old x.made.trace new) → IsConforming new →
        (y : TellsItsEnds draw.uuid (pod_line draw.uuid) new told.text) × RunsAll draw.uuid address (entries_made h.0.2.0) y.ends so sn
    run_ends told x h conforming =
        let pod = draw.uuid in
        let ran = subst (λ (p : PodId). HasRun seen so.observed p x.owned.own address x.says.ends x.made d' so.shown sn.shown) x.is_owned.is x.says.ran in (
          record {
            ends = x.says.ends;
            is = ap (λ (w : Told). w.text) x.says.is;
            stand = ran_ends pod (makes_and_runs pod) (prepares pod Run) (run_leaves pod) (run_removes pod) (run_notes pod) d.process old new ext quiet finish.run (unborn_before intent begins.begins) t x.owned.own address x.says.ends x.made d' so.shown sn.shown x.same stays
                (early_part d approach intent refl begins (x.asked t)) (x.then t) finish ran h.0.2.0.folder h.0.2.1.there;
          },
          runs_all pod address h.0.2.0.folder (entries_made h.0.2.0) x.made d' (made_holds x h conforming) t x.owned.own x.says.ends so sn ran,
        )

    pub run_stopped : {answer : Answer} (x : MakesAndRuns seen so.observed wants address now draw d d' so.shown sn.shown answer) (r : Refusal) → (IsConforming new → MadeUntil wants d.process draw.uuid old x.made.trace new) → WasStopped seen draw.uuid address r x.made d' so sn →
        IsRefusedFor draw.uuid r new (λ error. (y : HasMadeAndLeft wants d.process draw.uuid old new) × StoppedFor draw.uuid address (entries_made y.2.0) error so sn)
    run_stopped x r made w = record {
      error = w.0;
      is = w.1;
      why = λ conforming.
          let h = made conforming in
          (h.0, stopped_for draw.uuid address h.0.2.0.folder (entries_made h.0.2.0) x.made d' (made_holds x h conforming) t so sn w.0 (λ is. w.3 is t (conforms_before (grown_call finish) conforming)) w.2);
    }
