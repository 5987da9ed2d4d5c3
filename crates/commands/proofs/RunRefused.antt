-- Where nobody else steps: why `run` is refused, and `run-prepared` of a pod that was claimed.
use Rattle.std.proofs.Common.{◌≡◌, ◌⊎◌, inl, inr, ℕ, Bool, true, List, [], Err, refl, sym, ap, subst, ◌∙◌}
use Rattle.dir_model.specs.declared.area.Area.{Area}
use Rattle.dir_model.specs.declared.area.Area.TheVariants.{Images, Run}
use Rattle.dir_model.specs.declared.intent.Draw.{Draw}
use Rattle.dir_model.specs.declared.intent.Intent.{Intent}
use Rattle.dir_model.specs.declared.pod.PodId.{PodId}
use Rattle.dir_model.specs.declared.spot.Mode.TheVariants.{Shared}
use Rattle.dir_model.specs.Calls.{Extends, is_begin, is_finish, AtOwnStep}
use Rattle.dir_model.specs.Quiet.{Quiet}
use Rattle.dir_model.specs.Trace.{state_after}
use Rattle.dir_rules.specs.Conforms.{Conforms, IsTied}
use Rattle.dir_trait.specs.DirCalls.{DirAt}
use Rattle.dir_trait.specs.Knowledge.{Knows}
use Rattle.dir_files.specs.AreaLocks.{is_against, IsBusyElsewhere}
use Rattle.pod_build.specs.declared.error.BuildError.TheVariants as build
use Rattle.pod_build.specs.Causes.{IsBuildRefused}
use Rattle.pod_build.specs.Preparations.{Began}
use Rattle.pod_build.specs.Progress.{seen_making, nothing_made}
use Rattle.pod_locks.specs.declared.owned.Owned.{Owned}
use Rattle.pod_build.specs.Work.{HasMakerFolder}
use Rattle.spawner.specs.Calls.{SpawnerAt}
use Rattle.stage1.specs.declared.error.RunError.{RunError}
use Rattle.stage1.specs.declared.error.RunError.TheVariants.{Stray}
use Rattle.stage1.specs.Runs.{IsRefusedRun}
use Rattle.command_outcomes.specs.declared.refusal.Refusal.{Refusal}
use Rattle.command_outcomes.specs.declared.refusal.Refusal.TheVariants.{NoMemory}
use Rattle.command_outcomes.specs.Moments.{Answer, SpawnerSeen}
use Rattle.commands.specs.PrepareRefusals.{IsSaidOfBuild, refusal_of_build}
use Rattle.commands.specs.Prepare.{pod_line, RefusesPod}
use Rattle.commands.proofs.Openings.{free_before}
use Rattle.commands.proofs.PrepareStore.{refuses_by_state}
use Rattle.commands.proofs.StoreKept.{run_keeps}
use Rattle.commands.proofs.TakenBefore.{finished_keeps, run_elsewhere, taken_before}
use Rattle.commands.proofs.Sayings.{busy_of}
use Rattle.commands.proofs.Whole.{refused_whole}
use Rattle.commands.proofs.OwnSteps.{at_process, held_before, in_process}
use Rattle.commands.specs.RunRefusals.{run_refusal, IsRunSaid}
use Rattle.commands.specs.Run.{makes_and_runs, MakesAndRuns, IsUnmade}
use Rattle.commands.specs.RunPrepared.{ClaimsAndRuns}
use Rattle.commands.specs.AppRuns.{RunSays}
use Rattle.commands.specs.RunQuiet.{IsUnmadeFor}
use Rattle.commands.specs.Strays.{NeverComes}
use Rattle.commands.proofs.StrayAnswers.{pod_never}
use Rattle.commands.specs.Wants.{Wants}

pub same_refusal : (r q : Refusal) → ◌≡◌ {A = Answer} (Err r) (Err q) → r ≡ q
same_refusal r q is = cc

-- a pod that its process runs was refused so from this moment on, for this cause of the run
abbrev pub WasStopped : Bool → PodId → List ℕ → Refusal → DirAt → DirAt → SpawnerSeen → SpawnerSeen → Type 0
WasStopped seen pod address r d d' so sn =
    (error : RunError) × (r ≡ run_refusal pod error) × IsRefusedRun seen so.observed pod address error d d' so.shown sn.shown × (error ≡ Stray → seen ≡ true → NeverComes d'.trace)

says_refusal : {seen : Bool} (so sn : SpawnerSeen) {owned : Owned} {address : List ℕ} {d d' : DirAt} (front : List ℕ) (pod : PodId) (r : Refusal) → owned.pod ≡ pod → RunSays seen so.observed owned address front d d' so.shown sn.shown (Err r) →
    (r ≡ NoMemory) ⊎ WasStopped seen pod address r d d' so sn
says_refusal {seen} so sn {owned} {address} {d} {d'} front pod r its (inl w) = said w.is.0 (same_refusal r w.is.0 w.is.1) w.is.2
  where
    said : (q : Refusal) → r ≡ q → IsRunSaid owned.pod w.error q → (r ≡ NoMemory) ⊎ WasStopped seen pod address r d d' so sn
    said q is (inl told) =
        inr (w.error, is ∙ (told ∙ ap (λ (p : PodId). run_refusal p w.error) its), subst (λ (p : PodId). IsRefusedRun seen so.observed p address w.error d d' so.shown sn.shown) its w.refused, w.lawful)
    said q is (inr told) = inl (is ∙ told)
says_refusal so sn front pod r its (inr w) = inl (same_refusal r NoMemory w.is)

pub claimed_refusal : {seen : Bool} (so sn : SpawnerSeen) {pod : PodId} {address : List ℕ} {d d' : DirAt} (r : Refusal) (x : ClaimsAndRuns seen so.observed pod address d d' so.shown sn.shown (Err r)) → (r ≡ NoMemory) ⊎ WasStopped seen pod address r x.claimed d' so sn
claimed_refusal so sn {pod = pod} r x = says_refusal so sn [] pod r x.is_owned.is x.says

pub made_refusal : {seen : Bool} (so sn : SpawnerSeen) {wants : Wants} {address : List ℕ} {now : ℕ} {draw : Draw} {d d' : DirAt} (r : Refusal) (x : MakesAndRuns seen so.observed wants address now draw d d' so.shown sn.shown (Err r)) →
    (r ≡ NoMemory) ⊎ WasStopped seen draw.uuid address r x.made d' so sn
made_refusal so sn {draw = draw} r x = says_refusal so sn (pod_line draw.uuid) draw.uuid r x.is_owned.is x.says

-- and one that wasn't, for what is seen of the directory before and in the end
module _ {observed : Bool} {wants : Wants} {now : ℕ} {draw : Draw} {d d' : DirAt} {s s' : SpawnerAt} (old new : DirAt) (t : observed ≡ true) (mine : d.process ≡ old.process) (stays : d'.process ≡ d.process)
    (ext : Extends (in_process (makes_and_runs draw.uuid)) old.process old.trace new.trace) (quiet : Quiet old.process old.trace new.trace) (begins : Extends is_begin old.process old.trace d.trace) (ends : Extends is_finish old.process d'.trace new.trace)
    (intent : Intent) (began : Began Run draw now intent) (knows : Knows d (seen_making intent [] nothing_made)) where
  pub unmade_refusal : (r : Refusal) → IsUnmade observed wants now draw d d' s s' (Err r) → (r ≡ NoMemory) ⊎ IsUnmadeFor observed wants now draw old new r
  unmade_refusal r x = by x.is.2
    where
      same : r ≡ x.is.0
      same = same_refusal r x.is.0 x.is.1

      whole : IsBuildRefused observed x.cause.0 wants.wishes draw now x.error old new
      whole =
          refused_whole draw mine stays (λ o. begins) (λ o. subst (λ (p : ℕ). Extends is_finish p d'.trace new.trace) (sym (stays ∙ mine)) ends)
          x.cause.2

      held : (area : Area) → x.error ≡ build.Busy area → IsBusyElsewhere old.process area Shared (state_after old.trace)
      held area busy =
          let at = x.another t intent [] began refl knows area busy in
          held_before (is_against area Shared) (at_process begins ends (subst (λ (p : ℕ). AtOwnStep p d.trace d'.trace (IsBusyElsewhere p area Shared)) mine at)) ext quiet

      left : HasMakerFolder draw.uuid intent [] d'
      left = x.left t intent [] began refl knows

      conforms : Conforms old.process new.trace
      conforms = finished_keeps ends (subst (λ (p : ℕ). Conforms p d'.trace) (stays ∙ mine) (left.knows.tied.conforms refl))

      why : x.is.0 ≡ refusal_of_build wants.images x.error → RefusesPod observed wants now draw old new r
      why is = record { error = x.error; is = same ∙ is; cause = (x.cause.0, x.cause.1, whole) }

      by : IsSaidOfBuild wants.images x.error x.is.0 → (r ≡ NoMemory) ⊎ IsUnmadeFor observed wants now draw old new r
      by (inr is) = inl (same ∙ is)
      by (inl is) = inr (record {
        why = why is;
        state = refuses_by_state wants now draw old new r t (run_keeps draw.uuid ext quiet)
            (taken_before draw.uuid (in_process (makes_and_runs draw.uuid)) (run_elsewhere draw.uuid) old new ext quiet conforms)
            (λ at. free_before (is_against Images Shared) at ext quiet) (λ area busy. held area (busy_of wants.images x.error area (sym (same ∙ is) ∙ busy))) (why is);
        held = λ area busy. held area (busy_of wants.images x.error area (sym (same ∙ is) ∙ busy));
        lawful = λ stray. pod_never now draw wants old new (subst (λ (q : Refusal). RefusesPod observed wants now draw old new q) stray (why is)) t;
        left = inr (record {
          begun = d.trace;
          ended = d'.trace;
          begins = begins;
          so = record { intent = intent; progress = left.progress; own = left.own; knew = subst (λ (p : ℕ). IsTied p d'.trace (seen_making intent [] left.progress)) (stays ∙ mine) left.knows.tied };
          finishes = ends;
        });
      })
