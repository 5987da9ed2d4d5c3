-- Where every process keeps the local rules, status 20 comes of a started app that wrote on, and of two commands alone.
use Rattle.std.proofs.Common.{arith, ◌≡◌, ◌⊎◌, inl, inr, ℕ, Bool, true, Option, Some, None, Err, List, [], refl, sym, subst, ◌∙◌}
use Rattle.dir_model.specs.declared.event.Event.{Event}
use Rattle.dir_model.specs.declared.intent.Draw.{Draw}
use Rattle.dir_model.specs.declared.intent.Intent.{Intent}
use Rattle.dir_model.specs.declared.pod.PodId.{PodId}
use Rattle.dir_model.specs.declared.request.Request.{Request}
use Rattle.dir_model.specs.declared.request.Request.TheVariants.{Finish}
use Rattle.dir_model.specs.declared.request.Reply.TheVariants.{Done}
use Rattle.dir_trait.specs.DirCalls.{DirAt}
use Rattle.pod_build.specs.Causes.{IsBuildRefused}
use Rattle.pod_locks.specs.declared.owned.Owned.{Owned}
use Rattle.spawner.specs.Calls.{SpawnerAt}
use Rattle.commands.specs.AppsTold.{WithinProcess}
use Rattle.commands.specs.Prepare.{pod_line}
use Rattle.commands.specs.References.{OfReferences}
use Rattle.commands.specs.Run.{IsUnmade, NewRunSays}
use Rattle.commands.specs.RunCommand.{RefusesNewRun}
use Rattle.commands.specs.RunPrepared.{ClaimsAndRuns, IsUnclaimed}
use Rattle.commands.specs.RunPreparedCommand.{RefusesRun}
use Rattle.commands.specs.Wants.{Wants}
use Rattle.rkt_cli.specs.Runs.{RunsNoCommand}
use Rattle.dir_model.specs.Calls.{is_finish}
use Rattle.dir_model.proofs.Chains.{step_extends}
use Rattle.lifecycle.specs.Executions.{IsConforming}
use Rattle.impossible_replies.specs.Replies.{AppWroteOn}
use Rattle.impossible_replies.proofs.StrayDeletions.{wrote_within}
use Rattle.phase_read.specs.declared.found.LookError.{LookError}
use Rattle.phase_read.specs.declared.found.LookError.TheVariants as lookup
use Rattle.image_store.proofs.Lawful as imports
use Rattle.pod_locks.proofs.ClaimLawful as claims
use Rattle.command_outcomes.specs.declared.refusal.Refusal.{Refusal}
use Rattle.command_outcomes.specs.declared.refusal.Refusal.TheVariants.{Usage, NoPod, Ambiguous, WrongPhase, Busy, PodBusy, BadManifest, NoImage, NoDependency, Cycle, Limit, DirFault, BundleFault, SpawnFault, OutFault, LinkFault, NoMemory, NoFile, Conflict, Damaged, BadKind, Taken, NoManifest, NoProgram, Stray}
use Rattle.command_outcomes.specs.Meanwhile.{Meanwhile}
use Rattle.command_outcomes.specs.Moments.{Inside, Moment}
use Rattle.commands.specs.Answers.{inside_in}
use Rattle.command_outcomes.specs.Texts.{exit_status_of}
use Rattle.commands.specs.AppRuns.{RunSays}
use Rattle.commands.specs.Opening.{Approach, OnceFound}
use Rattle.commands.specs.PrepareRefusals.{IsSaidOfBuild}
use Rattle.commands.specs.RunRefusals.{claim_refusal, IsRunSaid}
use Rattle.commands.specs.Strays.{ComesOfApp}
use Rattle.commands.proofs.StrayAnswers.{built, build_stray, claim_stray, pod_never, run_stray}
use Rattle.commands.proofs.ImportRefusals.{stray_of}
use Rattle.commands.proofs.NamedPhases.{before_finish}
use Rattle.commands.proofs.RunRefused.{same_refusal}
use Rattle.rkt_cli.specs.declared.line.Line.{Line}
use Rattle.rkt_cli.specs.declared.line.Line.TheVariants as line
use Rattle.rkt_cli.specs.Commands.{command_in, runs_apps}
use Rattle.rkt_cli.specs.Lookups.{RefusedBeforeItsPod, NeverReachedItsPod, OfPod, lookup_refusal}
use Rattle.rkt_cli.specs.Promises.{Ends, IsEnded, RefusedFor}
use Rattle.rkt_cli.specs.Strays.{MeetsApp, StraysOfApps}
use Rattle.rkt_cli.specs.Tasks.{Task, task_of}
use Rattle.rkt_cli.specs.Tasks.{Status, PodList, CatManifest, Validate, ImageList, ImageImport, ImageRm, ImageGc, Prepare, RunPrepared, Run, Rm, Gc, Metadata, Demo}

-- the one refusal with this status
stray_only : (r : Refusal) → 20 ≡ exit_status_of r → r ≡ Stray
stray_only Usage e = absurd (omega (arith, e))
stray_only NoPod e = absurd (omega (arith, e))
stray_only (Ambiguous first second) e = absurd (omega (arith, e))
stray_only (WrongPhase phase) e = absurd (omega (arith, e))
stray_only (Busy area) e = absurd (omega (arith, e))
stray_only (PodBusy pod which) e = absurd (omega (arith, e))
stray_only (BadManifest path number) e = absurd (omega (arith, e))
stray_only (NoImage key) e = absurd (omega (arith, e))
stray_only (NoDependency name) e = absurd (omega (arith, e))
stray_only (Cycle key) e = absurd (omega (arith, e))
stray_only (Limit number) e = absurd (omega (arith, e))
stray_only DirFault e = absurd (omega (arith, e))
stray_only BundleFault e = absurd (omega (arith, e))
stray_only SpawnFault e = absurd (omega (arith, e))
stray_only OutFault e = absurd (omega (arith, e))
stray_only LinkFault e = absurd (omega (arith, e))
stray_only NoMemory e = absurd (omega (arith, e))
stray_only (NoFile path) e = absurd (omega (arith, e))
stray_only (Conflict key stored new) e = absurd (omega (arith, e))
stray_only (Damaged path) e = absurd (omega (arith, e))
stray_only (BadKind path) e = absurd (omega (arith, e))
stray_only (Taken pod) e = absurd (omega (arith, e))
stray_only (NoManifest pod) e = absurd (omega (arith, e))
stray_only (NoProgram app word) e = absurd (omega (arith, e))
stray_only Stray e = refl

-- what came of an app in a part came of it in the whole
pub once_wrote : {me : ℕ} {old new : List Event} → OnceFound AppWroteOn me old new → AppWroteOn me old new
once_wrote x = wrote_within x.begins.more x.finishes.more x.begins.grown x.finishes.grown x.so

once_app : {me : ℕ} {old new : List Event} → OnceFound ComesOfApp me old new → IsConforming new → AppWroteOn me old new
once_app x conforming = wrote_within x.begins.more x.finishes.more x.begins.grown x.finishes.grown (x.so (before_finish x.finishes conforming))

meanwhile_app : {me : ℕ} {old new : List Event} → Meanwhile ComesOfApp me old new → IsConforming new → AppWroteOn me old new
meanwhile_app x conforming = wrote_within x.begins.more x.finishes.more x.begins.grown x.finishes.grown (x.so (before_finish x.finishes conforming))

-- a run that was refused so
run_says_stray : (seen observed : Bool) (owned : Owned) (address front : List ℕ) (d d' : DirAt) (s s' : SpawnerAt) → RunSays seen observed owned address front d d' s s' (Err Stray) → seen ≡ true → IsConforming d'.trace → ⊥
run_says_stray seen observed owned address front d d' s s' (inl x) t conforming = by x.is.2
  where
    same : Stray ≡ x.is.0
    same = same_refusal Stray x.is.0 x.is.1

    by : IsRunSaid owned.pod x.error x.is.0 → ⊥
    by (inl said) = x.lawful (run_stray owned.pod x.error (same ∙ said)) t conforming
    by (inr none) = let e : Stray ≡ NoMemory = same ∙ none in cc
run_says_stray seen observed owned address front d d' s s' (inr x) t conforming = let e : Stray ≡ NoMemory = same_refusal Stray NoMemory x.is in cc

-- task by task
module _ (now : ℕ) (draw : Draw) (status : ℕ) (old new : Moment) (told : old.outside.observed ≡ true) (conforming : IsConforming new.outside.dir.trace) (is : status ≡ 20) where
  refused_stray : (task : Task) → Ends task now draw status old new → (command_in task).refused_for now draw Stray old new
  refused_stray task (inl done) = by done.0
    where
      by : (status ≡ 0) ⊎ ((status ≡ 16) × (runs_apps task ≡ true)) → (command_in task).refused_for now draw Stray old new
      by (inl e) = absurd (omega (arith, e, is))
      by (inr e) = let n = e.0 in absurd (omega (arith, n, is))
  refused_stray task (inr r) = subst (λ (x : Refusal). RefusedFor (command_in task) now draw x old new) (stray_only r.refusal (sym is ∙ r.is)) r.cause

  of_process : {approach : Approach} {asks : Request → Bool} {P : Inside → Inside → Type 0} {intent : Intent} (w : WithinProcess approach asks P intent (inside_in old) (inside_in new)) → IsConforming w.ended.trace
  of_process w = before_finish (step_extends is_finish w.ended.process w.ended.trace Finish Done new.outside.dir.trace refl (w.finishes told)) conforming

  prepared : (word : List ℕ) (pod : PodId) (address : List ℕ) → RefusesRun word pod address now draw Stray old new → ⊥
  prepared word pod address r = by r.why.came
    where
      part : IsConforming r.why.ended.trace
      part = of_process r.why

      by : ClaimsAndRuns old.outside.observed old.spawner.observed pod address r.why.begun r.why.ended old.spawner.shown new.spawner.shown (Err Stray)
          ⊎ IsUnclaimed old.outside.observed pod r.why.begun r.why.ended old.spawner.shown new.spawner.shown (Err Stray) → ⊥
      by (inl c) = run_says_stray old.outside.observed old.spawner.observed c.owned address [] c.claimed r.why.ended old.spawner.shown new.spawner.shown c.says told part
      by (inr u) = claims.never_stray u.cause (claim_stray pod u.error (same_refusal Stray (claim_refusal pod u.error) u.is)) told part

  made : (wants : Wants) (address : List ℕ) → RefusesNewRun wants address now draw Stray old new → ⊥
  made wants address r = by r.why.came
    where
      part : IsConforming r.why.ended.trace
      part = of_process r.why

      unmade : (u : IsUnmade old.outside.observed wants now draw r.why.begun r.why.ended old.spawner.shown new.spawner.shown (Err Stray)) → ⊥
      unmade u = said u.is.2
        where
          same : Stray ≡ u.is.0
          same = same_refusal Stray u.is.0 u.is.1

          said : IsSaidOfBuild wants.images u.error u.is.0 → ⊥
          said (inl s) = built now draw wants u.error (subst (λ (b : Bool). OfReferences wants.images (λ refs. IsBuildRefused b refs wants.wishes draw now u.error r.why.begun r.why.ended)) told u.cause) (build_stray wants.images u.error (same ∙ s)) part
          said (inr none) = let e : Stray ≡ NoMemory = same ∙ none in cc

      by : NewRunSays old.outside.observed old.spawner.observed wants address now draw r.why.begun r.why.ended old.spawner.shown new.spawner.shown (Err Stray) → ⊥
      by (inl m) = run_says_stray old.outside.observed old.spawner.observed m.owned address (pod_line draw.uuid) m.made r.why.ended old.spawner.shown new.spawner.shown m.says told part
      by (inr (inl u)) = unmade u
      by (inr (inr b)) = let e : Stray ≡ NoMemory = same_refusal Stray NoMemory b.is in cc

  meets : (line : Line) (pod : PodId) → Ends (task_of line pod) now draw status old new → MeetsApp (Some line) old.outside.dir new.outside.dir
  meets (line.Status word) pod e = absurd ((refused_stray (Status word pod) e).why told conforming)
  meets line.PodList pod e = absurd ((refused_stray PodList e).why told conforming)
  meets (line.CatManifest word) pod e = absurd ((refused_stray (CatManifest word pod) e).why told conforming)
  meets (line.Validate path) pod e = let x = (refused_stray (Validate path) e).0 in cc
  meets line.ImageList pod e = absurd (refused_stray ImageList e)
  meets (line.ImageImport path) pod e =
      let x = (refused_stray (ImageImport path) e).why in
      absurd (imports.never_stray x.cause (stray_of x.error x.is) told conforming)
  meets (line.ImageRm key) pod e = absurd ((refused_stray (ImageRm key) e told).1 conforming)
  meets line.ImageGc pod e = absurd ((refused_stray ImageGc e told).1 conforming)
  meets (line.Prepare wants) pod e = absurd (pod_never now draw wants old.outside.dir new.outside.dir (refused_stray (Prepare wants) e).why told conforming)
  meets (line.RunPrepared word address) pod e = absurd (prepared word pod address (refused_stray (RunPrepared word pod address) e))
  meets (line.Run wants address) pod e = absurd (made wants address (refused_stray (Run wants address) e))
  meets (line.Rm word) pod e = (refl, once_app (refused_stray (Rm word pod) e told).1 conforming)
  meets (line.Gc grace expire) pod e = (refl, meanwhile_app (refused_stray (Gc grace expire) e told).1 conforming)
  meets (line.Metadata address count) pod e = let x : Stray ≡ LinkFault = refused_stray (Metadata address count) e in cc
  meets (line.Demo count) pod e = absurd (refused_stray (Demo count) e)

-- a word that means no pod
vain_stray : (e : LookError) → Stray ≡ lookup_refusal e → ⊥
vain_stray lookup.NoPod is = cc
vain_stray (lookup.Ambiguous first second) is = cc
vain_stray lookup.DirFault is = cc
vain_stray lookup.NoMemory is = cc

came_stray : (line : Line) (now : ℕ) (draw : Draw) (old new : Moment) (status : ℕ) → RefusedBeforeItsPod line now draw old new status → status ≡ 20 → ⊥
came_stray line now draw old new status c is = by c.why
  where
    same : c.refusal ≡ Stray
    same = stray_only c.refusal (sym is ∙ c.is)

    by : NeverReachedItsPod line now draw old.outside new.outside c.refusal → ⊥
    by (inl none) = let e : Stray ≡ NoMemory = sym same ∙ none.0 in cc
    by (inr (inl none)) = let e : Stray ≡ NoMemory = sym same ∙ none.2 in cc
    by (inr (inr x)) = vain_stray x.4.vain.error (sym same ∙ x.4.vain.is)

pub strays : (now : ℕ) (draw : Draw) (old new : Moment) (status : ℕ) (line : Option Line) → old.outside.observed ≡ true → IsEnded line now draw status old new → StraysOfApps line status old.outside.dir new.outside.dir
strays now draw old new status None told e conforming is = by e
  where
    by : RunsNoCommand Usage old new status ⊎ RunsNoCommand NoMemory old new status → ⊥
    by (inl x) = let n : 20 ≡ 1 = sym is ∙ x.is in absurd (omega (arith, n))
    by (inr x) = let n : 20 ≡ 14 = sym is ∙ x.is in absurd (omega (arith, n))
strays now draw old new status (Some line) told e conforming is = by e
  where
    by : OfPod line draw (λ task. Ends task now draw status old new) ⊎ RefusedBeforeItsPod line now draw old new status → MeetsApp (Some line) old.outside.dir new.outside.dir
    by (inl x) = meets now draw status old new told conforming is line x.0 x.2
    by (inr c) = absurd (came_stray line now draw old new status c is)
