-- Each phase that a run names was the pod's at an own event of it.
use Rattle.std.proofs.Common.{◌≡◌, inl, inr, ℕ, true, List, Option, Some, None, Ok, Err, refl}
use Rattle.dir_model.specs.declared.intent.Draw.{Draw}
use Rattle.lifecycle.specs.Executions.{IsConforming}
use Rattle.command_outcomes.specs.declared.refusal.Refusal.{Refusal}
use Rattle.command_outcomes.specs.declared.refusal.Refusal.TheVariants.{WrongPhase}
use Rattle.command_outcomes.specs.Moments.{Moment}
use Rattle.commands.specs.Gc.{times_of}
use Rattle.commands.specs.PodList.{list_report}
use Rattle.commands.specs.Status.{status_report}
use Rattle.commands.proofs.NamedPhases.{claim_named, lines_named, removal_named, status_named, sweep_named}
use Rattle.commands.proofs.ReportsKept.{lines_wider, status_wider}
use Rattle.rkt_cli.specs.declared.line.Line.{Line}
use Rattle.rkt_cli.specs.Commands.{command_in, intent_of}
use Rattle.rkt_cli.specs.Phases.{HadIn, NamesPhases, NamesTruePhases}
use Rattle.rkt_cli.specs.Promises.{IsRunOf, RefusedFor}
use Rattle.rkt_cli.specs.Runs.{Performs, IsRunOfTask}
use Rattle.rkt_cli.specs.Tasks.{Task, Status, PodList, CatManifest, Validate, ImageList, ImageImport, ImageRm, ImageGc, Prepare, RunPrepared, Run, Rm, Gc, Metadata, Demo}
use Rattle.rkt_cli.proofs.PodRemovals.{gc_done}
use Rattle.rkt_cli.proofs.Promises.{ended, output_as}
use Rattle.rkt_cli.proofs.Reported.{report_told}

module _ (now : ℕ) (draw : Draw) (old new : Moment) (t : old.outside.observed ≡ true) (conforming : IsConforming new.outside.dir.trace) where
  -- in the text that it comes to
  text_named : (task : Task) (text : List ℕ) → Performs task now draw (intent_of task now draw) old.outside new.outside (Ok text) → (command_in task).names (Ok text) (HadIn old new)
  text_named (Status word pod) text p =
      status_named pod old.outside.dir.process old.outside.dir.trace new.outside.dir.trace text
      (report_told (status_report pod) (Status word pod) now draw old.outside new.outside refl (Ok text) refl (λ me a b c d earlier later begins ends. status_wider me a b c d earlier later begins ends pod) (λ i s. s.ran.says) (intent_of (Status word pod) now draw) p t conforming)
  text_named PodList text p =
      lines_named old.outside.dir.process old.outside.dir.trace new.outside.dir.trace text
      (report_told list_report PodList now draw old.outside new.outside refl (Ok text) refl lines_wider (λ i s. s.ran.says) (intent_of PodList now draw) p t conforming)
  text_named (Gc grace expire) text p = sweep_named (times_of now grace expire) old.outside.dir new.outside.dir text (gc_done now draw old.outside new.outside text p t) conforming
  text_named (CatManifest word pod) text p = tt
  text_named (Validate path) text p = tt
  text_named ImageList text p = tt
  text_named (ImageImport path) text p = tt
  text_named (ImageRm key) text p = tt
  text_named ImageGc text p = tt
  text_named (Prepare wants) text p = tt
  text_named (RunPrepared word pod address) text p = tt
  text_named (Run wants address) text p = tt
  text_named (Rm word pod) text p = tt
  text_named (Metadata address count) text p = tt
  text_named (Demo count) text p = tt

  -- in its refusal
  refusal_named : (task : Task) (r : Refusal) → RefusedFor (command_in task) now draw r old new → (command_in task).names (Err r) (HadIn old new)
  refusal_named (Rm word pod) (WrongPhase phase) cause = removal_named pod phase old.outside.dir new.outside.dir (cause t) conforming
  refusal_named (Rm word pod) r cause = tt
  refusal_named (RunPrepared word pod address) (WrongPhase phase) cause = claim_named pod phase address cause.why t conforming
  refusal_named (RunPrepared word pod address) r cause = tt
  refusal_named (Status word pod) r cause = tt
  refusal_named PodList r cause = tt
  refusal_named (CatManifest word pod) r cause = tt
  refusal_named (Validate path) r cause = tt
  refusal_named ImageList r cause = tt
  refusal_named (ImageImport path) r cause = tt
  refusal_named (ImageRm key) r cause = tt
  refusal_named ImageGc r cause = tt
  refusal_named (Prepare wants) r cause = tt
  refusal_named (Run wants address) r cause = tt
  refusal_named (Gc grace expire) r cause = tt
  refusal_named (Metadata address count) r cause = tt
  refusal_named (Demo count) r cause = tt

  named : {task : Task} {status : ℕ} → IsRunOfTask task now draw old new status → NamesTruePhases (command_in task) status old new
  named {task} {status} run = record {
    written = output_as run (λ text. (command_in task).names (Ok text) (HadIn old new)) (text_named task);
    refused = elim (ended run) [
      | inl done ↦ inl done.0
      | inr x ↦ inr (record { refusal = x.refusal; is = x.is; said = x.said; so = refusal_named task x.refusal x.cause })
    ];
  }

pub phases : (now : ℕ) (draw : Draw) (old new : Moment) (status : ℕ) (l : Option Line) → IsRunOf l now draw old new status → NamesPhases l now draw status old new
phases now draw old new status None run = run
phases now draw old new status (Some l) (inl x) = inl (x.0, x.1, λ t conforming. named now draw old new t conforming x.2)
phases now draw old new status (Some l) (inr n) = inr n
