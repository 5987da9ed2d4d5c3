-- The phases of pods that a run names: whatever the command, each was the pod's while it ran.
use Rattle.std.specs.Prelude.{◌≡◌, ◌⊎◌, ℕ, true, Option, Some, None, Ok, Err}
use Rattle.dir_model.specs.declared.area.Phase.{Phase}
use Rattle.dir_model.specs.declared.intent.Draw.{Draw}
use Rattle.dir_model.specs.declared.pod.PodId.{PodId}
use Rattle.command_outcomes.specs.declared.refusal.Refusal.{Refusal}
use Rattle.command_outcomes.specs.Moments.{Moment}
use Rattle.command_outcomes.specs.Texts.{exit_status_of}
use Rattle.commands.specs.Answers.{Complained}
use Rattle.commands.specs.Command.{Command, starts_any, WhereAllKeepRules}
use Rattle.commands.specs.Phases.{HadPhase}
use Rattle.rkt_cli.specs.declared.line.Line.{Line}
use Rattle.rkt_cli.specs.Commands.{command_in}
use Rattle.rkt_cli.specs.Lookups.{OfPod, RefusedBeforeItsPod}
use Rattle.rkt_cli.specs.Promises.{DoneWith, EndsUnread, WritesItsText}

-- by its history the pod had this phase at an own event of the run
abbrev pub HadIn : Moment → Moment → PodId → Phase → Type 0
HadIn old new = HadPhase old.outside.dir.process old.outside.dir.trace new.outside.dir.trace

-- it was refused, and each phase that the refusal names was so
pub record NamesRefused (c : Command) (status : ℕ) (old new : Moment) : Type 0 where
  pub refusal : Refusal
  pub is : status ≡ exit_status_of refusal
  pub said : Complained refusal old.err new.err
  pub so : c.names (Err refusal) (HadIn old new)

-- each phase that a command names, in the text that it wrote or wrote a part of, or in its refusal, was the pod's at an own event
pub record NamesTruePhases (c : Command) (status : ℕ) (old new : Moment) : Type 0 where
  pub written : old.out.observed ≡ true → WritesItsText (starts_any c.says) (λ text. c.names (Ok text) (HadIn old new)) status old.out.bytes new.out.bytes
  pub refused : DoneWith (starts_any c.says) status ⊎ NamesRefused c status old new

-- so of the line's command, where every process keeps the local rules; or it came to none, and named no phase
abbrev pub NamesPhases : Option Line → ℕ → Draw → ℕ → Moment → Moment → Type 0
NamesPhases None now draw status old new = EndsUnread status old new
NamesPhases (Some line) now draw status old new =
    OfPod line draw (λ task. WhereAllKeepRules old new (NamesTruePhases (command_in task) status old new)) ⊎ RefusedBeforeItsPod line now draw old new status
