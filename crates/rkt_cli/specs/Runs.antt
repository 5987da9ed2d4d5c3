-- A run of the program, whatever the command is.
use Rattle.std.specs.Prelude.{◌≡◌, ◌≢◌, ◌⊎◌, ◌≤◌, ℕ, Bool, true, false, List, [], ◌++◌, Option, Some, None, Result, Ok, Err, IsErrOf, IfErr}
use Rattle.dir_model.specs.declared.intent.Draw.{Draw}
use Rattle.dir_model.specs.declared.intent.Intent.{Intent}
use Rattle.dir_model.specs.declared.request.DirError.TheVariants as dir_error
use Rattle.dir_model.specs.declared.request.Request.TheVariants.{Begin, Finish}
use Rattle.dir_model.specs.declared.request.Reply.TheVariants.{Done, Refused}
use Rattle.dir_trait.specs.Causes.{Rose}
use Rattle.dir_trait.specs.Calls.{Extends, CallStep}
use Rattle.dir_trait.specs.Knowledge.{Knows}
use Rattle.dir_trait.specs.Local.{Local}
use Rattle.dir_trait.specs.Sinks.{WritesPart}
use Rattle.rkt_cli.specs.Tasks.{Task, MeansItsPod, FindsItsPod}
use Rattle.command_outcomes.specs.declared.refusal.Refusal.{Refusal}
use Rattle.command_outcomes.specs.declared.refusal.Refusal.TheVariants.{DirFault, BundleFault, SpawnFault, OutFault, NoMemory}
use Rattle.command_outcomes.specs.Texts.{exit_status_of}
use Rattle.command_outcomes.specs.Conforming.{seen_at_begin as just_begun, StaysConforming}
use Rattle.command_outcomes.specs.Moments.{Outside, Moment, SinkSeen, CommandOutcome, Answer, outcome_of}
use Rattle.commands.specs.Answers.{inside_in, Complained}
use Rattle.commands.specs.AppsTold.{TellsApps}
use Rattle.commands.specs.Command.{Saying, alone, running}
use Rattle.commands.specs.Opening.{Opens}
use Rattle.rkt_cli.specs.Spawns.{AppsToldBetween}
use Rattle.rkt_cli.specs.Commands.{command_in, uses_dir, runs_apps, intent_of, approach_in, asks, may, CommandSays, ReadsOnly}

-- what a command leaves and answers, whichever it is
pub record CommandRan (task : Task) (now : ℕ) (draw : Draw) (old new : Outside) (o : CommandOutcome) : Type 0 where
  pub same : new.dir.process ≡ old.dir.process
  pub local : new.dir.local ≡ old.dir.local
  pub faults : old.dir.faults ≤ new.dir.faults
  pub cause : IsErrOf o DirFault → Rose old.dir.faults new.dir.faults
  pub bundle_faults : old.bundle.faults ≤ new.bundle.faults
  pub bundle_cause : IsErrOf o BundleFault → Rose old.bundle.faults new.bundle.faults
  pub refusals : IfErr o (λ r. may task r ≡ true)
  pub extends : old.observed ≡ true → Extends (asks task now draw) old.dir.process old.dir.trace new.dir.trace
  pub reads : ReadsOnly task old.bundle new.bundle
  pub says : CommandSays task now draw old new o

-- what a process knows when it has begun so, and when it has finished
abbrev pub begun_local : Intent → Local
begun_local intent = record { intent = Some intent; finished = false; holdings = [] }

abbrev pub ended_local : Intent → Local
ended_local intent = record { intent = Some intent; finished = true; holdings = [] }

-- the process began and came to its pod, the command ran, and the process finished
pub record InProcess (task : Task) (now : ℕ) (draw : Draw) (intent : Intent) (old new : Outside) (o : CommandOutcome) : Type 0 where
  pub uses : uses_dir task ≡ true
  pub begun : Outside
  pub ended : Outside
  pub told : begun.observed ≡ old.observed
  pub me : begun.dir.process ≡ old.dir.process
  pub risen : old.dir.faults ≤ begun.dir.faults
  pub started : begun.dir.local ≡ begun_local intent
  pub meant : MeansItsPod task
  pub begins : old.observed ≡ true → Opens (approach_in task) intent old.dir.process old.dir.trace begun.dir.trace
  pub found : (t : old.observed ≡ true) → FindsItsPod task old.dir.process (begins t).first begun.dir.trace
  pub knows : old.observed ≡ true → Knows begun.dir (just_begun intent)
  pub bundle_before : begun.bundle ≡ old.bundle
  pub ran : CommandRan task now draw begun ended o
  pub keeps : old.observed ≡ true → StaysConforming intent begun.dir ended.dir
  pub finishes : old.observed ≡ true → CallStep ended.dir.process ended.dir.trace Finish Done new.dir.trace
  pub faults : new.dir.faults ≡ ended.dir.faults
  pub same : new.dir.process ≡ ended.dir.process
  pub local : new.dir.local ≡ ended_local intent
  pub bundle_after : new.bundle ≡ ended.bundle

-- it couldn't begin, and called nothing more
pub record NeverBegan (intent : Intent) (old new : Outside) (o : CommandOutcome) : Type 0 where
  pub is : o ≡ Err NoMemory
  pub same : new.dir.process ≡ old.dir.process
  pub local : new.dir.local ≡ old.dir.local
  pub faults : old.dir.faults ≤ new.dir.faults
  pub step : old.observed ≡ true → CallStep old.dir.process old.dir.trace (Begin intent) (Refused dir_error.NoMemory 0) new.dir.trace
  pub bundle : new.bundle ≡ old.bundle

-- the command ran, and made no call on the directory
pub record Apart (task : Task) (now : ℕ) (draw : Draw) (old new : Outside) (o : CommandOutcome) : Type 0 where
  pub apart : uses_dir task ≡ false
  pub dir : new.dir ≡ old.dir
  pub ran : CommandRan task now draw old new o

abbrev pub Performs : Task → ℕ → Draw → Option Intent → Outside → Outside → CommandOutcome → Type 0
Performs task now draw None old new o = Apart task now draw old new o
Performs task now draw (Some intent) old new o = InProcess task now draw intent old new o ⊎ NeverBegan intent old new o

-- how a run ended
abbrev pub End : Type 0
End = Result (Unit {0}) Refusal

abbrev pub end_status : End → ℕ
end_status (Ok done) = 0
end_status (Err refusal) = exit_status_of refusal

-- the same, with whether all went well where the text was written; and then the status
abbrev pub end_of_writing : Result Bool Refusal → End
end_of_writing (Ok well) = Ok tt
end_of_writing (Err refusal) = Err refusal

abbrev pub status_at : Result Bool Refusal → ℕ
status_at (Ok true) = 0
status_at (Ok false) = 16
status_at (Err refusal) = exit_status_of refusal

-- why a text wasn't written whole
abbrev pub Unwritten : Refusal → SinkSeen → SinkSeen → Type 0
Unwritten refusal old new = ((refusal ≡ OutFault) × Rose old.faults new.faults) ⊎ ((refusal ≡ NoMemory) × Rose old.shortages new.shortages)

-- the outcome's text was written to the output, or why not
pub record Printed (o : CommandOutcome) (old new : SinkSeen) (end : End) : Type 0 where
  pub faults : old.faults ≤ new.faults
  pub done : end ≡ Ok tt → (text : List ℕ) × (o ≡ Ok text) × (old.observed ≡ true → new.bytes ≡ old.bytes ++ text)
  pub refused : IfErr o (λ r. (end ≡ Err r) × (old.observed ≡ true → new.bytes ≡ old.bytes))
  pub part : (text : List ℕ) → o ≡ Ok text → old.observed ≡ true → WritesPart old.bytes text new.bytes
  pub cause : (text : List ℕ) → o ≡ Ok text → IfErr end (λ r. Unwritten r old new)

-- nothing is said of a command that was done
abbrev pub Reported : End → SinkSeen → SinkSeen → Type 0
Reported (Ok done) old new = new ≡ old
Reported (Err refusal) old new = Complained refusal old new

-- the words are a command, and it ran
pub record RunOfLine (task : Task) (now : ℕ) (draw : Draw) (intent : Option Intent) (old new : Moment) (status : ℕ) : Type 0 where
  pub answer : Answer
  pub outcome : CommandOutcome
  pub outcome_is : outcome ≡ outcome_of answer
  pub came : AppsToldBetween task now draw intent (inside_in old) (inside_in new) answer
  pub spawn_cause : outcome ≡ Err SpawnFault → Rose old.spawner.shown.faults new.spawner.shown.faults
  pub end : End
  pub performs : Performs task now draw intent old.outside new.outside outcome
  pub printed : Printed outcome old.out new.out end
  pub reported : Reported end old.err new.err
  pub is : status ≡ end_status end

-- no command ran, for this reason: nothing but the error output was called
pub record RunsNoCommand (reason : Refusal) (old new : Moment) (status : ℕ) : Type 0 where
  pub is : status ≡ exit_status_of reason
  pub outside : new.outside ≡ old.outside
  pub spawner : new.spawner ≡ old.spawner
  pub out : new.out ≡ old.out
  pub reported : Complained reason old.err new.err

-- a task is run, but where memory ran out before
abbrev pub RunsTaskOrNothing : Task → ℕ → Draw → Moment → Moment → ℕ → Type 0
RunsTaskOrNothing task now draw old new status = RunOfLine task now draw (intent_of task now draw) old new status ⊎ RunsNoCommand NoMemory old new status

-- how the apps ran of a command that starts some. No other has status 16
abbrev pub AppsOf : Saying → (Answer → Type 0) → ℕ → Moment → Moment → Type 0
AppsOf (alone says) came status old new = status ≢ 16
AppsOf (running says) came status old new = TellsApps came status old new

abbrev pub AppsIn : Task → ℕ → Draw → ℕ → Moment → Moment → Type 0
AppsIn task now draw status old new = AppsOf (command_in task).says (AppsToldBetween task now draw (intent_of task now draw) (inside_in old) (inside_in new)) status old new

-- the status of the run as if all apps had ended with 0, and then its own
abbrev pub IsStatusWithApps : Task → ℕ → ℕ → Type 0
IsStatusWithApps task plain status = (status ≡ plain) ⊎ ((status ≡ 16) × (plain ≡ 0) × (runs_apps task ≡ true))

-- a run of this task
pub record IsRunOfTask (task : Task) (now : ℕ) (draw : Draw) (old new : Moment) (status : ℕ) : Type 0 where
  pub plain : ℕ
  pub ran : RunsTaskOrNothing task now draw old new plain
  pub is : IsStatusWithApps task plain status
  pub apps : AppsIn task now draw status old new
