-- What a caller is told of a run, by the objects that it handed in, before and after.
use Rattle.std.specs.Prelude.{ℕ, Option}
use Rattle.dir_model.specs.declared.intent.Draw.{Draw}
use Rattle.dir_trait.specs.declared.dir.Dir.{Ghosts as DirGhosts}
use Rattle.dir_trait.specs.declared.bundle.Bundle.{Ghosts as BundleGhosts}
use Rattle.dir_trait.specs.declared.sink.Sink.{Ghosts as SinkGhosts}
use Rattle.spawner.specs.declared.spawning.Spawner.{Ghosts as SpawnerGhosts}
use Rattle.rkt_cli.specs.declared.line.Line.{Line}
use Rattle.command_outcomes.specs.Moments.{moment_at}
use Rattle.rkt_cli.specs.Phases.{NamesPhases}
use Rattle.rkt_cli.specs.Promises.{IsEnded, TellsIn, AnswersQuietly, IsRunOf}

-- how it ended: done, or refused, and why
abbrev pub EndedBetween : {D B S O E : Type 0} → DirGhosts D → BundleGhosts B → SpawnerGhosts S → SinkGhosts O → SinkGhosts E → Option Line → ℕ → Draw → ℕ → D × B × S × O × E → D × B × S × O × E → Type 0
EndedBetween d b s o e line now draw status old new = IsEnded line now draw status (moment_at d b s o e old) (moment_at d b s o e new)

-- what it tells with its status
abbrev pub ToldBetween : {D B S O E : Type 0} → DirGhosts D → BundleGhosts B → SpawnerGhosts S → SinkGhosts O → SinkGhosts E → Option Line → ℕ → Draw → ℕ → D × B × S × O × E → D × B × S × O × E → Type 0
ToldBetween d b s o e line now draw status old new = TellsIn line now draw status (moment_at d b s o e old) (moment_at d b s o e new)

-- the phases of pods that it names
abbrev pub PhasesBetween : {D B S O E : Type 0} → DirGhosts D → BundleGhosts B → SpawnerGhosts S → SinkGhosts O → SinkGhosts E → Option Line → ℕ → Draw → ℕ → D × B × S × O × E → D × B × S × O × E → Type 0
PhasesBetween d b s o e line now draw status old new = NamesPhases line now draw status (moment_at d b s o e old) (moment_at d b s o e new)

-- its answer where nobody else steps and nothing fails
abbrev pub QuietBetween : {D B S O E : Type 0} → DirGhosts D → BundleGhosts B → SpawnerGhosts S → SinkGhosts O → SinkGhosts E → Option Line → ℕ → Draw → ℕ → D × B × S × O × E → D × B × S × O × E → Type 0
QuietBetween d b s o e line now draw status old new = AnswersQuietly line now draw status (moment_at d b s o e old) (moment_at d b s o e new)

-- the run itself, from which the others follow
abbrev pub RunBetween : {D B S O E : Type 0} → DirGhosts D → BundleGhosts B → SpawnerGhosts S → SinkGhosts O → SinkGhosts E → Option Line → ℕ → Draw → ℕ → D × B × S × O × E → D × B × S × O × E → Type 0
RunBetween d b s o e line now draw status old new = IsRunOf line now draw (moment_at d b s o e old) (moment_at d b s o e new) status
