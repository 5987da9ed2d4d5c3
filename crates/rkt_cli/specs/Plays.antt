-- What is promised of the demo: its commands were performed, each in a process of its own, on a data folder in memory that was empty.
use Rattle.std.specs.Prelude.{◌≡◌, ℕ, ◌+◌, ◌==◌, Bool, true, false, if◌then◌else◌, List, [], ◌∷◌, Ok, None}
use Rattle.std.specs.List.{count_by}
use Rattle.dir_model.specs.Local.{nothing_local}
use Rattle.command_outcomes.specs.declared.told.Told.{Told}
use Rattle.command_outcomes.specs.Moments.{BundleSeen, Outside, SpawnerSeen}
use Rattle.dir_memory.specs.Memories.{Memory, passed_on, dir_of_memory}
use Rattle.dir_memory.specs.MemoryBundles as bundles
use Rattle.dir_memory.specs.MemoryBundles.{BundleMemory}
use Rattle.memory_spawner.specs.SpawnerMemories as spawners
use Rattle.memory_spawner.specs.SpawnerMemories.{SpawnerMemory}
use Rattle.demo_line.specs.Numbers.{numbers_line}
use Rattle.demo_tally.specs.Tallies.{tally_of}
use Rattle.rkt_cli.specs.declared.stage.Stage.{Stage}
use Rattle.rkt_cli.specs.declared.turn.Turn.{Turn}
use Rattle.rkt_cli.specs.Lookups.{Acts}
use Rattle.rkt_cli.specs.Turns.{turns}

-- what is seen of a bundle in memory, of a folder with one, and of a spawner
abbrev pub bundle_seen : BundleMemory → BundleSeen
bundle_seen b = record { observed = true; tree = (bundles.bundle_of_memory b).tree; faults = (bundles.bundle_of_memory b).faults; given = (bundles.bundle_of_memory b).given; asked = (bundles.bundle_of_memory b).asked }

abbrev pub outside_of : Memory → BundleMemory → Outside
outside_of dir bundle = record { observed = true; dir = dir_of_memory dir; bundle = bundle_seen bundle }

abbrev pub spawner_seen : SpawnerMemory → SpawnerSeen
spawner_seen s = record { observed = true; shown = spawners.spawner_of_memory s }

-- what a command told: one more failed where not all went well, and so many lines its text has
abbrev pub failed_after : ℕ → Bool → ℕ
failed_after failed well = failed + (if well then 0 else 1)

abbrev pub count_of_lines : List ℕ → ℕ
count_of_lines text = count_by (λ b. b == 10) text

-- it is noted what was told, and the folder is passed on to the next process
pub record HasPassedOn (told : Told) (old new : Stage) : Type 0 where
  pub process : ℕ
  pub dir : new.dir ≡ passed_on old.dir process
  pub failed : new.failed ≡ failed_after old.failed told.well
  pub lines : new.lines ≡ count_of_lines told.text

-- the command was performed between two moments, and done
pub record TurnWasPlayed (turn : Turn) (old new : Stage) : Type 0 where
  pub told : Told
  pub dir : Memory
  pub bundle : BundleMemory
  pub spawner : SpawnerMemory
  pub acts : Acts turn.line turn.now turn.draw (outside_of old.dir turn.bundle) (outside_of dir bundle) (spawner_seen turn.spawner) (spawner_seen spawner) (Ok told)
  pub passed : HasPassedOn told (record old { dir = dir }) new

-- each of the commands in turn, on what those before it left
abbrev pub Plays : List Turn → Stage → Stage → Type 0
Plays [] old new = new ≡ old
Plays (turn ∷ turns) old new = (mid : Stage) × TurnWasPlayed turn old mid × Plays turns mid new

-- an empty data folder, on which no process began
abbrev pub empty_stage : Stage
empty_stage = record {
  dir = record { trace = []; process = 0; faults = 0; calls = 0; numbered = 0; local = nothing_local; pending = []; failing = []; stop = None; killed = false };
  failed = 0;
  lines = 0;
}

-- the text tells what the history shows, and what the commands told, of a demo of so many images that was played
abbrev pub TellsPlayed : ℕ → List ℕ → Type 0
TellsPlayed count text = (stage : Stage) × Plays (turns count) empty_stage stage × (text ≡ numbers_line (tally_of stage.dir.trace stage.failed stage.lines))
