-- What the outside shows at a moment.
use Rattle.std.specs.Prelude.{ℕ, Bool, true, List, Result, Ok, Err}
use Rattle.dir_trait.specs.declared.dir.Dir.{Ghosts as DirGhosts}
use Rattle.dir_trait.specs.declared.bundle.Bundle.{Ghosts as BundleGhosts}
use Rattle.dir_trait.specs.declared.bundle.BundleRequest.{BundleRequest}
use Rattle.dir_trait.specs.declared.sink.Sink.{Ghosts as SinkGhosts}
use Rattle.dir_trait.specs.Bundles.{BundleTree}
use Rattle.spawner.specs.declared.spawning.Spawner.{Ghosts as SpawnerGhosts}
use Rattle.spawner.specs.Calls.{SpawnerAt}
use Rattle.dir_trait.specs.DirCalls.{DirAt}
use Rattle.command_outcomes.specs.declared.refusal.Refusal.{Refusal}
use Rattle.command_outcomes.specs.declared.told.Told.{Told}

-- a bundle
pub record BundleSeen : Type 0 where
  pub observed : Bool
  pub tree : BundleTree
  pub faults : ℕ
  pub given : ℕ
  pub asked : List BundleRequest

abbrev pub bundle_at : {B : Type 0} → BundleGhosts B → B → BundleSeen
bundle_at g bundle = record { observed = g.observed; tree = (g.shown bundle).tree; faults = (g.shown bundle).faults; given = (g.shown bundle).given; asked = (g.shown bundle).asked }

-- a sink
pub record SinkSeen : Type 0 where
  pub observed : Bool
  pub bytes : List ℕ
  pub faults : ℕ
  pub shortages : ℕ

abbrev pub sink_at : {S : Type 0} → SinkGhosts S → S → SinkSeen
sink_at g sink = record { observed = g.observed; bytes = (g.shown sink).bytes; faults = (g.shown sink).faults; shortages = (g.shown sink).shortages }

-- what a command works on
pub record Outside : Type 0 where
  pub observed : Bool
  pub dir : DirAt
  pub bundle : BundleSeen

abbrev pub outside_at : {D B : Type 0} → DirGhosts D → BundleGhosts B → D → B → Outside
outside_at d b dir bundle = record { observed = d.observed; dir = d.shown dir; bundle = bundle_at b bundle }

-- a spawner
pub record SpawnerSeen : Type 0 where
  pub observed : Bool
  pub shown : SpawnerAt

abbrev pub spawner_at : {S : Type 0} → SpawnerGhosts S → S → SpawnerSeen
spawner_at g spawner = record { observed = g.observed; shown = g.shown spawner }

-- what a command works on that starts apps
pub record Inside : Type 0 where
  pub observed : Bool
  pub dir : DirAt
  pub spawner : SpawnerSeen

abbrev pub inside_at : {D S : Type 0} → DirGhosts D → SpawnerGhosts S → D → S → Inside
inside_at d s dir spawner = record { observed = d.observed; dir = d.shown dir; spawner = spawner_at s spawner }

-- what a run works on: that, the spawner, the output and the error output
pub record Moment : Type 0 where
  pub outside : Outside
  pub spawner : SpawnerSeen
  pub out : SinkSeen
  pub err : SinkSeen

abbrev pub moment_at : {D B S O E : Type 0} → DirGhosts D → BundleGhosts B → SpawnerGhosts S → SinkGhosts O → SinkGhosts E → D × B × S × O × E → Moment
moment_at d b s o e all = record { outside = outside_at d b all.0 all.1; spawner = spawner_at s all.2; out = sink_at o all.3; err = sink_at e all.4 }

-- the text that a command prints, or why it prints none
abbrev pub CommandOutcome : Type 0
CommandOutcome = Result (List ℕ) Refusal

-- the same of a command that may run apps: what it tells, or why nothing
abbrev pub Answer : Type 0
Answer = Result Told Refusal

abbrev pub outcome_of : Answer → CommandOutcome
outcome_of (Ok told) = Ok told.text
outcome_of (Err refusal) = Err refusal

abbrev pub is_well : Answer → Bool
is_well (Ok told) = told.well
is_well (Err refusal) = true
