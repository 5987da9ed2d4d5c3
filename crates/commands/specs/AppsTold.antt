-- What a process that starts apps tells of itself, as a whole.
use Rattle.std.specs.Prelude.{◌≡◌, ◌⊎◌, ℕ, Bool, true, false, ◌++◌, Ok, Err}
use Rattle.dir_model.specs.declared.intent.Intent.{Intent}
use Rattle.dir_model.specs.declared.request.Request.{Request}
use Rattle.dir_model.specs.declared.request.Request.TheVariants.{Finish}
use Rattle.dir_model.specs.declared.request.Reply.TheVariants.{Done}
use Rattle.dir_trait.specs.Calls.{Extends, CallStep}
use Rattle.dir_trait.specs.Knowledge.{Knows}
use Rattle.dir_trait.specs.DirCalls.{DirAt}
use Rattle.command_outcomes.specs.declared.refusal.Refusal.{Refusal}
use Rattle.command_outcomes.specs.declared.refusal.Refusal.TheVariants.{NoMemory}
use Rattle.command_outcomes.specs.declared.told.Told.{Told}
use Rattle.command_outcomes.specs.Texts.{exit_status_of}
use Rattle.command_outcomes.specs.Moments.{SpawnerSeen, Inside, Moment, Answer}
use Rattle.command_outcomes.specs.Conforming.{seen_at_begin as just_begun}
use Rattle.commands.specs.Answers.{Complained, inside_in}
use Rattle.commands.specs.Opening.{Approach, Opens}

abbrev pub inside : Bool → DirAt → SpawnerSeen → Inside
inside observed dir spawner = record { observed = observed; dir = dir; spawner = spawner }

-- the process began and came to its pod, then this was so, and it finished
pub record WithinProcess (approach : Approach) (asks : Request → Bool) (P : Inside → Inside → Type 0) (intent : Intent) (old new : Inside) : Type 0 where
  pub begun : DirAt
  pub ended : DirAt
  pub me : begun.process ≡ old.dir.process
  pub begins : old.observed ≡ true → Opens approach intent old.dir.process old.dir.trace begun.trace
  pub came : P (inside old.observed begun old.spawner) (inside old.observed ended new.spawner)
  pub knows : old.observed ≡ true → Knows begun (just_begun intent)
  pub same : ended.process ≡ begun.process
  pub extends : old.observed ≡ true → Extends asks begun.process begun.trace ended.trace
  pub finishes : old.observed ≡ true → CallStep ended.process ended.trace Finish Done new.dir.trace

-- or it couldn't begin
abbrev pub CameOrNeverBegan : Approach → (Request → Bool) → (Inside → Inside → Answer → Type 0) → Intent → Inside → Inside → Answer → Type 0
CameOrNeverBegan approach asks came intent old new answer = WithinProcess approach asks (λ a b. came a b answer) intent old new ⊎ ((answer ≡ Err NoMemory) × (new.spawner ≡ old.spawner))

-- 0 where all apps ended with 0, and else 16
abbrev pub well_status : Bool → ℕ
well_status true = 0
well_status false = 16

-- what was told of the pod and its apps was written, and with status 0 each app ended with 0, with 16 some didn't; with 12 and 14 it
-- may not have been written; or this refusal was said. Each with what it rests on. Or nothing was called
abbrev pub TellsApps : (Answer → Type 0) → ℕ → Moment → Moment → Type 0
TellsApps came status old new =
    ((told : Told) × (status ≡ well_status told.well) × came (Ok told) × (old.out.observed ≡ true → new.out.bytes ≡ old.out.bytes ++ told.text))
    ⊎ ((told : Told) × ((status ≡ 12) ⊎ (status ≡ 14)) × came (Ok told))
    ⊎ ((refusal : Refusal) × (status ≡ exit_status_of refusal) × came (Err refusal) × Complained refusal old.err new.err)
    ⊎ ((status ≡ 14) × (inside_in new ≡ inside_in old))
