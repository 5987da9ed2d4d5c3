-- `validate FILE`, as a whole run of it.
use Rattle.std.specs.Prelude.{◌≡◌, ◌⊎◌, ℕ, true, false, List, None, Err, IsOk}
use Rattle.manifests.specs.DocumentData.{DocumentData}
use Rattle.command_outcomes.specs.Ends.{is_own_end}
use Rattle.command_outcomes.specs.Moments.{Moment}
use Rattle.commands.specs.Answers.{IsAnswer}
use Rattle.commands.specs.Opening.{directly}
use Rattle.commands.specs.Phases.{names_none}
use Rattle.commands.specs.Command.{Command, reading, alone}
use Rattle.commands.specs.Texts.{valid_text}
use Rattle.commands.specs.Validate.{validate_refusal, ValidateSays, ReadsFileAlone, sequential_validate}

-- it answers as the bundle's file is to be judged; or the bundle failed, the line wasn't written or memory ran out
abbrev pub TellsJudgement : List ℕ → ℕ → Moment → Moment → Type 0
TellsJudgement path status old new =
    old.outside.bundle.observed ≡ true →
    (status ≡ 10)
    ⊎ (status ≡ 14)
    ⊎ ((status ≡ 12) × IsOk (sequential_validate path old.outside.bundle.tree))
    ⊎ IsAnswer (sequential_validate path old.outside.bundle.tree) status old new

-- it reads the file's first bytes, and works on no directory
abbrev pub validate_command : List ℕ → Command
validate_command path = record {
  begins = None;
  approach = directly;
  asks = λ now draw request. false;
  reads = reading (ReadsFileAlone path);
  prints = λ draw bundle text. (manifest : DocumentData) × (text ≡ valid_text manifest);
  refusals = validate_refusal;
  refused_for = λ now draw refusal old new. (validate_refusal refusal ≡ true) × ValidateSays path old.outside.bundle (Err refusal);
  names = names_none;
  tells = λ now draw status old new. TellsJudgement path status old new;
  quiet = λ now draw old new o. o ≡ sequential_validate path old.outside.bundle.tree;
  leaves = λ me draw old new. new ≡ old;
  says = alone (λ now draw old new o. is_own_end o ≡ true → ValidateSays path old.bundle o);
}
