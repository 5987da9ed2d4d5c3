-- What the commands do that start apps, between their begin and their finish.
use Rattle.std.specs.Prelude.{◌≡◌, ℕ, true, Option, Some, None}
use Rattle.dir_model.specs.declared.intent.Draw.{Draw}
use Rattle.dir_model.specs.declared.intent.Intent.{Intent}
use Rattle.rkt_cli.specs.Tasks.{Task}
use Rattle.command_outcomes.specs.Moments.{Inside, Answer, is_well}
use Rattle.commands.specs.AppsTold.{CameOrNeverBegan}
use Rattle.rkt_cli.specs.Commands.{approach_in, asks, TellsOfItsApps}

-- what a command told of a pod and its apps, by a process that began with this intent, or by none
abbrev pub AppsToldBetween : Task → ℕ → Draw → Option Intent → Inside → Inside → Answer → Type 0
AppsToldBetween task now draw None old new answer = is_well answer ≡ true
AppsToldBetween task now draw (Some intent) old new answer = CameOrNeverBegan (approach_in task) (asks task now draw) (TellsOfItsApps task now draw) intent old new answer
