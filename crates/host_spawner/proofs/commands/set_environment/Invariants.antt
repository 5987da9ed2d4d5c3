use Rattle.std.proofs.Common.{◌≡◌, ℕ, List, true, take}
use Rattle.std.specs.Process.{command_var, clears_env, SameProgramAndArgs}
use Rattle.host_spawner.specs.Programs.{last_variable_value}
use Rattle.host_spawner.proofs.commands.set_environment.Given as goal

abbrev pub invariant-variables : goal.invariant-variables
invariant-variables l =
    ((name : List ℕ) → command_var l.command name ≡ last_variable_value (take l.place l.env) name)
    × (clears_env l.command ≡ true)
    × SameProgramAndArgs l.fn.command l.command
