use Rattle.std.proofs.Common.{◌≡◌, ◌++◌, drop}
use Rattle.std.specs.Process.{command_program, command_args}
use Rattle.host_spawner.proofs.commands.add_words.Given as goal

abbrev pub invariant-words : goal.invariant-words
invariant-words l =
    (command_args l.command ++ drop l.place l.argv ≡ command_args l.fn.command ++ drop 1 l.argv)
    × (command_program l.command ≡ command_program l.fn.command)
