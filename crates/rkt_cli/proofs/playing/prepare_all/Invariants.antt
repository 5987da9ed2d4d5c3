use Rattle.std.proofs.Common.{◌≡◌}
use Rattle.dir_trait.specs.Local.{nothing_local}
use Rattle.rkt_cli.specs.Plays.{Plays}
use Rattle.rkt_cli.specs.Turns.{prepare_turns}
use Rattle.rkt_cli.proofs.playing.prepare_all.Given as goal

abbrev pub invariant-pods : goal.invariant-pods
invariant-pods l = record { fresh : l.current.dir.local ≡ nothing_local; plays : Plays (prepare_turns l.pod) l.fn.stage l.current }
