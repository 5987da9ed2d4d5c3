use Rattle.std.proofs.Common.{◌≡◌}
use Rattle.dir_trait.specs.Local.{nothing_local}
use Rattle.rkt_cli.specs.Plays.{Plays}
use Rattle.rkt_cli.specs.Turns.{imports}
use Rattle.rkt_cli.proofs.playing.import_all.Given as goal

abbrev pub invariant-images : goal.invariant-images
invariant-images l = record { fresh : l.current.dir.local ≡ nothing_local; plays : Plays (imports l.image) l.fn.stage l.current }
