use Rattle.dir_model.specs.Local.{IsActive}
use Rattle.host_tools.proofs.dir.copy.Given as goal

abbrev pub invariant-pieces : goal.invariant-pieces
invariant-pieces g l = IsActive (g.D.Dir.shown l.dir).local
