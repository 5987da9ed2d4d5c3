use Rattle.dir_model.specs.Local.{IsActive}
use Rattle.host_tools.proofs.dir.perform_all.Given as goal

abbrev pub invariant-calls : goal.invariant-calls
invariant-calls g l = IsActive (g.D.Dir.shown l.dir).local
