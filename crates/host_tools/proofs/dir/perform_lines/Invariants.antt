use Rattle.dir_model.specs.Local.{IsActive}
use Rattle.host_tools.proofs.dir.perform_lines.Given as goal

abbrev pub invariant-lines : goal.invariant-lines
invariant-lines g l = IsActive (g.D.Dir.shown l.dir).local
