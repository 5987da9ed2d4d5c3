use Rattle.dir_model.specs.Local.{IsActive}
use Rattle.histories.proofs.meeting.answers.Given as goal

abbrev pub invariant-calls : goal.invariant-calls
invariant-calls g l = IsActive (g.D.Dir.shown l.dir).local
