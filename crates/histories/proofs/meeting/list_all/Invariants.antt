use Rattle.std.proofs.Common.{◌≡◌}
use Rattle.dir_model.specs.Local.{IsActive}
use Rattle.histories.proofs.meeting.list_all.Given as goal

abbrev pub invariant-areas : goal.invariant-areas
invariant-areas g l = record {
  active : IsActive (g.D.Dir.shown l.dir).local;
  same : (g.D.Dir.shown l.dir).local ≡ (g.D.Dir.shown l.fn.dir).local;
}
