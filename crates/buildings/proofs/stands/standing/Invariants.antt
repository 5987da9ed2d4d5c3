use Rattle.std.proofs.Common.{◌≡◌}
use Rattle.dir_model.specs.Local.{IsActive}
use Rattle.buildings.proofs.stands.standing.Given as goal

abbrev pub invariant-rows : goal.invariant-rows
invariant-rows g l = record {
  active : IsActive (g.D.Dir.shown l.dir).local;
  same : (g.D.Dir.shown l.dir).local ≡ (g.D.Dir.shown l.fn.dir).local;
}
