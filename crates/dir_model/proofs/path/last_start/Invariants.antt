use Rattle.std.proofs.Common.{◌≡◌, ◌≤◌, [], drop}
use Rattle.dir_model.specs.Paths.{are_names, part}
use Rattle.dir_model.proofs.path.last_start.Given as goal

abbrev pub invariant-bytes : goal.invariant-bytes
invariant-bytes l = record {
  within : l.start ≤ l.i;
  goes : are_names (part l.start l.i l.path) (drop l.i l.path) ≡ are_names [] l.path;
}
