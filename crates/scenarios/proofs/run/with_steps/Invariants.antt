use Rattle.std.proofs.Common.{◌≡◌}
use Rattle.dir_model.specs.Local.{nothing_local}
use Rattle.scenarios.proofs.run.with_steps.Given as goal

abbrev pub invariant-steps : goal.invariant-steps
invariant-steps l = l.dir.local ≡ nothing_local
