use Rattle.std.proofs.Common.{◌≡◌, ◌++◌, map, take, drop}
use Rattle.lifecycle.specs.Watch.{gripped}
use Rattle.lifecycle.proofs.grip.lock_all.Given as goal

abbrev pub invariant-grips : goal.invariant-grips
invariant-grips l = l.grips ≡ map (gripped l.process l.handle l.exclusive) (take l.grip-index l.fn.grips) ++ drop l.grip-index l.fn.grips
