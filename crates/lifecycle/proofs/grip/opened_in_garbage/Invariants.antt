use Rattle.std.proofs.Common.{◌≡◌, drop, find}
use Rattle.lifecycle.specs.Watch.{is_this, on_grip}
use Rattle.lifecycle.proofs.grip.opened_in_garbage.Given as goal

abbrev pub invariant-grips : goal.invariant-grips
invariant-grips l = on_grip (λ g. g.in_garbage) (find (is_this l.process l.handle) (drop l.grip-index l.grips)) ≡ on_grip (λ g. g.in_garbage) (find (is_this l.process l.handle) l.grips)
