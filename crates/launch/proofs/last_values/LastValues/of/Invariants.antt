use Rattle.std.proofs.Common.{◌≡◌, ℕ, List, take}
use Rattle.launch.specs.Environment.{last_value}
use Rattle.launch.specs.LastValues.{kept_value_at}
use Rattle.launch.proofs.last_values.LastValues.of.Given as goal

abbrev pub invariant-variables : goal.invariant-variables
invariant-variables l = (name : List ℕ) → kept_value_at l.last name ≡ last_value name (take l.variable-index l.variables)
