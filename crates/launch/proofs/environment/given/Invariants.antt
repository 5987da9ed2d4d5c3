use Rattle.std.proofs.Common.{◌≡◌, ℕ, List, None, cond, take, map, false}
use Rattle.launch.specs.Environment.{has_variable, last_value, is_reserved_variable, variable_of}
use Rattle.launch.specs.LastValues.{kept_value_at}
use Rattle.launch.proofs.Given.{given_of}
use Rattle.launch.proofs.environment.given.Given as goal

abbrev pub invariant-variables : goal.invariant-variables
invariant-variables l = record {
  words : l.words ≡ map variable_of (given_of l.variables (take l.variable-index l.variables));
  left : (name : List ℕ) → is_reserved_variable name ≡ false → kept_value_at l.values name ≡ cond (has_variable name (take l.variable-index l.variables)) None (last_value name l.variables);
}
