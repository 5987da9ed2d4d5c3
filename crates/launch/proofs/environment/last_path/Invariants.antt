use Rattle.std.proofs.Common.{◌≡◌, take, option_map}
use Rattle.launch.specs.Environment.{last_value, path_name}
use Rattle.launch.proofs.environment.last_path.Given as goal

abbrev pub invariant-variables : goal.invariant-variables
invariant-variables l = option_map (λ v. v.now.value) l.last ≡ last_value path_name (take l.variable-index l.variables)
