-- The refusals of lower calls.
use Rattle.dep_match.specs.declared.dep_error.DepError.{DepError}
use Rattle.dep_match.specs.declared.dep_error.DepError.TheVariants as dep
use Rattle.pod_manifest.specs.declared.gen_error.GenError.{GenError}
use Rattle.pod_manifest.specs.declared.gen_error.GenError.TheVariants as gen
use Rattle.pod_plan.specs.declared.choice_error.ChoiceError.{ChoiceError}
use Rattle.pod_plan.specs.declared.choice_error.ChoiceError.TheVariants as choice

abbrev pub tree_refusal : DepError → ChoiceError
tree_refusal dep.NoMemory = choice.NoMemory
tree_refusal error = choice.DepError error

abbrev pub choice_manifest_refusal : GenError → ChoiceError
choice_manifest_refusal gen.NoMemory = choice.NoMemory
choice_manifest_refusal error = choice.GenError error
