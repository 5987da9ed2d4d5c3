-- The numbers by which refusals are printed; want of memory has none.
use Rattle.std.specs.Prelude.{ℕ, Option, Some, None}
use Rattle.dep_match.specs.declared.refusals.TheConstants.{NO_DEPENDENCY, CYCLE, TOO_DEEP, TOO_MANY}
use Rattle.dep_match.specs.declared.dep_error.DepError.{DepError}
use Rattle.dep_match.specs.declared.dep_error.DepError.TheVariants.{NoDependency, Cycle, TooDeep, TooMany, NoMemory}

-- the number of each reason why an image has no tree of dependencies
abbrev pub dep_error_number : DepError → Option ℕ
dep_error_number (NoDependency name) = Some NO_DEPENDENCY
dep_error_number (Cycle key) = Some CYCLE
dep_error_number TooDeep = Some TOO_DEEP
dep_error_number TooMany = Some TOO_MANY
dep_error_number NoMemory = None
