-- The texts of errors.
use Rattle.std.specs.Prelude.{ℕ, List, ◌++◌, codes}
use Rattle.dep_match.specs.declared.dep_error.DepError.{DepError}
use Rattle.dep_match.specs.declared.dep_error.DepError.TheVariants.{NoDependency, Cycle, TooDeep, TooMany, NoMemory}

-- why an image has no tree of dependencies
abbrev pub dep_error_text : DepError → List ℕ
dep_error_text (NoDependency name) = codes "no image is the dependency " ++ name
dep_error_text (Cycle key) = codes "an image depends on itself"
dep_error_text TooDeep = codes "the dependencies are nested too deep"
dep_error_text TooMany = codes "there are too many dependencies"
dep_error_text NoMemory = codes "out of memory"
