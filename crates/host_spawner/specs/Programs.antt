-- What a program is started with.
use Rattle.std.specs.Prelude.{◌≡◌, ℕ, ◌==◌, Bool, true, cond, bytes_eq, fold, drop, Option, Some, None, List, [], ◌∷◌, ◌++◌, slice_index}
use Rattle.std.specs.List.{slice_get, before_first, after_first}
use Rattle.host_spawner.specs.Facts.{Start, SpawnFact, starts}
use Rattle.host_spawner.specs.Roots.{root_path, below_root}
use Rattle.spawner.specs.declared.call.RootPlace.{RootPlace}

-- the path begins with a slash
abbrev pub is_absolute : List ℕ → Bool
is_absolute path = slice_index path 0 == 47

-- the first word names the program in the root
pub record IsProgramInRoot (root : List ℕ) (argv : List (List ℕ)) (program : List ℕ) : Type 0 where
  pub word : List ℕ
  pub first : slice_get argv 0 ≡ Some word
  pub below : program ≡ below_root root word

-- a text has a variable's name, '=', and its value
abbrev pub variable_name_of : List ℕ → List ℕ
variable_name_of text = before_first (λ b. b == 61) text

abbrev pub variable_value_of : List ℕ → List ℕ
variable_value_of text = after_first (λ b. b == 61) text

-- what is said of a variable, and then by a text
abbrev pub with_text : List ℕ → Option (Option (List ℕ)) → List ℕ → Option (Option (List ℕ))
with_text name said text = cond (bytes_eq (variable_name_of text) name) (Some (Some (variable_value_of text))) said

-- what the texts say of a variable: the last that names it decides
abbrev pub last_variable_value : List (List ℕ) → List ℕ → Option (Option (List ℕ))
last_variable_value env name = fold (with_text name) None env

-- the program that the first word names in the root, with the further words, these variables and no others, and this
-- working directory in the root
pub record IsProgramStart (root : List ℕ) (argv env : List (List ℕ)) (cwd : List ℕ) (start : Start) : Type 0 where
  pub program : IsProgramInRoot root argv start.program
  pub args : start.args ≡ drop 1 argv
  pub alone : start.alone ≡ true
  pub vars : (name : List ℕ) → start.vars name ≡ last_variable_value env name
  pub dir : start.dir ≡ Some (below_root root cwd)

-- that program of the app was started, once, and nothing else was done
pub record Starts (base : List ℕ) (root : RootPlace) (argv env : List (List ℕ)) (cwd : List ℕ) (old new : List SpawnFact) : Type 0 where
  pub start : Start
  pub is : IsProgramStart (root_path base root) argv env cwd start
  pub told : new ≡ old ++ starts start ∷ []
