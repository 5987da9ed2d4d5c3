-- From which file of the store an entry of a plan is copied.
use Rattle.std.specs.Prelude.{◌≡◌, ℕ, Option, Some, None, List, ◌∷◌, ◌++◌, slice_get}
use Rattle.folder_building.specs.declared.plan.PlanEntry.{PlanEntry}
use Rattle.folder_building.specs.declared.plan.Content.{Content}
use Rattle.folder_building.specs.declared.plan.Content.TheVariants.{Copied}
use Rattle.pod_build.specs.declared.error.BuildError.{BuildError}
use Rattle.pod_build.specs.declared.error.BuildError.TheVariants.{Damaged, NoMemory}

-- a path in a folder, or else alone
abbrev pub path_in_folder : Option (List ℕ) → List ℕ → List ℕ
path_in_folder (Some folder) path = folder ++ 47 ∷ path
path_in_folder None path = path

-- the path of what is copied, in the area of images, or else the entry's own
abbrev pub path_of_content : List ℕ → Content → List ℕ
path_of_content own (Copied origin size sha) = path_in_folder origin.folder origin.path
path_of_content own content = own

abbrev pub origin_path : PlanEntry → List ℕ
origin_path entry = path_of_content entry.path entry.content

-- the entry with this number can't be copied, and its origin is told, unless memory ran out
pub record IsOriginAt (entries : List PlanEntry) (place : ℕ) (path : List ℕ) : Type 0 where
  pub entry : PlanEntry
  pub there : slice_get entries place ≡ Some entry
  pub from : path ≡ origin_path entry

abbrev pub IsOriginDamaged : List PlanEntry → ℕ → BuildError → Type 0
IsOriginDamaged entries place (Damaged path) = IsOriginAt entries place path
IsOriginDamaged entries place NoMemory = Unit {0}
IsOriginDamaged entries place error = ⊥
