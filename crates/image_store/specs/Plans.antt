-- From which file of the bundle an entry of a plan is copied.
use Rattle.std.specs.Prelude.{◌≡◌, ℕ, List, slice_get, Some}
use Rattle.folder_building.specs.declared.error.BuildError.{BuildError}
use Rattle.folder_building.specs.declared.error.BuildError.TheVariants.{Unlike, SourceFault}
use Rattle.folder_building.specs.declared.error.BuildError.TheVariants as failure
use Rattle.folder_building.specs.declared.plan.PlanEntry.{PlanEntry}
use Rattle.folder_building.specs.declared.plan.Content.{Content}
use Rattle.folder_building.specs.declared.plan.Content.TheVariants.{Copied}
use Rattle.image_reading.specs.declared.error.StoreError.{StoreError}
use Rattle.image_reading.specs.declared.error.StoreError.TheVariants.{Damaged, BundleFault, DirFault, NoMemory, Stray}

abbrev pub copied_path : List ℕ → Content → List ℕ
copied_path path (Copied origin size sha) = origin.path
copied_path path content = path

-- the path from which its bytes come, or else its own
abbrev pub origin_of : PlanEntry → List ℕ
origin_of e = copied_path e.path e.content

-- the entry with this number is copied from there, and that file is damaged
abbrev pub IsUnlikeRefusal : List PlanEntry → ℕ → StoreError → Type 0
IsUnlikeRefusal plan place (Damaged path) = (entry : PlanEntry) × (slice_get plan place ≡ Some entry) × (path ≡ origin_of entry)
IsUnlikeRefusal plan place NoMemory = Unit {0}
IsUnlikeRefusal plan place error = ⊥

-- what it means that a folder wasn't filled by the plan
abbrev pub IsBuildRefusal : List PlanEntry → BuildError → StoreError → Type 0
IsBuildRefusal plan (Unlike place) error = IsUnlikeRefusal plan place error
IsBuildRefusal plan SourceFault error = error ≡ BundleFault
IsBuildRefusal plan failure.DirFault error = error ≡ DirFault
IsBuildRefusal plan failure.Stray error = error ≡ Stray
IsBuildRefusal plan failure.NoMemory error = error ≡ NoMemory
