-- The images of the demo: image i stands on image (i - 1) / 2, and each has a file of its own beside one that all have.
use Rattle.std.specs.Prelude.{◌≡◌, ◌<◌, ◌/◌, ℕ, false, List, [], ◌∷◌, length, None, slice_index_or}
use Rattle.std.proofs.Common.{zero, suc}
use Rattle.manifest_parts.specs.declared.dependency.Dependency.{Dependency}
use Rattle.dep_match.specs.declared.stored.Stored.{Stored}
use Rattle.path_map.specs.declared.entry.Entry.{Entry}
use Rattle.path_map.specs.Entries.{Entries, is_directory, IsPathMap}
pub use Rattle.demo_line.specs.Names.{demo_name, common_path, own_path}

-- the image on which this one stands, above 0
abbrev pub parent_image : ℕ → ℕ
parent_image zero = zero
parent_image (suc i) = i / 2

-- a dependency on the image of this number: by its name alone
pub record IsDependencyOn (i : ℕ) (d : Dependency) : Type 0 where
  pub name : d.image_name ≡ demo_name i
  pub id : d.image_id ≡ None
  pub labels : d.labels ≡ []

-- the one dependency, and none of image 0
abbrev pub AreDependencies : ℕ → List Dependency → Type 0
AreDependencies zero ds = ds ≡ []
AreDependencies (suc i) ds = (d : Dependency) × (ds ≡ d ∷ []) × IsDependencyOn (i / 2) d

-- a stored image is the one of this number, as far as matching and rendering ask
pub record IsDemoImage (i : ℕ) (image : Stored) : Type 0 where
  pub name : image.manifest.name ≡ demo_name i
  pub dependencies : AreDependencies i image.manifest.dependencies
  pub whitelist : image.manifest.path_whitelist ≡ []

-- the first so many images of the demo, in the order of their numbers, which is that of their keys
pub record AreDemoImages (n : ℕ) (images : List Stored) : Type 0 where
  pub count : length images ≡ n
  pub each : (i : ℕ) → i < n → (other : Stored) → IsDemoImage i (slice_index_or images i other)

-- what the root of an image holds: the two files
pub record IsDemoTree (i : ℕ) (entries : Entries) : Type 0 where
  pub common : Entry
  pub own : Entry
  pub are : entries ≡ (common_path, common) ∷ (own_path i, own) ∷ []
  pub files : is_directory common ≡ false
  pub file : is_directory own ≡ false
  pub kind : IsPathMap entries

-- and the roots of them all
pub record AreDemoTrees (n : ℕ) (maps : List Entries) : Type 0 where
  pub each : (i : ℕ) → i < n → IsDemoTree i (slice_index_or maps i [])
