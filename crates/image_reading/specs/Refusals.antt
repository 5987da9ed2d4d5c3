-- What a read of the store is refused with.
use Rattle.std.specs.Prelude.{◌≡◌, ◌⊎◌, ℕ, List}
use Rattle.ac_types.specs.declared.store_key.StoreKey.{StoreKey}
use Rattle.image_reading.specs.declared.error.StoreError.{StoreError}
use Rattle.image_reading.specs.declared.error.StoreError.TheVariants.{Damaged, NoImage, DirFault, NoMemory}
use Rattle.image_reading.specs.Places.{stored_path, manifest_name, id_name, tree_name, mark_name}

-- the directory failed, or memory ran out
abbrev pub IsStoreFailure : StoreError → Type 0
IsStoreFailure DirFault = Unit {0}
IsStoreFailure NoMemory = Unit {0}
IsStoreFailure error = ⊥

-- or a file at such a path is damaged
abbrev pub IsReadRefusal : (List ℕ → Type 0) → StoreError → Type 0
IsReadRefusal AtPath (Damaged path) = AtPath path
IsReadRefusal AtPath DirFault = Unit {0}
IsReadRefusal AtPath NoMemory = Unit {0}
IsReadRefusal AtPath error = ⊥

-- it is damaged for this reason, or memory ran out
abbrev pub IsDamage : List ℕ → Type 0 → StoreError → Type 0
IsDamage at Why (Damaged path) = (path ≡ at) × Why
IsDamage at Why NoMemory = Unit {0}
IsDamage at Why error = ⊥

abbrev pub IsDamaged : StoreError → Type 0
IsDamaged (Damaged path) = Unit {0}
IsDamaged error = ⊥

-- the files that tell of an image
abbrev pub IsImagePath : StoreKey → List ℕ → Type 0
IsImagePath key path = (path ≡ stored_path key manifest_name) ⊎ ((path ≡ stored_path key id_name) ⊎ (path ≡ stored_path key mark_name))

-- the files that an image's digest is taken of
abbrev pub IsDigestPath : StoreKey → List ℕ → Type 0
IsDigestPath key path = (path ≡ stored_path key manifest_name) ⊎ ((path ≡ stored_path key id_name) ⊎ (path ≡ stored_path key tree_name))

-- the image isn't there, or as above
abbrev pub IsTreeRefusal : StoreKey → StoreError → Type 0
IsTreeRefusal key (NoImage other) = other ≡ key
IsTreeRefusal key error = IsReadRefusal (λ path. path ≡ stored_path key tree_name) error
