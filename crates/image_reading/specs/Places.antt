-- Where the images of the store stand.
use Rattle.std.specs.Prelude.{◌≡◌, ℕ, List, ◌∷◌, ◌++◌, Option, Some, None, filter_map, codes}
use Rattle.ac_types.specs.declared.store_key.StoreKey.{StoreKey}
use Rattle.ac_types.specs.Ids.{id_text, id_read}
use Rattle.dir_model.specs.declared.area.Area.TheVariants.{Images}
use Rattle.dir_model.specs.declared.item.Inner.{Inner}
use Rattle.dir_model.specs.declared.spot.Spot.{Spot}
use Rattle.dir_model.specs.State.{DirState, folder_at}
use Rattle.dir_files.specs.Reads.{inner_at}

-- the folder of an image
abbrev pub image_spot : StoreKey → Spot
image_spot key = record { area = Images; name = id_text key.bytes }

-- a file in it. The empty path is the folder itself
abbrev pub image_inner : StoreKey → List ℕ → Inner
image_inner key path = inner_at (image_spot key) path

-- the path of a file from the area's directory on
abbrev pub stored_path : StoreKey → List ℕ → List ℕ
stored_path key name = id_text key.bytes ++ 47 ∷ name

abbrev pub manifest_name : List ℕ
manifest_name = codes "manifest"

abbrev pub id_name : List ℕ
id_name = codes "id"

abbrev pub tree_name : List ℕ
tree_name = codes "tree"

-- with what the names of the marks begin that say when an image was imported
abbrev pub mark_name : List ℕ
mark_name = codes "imported-"

-- no folder of the image stands there
abbrev pub IsImageAbsent : StoreKey → DirState → Type 0
IsImageAbsent key s = folder_at s.namespace (image_spot key) ≡ None

-- a folder of the image stands there
abbrev pub IsPresent : StoreKey → DirState → Type 0
IsPresent key s = (folder : ℕ) × (folder_at s.namespace (image_spot key) ≡ Some folder)

abbrev pub some_key : Option (List ℕ) → Option StoreKey
some_key None = None
some_key (Some bytes) = Some (record { bytes = bytes })

-- the key of which a name of the area is the text
abbrev pub key_of_name : List ℕ → Option StoreKey
key_of_name name = some_key (id_read 32 name)

-- the keys among the names of the area, in the order of the names
abbrev pub keys_among : List (List ℕ) → List StoreKey
keys_among names = filter_map key_of_name names
