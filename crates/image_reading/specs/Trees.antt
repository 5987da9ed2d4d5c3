-- Of which images the listings are read.
use Rattle.std.specs.Prelude.{◌≡◌, Bool, true, not, ◌&&◌, ◌||◌, bytes_eq, List, []}
use Rattle.std.specs.List.{list_any}
use Rattle.ac_types.specs.declared.store_key.StoreKey.{StoreKey}
use Rattle.dir_model.specs.declared.area.Area.TheVariants.{Images}
use Rattle.dir_model.specs.declared.item.Inner.{Inner}
use Rattle.dir_model.specs.declared.request.Request.{Request}
use Rattle.dir_model.specs.declared.request.Request.TheVariants.{ReadIn}
use Rattle.dir_model.specs.State.{spot_eq}
use Rattle.dir_rules.specs.Standing.{is_in}
use Rattle.dir_trait.specs.DirCalls.{DirAt, ExtendsBy}
use Rattle.image_reading.specs.Places.{image_spot, tree_name}

-- the file is the listing of an image
abbrev pub is_tree : Inner → Bool
is_tree inner = is_in inner.spot.area Images && bytes_eq inner.path tree_name

-- the file stands in the folder of one of these images
abbrev pub is_of_one : List StoreKey → Inner → Bool
is_of_one keys inner = list_any (λ key. spot_eq inner.spot (image_spot key)) keys

-- any request, but of listings only reads of those of these images
abbrev pub reads_trees_of : List StoreKey → Request → Bool
reads_trees_of keys (ReadIn inner at room) = not (is_tree inner) || is_of_one keys inner
reads_trees_of keys request = true

-- between these moments each own read of an image's listing was of one of these images
pub record ReadsTreesOf (observed : Bool) (keys : List StoreKey) (old new : DirAt) : Type 0 where
  pub same : new.process ≡ old.process
  pub extends : observed ≡ true → ExtendsBy (reads_trees_of keys) old new

-- no listing was read
abbrev pub ReadsNoTrees : Bool → DirAt → DirAt → Type 0
ReadsNoTrees observed old new = ReadsTreesOf observed [] old new
