-- The files in which the listings of apps' roots stand, in a pod's folder.
use Rattle.std.specs.Prelude.{ℕ, ◌-◌, Bool, not, ◌&&◌, bytes_eq, List, ◌++◌, length, take, drop, codes}
use Rattle.dir_model.specs.declared.area.Area.TheVariants.{Prepare}
use Rattle.dir_model.specs.declared.item.Inner.{Inner}
use Rattle.dir_rules.specs.Marks.{has_slash}
use Rattle.dir_rules.specs.Standing.{is_in}

-- the listing of the root of an app
abbrev pub tree_file : List ℕ → List ℕ
tree_file app = codes "stage1/rootfs/opt/stage2/" ++ (app ++ codes "/tree")

-- the app whose listing it is: what stands between the 25 bytes before its name and the 5 behind it
abbrev pub listed_app : List ℕ → List ℕ
listed_app path = take (length path - 30) (drop 25 path)

-- it is that app's, and not a file of an app's root, or one below another directory
abbrev pub is_tree_file : List ℕ → Bool
is_tree_file path = bytes_eq path (tree_file (listed_app path)) && not (has_slash (listed_app path))

-- in the folder of a pod that is being made
abbrev pub is_root_listing : Inner → Bool
is_root_listing inner = is_in Prepare inner.spot.area && is_tree_file inner.path
