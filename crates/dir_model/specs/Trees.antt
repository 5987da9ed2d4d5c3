-- What stands inside the folders: one list of entries for all of them, the oldest first.
use Rattle.std.specs.Prelude.{ℕ, Bool, true, false, not, ◌&&◌, ◌||◌, ◌==◌, cond, bytes_eq, Option, Some, None, List, [], ◌++◌, filter, codes}
use Rattle.std.specs.List.{list_any, filter_map, flat_map}
use Rattle.dir_model.specs.declared.area.Area.{Area}
use Rattle.dir_model.specs.declared.spot.Spot.{Spot}
use Rattle.dir_model.specs.declared.item.Item.{Item}
use Rattle.dir_model.specs.declared.item.ItemKind.{ItemKind}
use Rattle.dir_model.specs.declared.item.ItemKind.TheVariants as kind
use Rattle.dir_model.specs.declared.tree.TreeNode.{TreeNode}
use Rattle.dir_model.specs.declared.tree.TreeNode.TheVariants.{Dir, Piece}
use Rattle.dir_model.specs.declared.tree.TreeEntry.{TreeEntry}
use Rattle.dir_model.specs.declared.tree.StartedApp.{StartedApp}
use Rattle.dir_model.specs.Areas.{rank}
use Rattle.dir_model.specs.Paths.{is_empty, is_file_name, lies_below, is_directly_in, behind}

-- it is a directory
abbrev pub is_dir : TreeNode → Bool
is_dir Dir = true
is_dir (Piece bytes) = false

-- the bytes of a piece of a file
abbrev pub bytes_of : TreeNode → List ℕ
bytes_of Dir = []
bytes_of (Piece bytes) = bytes

-- of which kind it is
abbrev pub kind_of : TreeNode → ItemKind
kind_of Dir = kind.Dir
kind_of (Piece bytes) = kind.File

-- the entry is of this path in this folder
abbrev pub is_entry : ℕ → List ℕ → TreeEntry → Bool
is_entry folder path e = (e.folder == folder) && bytes_eq e.path path

-- it is a directory at this path of the folder
abbrev pub is_dir_entry : ℕ → List ℕ → TreeEntry → Bool
is_dir_entry folder path e = is_entry folder path e && is_dir e.node

-- it is a file, or a piece of one, at this path of the folder
abbrev pub is_file_entry : ℕ → List ℕ → TreeEntry → Bool
is_file_entry folder path e = is_entry folder path e && not (is_dir e.node)

-- the folder itself, or a directory in it
abbrev pub has_dir : List TreeEntry → ℕ → List ℕ → Bool
has_dir es folder path = is_empty path || list_any (is_dir_entry folder path) es

-- a file stands at the path
abbrev pub has_file : List TreeEntry → ℕ → List ℕ → Bool
has_file es folder path = list_any (is_file_entry folder path) es

-- something stands at the path
abbrev pub has_any : List TreeEntry → ℕ → List ℕ → Bool
has_any es folder path = has_dir es folder path || has_file es folder path

-- the entry is a directory in which the path is one name
abbrev pub is_parent_entry : ℕ → List ℕ → TreeEntry → Bool
is_parent_entry folder path e = (e.folder == folder) && (is_dir e.node && is_directly_in e.path path)

-- the path is one name in the folder itself, or in a directory of it
abbrev pub has_parent : List TreeEntry → ℕ → List ℕ → Bool
has_parent es folder path = is_directly_in [] path || list_any (is_parent_entry folder path) es

-- the entry is one name in this directory
abbrev pub is_child : ℕ → List ℕ → TreeEntry → Bool
is_child folder directory e = (e.folder == folder) && is_directly_in directory e.path

-- something stands in the directory
abbrev pub has_children : List TreeEntry → ℕ → List ℕ → Bool
has_children es folder directory = list_any (is_child folder directory) es

-- the folder holds something
abbrev pub holds_any : List TreeEntry → ℕ → Bool
holds_any es folder = list_any (λ e. e.folder == folder) es

-- a file's bytes: its pieces in order
abbrev pub content : List TreeEntry → ℕ → List ℕ → List ℕ
content es folder path = flat_map (λ e. bytes_of e.node) (filter (is_entry folder path) es)

-- what a directory shows of an entry, once for each piece of a file
abbrev pub item_in : ℕ → List ℕ → TreeEntry → Option Item
item_in folder directory e = cond (is_child folder directory e && is_file_name (behind directory e.path)) (Some (record { name = behind directory e.path; kind = kind_of e.node })) None

-- what stands in the directory
abbrev pub items_in : ℕ → List ℕ → List TreeEntry → List Item
items_in folder directory es = filter_map (item_in folder directory) es

-- what an area shows of a folder
abbrev pub name_in : Area → Option Spot → Option (List ℕ)
name_in area None = None
name_in area (Some spot) = cond (rank spot.area == rank area) (Some spot.name) None

-- the names of the folders in an area
abbrev pub names_in : Area → List (Option Spot) → List (List ℕ)
names_in area places = filter_map (name_in area) places

-- the entry is at the path, or below it
abbrev pub is_within : List ℕ → List ℕ → Bool
is_within path at = bytes_eq at path || lies_below at path

-- what stands at the path and below it in a folder is gone
abbrev pub without_path : ℕ → List ℕ → List TreeEntry → List TreeEntry
without_path folder path es = filter (λ e. not ((e.folder == folder) && is_within path e.path)) es

-- the mark that an app was started, made in the pod's folder, is named for it
abbrev pub mark_prefix : List ℕ
mark_prefix = codes "started-"

-- the path of an app's root in the pod's folder
abbrev pub app_root : List ℕ → List ℕ
app_root app = codes "stage1/rootfs/opt/stage2/" ++ (app ++ codes "/rootfs")

-- the path is at or below the root of a started app of this folder
abbrev pub is_apps_own : List StartedApp → ℕ → List ℕ → Bool
is_apps_own apps folder path = list_any (λ a. (a.folder == folder) && is_within a.root path) apps
