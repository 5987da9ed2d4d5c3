-- What is still to be removed in a folder, in the order in which it was shown.
use Rattle.std.specs.Prelude.{◌≡◌, ℕ, ◌<◌, ◌^◌, Bool, true, false, not, ◌&&◌, ◌||◌, bytes_eq, nat_le, List, [], ◌∷◌, ◌++◌, map, length}
use Rattle.std.specs.List.{list_any, list_all}
use Rattle.dir_model.specs.declared.item.Item.{Item}
use Rattle.dir_model.specs.declared.item.ItemKind.{ItemKind}
use Rattle.dir_model.specs.declared.item.ItemKind.TheVariants as item
use Rattle.dir_model.specs.Paths.{is_empty}
use Rattle.dir_rules.specs.Marks.{path_in, parent, has_slash}
use Rattle.folder_removal.specs.declared.task.Task.{Task}

-- a name in a directory
abbrev pub is_plain_name : List ℕ → Bool
is_plain_name name = not (is_empty name) && not (has_slash name)

abbrev pub deletion_task_of : List ℕ → Item → Task
deletion_task_of directory item = record { path = path_in directory item.name; kind = item.kind; listed = false }

abbrev pub is_dir_item : ItemKind → Bool
is_dir_item item.Dir = true
is_dir_item _ = false

-- a directory that is still to be listed
abbrev pub is_unlisted : Task → Bool
is_unlisted t = is_dir_item t.kind && not t.listed

abbrev pub with_listed : Task → Task
with_listed t = record { path = t.path; kind = t.kind; listed = true }

abbrev pub is_short_task : Task → Bool
is_short_task t = nat_le (length t.path) 8192

abbrev pub has_plain_name : Item → Bool
has_plain_name i = is_plain_name i.name

-- the item's path would be too long
abbrev pub has_too_long_path : List ℕ → Item → Bool
has_too_long_path directory i = not (nat_le (length (path_in directory i.name)) 8192)

-- no name stands twice
abbrev pub is_named : List ℕ → Item → Bool
is_named name i = bytes_eq i.name name

abbrev pub are_distinct : List Item → Bool
are_distinct [] = true
are_distinct (i ∷ is) = not (list_any (is_named i.name) is) && are_distinct is

-- one for each item of the directory
pub record AreChildren (directory : List ℕ) (items : List Item) (tasks : List Task) : Type 0 where
  pub are : tasks ≡ map (deletion_task_of directory) items
  pub plain : list_all has_plain_name items ≡ true
  pub short : list_all is_short_task tasks ≡ true
  pub few : length items < 2 ^ 64

-- the items of some listing
pub record HasChildren (directory : List ℕ) (tasks : List Task) : Type 0 where
  pub items : List Item
  pub are : AreChildren directory items tasks

abbrev pub is_in_tasks : List ℕ → List Task → Bool
is_in_tasks path ts = list_any (λ t. bytes_eq t.path path) ts

-- its directory comes before it, and no other with its path
abbrev pub may_follow_tasks : List Task → Task → Bool
may_follow_tasks before t = not (is_empty t.path) && (not (is_in_tasks t.path before) && (is_empty (parent t.path) || is_in_tasks (parent t.path) before))

abbrev pub are_nested : List Task → List Task → Bool
are_nested before [] = true
are_nested before (t ∷ ts) = may_follow_tasks before t && are_nested (before ++ t ∷ []) ts
