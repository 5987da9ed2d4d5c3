-- When a pod was created, as the marks in its folder tell it.
use Rattle.std.specs.Prelude.{◌≡◌, ◌≤◌, ℕ, true, Option, Some, IsSomeAnd, List, []}
use Rattle.std.specs.List.{list_any}
use Rattle.dir_model.specs.declared.area.Area.{Area}
use Rattle.dir_model.specs.declared.item.Item.{Item}
use Rattle.dir_model.specs.declared.pod.PodId.{PodId}
use Rattle.dir_model.specs.Areas.{is_stage}
use Rattle.dir_model.specs.Listings.{is_named, has_item}
use Rattle.dir_model.specs.State.{DirState, folder_at}
use Rattle.dir_model.specs.Trees.{items_in}
use Rattle.dir_rules.specs.Marks.{created_moment}
use Rattle.dir_model.specs.Spots.{pod_spot}

-- something of this name stands directly in the pod's folder, wherever that stands
pub record HasInFolder (pod : PodId) (name : List ℕ) (s : DirState) : Type 0 where
  pub area : Area
  pub stage : is_stage area ≡ true
  pub folder : ℕ
  pub there : folder_at s.namespace (pod_spot pod area) ≡ Some folder
  pub named : list_any (is_named name) (items_in folder [] s.entries) ≡ true

-- a created- mark of this moment does
abbrev pub HasCreatedMark : PodId → ℕ → DirState → Type 0
HasCreatedMark pod moment s = (name : List ℕ) × (created_moment name ≡ Some moment) × HasInFolder pod name s

-- the greatest moment of the created- marks among these items
pub record IsLatestCreation (items : List Item) (created : Option ℕ) : Type 0 where
  pub shown : (moment : ℕ) → created ≡ Some moment → (item : Item) × (has_item items item ≡ true) × (created_moment item.name ≡ Some moment)
  pub most : (name : List ℕ) (moment : ℕ) → list_any (is_named name) items ≡ true → created_moment name ≡ Some moment → IsSomeAnd created (λ c. moment ≤ c)
