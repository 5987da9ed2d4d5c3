-- A walk under way: the lines so far, and the entries that are still to come, the next one last.
use Rattle.std.specs.Prelude.{◌≡◌, ◌≢◌, ◌⊎◌, ℕ, Bool, true, false, List, [], ◌∷◌, ◌++◌, map, reverse, Some, IsSome, Contains}
use Rattle.std.specs.List.{AllByRecursion}
use Rattle.dir_model.specs.Names.{IsFileName}
use Rattle.dir_trait.specs.Bundles.{BundleTree, kind_at, IsBundleListing}
use Rattle.dir_trait.specs.declared.bundle.BundleItem.{BundleItem}
use Rattle.dir_trait.specs.declared.bundle.BundleKind.TheVariants as kinds
use Rattle.path_map.specs.Entries.{entry_at, is_directory, is_directory_at}
use Rattle.path_map.specs.Paths.{is_ancestor}
use Rattle.tree_digest.specs.declared.line.ListingLine.{ListingLine}
use Rattle.tree_digest.specs.Listings.{entries_of, IsListable}
use Rattle.bundle_image.specs.declared.refusal.BundleRefusal.{BundleRefusal}
use Rattle.bundle_image.specs.declared.task.Task.{Task}
use Rattle.bundle_image.specs.Entries.{IsEntryOf}
use Rattle.bundle_image.specs.Lines.{AreFewLines}
use Rattle.bundle_image.specs.Tasks.{walk_task_of, is_dir_kind}
use Rattle.bundle_image.specs.Walks.{in_directory, LeadsTo, Stands, IsBeside, ComesBefore, IsLinePath, AreInWalkOrder, IsLineOfBundle, FaultWith, IsFirstFault}
use Rattle.bundle_image.specs.Refusals.{IsBundleFailure}

-- the items of a directory that stands, and no name in it is left out
pub record ListsIn (nodes : BundleTree) (path : List ℕ) (items : List BundleItem) : Type 0 where
  pub directory : kind_at (nodes path) ≡ Some kinds.Dir
  pub each : AllByRecursion (λ item. kind_at (nodes (in_directory path item.name)) ≡ Some item.kind) items
  pub whole : (name : List ℕ) → IsFileName name → IsSome (nodes (in_directory path name)) → Contains (map (λ item. item.name) items) name

-- what a directory holds was put at the end, its first item last
pub record AddsChildren (observed : Bool) (nodes : BundleTree) (path : List ℕ) (old new : List Task) : Type 0 where
  pub items : List BundleItem
  pub tasks : new ≡ old ++ reverse (map (walk_task_of path) items)
  pub named : AllByRecursion (λ item. IsFileName item.name) items
  pub ordered : IsBundleListing items
  pub listed : observed ≡ true → ListsIn nodes path items

-- where the entry is a directory; nothing was put there for another
pub record Descends (observed : Bool) (nodes : BundleTree) (task : Task) (old new : List Task) : Type 0 where
  pub directory : is_dir_kind task.kind ≡ true → AddsChildren observed nodes task.path old new
  pub other : is_dir_kind task.kind ≡ false → new ≡ old

-- the entry's line was added
pub record AddsEntryLine (observed : Bool) (nodes : BundleTree) (task : Task) (old new : List ListingLine) : Type 0 where
  pub line : ListingLine
  pub lines : new ≡ old ++ line ∷ []
  pub path : line.path ≡ task.path
  pub listable : IsListable line.entry
  pub directory : is_directory line.entry ≡ is_dir_kind task.kind
  pub few : AreFewLines new
  pub entry : observed ≡ true → kind_at (nodes task.path) ≡ Some task.kind → IsEntryOf (nodes task.path) line.entry

-- the walk came to the entry
pub record Turns (observed : Bool) (nodes : BundleTree) (task : Task) (lines : List ListingLine) (tasks : List Task) (new_lines : List ListingLine) (new_tasks : List Task) : Type 0 where
  pub added : AddsEntryLine observed nodes task lines new_lines
  pub descended : Descends observed nodes task tasks new_tasks

-- the walk began: with what the root holds, or with nothing where it isn't there
abbrev pub WalkBegins : Bool → BundleTree → List Task → Type 0
WalkBegins observed nodes tasks = AddsChildren observed nodes [] [] tasks ⊎ ((tasks ≡ []) × (observed ≡ true → kind_at (nodes []) ≢ Some kinds.Dir))

-- the entry failed after these lines, or the bundle failed or memory ran out
abbrev pub WalkFailsAt : BundleTree → List ListingLine → List ℕ → BundleRefusal → Type 0
WalkFailsAt nodes lines path refusal = IsBundleFailure refusal ⊎ FaultWith nodes lines path refusal

-- the walk ended with its first fault, or the bundle failed or memory ran out
abbrev pub EndsWalk : BundleTree → BundleRefusal → Type 0
EndsWalk nodes refusal = IsBundleFailure refusal ⊎ IsFirstFault nodes refusal

-- the directories on the way to a path are among the lines
abbrev pub HasDirectories : List ListingLine → List ℕ → Type 0
HasDirectories lines path = (above : List ℕ) → is_ancestor above path ≡ true → is_directory_at (entry_at (entries_of lines) above) ≡ true

-- and for each line among those before it
abbrev pub HaveDirectories : List ListingLine → List ListingLine → Type 0
HaveDirectories before [] = Unit {0}
HaveDirectories before (line ∷ lines) = HasDirectories before line.path × HaveDirectories (before ++ line ∷ []) lines

-- lines as a walk makes them, whatever was observed
pub record AreLaid (lines : List ListingLine) : Type 0 where
  pub order : AreInWalkOrder lines
  pub directories : HaveDirectories [] lines
  pub listable : AllByRecursion (λ line. IsListable line.entry) lines
  pub few : AreFewLines lines

-- each of them comes before those that stand before it
abbrev pub IsStack : List Task → Type 0
IsStack [] = Unit {0}
IsStack (task ∷ tasks) = AllByRecursion (λ sooner. IsBeside sooner.path task.path) tasks × IsStack tasks

-- the entry is still to come: all lines come before it, and the directories on the way to it are among them
pub record MayCome (lines : List ListingLine) (task : Task) : Type 0 where
  pub later : AllByRecursion (λ line. ComesBefore line.path task.path) lines
  pub directories : HasDirectories lines task.path

pub record IsWalkUnderWay (lines : List ListingLine) (tasks : List Task) : Type 0 where
  pub laid : AreLaid lines
  pub stack : IsStack tasks
  pub may : AllByRecursion (MayCome lines) tasks

-- it stands there, and is of its kind
pub record IsTaskOf (nodes : BundleTree) (task : Task) : Type 0 where
  pub stands : Stands nodes task.path
  pub kind : kind_at (nodes task.path) ≡ Some task.kind

-- the path is one of the entries' or lies below one of them
abbrev pub IsUnder : BundleTree → List Task → List ℕ → Type 0
IsUnder nodes [] path = ⊥
IsUnder nodes (task ∷ tasks) path = LeadsTo nodes task.path path ⊎ IsUnder nodes tasks path

-- the lines and the entries are of what stands there, and nothing else is still to come
pub record WalkHasSeen (nodes : BundleTree) (lines : List ListingLine) (tasks : List Task) : Type 0 where
  pub each : AllByRecursion (IsLineOfBundle nodes) lines
  pub there : AllByRecursion (IsTaskOf nodes) tasks
  pub whole : (path : List ℕ) → Stands nodes path → IsLinePath lines path ⊎ IsUnder nodes tasks path
