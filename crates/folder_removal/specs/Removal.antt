-- What deleting a folder asks for.
use Rattle.std.specs.Prelude.{◌≡◌, ◌⊎◌, ℕ, Bool, true, false, not, ◌&&◌, ◌||◌, bytes_eq, List, [], ◌∷◌, ◌++◌}
use Rattle.std.specs.List.{list_any, AllByRecursion}
use Rattle.dir_model.specs.declared.area.Area.{Area}
use Rattle.dir_model.specs.declared.area.Area.TheVariants.{ExitedGarbage, Garbage, Removed}
use Rattle.dir_model.specs.declared.event.Event.{Event}
use Rattle.dir_model.specs.declared.item.Inner.{Inner}
use Rattle.dir_model.specs.declared.item.Item.{Item}
use Rattle.dir_model.specs.declared.item.ItemKind.{ItemKind}
use Rattle.dir_model.specs.declared.item.ItemKind.TheVariants as item
use Rattle.dir_model.specs.declared.spot.Spot.{Spot}
use Rattle.dir_model.specs.declared.request.Request.{Request}
use Rattle.dir_model.specs.declared.request.Request.TheVariants.{ListIn, RemoveFileIn, RemoveDirIn, RemoveFolder}
use Rattle.dir_model.specs.declared.request.DirError.TheVariants.{Missing, NotEmpty}
use Rattle.dir_model.specs.declared.request.Reply.{Reply}
use Rattle.dir_model.specs.declared.request.Reply.TheVariants.{Done, Items, Refused}
use Rattle.dir_trait.specs.State.{spot_eq, stands}
use Rattle.dir_trait.specs.Calls.{CallStep, Extends, AtOwnStep, is_foreign}
use Rattle.dir_rules.specs.Marks.{path_in}
use Rattle.dir_rules.specs.Rules.{root_of}
use Rattle.dir_trait.specs.DirCalls.{DirAt}
use Rattle.folder_removal.specs.declared.task.Task.{Task}
use Rattle.folder_removal.specs.Tasks.{has_too_long_path, is_dir_item, is_unlisted, are_nested}

-- where folders are deleted
abbrev pub is_removal_area : Area → Bool
is_removal_area ExitedGarbage = true
is_removal_area Garbage = true
is_removal_area Removed = true
is_removal_area _ = false

-- the requests at this spot: listings and removals
abbrev pub asks_deletion_at : Spot → Request → Bool
asks_deletion_at spot (ListIn inner) = spot_eq inner.spot spot
asks_deletion_at spot (RemoveFileIn inner) = spot_eq inner.spot spot
asks_deletion_at spot (RemoveDirIn inner) = spot_eq inner.spot spot
asks_deletion_at spot (RemoveFolder at) = spot_eq at spot
asks_deletion_at spot _ = false

abbrev pub inner_at : Spot → List ℕ → Inner
inner_at spot path = record { spot = spot; path = path }

abbrev pub task_inner : Spot → Task → Inner
task_inner spot t = inner_at spot t.path

-- the call for its kind
abbrev pub removal_by : ItemKind → Inner → Request
removal_by item.Dir inner = RemoveDirIn inner
removal_by _ inner = RemoveFileIn inner

abbrev pub removal_of : Spot → Task → Request
removal_of spot t = removal_by t.kind (task_inner spot t)

-- its last step was the folder's own removal, answered Ok
pub record WasRemoved (spot : Spot) (me : ℕ) (old new : List Event) : Type 0 where
  pub before : List Event
  pub first : Extends (asks_deletion_at spot) me old before
  pub last : CallStep me before (RemoveFolder spot) Done new

abbrev pub EndsRemoved : Spot → DirAt → DirAt → Type 0
EndsRemoved spot old new = WasRemoved spot old.process old.trace new.trace

-- an answer that what the lock keeps doesn't explain
abbrev pub is_stray_deletion : Request → Reply → Bool
is_stray_deletion (ListIn inner) (Refused Missing left) = true
is_stray_deletion (ListIn inner) (Items items) = list_any (has_too_long_path inner.path) items
is_stray_deletion (RemoveFileIn inner) (Refused Missing left) = true
is_stray_deletion (RemoveDirIn inner) (Refused Missing left) = true
is_stray_deletion (RemoveDirIn inner) (Refused NotEmpty left) = true
is_stray_deletion (RemoveFolder spot) (Refused Missing left) = true
is_stray_deletion (RemoveFolder spot) (Refused NotEmpty left) = true
is_stray_deletion _ _ = false

-- a listing of its directory showed a directory at this path
abbrev pub is_dir_named : List ℕ → List ℕ → Item → Bool
is_dir_named directory path i = is_dir_item i.kind && bytes_eq (path_in directory i.name) path

abbrev pub shows_dir : Inner → Request → Reply → Bool
shows_dir inner (ListIn at) (Items items) = spot_eq at.spot inner.spot && list_any (is_dir_named at.path inner.path) items
shows_dir inner request reply = false

-- the directory isn't asked to be removed
abbrev pub spares_dir : Inner → Request → Bool
spares_dir inner (RemoveDirIn at) = not (spot_eq at.spot inner.spot && bytes_eq at.path inner.path)
spares_dir inner request = true

-- an own listing between these moments showed it, and after that this process didn't ask for its removal
pub record DirectoryWasShown (inner : Inner) (me : ℕ) (old new : List Event) : Type 0 where
  pub before : List Event
  pub step : Event
  pub later : List Event
  pub begins : before ≡ old ++ later
  pub own : is_foreign me step ≡ false
  pub showed : shows_dir inner step.request step.reply ≡ true
  pub spared : Extends (spares_dir inner) me (before ++ step ∷ []) new

-- no folder is removed
abbrev pub spares_folders : Request → Bool
spares_folders (RemoveFolder spot) = false
spares_folders request = true

-- a folder was removed
abbrev pub removes_folder : Request → Reply → Bool
removes_folder (RemoveFolder spot) Done = true
removes_folder request reply = false

-- no own removal of a folder was answered Ok between these two moments
pub record KeptFolders (me : ℕ) (old new : List Event) : Type 0 where
  pub more : List Event
  pub grown : new ≡ old ++ more
  pub kept : AllByRecursion (λ e. (is_foreign me e || not (removes_folder e.request e.reply)) ≡ true) more

abbrev pub KeepsFolders : DirAt → DirAt → Type 0
KeepsFolders old new = KeptFolders old.process old.trace new.trace

-- a directory that was missing when it was listed is the folder itself, which this process hadn't removed, or a listing had
-- shown it
abbrev pub IsCalledFor : Spot → Request → Reply → ℕ → List Event → List Event → Type 0
IsCalledFor spot (ListIn inner) (Refused Missing left) me old new = ((inner ≡ root_of spot) × Extends spares_folders me old new) ⊎ DirectoryWasShown inner me old new
IsCalledFor spot request reply me old new = Unit {0}

-- a folder stood there at an own step, and after that this process asked for no removal of a folder, until it was missing
pub record WentUnasked (spot : Spot) (me : ℕ) (old new : List Event) : Type 0 where
  pub between : List Event
  pub before : List Event
  pub after : List Event
  pub rest : List Event
  pub left : ℕ
  pub stood : AtOwnStep me old between (λ s. stands s.namespace spot ≡ true)
  pub spared : Extends spares_folders me between before
  pub missed : CallStep me before (ListIn (root_of spot)) (Refused Missing left) after
  pub ends : new ≡ after ++ rest

-- a directory was shown, and after that this process didn't ask for its removal, until it was missing
pub record WentUnremoved (inner : Inner) (me : ℕ) (old new : List Event) : Type 0 where
  pub before : List Event
  pub after : List Event
  pub rest : List Event
  pub left : ℕ
  pub shown : DirectoryWasShown inner me old before
  pub missed : CallStep me before (ListIn inner) (Refused Missing left) after
  pub ends : new ≡ after ++ rest

-- it is so of a listing of what was missing
abbrev pub WasCalledFor : Request → Reply → ℕ → List Event → List Event → Type 0
WasCalledFor (ListIn inner) (Refused Missing left) me old new = ((inner ≡ root_of inner.spot) × WentUnasked inner.spot me old new) ⊎ WentUnremoved inner me old new
WasCalledFor request reply me old new = Unit {0}

-- listings at this spot
abbrev pub lists_at : Spot → Request → Bool
lists_at spot (ListIn inner) = spot_eq inner.spot spot
lists_at spot request = false

-- its last step was a listing of this directory that was answered so
pub record ListsStray (inner : Inner) (me : ℕ) (old new : List Event) : Type 0 where
  pub before : List Event
  pub reply : Reply
  pub first : Extends (lists_at inner.spot) me old before
  pub stray : is_stray_deletion (ListIn inner) reply ≡ true
  pub last : CallStep me before (ListIn inner) reply new

-- its last step was answered so, and no directory was listed that none had shown
pub record WasStrayDeletion (spot : Spot) (me : ℕ) (old new : List Event) : Type 0 where
  pub before : List Event
  pub request : Request
  pub reply : Reply
  pub first : Extends (asks_deletion_at spot) me old before
  pub asked : asks_deletion_at spot request ≡ true
  pub stray : is_stray_deletion request reply ≡ true
  pub called : IsCalledFor spot request reply me old before
  pub last : CallStep me before request reply new

-- its one step was the task's removal, which was answered so
pub record RemovesStray (spot : Spot) (t : Task) (me : ℕ) (old new : List Event) : Type 0 where
  pub reply : Reply
  pub stray : is_stray_deletion (removal_of spot t) reply ≡ true
  pub last : CallStep me old (removal_of spot t) reply new

-- its one step was the task's removal, whatever it was answered
pub record AsksRemoval (spot : Spot) (t : Task) (me : ℕ) (old new : List Event) : Type 0 where
  pub reply : Reply
  pub step : CallStep me old (removal_of spot t) reply new

-- of a task's turn: it was listed, or removed
abbrev pub StrayTurn : Spot → Task → ℕ → List Event → List Event → Type 0
StrayTurn spot t me old new = ((is_unlisted t ≡ true) × ListsStray (task_inner spot t) me old new) ⊎ RemovesStray spot t me old new

-- each task that is a directory to be listed was shown between these moments
abbrev pub WasTaskShown : Spot → ℕ → List Event → List Event → Task → Type 0
WasTaskShown spot me old new t = is_unlisted t ≡ true → DirectoryWasShown (task_inner spot t) me old new

abbrev pub AreShown : Spot → List Task → ℕ → List Event → List Event → Type 0
AreShown spot tasks me old new = AllByRecursion (WasTaskShown spot me old new) tasks

-- the tasks that are left: each comes after its directory, no path comes twice, and each directory to be listed was shown between
-- these moments and not removed since
pub record AreAtHand (spot : Spot) (tasks : List Task) (me : ℕ) (old new : List Event) : Type 0 where
  pub nested : are_nested [] tasks ≡ true
  pub shown : AreShown spot tasks me old new

-- where the tasks were at hand since some moment, its last step was answered so after that
abbrev pub StrayAfter : Spot → List Task → DirAt → DirAt → Type 0
StrayAfter spot tasks old new = (start : List Event) → Extends (asks_deletion_at spot) old.process start old.trace → AreAtHand spot tasks old.process start old.trace → WasStrayDeletion spot old.process start new.trace

-- where some tasks were at hand since some moment, these are then
abbrev pub HandsOn : Spot → List Task → List Task → DirAt → DirAt → Type 0
HandsOn spot tasks left old new = (start : List Event) → Extends (asks_deletion_at spot) old.process start old.trace → AreAtHand spot tasks old.process start old.trace → AreAtHand spot left old.process start new.trace

abbrev pub EndsWithStrayDeletion : Spot → DirAt → DirAt → Type 0
EndsWithStrayDeletion spot old new = WasStrayDeletion spot old.process old.trace new.trace
