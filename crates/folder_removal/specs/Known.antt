-- What a process knows on the way to a folder's deletion, and after it.
use Rattle.std.specs.Prelude.{◌≡◌, ◌⊎◌, ℕ, Bool, true, false, not, ◌||◌, List, [], ◌++◌, map, filter}
use Rattle.std.specs.List.{list_any, list_all}
use Rattle.dir_model.specs.declared.item.Inner.{Inner}
use Rattle.dir_model.specs.declared.event.Event.{Event}
use Rattle.dir_model.specs.declared.item.Item.{Item}
use Rattle.dir_model.specs.declared.spot.Spot.{Spot}
use Rattle.dir_model.specs.declared.request.Request.{Request}
use Rattle.dir_model.specs.declared.request.Request.TheVariants.{ListIn}
use Rattle.dir_model.specs.declared.request.Reply.{Reply}
use Rattle.dir_model.specs.declared.request.Reply.TheVariants.{Items, Begun}
use Rattle.dir_model.specs.Calls.{CallStep, ListStep}
use Rattle.dir_trait.specs.State.{spot_eq}
use Rattle.dir_rules.specs.declared.seen.Created.{Created}
use Rattle.dir_rules.specs.declared.seen.ShownItem.{ShownItem}
use Rattle.dir_rules.specs.declared.seen.Seen.{Seen}
use Rattle.dir_rules.specs.LockRules.{may_remove}
use Rattle.dir_rules.specs.Seen.{inner_eq, forget_listed, forget_items, moved_away}
use Rattle.dir_rules.specs.Rules.{root_of, allows, is_item_shown, is_file_item}
use Rattle.dir_rules.specs.Conforms.{seen_replied, seen_listed, IsTied}
use Rattle.dir_trait.specs.DirCalls.{DirAt}
use Rattle.dir_trait.specs.Knowledge.{Knows}
use Rattle.folder_removal.specs.declared.task.Task.{Task}
use Rattle.folder_removal.specs.Tasks.{deletion_task_of, has_plain_name, are_distinct, are_nested}
use Rattle.folder_removal.specs.Removal.{task_inner, removal_of, asks_deletion_at, is_stray_deletion}

abbrev pub task_shown_at : Spot → Task → ShownItem
task_shown_at spot t = record { inner = task_inner spot t; kind = t.kind }

-- it was shown in this folder
abbrev pub is_there : Spot → ShownItem → Bool
is_there spot i = spot_eq i.inner.spot spot

-- the lock that removals at this spot need is held, and nothing was shown there that wasn't removed
pub record MayDelete (spot : Spot) (s : Seen) : Type 0 where
  pub lock : may_remove s.standing spot ≡ true
  pub bare : list_any (is_there spot) s.items ≡ false

-- nothing has changed but what was listed at this spot, and the created- marks that listings showed. So each request was
-- allowed, if those before were
pub record OnlyThere (spot : Spot) (old new : Seen) : Type 0 where
  pub listed : forget_listed spot new.listed ≡ forget_listed spot old.listed
  pub items : forget_items spot new.items ≡ forget_items spot old.items
  pub same : new ≡ record old { listed = new.listed; items = new.items; created = new.created }

-- the same, and what was known of the folder is forgotten: it stands nowhere any more
pub record ForgetsFolder (spot : Spot) (old new : Seen) : Type 0 where
  pub created : List Created
  pub same : new ≡ record old {
    listed = forget_listed spot old.listed;
    items = forget_items spot old.items;
    areas = map (moved_away spot) old.areas;
    put_away = filter (λ p. not (spot_eq p spot)) old.put_away;
    created = created;
  }

-- the directory was listed, where the task says so
abbrev pub has_listed : Spot → List Inner → Task → Bool
has_listed spot ls t = not t.listed || list_any (inner_eq (task_inner spot t)) ls

-- what was shown in the folder and not removed since are just the tasks
pub record IsDeletionUnderWay (spot : Spot) (tasks : List Task) (s : Seen) : Type 0 where
  pub others : List ShownItem
  pub apart : list_any (is_there spot) others ≡ false
  pub items : s.items ≡ others ++ map (task_shown_at spot) tasks
  pub lock : may_remove s.standing spot ≡ true
  pub nested : are_nested [] tasks ≡ true
  pub root : list_any (inner_eq (root_of spot)) s.listed ≡ true
  pub listed : list_all (has_listed spot s.listed) tasks ≡ true

-- what a process knew, and what it listed at this spot since
pub record KnowsBut (spot : Spot) (s : Seen) (new : DirAt) : Type 0 where
  pub known : Seen
  pub only : OnlyThere spot s known
  pub knows : Knows new known

-- and these tasks are left
pub record StillAtWork (spot : Spot) (tasks : List Task) (s : Seen) (new : DirAt) : Type 0 where
  pub known : Seen
  pub only : OnlyThere spot s known
  pub work : IsDeletionUnderWay spot tasks known
  pub knows : Knows new known

-- what it knew, without the folder
pub record KnowsDeleted (spot : Spot) (s : Seen) (new : DirAt) : Type 0 where
  pub known : Seen
  pub is : ForgetsFolder spot s known
  pub knows : Knows new known

-- whatever a process knew, it knows that and this reply
abbrev pub Learns : Request → Reply → DirAt → DirAt → Type 0
Learns request reply old new = (s : Seen) → Knows old s → Knows new (seen_replied s request reply)

-- the directory was listed, and showed what the tasks are
pub record IsListedAsTasks (spot : Spot) (path : List ℕ) (tasks : List Task) (old new : DirAt) : Type 0 where
  pub items : List Item
  pub are : tasks ≡ map (deletion_task_of path) items
  pub plain : list_all has_plain_name items ≡ true
  pub once : are_distinct items ≡ true
  pub knows : (s : Seen) → Knows old s → Knows new (seen_listed s (ListIn (record { spot = spot; path = path })) (Items items))

-- a listing at this spot changes nothing else that is known
abbrev pub OnlyLists : Spot → DirAt → DirAt → Type 0
OnlyLists spot old new = (s : Seen) → Knows old s → KnowsBut spot s new

-- nor does a removal that is allowed
abbrev pub OnlyRemoves : Spot → Task → DirAt → DirAt → Type 0
OnlyRemoves spot t old new = (s : Seen) → Knows old s → allows s (removal_of spot t) ≡ true → KnowsBut spot s new

-- nor does the work at these tasks
abbrev pub OnlyWorks : Spot → List Task → DirAt → DirAt → Type 0
OnlyWorks spot tasks old new = (s : Seen) → Knows old s → IsDeletionUnderWay spot tasks s → KnowsBut spot s new

-- which leaves these of them
abbrev pub WorksOff : Spot → List Task → List Task → DirAt → DirAt → Type 0
WorksOff spot tasks left old new = (s : Seen) → Knows old s → IsDeletionUnderWay spot tasks s → StillAtWork spot left s new

-- where the folder may be deleted: it was, and is forgotten
abbrev pub Deletes : Spot → DirAt → DirAt → Type 0
Deletes spot old new = (s : Seen) → Knows old s → MayDelete spot s → KnowsDeleted spot s new

-- or nothing has changed but what is known of it
abbrev pub OnlyTries : Spot → DirAt → DirAt → Type 0
OnlyTries spot old new = (s : Seen) → Knows old s → MayDelete spot s → KnowsBut spot s new

-- where it listed a directory, that was the folder itself, or a listing had shown it and it wasn't removed since
abbrev pub IsListingDue : Seen → Request → Type 0
IsListingDue s (ListIn inner) = (inner ≡ root_of inner.spot) ⊎ (is_item_shown (λ k. not (is_file_item k)) inner s.items ≡ true)
IsListingDue s request = Unit {0}

-- it had asked for this, and nothing else since: a listing had begun, or nothing had come
abbrev pub HasAsked : Request → ℕ → List Event → List Event → Type 0
HasAsked request me asked before = (before ≡ asked) ⊎ CallStep me asked request Begun before

-- its last step was answered as what the lock keeps doesn't explain, and this is what it knew when it asked
pub record StrayKnowing (spot : Spot) (me : ℕ) (new : List Event) : Type 0 where
  pub asked : List Event
  pub seen : Seen
  pub knew : IsTied me asked seen
  pub lock : may_remove seen.standing spot ≡ true
  pub request : Request
  pub reply : Reply
  pub about : asks_deletion_at spot request ≡ true
  pub stray : is_stray_deletion request reply ≡ true
  pub due : IsListingDue seen request
  pub before : List Event
  pub begun : HasAsked request me asked before
  pub last : CallStep me before request reply new

-- wherever it was at work there
abbrev pub StrayAtWork : Spot → List Task → DirAt → DirAt → Type 0
StrayAtWork spot tasks old new = (s : Seen) → Knows old s → IsDeletionUnderWay spot tasks s → StrayKnowing spot old.process new.trace

-- wherever the folder might be deleted
abbrev pub StrayDeleting : Spot → DirAt → DirAt → Type 0
StrayDeleting spot old new = (s : Seen) → Knows old s → MayDelete spot s → StrayKnowing spot old.process new.trace

-- the directory was listed, which was answered so
pub record ListedStray (inner : Inner) (me : ℕ) (old new : List Event) : Type 0 where
  pub reply : Reply
  pub stray : is_stray_deletion (ListIn inner) reply ≡ true
  pub step : ListStep me old (ListIn inner) reply new
