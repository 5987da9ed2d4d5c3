-- What a listing tells of the time that it took.
use Rattle.std.specs.Prelude.{◌≡◌, ℕ, true, false, Some, List, [], ◌∷◌, ◌++◌}
use Rattle.dir_model.specs.declared.area.Area.{Area}
use Rattle.dir_model.specs.declared.event.Event.{Event}
use Rattle.dir_model.specs.declared.item.Inner.{Inner}
use Rattle.dir_model.specs.declared.item.Item.{Item}
use Rattle.dir_model.specs.declared.request.Request.{Request}
use Rattle.dir_model.specs.declared.request.Request.TheVariants.{ListArea, ListIn}
use Rattle.dir_model.specs.declared.request.Reply.{Reply}
use Rattle.dir_model.specs.declared.request.Reply.TheVariants.{Begun, Names, Items}
use Rattle.dir_model.specs.State.{folder_at}
use Rattle.dir_model.specs.Trace.{state_after}
use Rattle.dir_model.specs.Trees.{has_dir}
use Rattle.dir_model.specs.Listings.{has_name, has_named, has_item}
use Rattle.dir_model.specs.Replies.{is_apps_request}
use Rattle.dir_model.specs.Calls.{event}
use Rattle.dir_laws.specs.Stretches.{Throughout, Sometime, StandsInArea, StandsNamed, StandsInside}
use Rattle.dir_trait.specs.DirCalls.{DirAt}

-- a listing began, other events came, and it ended with this reply
pub record Stretch (me : ℕ) (old new : List Event) (request : Request) (reply : Reply) : Type 0 where
  -- the trace once it had begun
  pub begun : List Event
  pub earlier : List Event
  pub others : List Event
  pub begins : begun ≡ old ++ earlier
  -- its beginning is an own event, after these
  pub before : List Event
  pub opens : begun ≡ (old ++ before) ++ event me request Begun ∷ []
  pub ends : new ≡ (begun ++ others) ++ event me request reply ∷ []

-- each name that stood in the area from the beginning to the end is shown, and only such as stood there at some moment
pub record ShowsArea (me : ℕ) (old new : List Event) (area : Area) (names : List (List ℕ)) : Type 0 where
  pub stretch : Stretch me old new (ListArea area) (Names names)
  pub all : (name : List ℕ) → Throughout (StandsInArea area name) (state_after stretch.begun) stretch.others → has_name names name ≡ true
  pub only : (name : List ℕ) → has_name names name ≡ true → Sometime (StandsInArea area name) (state_after stretch.begun) stretch.others

abbrev pub ShowsAreaBetween : DirAt → DirAt → Area → List (List ℕ) → Type 0
ShowsAreaBetween old new area names = ShowsArea old.process old.trace new.trace area names

-- the same of a directory in the folder that stood there when it began, of each item with its kind; but at and below the root
-- of a started app anything may be shown
pub record ShowsInside (me : ℕ) (old new : List Event) (inner : Inner) (items : List Item) (s : Stretch me old new (ListIn inner) (Items items)) : Type 0 where
  pub folder : ℕ
  pub here : folder_at (state_after s.begun).namespace inner.spot ≡ Some folder
  pub there : has_dir (state_after s.begun).entries folder inner.path ≡ true
  pub all : (item : Item) → Throughout (StandsNamed folder inner.path item) (state_after s.begun) s.others → has_named items item ≡ true
  pub only : (item : Item) → has_item items item ≡ true → Sometime (StandsInside folder inner.path item) (state_after s.begun) s.others

pub record ShowsDirectory (me : ℕ) (old new : List Event) (inner : Inner) (items : List Item) : Type 0 where
  pub stretch : Stretch me old new (ListIn inner) (Items items)
  pub shows : is_apps_request (state_after (stretch.begun ++ stretch.others)) (ListIn inner) ≡ false → ShowsInside me old new inner items stretch

abbrev pub ShowsDirectoryBetween : DirAt → DirAt → Inner → List Item → Type 0
ShowsDirectoryBetween old new inner items = ShowsDirectory old.process old.trace new.trace inner items
