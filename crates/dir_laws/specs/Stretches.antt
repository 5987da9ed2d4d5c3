-- What stood in an area or in a directory during a stretch of events.
use Rattle.std.specs.Prelude.{◌≡◌, ◌⊎◌, ℕ, true, List, [], ◌∷◌}
use Rattle.dir_model.specs.declared.area.Area.{Area}
use Rattle.dir_model.specs.declared.event.Event.{Event}
use Rattle.dir_model.specs.declared.item.Item.{Item}
use Rattle.dir_model.specs.State.{Namespace, DirState}
use Rattle.dir_model.specs.Trace.{namespace_replied, state_next}
use Rattle.dir_model.specs.Trees.{names_in, items_in}
use Rattle.dir_model.specs.Listings.{has_name, has_named, has_item}

-- before the first event, between each two, and after the last
abbrev pub Throughout : (DirState → Type 0) → DirState → List Event → Type 0
Throughout P s [] = P s
Throughout P s (e ∷ es) = P s × Throughout P (state_next s e) es

-- at one of these moments
abbrev pub Sometime : (DirState → Type 0) → DirState → List Event → Type 0
Sometime P s [] = P s
Sometime P s (e ∷ es) = P s ⊎ Sometime P (state_next s e) es

-- a folder of this name stands in the area
abbrev pub StandsInArea : Area → List ℕ → DirState → Type 0
StandsInArea area name s = has_name (names_in area s.namespace.folders) name ≡ true

-- something of the item's name stands in the directory, and the item itself does
abbrev pub StandsNamed : ℕ → List ℕ → Item → DirState → Type 0
StandsNamed folder path item s = has_named (items_in folder path s.entries) item ≡ true

abbrev pub StandsInside : ℕ → List ℕ → Item → DirState → Type 0
StandsInside folder path item s = has_item (items_in folder path s.entries) item ≡ true

-- the namespace after several events, by their requests and replies alone
abbrev pub namespaces_next : Namespace → List Event → Namespace
namespaces_next n [] = n
namespaces_next n (e ∷ es) = namespaces_next (namespace_replied n e.process e.request e.reply) es
