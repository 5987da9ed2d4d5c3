-- JSON objects as they are written: the fields that are there, in the byte order of their names.
use Rattle.std.specs.Prelude.{ℕ, Bool, true, false, List, [], ◌∷◌, map, Option, Some, None}
use Rattle.serde_json.specs.Data.{Data, boolean, array, Items, no_items, item, Members, no_members, member, put}
use Rattle.serde_json.specs.View.{items_of, members_view}
use Rattle.app_section.specs.declared.object_builder.ObjectBuilder.{ObjectBuilder}

-- a field: its name, and its value unless it is left out
abbrev pub Field : Type 0
Field = List ℕ × Option Data

-- the members of an object with these fields
abbrev pub written : List Field → Members
written [] = no_members
written ((name, None) ∷ fields) = written fields
written ((name, Some d) ∷ fields) = member name d (written fields)

-- a truth value is left out where it is false
abbrev pub if_true : Bool → Option Data
if_true true = Some (boolean true)
if_true false = None

-- a list, each element written in this way
abbrev pub list_data : {A : Type 0} → (A → Data) → List A → Data
list_data write xs = array (items_of (map write xs))

-- a list is left out where it is empty
abbrev pub unless_empty : Items → Option Data
unless_empty no_items = None
unless_empty (item d ds) = Some (array (item d ds))

abbrev pub if_filled : {A : Type 0} → (A → Data) → List A → Option Data
if_filled write xs = unless_empty (items_of (map write xs))

-- the members that were put so far
abbrev pub built : ObjectBuilder → Members
built b = members_view b.members.entries

-- the members with one field more, where it is not left out
unfoldable pub put_field : List ℕ → Option Data → Members → Members
put_field name None ms = ms
put_field name (Some d) ms = put name d ms

-- the members with some fields more, one after the other
abbrev pub put_all : List Field → Members → Members
put_all [] ms = ms
put_all ((name, value) ∷ fields) ms = put_all fields (put_field name value ms)
