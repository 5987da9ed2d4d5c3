-- Listings, which take two events: their beginning and their end.
use Rattle.std.specs.Prelude.{ℕ, Bool, true, false, not, ◌&&◌, ◌==◌, cond, bytes_eq, Option, Some, None, List, [], ◌∷◌, ◌++◌, map, filter, find}
use Rattle.std.specs.List.{list_any, list_all}
use Rattle.std.specs.Ordering.{nat_cmp, is_lt}
use Rattle.std.specs.Cmp.Lexicographic.{slice_cmp}
use Rattle.dir_model.specs.declared.area.Area.{Area}
use Rattle.dir_model.specs.declared.item.Inner.{Inner}
use Rattle.dir_model.specs.declared.item.Item.{Item}
use Rattle.dir_model.specs.declared.item.ItemKind.{ItemKind}
use Rattle.dir_model.specs.declared.item.ItemKind.TheVariants as kind
use Rattle.dir_model.specs.declared.tree.Listed.{Listed}
use Rattle.dir_model.specs.declared.tree.Listed.TheVariants as listed
use Rattle.dir_model.specs.declared.tree.OpenListing.{OpenListing}
use Rattle.dir_model.specs.declared.request.Request.{Request}
use Rattle.dir_model.specs.declared.request.Request.TheVariants.{ListArea, ListIn}
use Rattle.dir_model.specs.Areas.{rank}
use Rattle.dir_model.specs.State.{DirState, folder_at, spot_eq}
use Rattle.dir_model.specs.Trees.{has_dir, names_in, items_in}

-- it asks for a listing
abbrev pub is_listing_request : Request → Bool
is_listing_request (ListArea area) = true
is_listing_request (ListIn inner) = true
is_listing_request _ = false

-- the name is among these
abbrev pub has_name : List (List ℕ) → List ℕ → Bool
has_name names name = list_any (λ n. bytes_eq n name) names

-- the names of items
abbrev pub item_names : List Item → List (List ℕ)
item_names items = map (λ item. item.name) items

-- the item has this name
abbrev pub is_named : List ℕ → Item → Bool
is_named name item = bytes_eq item.name name

-- something of the item's name stands
abbrev pub has_named : List Item → Item → Bool
has_named items item = list_any (is_named item.name) items

-- kinds are told apart by a number
abbrev pub kind_number : ItemKind → ℕ
kind_number kind.Dir = 0
kind_number kind.File = 1
kind_number kind.Other = 2

-- the same name, and the same kind
abbrev pub is_item : Item → Item → Bool
is_item item other = bytes_eq other.name item.name && (kind_number other.kind == kind_number item.kind)

-- the item is among these
abbrev pub has_item : List Item → Item → Bool
has_item items item = list_any (is_item item) items

-- what stands now is noted
abbrev pub listing_noted : DirState → Listed → Listed
listing_noted s (listed.Area area through ever) = listed.Area area (filter (has_name (names_in area s.namespace.folders)) through) (ever ++ names_in area s.namespace.folders)
listing_noted s (listed.Missing inner) = listed.Missing inner
listing_noted s (listed.Inside inner folder through ever) = listed.Inside inner folder (filter (has_named (items_in folder inner.path s.entries)) through) (ever ++ items_in folder inner.path s.entries)

-- a listing that is going on, with what stands in its directory now
abbrev pub noted_by : DirState → OpenListing → OpenListing
noted_by s l = record { process = l.process; listed = listing_noted s l.listed }

-- the same of all that are going on
abbrev pub noted_all : DirState → List OpenListing → List OpenListing
noted_all s ls = map (noted_by s) ls

-- what a listing is about that begins now
abbrev pub begun_at : DirState → Inner → Option ℕ → Listed
begun_at s inner None = listed.Missing inner
begun_at s inner (Some folder) = cond (has_dir s.entries folder inner.path) (listed.Inside inner folder (items_in folder inner.path s.entries) []) (listed.Missing inner)

-- the listing that this request begins
abbrev pub listing_begun : DirState → ℕ → Request → Option OpenListing
listing_begun s p (ListArea area) = Some (record { process = p; listed = listed.Area area (names_in area s.namespace.folders) [] })
listing_begun s p (ListIn inner) = Some (record { process = p; listed = begun_at s inner (folder_at s.namespace inner.spot) })
listing_begun s p _ = None

-- the listing is this process's
abbrev pub is_listing_of : ℕ → OpenListing → Bool
is_listing_of p l = l.process == p

-- the process has a listing open
abbrev pub is_listing : DirState → ℕ → Bool
is_listing s p = list_any (is_listing_of p) s.listings

-- the listings that are going on, without this process's
abbrev pub without_listing : ℕ → List OpenListing → List OpenListing
without_listing p ls = filter (λ l. not (is_listing_of p l)) ls

-- and this is what stands now and stood before, and what stood at some moment
abbrev pub listing_of : DirState → ℕ → Option OpenListing
listing_of s p = find (is_listing_of p) (noted_all s s.listings)

-- each once, in byte order
abbrev pub ascend : List (List ℕ) → Bool
ascend [] = true
ascend (name ∷ names) = list_all (λ other. is_lt (slice_cmp nat_cmp name other)) names && ascend names

-- the names show what stood all the time, and only what stood at some moment
abbrev pub shows_names : List (List ℕ) → List (List ℕ) → List (List ℕ) → Bool
shows_names through ever names = ascend names && (list_all (has_name names) through && list_all (has_name (through ++ ever)) names)

-- the same of items, each of a kind that stood under its name
abbrev pub shows_items : List Item → List Item → List Item → Bool
shows_items through ever items = ascend (item_names items) && (list_all (has_named items) through && list_all (has_item (through ++ ever)) items)

-- the path is the one that the other names
abbrev pub is_inner : Inner → Inner → Bool
is_inner inner other = spot_eq inner.spot other.spot && bytes_eq inner.path other.path

-- the listing of this area is open, and the names show it
abbrev pub shows_area : Area → List (List ℕ) → Option OpenListing → Bool
shows_area area names None = false
shows_area area names (Some l) = by l.listed
  where
    by : Listed → Bool
    by (listed.Area here through ever) = (rank here == rank area) && shows_names through ever names
    by _ = false

-- the listing of this directory is open, and the items show it
abbrev pub shows_inside : Inner → List Item → Option OpenListing → Bool
shows_inside inner items None = false
shows_inside inner items (Some l) = by l.listed
  where
    by : Listed → Bool
    by (listed.Inside here folder through ever) = is_inner here inner && shows_items through ever items
    by _ = false

-- the listing of this directory is open, and none stood there when it began
abbrev pub shows_missing : Inner → Option OpenListing → Bool
shows_missing inner None = false
shows_missing inner (Some l) = by l.listed
  where
    by : Listed → Bool
    by (listed.Missing here) = is_inner here inner
    by _ = false

-- what the open listing is about is what the request asks for
abbrev pub is_about : Request → Listed → Bool
is_about (ListArea area) (listed.Area here through ever) = rank here == rank area
is_about (ListIn inner) (listed.Missing here) = is_inner here inner
is_about (ListIn inner) (listed.Inside here folder through ever) = is_inner here inner
is_about request _ = false

-- the process has begun the listing that is asked for
abbrev pub is_open_listing : Request → Option OpenListing → Bool
is_open_listing request None = false
is_open_listing request (Some l) = is_about request l.listed
