-- The listing of an image under the gate.
use Rattle.std.specs.Prelude.{◌≡◌, ℕ, Bool, true, ◌&&◌, bytes_eq, Some, List, [], ◌++◌}
use Rattle.std.specs.List.{list_any}
use Rattle.dir_model.specs.declared.area.Area.TheVariants.{Images}
use Rattle.dir_model.specs.declared.event.Event.{Event}
use Rattle.dir_model.specs.declared.item.Item.{Item}
use Rattle.dir_model.specs.declared.spot.Spot.{Spot}
use Rattle.dir_model.specs.Paths.{is_file_name}
use Rattle.dir_model.specs.State.{folder_at}
use Rattle.dir_model.specs.Trace.{state_after}
use Rattle.dir_model.specs.Trees.{kind_of}
use Rattle.dir_model.specs.Listings.{has_name, item_names, has_item, is_item}
use Rattle.dir_rules.specs.declared.seen.Entry.{Entry}
use Rattle.dir_rules.specs.Standing.{is_in}
use Rattle.dir_files.specs.Reads.{inner_at}
use Rattle.dir_files.specs.Listed.{ShowsDirectory}
use Rattle.folder_contents.specs.Entries.{entries_in}
use Rattle.gate_reading.specs.Gate.{HasGate}

-- something of this name stands directly in the folder
abbrev pub has_direct : List Entry → List ℕ → Bool
has_direct es name = is_file_name name && list_any (λ e. bytes_eq e.path name) es

-- what a listing shows of an entry that stands directly in the folder
abbrev pub shown_item_of : Entry → Item
shown_item_of e = record { name = e.path; kind = kind_of e.node }

-- something of this item's name and kind stands directly in the folder
abbrev pub has_direct_item : List Entry → Item → Bool
has_direct_item es item = is_file_name item.name && list_any (λ e. is_item item (shown_item_of e)) es

-- the items show exactly the names of what stands directly in a folder with these entries, each with a kind that stands so
pub record ShowsEntries (es : List Entry) (items : List Item) : Type 0 where
  pub names : (name : List ℕ) → has_name (item_names items) name ≡ has_direct es name
  pub kinds : (item : Item) → has_item items item ≡ true → has_direct_item es item ≡ true

-- while the gate is had, a listing of an image shows what stood in it at any moment before
abbrev pub ListingsTell : List Event → Type 0
ListingsTell trace =
    (p : ℕ) (before x y later : List Event) (spot : Spot) (folder : ℕ) (items : List Item) → trace ≡ ((before ++ x) ++ y) ++ later →
    is_in Images spot.area ≡ true → HasGate p before (x ++ y) → folder_at (state_after before).namespace spot ≡ Some folder →
    ShowsDirectory p (before ++ x) ((before ++ x) ++ y) (inner_at spot []) items →
    ShowsEntries (entries_in folder (state_after before).entries) items
