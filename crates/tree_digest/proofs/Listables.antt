-- Entries that may stand in a listing stay so.
use Rattle.std.proofs.Common.{ℕ, List, [], arith}
use Rattle.std.specs.List.{All}
use Rattle.path_map.specs.declared.entry.Entry.{Entry}
use Rattle.path_map.specs.declared.listed.Listed.{Listed}
use Rattle.path_map.specs.Entries.{Entries, Tree, entry_at, IsPathMap}
use Rattle.path_map.specs.Overlay.{overlaid, made_directory}
use Rattle.path_map.specs.Whitelist.{whitelisted}
use Rattle.path_map.proofs.EachEntries.{overlay_keeps_each, keep_keeps_each, all_in_list, each_in_list, each_of_none}
use Rattle.tree_digest.specs.Listings.{IsListable, AreListable}

-- what is asked of each entry, wherever it stands
abbrev pub IsListableAt : List ℕ → Entry → Type 0
IsListableAt path entry = IsListable entry

pub made_is_listable : IsListable made_directory
made_is_listable = omega arith

-- in the empty map, after an overlay of such an entry, and after a whitelist
pub none_is_listable : AreListable (entry_at [])
none_is_listable = each_of_none IsListableAt

pub overlay_keeps_listable : (tree : Tree) (path : List ℕ) (entry : Entry) → AreListable tree → IsListable entry → AreListable (overlaid tree path entry)
overlay_keeps_listable tree path entry each here = overlay_keeps_each IsListableAt (λ q. made_is_listable) tree path entry each here

pub keep_keeps_listable : (list : List Listed) (tree : Tree) → AreListable tree → AreListable (whitelisted list tree)
keep_keeps_listable list tree each = keep_keeps_each IsListableAt (λ q. made_is_listable) list tree each

-- by look-up and in the list
pub listable_in_list : (entries : Entries) → IsPathMap entries → AreListable (entry_at entries) → All (λ (e : List ℕ × Entry). IsListable e.1) entries
listable_in_list entries kind each = all_in_list IsListableAt entries kind.rising each

pub listable_by_list : (entries : Entries) → All (λ (e : List ℕ × Entry). IsListable e.1) entries → AreListable (entry_at entries)
listable_by_list entries all = each_in_list IsListableAt entries all
