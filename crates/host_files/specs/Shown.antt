-- What a listing tells of an entry.
use Rattle.std.specs.Prelude.{ℕ, Bool, ◌&&◌, cond, nat_le, length, Option, Some, None, List, filter_map}
use Rattle.std.specs.List.{list_all}
use Rattle.dir_model.specs.Names.{is_name_byte}
use Rattle.dir_model.specs.declared.item.Item.{Item}
use Rattle.dir_model.specs.declared.item.ItemKind.{ItemKind}
use Rattle.dir_model.specs.declared.item.ItemKind.TheVariants as item
use Rattle.dir_trait.specs.declared.bundle.BundleItem.{BundleItem}
use Rattle.dir_trait.specs.declared.bundle.BundleKind.{BundleKind}
use Rattle.dir_trait.specs.declared.bundle.BundleKind.TheVariants.{Dir, File, Link, Other}

-- a link is told as one of the other kinds
abbrev pub shown_kind : BundleKind → ItemKind
shown_kind Dir = item.Dir
shown_kind File = item.File
shown_kind Link = item.Other
shown_kind Other = item.Other

abbrev pub shown_item : BundleItem → Item
shown_item entry = record { name = entry.name; kind = shown_kind entry.kind }

-- the text is a folder's name
abbrev pub is_folder_name : List ℕ → Bool
is_folder_name text = nat_le 1 (length text) && (nat_le (length text) 71 && list_all is_name_byte text)

-- a directory with such a name is a folder of the area, and nothing else is
abbrev pub folder_of_kind : BundleKind → List ℕ → Option (List ℕ)
folder_of_kind Dir name = cond (is_folder_name name) (Some name) None
folder_of_kind kind name = None

abbrev pub folder_name : BundleItem → Option (List ℕ)
folder_name entry = folder_of_kind entry.kind entry.name

abbrev pub folder_names : List BundleItem → List (List ℕ)
folder_names entries = filter_map folder_name entries
