-- When an image was imported.
use Rattle.std.specs.Prelude.{ℕ, ◌≤◌, Bool, ◌&&◌, nat_le, cond, bytes_eq, Option, Some, None, List, drop, filter_map, Contains}
use Rattle.std.specs.List.{AllByRecursion}
use Rattle.dir_model.specs.declared.item.Item.{Item}
use Rattle.dir_rules.specs.Marks.{mark, number_of}
use Rattle.image_reading.specs.Places.{mark_name}

abbrev pub imported_mark : ℕ → List ℕ
imported_mark moment = mark mark_name moment

-- it is the mark of that number, which has 64 bits
abbrev pub is_imported_mark : List ℕ → ℕ → Bool
is_imported_mark name moment = bytes_eq name (imported_mark moment) && nat_le moment 18446744073709551615

-- the moment of a mark
unfoldable pub imported_moment : List ℕ → Option ℕ
imported_moment name = cond (is_imported_mark name (number_of (drop 9 name))) (Some (number_of (drop 9 name))) None

-- the moments of the marks among the items of a folder
abbrev pub imported_moments : List Item → List ℕ
imported_moments items = filter_map (λ (item : Item). imported_moment item.name) items

-- it is one of these numbers, and none is greater
pub record IsGreatest (numbers : List ℕ) (number : ℕ) : Type 0 where
  pub one : Contains numbers number
  pub most : AllByRecursion (λ n. n ≤ number) numbers
