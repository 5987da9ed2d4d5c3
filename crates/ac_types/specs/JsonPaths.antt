-- The paths of JSON values in a document: `$` is the whole, `labels[1].name` a field.
use Rattle.std.specs.Prelude.{ℕ, Bool, ◌||◌, List, [], ◌++◌, codes, if◌then◌else◌}
use Rattle.std.specs.Str.{bytes_eq}
use Rattle.std.specs.Fmt.{decimal}

-- the path is that of the whole document
abbrev pub is_whole : List ℕ → Bool
is_whole at = bytes_eq at [] || bytes_eq at (codes "$")

-- the path of a field: its name, behind the path of its object and a dot where that is not the whole
unfoldable pub field_path : List ℕ → List ℕ → List ℕ
field_path at name = if is_whole at then name else at ++ (codes "." ++ name)

-- the path of the element at a place of a list: the list's, and the place in brackets
unfoldable pub element_path : List ℕ → ℕ → List ℕ
element_path at place = at ++ (codes "[" ++ (decimal place ++ codes "]"))
