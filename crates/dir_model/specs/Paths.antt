-- Paths inside folders: file names parted by slashes. The empty path is the folder itself.
use Rattle.std.specs.Prelude.{ℕ, ◌+◌, ◌-◌, ◌==◌, Bool, true, false, not, ◌&&◌, ◌||◌, cond, if◌then◌else◌, nat_eq, nat_le, List, [], ◌∷◌, ◌++◌, length, take, drop, slice_index, Option, Some, None}
use Rattle.std.specs.List.{list_any, list_all, starts_with}
use Rattle.std.specs.Str.{is_utf8}
use Rattle.dir_model.specs.declared.item.Inner.{Inner}
use Rattle.dir_model.specs.declared.request.Request.{Request}
use Rattle.dir_model.specs.declared.request.Request.TheVariants.{ListIn, MakeDirIn, MakeFileIn, AppendIn, ReadIn, SyncIn, RemoveFileIn, RemoveDirIn}
use Rattle.dir_model.specs.Names.{is_file_byte}

-- the byte is a slash
abbrev pub is_slash : ℕ → Bool
is_slash b = b == 47

-- there is nothing in the list
abbrev pub is_empty : {X : Type 0} → List X → Bool
is_empty [] = true
is_empty (x ∷ xs) = false

-- 1 to 255 bytes of UTF-8 without '/' and NUL
abbrev pub is_file_name : List ℕ → Bool
is_file_name bs = not (is_empty bs) && (nat_le (length bs) 255 && (list_all is_file_byte bs && is_utf8 bs))

-- a name so far, and what follows it, are file names parted by slashes
abbrev pub are_names : List ℕ → List ℕ → Bool
are_names name [] = is_file_name name
are_names name (b ∷ bs) = cond (is_slash b) (is_file_name name && are_names [] bs) (are_names (name ++ b ∷ []) bs)

-- the bytes from a place on, up to another
abbrev pub part : ℕ → ℕ → List ℕ → List ℕ
part start end path = take (end - start) (drop start path)

-- the empty path, or names parted by slashes
abbrev pub is_path : List ℕ → Bool
is_path path = is_empty path || are_names [] path

-- the path goes on behind the directory's, after a slash. Every other path lies below the folder itself
unfoldable pub lies_below : List ℕ → List ℕ → Bool
lies_below path directory =
    if length directory == 0 then not (length path == 0)
    else starts_with nat_eq path directory && (slice_index path (length directory) == 47)

-- what stands behind the directory's path and a slash
abbrev pub behind : List ℕ → List ℕ → List ℕ
behind directory path = drop (cond (is_empty directory) 0 (length directory + 1)) path

-- it is one name behind the directory
abbrev pub is_directly_in : List ℕ → List ℕ → Bool
is_directly_in directory path = lies_below path directory && (not (is_empty (behind directory path)) && not (list_any is_slash (behind directory path)))

-- the path that a request is about
abbrev pub inner_of : Request → Option Inner
inner_of (ListIn inner) = Some inner
inner_of (MakeDirIn inner) = Some inner
inner_of (MakeFileIn inner) = Some inner
inner_of (AppendIn inner piece) = Some inner
inner_of (ReadIn inner at room) = Some inner
inner_of (SyncIn inner) = Some inner
inner_of (RemoveFileIn inner) = Some inner
inner_of (RemoveDirIn inner) = Some inner
inner_of _ = None

-- the path of a request, where it has one, is a path
abbrev pub has_path : Option Inner → Bool
has_path None = true
has_path (Some inner) = is_path inner.path

-- its path, if it has one, is empty or file names parted by slashes
abbrev pub is_well_formed : Request → Bool
is_well_formed request = has_path (inner_of request)
