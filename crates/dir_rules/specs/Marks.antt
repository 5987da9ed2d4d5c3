-- Paths inside a folder, and the names of marks.
use Rattle.std.specs.Prelude.{ℕ, zero, suc, ◌+◌, ◌-◌, ◌*◌, ◌/◌, ◌%◌, Bool, true, false, not, ◌&&◌, nat_lt, nat_le, nat_eq, cond, bytes_eq, Option, Some, None, List, [], ◌∷◌, ◌++◌, length, drop, fold, codes}
use Rattle.std.specs.List.{list_any, starts_with}
use Rattle.dir_model.specs.Paths.{is_slash}
use Rattle.dir_model.specs.Trees.{mark_prefix}

-- a slash is among the bytes
abbrev pub has_slash : List ℕ → Bool
has_slash path = list_any is_slash path

-- what stands before the last '/'. The empty path is the folder itself
abbrev pub parent : List ℕ → List ℕ
parent [] = []
parent (b ∷ bs) = cond (has_slash bs) (b ∷ parent bs) []

-- the path of a name in a directory
abbrev pub path_in : List ℕ → List ℕ → List ℕ
path_in [] name = name
path_in (b ∷ bs) name = (b ∷ bs) ++ 47 ∷ name

-- the second begins with the first
abbrev pub begins : List ℕ → List ℕ → Bool
begins text bs = starts_with nat_eq bs text

-- n in this number of decimal digits
abbrev pub digits : ℕ → ℕ → List ℕ
digits zero n = []
digits (suc k) n = digits k (n / 10) ++ (48 + n % 10) ∷ []

-- a mark of a moment
abbrev pub mark : List ℕ → ℕ → List ℕ
mark text moment = text ++ digits 20 moment

-- the mark of a pod's creation at this moment
abbrev pub created_mark : ℕ → List ℕ
created_mark moment = mark (codes "created-") moment

-- the mark of the moment at which a pod in run was found dead
abbrev pub marked_mark : ℕ → List ℕ
marked_mark moment = mark (codes "marked-") moment

-- the number that decimal digits stand for
abbrev pub number_of : List ℕ → ℕ
number_of bs = fold (λ n b. n * 10 + (b - 48)) 0 bs

-- the moment of a mark that begins with this text: its digits stand for a number of 64 bits
abbrev pub mark_moment : List ℕ → List ℕ → Option ℕ
mark_moment text name =
    cond (bytes_eq name (mark text (number_of (drop (length text) name))) && nat_le (number_of (drop (length text) name)) 18446744073709551615)
    (Some (number_of (drop (length text) name))) None

-- the moment of a created- mark
abbrev pub created_moment : List ℕ → Option ℕ
created_moment name = cond (bytes_eq name (created_mark (number_of (drop 8 name))) && nat_le (number_of (drop 8 name)) 18446744073709551615) (Some (number_of (drop 8 name))) None

-- the mark of an app: it stands in the folder itself, and a name follows
abbrev pub is_started_mark : List ℕ → Bool
is_started_mark path = begins (mark_prefix) path && nat_lt 8 (length path) && not (has_slash path)

-- the directory of a pod for the statuses of its apps
abbrev pub status_directory : List ℕ
status_directory = codes "stage1/rootfs/rkt/status"

-- the file of an app in the directory for statuses
abbrev pub is_status_file : List ℕ → Bool
is_status_file path = begins (codes "stage1/rootfs/rkt/status/") path && nat_lt 25 (length path) && not (has_slash (drop 25 path))

-- what stands below the directory for statuses, at any depth
abbrev pub is_below_status : List ℕ → Bool
is_below_status path = begins (codes "stage1/rootfs/rkt/status/") path

-- a mark that no maker makes
abbrev pub is_later_mark : List ℕ → Bool
is_later_mark path = cond (has_slash path) false (cond (begins (mark_prefix) path) true (begins (codes "marked-") path))
