-- Where a program is found.
use Rattle.std.specs.Prelude.{ℕ, Bool, true, false, ◌&&◌, ◌==◌, cond, is_none, Option, Some, None, Result, Ok, Err, List, [], ◌∷◌, ◌++◌, map, filter, drop, find}
use Rattle.std.specs.List.{slice_split}
use Rattle.path_map.specs.declared.entry.Entry.{Entry}
use Rattle.path_map.specs.declared.entry.Entry.TheVariants.{File, Link}
use Rattle.path_map.specs.Entries.{Tree}
use Rattle.path_map.specs.Paths.{path_fault}

-- a path below the root
abbrev pub is_absolute_path : List ℕ → Bool
is_absolute_path text = is_none (path_fault text)

-- a file stands there, or a link
abbrev pub is_startable : Option Entry → Bool
is_startable (Some (File meta size sha)) = true
is_startable (Some (Link meta target)) = true
is_startable other = false

abbrev pub is_program : Tree → List ℕ → Bool
is_program tree path = is_absolute_path path && is_startable (tree path)

-- the path of a word in a directory
abbrev pub word_path_in : List ℕ → List ℕ → List ℕ
word_path_in word directory = directory ++ 47 ∷ word

-- the program of that name in a directory
abbrev pub program_in_directory : Tree → List ℕ → List ℕ → Option (List ℕ)
program_in_directory tree word directory = cond (is_absolute_path directory && is_program tree (word_path_in word directory)) (Some (word_path_in word directory)) None

-- the first in some directories; what is no absolute path is passed over
abbrev pub found_among : Tree → List ℕ → List (List ℕ) → Option (List ℕ)
found_among tree word directories = find (is_program tree) (map (word_path_in word) (filter is_absolute_path directories))

-- the word begins with a slash
abbrev pub is_rooted : List ℕ → Bool
is_rooted [] = false
is_rooted (b ∷ bs) = b == 47

-- the word itself where it begins with a slash; and else the first program of that name in the directories of a search path
abbrev pub program_of : List ℕ → List ℕ → Tree → Option (List ℕ)
program_of word search tree = cond (is_rooted word) (Some word) (found_among tree word (slice_split (λ b. b == 58) search))

-- the program word, or none
abbrev pub program_word_of : List (List ℕ) → List ℕ
program_word_of [] = []
program_word_of (word ∷ rest) = word

-- the words with which a program starts: its path in the place of the program word. Else that word, which names no program
abbrev pub started : List (List ℕ) → Option (List ℕ) → Result (List (List ℕ)) (List ℕ)
started exec None = Err (program_word_of exec)
started exec (Some path) = Ok (path ∷ drop 1 exec)

abbrev pub argv_of : List (List ℕ) → List ℕ → Tree → Result (List (List ℕ)) (List ℕ)
argv_of exec search tree = started exec (program_of (program_word_of exec) search tree)
