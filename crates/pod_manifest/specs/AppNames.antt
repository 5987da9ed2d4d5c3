-- The names of apps, and of the volumes that are made for them.
use Rattle.std.specs.Prelude.{ℕ, ◌-◌, ◌==◌, ◌||◌, Bool, List, ◌∷◌, ◌++◌, length, take, map, slice_index, if◌then◌else◌}
use Rattle.std.specs.List.{after_last}
use Rattle.ac_types.specs.declared.refusals.TheConstants.{MAX_NAME}

abbrev pub is_slash : ℕ → Bool
is_slash b = b == 47

-- '.', '_' and '~' become hyphens
abbrev pub hyphenated : ℕ → ℕ
hyphenated b = if b == 46 || b == 95 || b == 126 then 45 else b

-- the text ends with a hyphen
abbrev pub ends_in_hyphen : List ℕ → Bool
ends_in_hyphen t = slice_index t (length t - 1) == 45

-- the text without a hyphen at its end
abbrev pub without_hyphen : List ℕ → List ℕ
without_hyphen t = if ends_in_hyphen t then take (length t - 1) t else t

-- the first 200 bytes, without a hyphen at their end
unfoldable pub shortened : List ℕ → List ℕ
shortened t = without_hyphen (take MAX_NAME t)

-- what stands behind the last slash of an image's name, with hyphens as its separators
abbrev pub last_words : List ℕ → List ℕ
last_words image = map hyphenated (after_last is_slash image)

-- the name of the app of the image of a name
abbrev pub app_name : List ℕ → List ℕ
app_name image = shortened (last_words image)

-- the name of the volume that is made for a mount point of an app
abbrev pub own_volume : List ℕ → List ℕ → List ℕ
own_volume app point = shortened (app ++ 45 ∷ point)
