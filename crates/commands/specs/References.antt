-- The words by which a user names the images of a pod.
use Rattle.std.specs.Prelude.{◌≡◌, Bool, ℕ, List, map, Ok, is_ok}
use Rattle.std.specs.List.{list_all}
use Rattle.ac_types.specs.References.{reference}
use Rattle.ac_types.specs.declared.image_ref.ImageRef.{ImageRef}

-- the word is a reference
abbrev pub is_reference : List ℕ → Bool
is_reference word = is_ok (reference word)

-- each of the words is
abbrev pub are_references : List (List ℕ) → Bool
are_references words = list_all is_reference words

-- what they are, in order
abbrev pub AreReferences : List (List ℕ) → List ImageRef → Type 0
AreReferences words refs = map reference words ≡ map Ok refs

-- this is so of what they are
abbrev pub OfReferences : List (List ℕ) → (List ImageRef → Type 0) → Type 0
OfReferences words P = (refs : List ImageRef) × AreReferences words refs × P refs
