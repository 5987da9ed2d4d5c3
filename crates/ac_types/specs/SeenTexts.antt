-- The texts that came before.
use Rattle.std.specs.Prelude.{◌≡◌, ℕ, Bool, List}
use Rattle.std.specs.List.{list_any}
use Rattle.std.specs.Str.{bytes_eq}
use Rattle.std.specs.BTreeSet.{contains_text}
use Rattle.ac_types.specs.declared.seen_texts.SeenTexts.{SeenTexts}

-- one of the texts is this one
abbrev pub is_among : List ℕ → List (List ℕ) → Bool
is_among text texts = list_any (λ t. bytes_eq t text) texts

-- what was seen are these texts
abbrev pub HasSeen : SeenTexts → List (List ℕ) → Type 0
HasSeen seen texts = (text : List ℕ) → contains_text seen.texts text ≡ is_among text texts
