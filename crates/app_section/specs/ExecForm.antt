-- A program word and its arguments.
use Rattle.std.specs.Prelude.{ℕ, Bool, true, false, List, [], ◌∷◌}
use Rattle.serde_json.specs.Data.{Data}
use Rattle.ac_types.specs.FieldForms.{text, list, each_after}
use Rattle.ac_types.specs.Outcomes.{Outcome, reads, fails, ◌>>=◌}
use Rattle.ac_types.specs.declared.fault.FaultKind.TheVariants.{BadPath, Missing}
use Rattle.app_section.specs.Places.{has_nul, held, program_text}

-- the text, unless it holds a NUL
abbrev pub argument : List ℕ → Bool → List ℕ → Outcome (List ℕ)
argument at true t = fails at BadPath
argument at false t = reads t

-- the first word is a program word, each later one a text without NUL
abbrev pub word_after : List (List ℕ) → List ℕ → List ℕ → Outcome (List ℕ)
word_after [] at t = held at (program_text t)
word_after (w ∷ ws) at t = argument at (has_nul t) t

-- the word that comes after some words
abbrev pub word : List (List ℕ) → List ℕ → Data → Outcome (List ℕ)
word before at d = text at d >>= word_after before at

-- the words of a list, in order
unfoldable pub words : List ℕ → List Data → Outcome (List (List ℕ))
words at ds = each_after word at [] ds

-- a list of words, which may be empty
abbrev pub exec : List ℕ → Data → Outcome (List (List ℕ))
exec at d = list at d >>= words at

-- the words of a list, where it holds one at least; an empty list counts as missing
abbrev pub some_words : List ℕ → List Data → Outcome (List (List ℕ))
some_words at [] = fails at Missing
some_words at (d ∷ ds) = words at (d ∷ ds)

-- a list of one word at least
abbrev pub filled_exec : List ℕ → Data → Outcome (List (List ℕ))
filled_exec at d = list at d >>= some_words at
