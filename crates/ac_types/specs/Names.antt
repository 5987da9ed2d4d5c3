-- The names of App Container 0.8, and where a text stops to be one.
use Rattle.std.specs.Prelude.{◌≡◌, ◌≢◌, ◌≤◌, ◌<◌, ◌⊎◌, ℕ, Bool, true, false, ◌&&◌, ◌||◌, ◌==◌, nat_le, List, [], ◌∷◌, ◌++◌, length, take}
use Rattle.ac_types.specs.declared.refusals.TheConstants.{MAX_NAME, MAX_IDENTIFIER}
use Rattle.ac_types.specs.declared.name_error.NameError.{NameError}
use Rattle.ac_types.specs.declared.name_error.NameError.TheVariants.{Empty, BadByte, NoMemory}

-- the byte stands in a word: a lower-case letter or a digit
abbrev pub is_word_byte : ℕ → Bool
is_word_byte b = (nat_le 97 b && nat_le b 122) || (nat_le 48 b && nat_le b 57)

-- the one separator of names: '-'
abbrev pub is_hyphen : ℕ → Bool
is_hyphen b = b == 45

-- the separators of identifiers: '-', '.', '_', '~' and '/'
abbrev pub is_separator : ℕ → Bool
is_separator b = b == 45 || b == 46 || b == 95 || b == 126 || b == 47

-- words with one separator between two of them: a word byte alone, a word byte before more of
-- the same kind, or a word byte and a separator before words
abbrev pub are_words : (ℕ → Bool) → List ℕ → Bool
are_words separates [] = false
are_words separates (b ∷ []) = is_word_byte b
are_words separates (b ∷ c ∷ cs) =
    is_word_byte b && (are_words separates (c ∷ cs) || (separates c && are_words separates cs))

-- the text is a name: words joined by hyphens, of at most 200 bytes
abbrev pub IsAcName : List ℕ → Type 0
IsAcName text = (are_words is_hyphen text ≡ true) × (length text ≤ MAX_NAME)

-- the text is an identifier: words joined by separators, of at most 1,024 bytes
abbrev pub IsAcIdentifier : List ℕ → Type 0
IsAcIdentifier text = (are_words is_separator text ≡ true) × (length text ≤ MAX_IDENTIFIER)

-- the bytes are a prefix of some words
abbrev pub BeginsWords : (ℕ → Bool) → List ℕ → Type 0
BeginsWords separates front = (rest : List ℕ) × (are_words separates (front ++ rest) ≡ true)

-- the length of the longest prefix of the text that is a prefix of some words
abbrev pub IsLongestBeginning : (ℕ → Bool) → List ℕ → ℕ → Type 0
IsLongestBeginning separates text n =
    (n ≤ length text) × BeginsWords separates (take n text)
    × ((m : ℕ) → m ≤ length text → BeginsWords separates (take m text) → m ≤ n)

-- the place at which the text stops to be words, or the limit that words go past
abbrev pub IsBadByteAt : (ℕ → Bool) → ℕ → List ℕ → ℕ → Type 0
IsBadByteAt separates limit text place =
    ((are_words separates text ≡ false) × IsLongestBeginning separates text place)
    ⊎ ((are_words separates text ≡ true) × (limit < length text) × (place ≡ limit))

-- why a text is refused; memory is asked for only where the text is good
abbrev pub IsNameFault : (ℕ → Bool) → ℕ → List ℕ → NameError → Type 0
IsNameFault separates limit text Empty = text ≡ []
IsNameFault separates limit text (BadByte place) = (text ≢ []) × IsBadByteAt separates limit text place
IsNameFault separates limit text NoMemory = (are_words separates text ≡ true) × (length text ≤ limit)
