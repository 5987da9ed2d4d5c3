-- A scan from the left against the pattern of names.
use Rattle.std.proofs.Common.{◌≡◌, ℕ, Bool, true, false, ◌&&◌, ◌||◌, List, [], ◌∷◌, ◌++◌, refl, sym, ◌∙◌, arith}
use Rattle.std.proofs.Common.{ap, get_or, take, drop, length, ◌<◌, ◌≤◌, ◌+◌}
use Rattle.std.proofs.lemmas.Bool.Decides.{nat_tests}
use Rattle.std.proofs.lemmas.List.{take_more, take-append-drop, take-take, take_all}
use mathlib.Core.List.{append_assoc}
use Rattle.std.proofs.lemmas.Bool.{cases_lt}
use Rattle.std.proofs.Common.{inl, inr, ◌⊎◌, append-nil}
use Rattle.ac_types.specs.Names.{is_word_byte, are_words, BeginsWords, IsLongestBeginning}
use Rattle.ac_types.specs.Separators.{separates}
use Rattle.ac_types.specs.declared.word_scan.Separators.{Separators}
use Rattle.ac_types.specs.declared.word_scan.Separators.TheVariants.{Hyphen, Any}

-- what may follow a word byte: nothing, more of the word, or a separator and words
abbrev pub follows : (ℕ → Bool) → List ℕ → Bool
follows sep [] = true
follows sep (c ∷ cs) = are_words sep (c ∷ cs) || (sep c && are_words sep cs)

-- what may follow, by whether a word byte was read last
abbrev pub continues : (ℕ → Bool) → Bool → List ℕ → Bool
continues sep true rest = follows sep rest
continues sep false rest = are_words sep rest

and-true : (b : Bool) → b ≡ b && true
and-true true = refl
and-true false = refl

or-false : (b : Bool) → b || false ≡ b
or-false true = refl
or-false false = refl

words-cons : (sep : ℕ → Bool) (c : ℕ) (rest : List ℕ) → are_words sep (c ∷ rest) ≡ is_word_byte c && follows sep rest
words-cons sep c [] = and-true (is_word_byte c)
words-cons sep c (d ∷ rest) = refl

pub apart : (s : Separators) (c : ℕ) → is_word_byte c ≡ true → separates s c ≡ false
apart Hyphen c h = grind (arith, nat_tests)
apart Any c h = grind (arith, nat_tests)

-- a word byte goes on in a word, or begins one
pub word_goes_on : (s : Separators) (inside : Bool) (c : ℕ) (rest : List ℕ) → is_word_byte c ≡ true
    → continues (separates s) inside (c ∷ rest) ≡ follows (separates s) rest
word_goes_on s true c rest h =
    let parts : are_words (separates s) (c ∷ rest) ≡ is_word_byte c && follows (separates s) rest = words-cons (separates s) c rest in
    let no : separates s c ≡ false = apart s c h in
    rw (parts, h, no) (or-false (follows (separates s) rest))
word_goes_on s false c rest h = rw (words-cons (separates s) c rest, h) refl

-- a separator after a word byte asks for words
separator_goes_on : (sep : ℕ → Bool) (c : ℕ) (rest : List ℕ) → is_word_byte c ≡ false → sep c ≡ true
    → continues sep true (c ∷ rest) ≡ are_words sep rest
separator_goes_on sep c rest h is = rw (words-cons sep c rest, h, is) refl

-- another byte ends every hope
other_stops : (sep : ℕ → Bool) (inside : Bool) (c : ℕ) (rest : List ℕ) → is_word_byte c ≡ false → inside && sep c ≡ false
    → continues sep inside (c ∷ rest) ≡ false
other_stops sep true c rest h not = rw (words-cons sep c rest, h, not) refl
other_stops sep false c rest h not = rw (words-cons sep c rest, h) refl

-- the bytes read so far leave this to be read
abbrev pub IsScanned : (ℕ → Bool) → Bool → List ℕ → Type 0
IsScanned sep inside front = (rest : List ℕ) → are_words sep (front ++ rest) ≡ continues sep inside rest

pub may_go_on : (s : Separators) (inside : Bool) (c : ℕ) (rest : List ℕ)
    → (is_word_byte c || (inside && separates s c)) ≡ true
    → continues (separates s) inside (c ∷ rest) ≡ continues (separates s) (is_word_byte c) rest
may_go_on s inside c rest h =
    by_word_byte (is_word_byte c) refl h
  where
    by_word_byte : (w : Bool) → is_word_byte c ≡ w → (w || (inside && separates s c)) ≡ true
        → continues (separates s) inside (c ∷ rest) ≡ continues (separates s) (is_word_byte c) rest
    by_word_byte true e k = rw e (word_goes_on s inside c rest e)
    by_word_byte false e k = rw e (by_inside inside e k)
      where
        by_inside : (i : Bool) → is_word_byte c ≡ false → (i && separates s c) ≡ true
            → continues (separates s) i (c ∷ rest) ≡ are_words (separates s) rest
        by_inside true e' k' = separator_goes_on (separates s) c rest e' k'
        by_inside false e' k' = cc

pub may_not : (s : Separators) (inside : Bool) (c : ℕ) (rest : List ℕ)
    → (is_word_byte c || (inside && separates s c)) ≡ false → continues (separates s) inside (c ∷ rest) ≡ false
may_not s inside c rest h = by_word_byte (is_word_byte c) refl h
  where
    by_word_byte : (w : Bool) → is_word_byte c ≡ w → (w || (inside && separates s c)) ≡ false
        → continues (separates s) inside (c ∷ rest) ≡ false
    by_word_byte true e k = cc
    by_word_byte false e k = other_stops (separates s) inside c rest e k

-- a front with one more byte
front_more : (bs : List ℕ) (i : ℕ) → i < length bs → (rest : List ℕ)
    → take (i + 1) bs ++ rest ≡ take i bs ++ (get_or bs i 0 ∷ rest)
front_more bs i h rest = rw (take_more bs i 0 h) (append_assoc (take i bs) (get_or bs i 0 ∷ []) rest)

pub scanned_more : (s : Separators) (inside : Bool) (bs : List ℕ) (i : ℕ) → i < length bs
    → (is_word_byte (get_or bs i 0) || (inside && separates s (get_or bs i 0))) ≡ true
    → IsScanned (separates s) inside (take i bs) → IsScanned (separates s) (is_word_byte (get_or bs i 0)) (take (i + 1) bs)
scanned_more s inside bs i within may before rest =
    ap (are_words (separates s)) (front_more bs i within rest) ∙ before (get_or bs i 0 ∷ rest)
    ∙ may_go_on s inside (get_or bs i 0) rest may

-- what was scanned begins words
pub begins : (sep : ℕ → Bool) (word : are_words sep (97 ∷ []) ≡ true) (inside : Bool) (front : List ℕ)
    → IsScanned sep inside front → BeginsWords sep front
begins sep word true front h = ([], h [])
begins sep word false front h = (97 ∷ [], h (97 ∷ []) ∙ word)

-- past a byte that may not follow nothing begins words
pub ends_there : (s : Separators) (inside : Bool) (bs : List ℕ) (i : ℕ) → i < length bs
    → (is_word_byte (get_or bs i 0) || (inside && separates s (get_or bs i 0))) ≡ false
    → IsScanned (separates s) inside (take i bs)
    → (m : ℕ) → m ≤ length bs → i < m → (rest : List ℕ) → are_words (separates s) (take m bs ++ rest) ≡ false
ends_there s inside bs i within may before m small past rest =
    let cut : take m bs ≡ take (i + 1) bs ++ drop (i + 1) (take m bs) = take_then in
    ap (λ (f : List ℕ). are_words (separates s) (f ++ rest)) cut
    ∙ ap (are_words (separates s)) (append_assoc (take (i + 1) bs) (drop (i + 1) (take m bs)) rest)
    ∙ ap (are_words (separates s)) (front_more bs i within (drop (i + 1) (take m bs) ++ rest))
    ∙ before (get_or bs i 0 ∷ (drop (i + 1) (take m bs) ++ rest))
    ∙ may_not s inside (get_or bs i 0) (drop (i + 1) (take m bs) ++ rest) may
  where
    take_then : take m bs ≡ take (i + 1) bs ++ drop (i + 1) (take m bs)
    take_then =
        let le : i + 1 ≤ m = omega arith in
        sym (take-append-drop (i + 1) (take m bs)) ∙ ap (λ (f : List ℕ). f ++ drop (i + 1) (take m bs)) (take-take (i + 1) m bs le)

a_word : (s : Separators) → are_words (separates s) (97 ∷ []) ≡ true
a_word Hyphen = refl
a_word Any = refl

whole : (sep : ℕ → Bool) (bs : List ℕ) (n : ℕ) → length bs ≤ n → are_words sep (take n bs ++ []) ≡ are_words sep bs
whole sep bs n h = ap (are_words sep) (append-nil (take n bs) ∙ take_all n bs h)

-- a byte that may not follow ends the longest beginning
pub stopped : (s : Separators) (inside : Bool) (bs : List ℕ) (i : ℕ) → i < length bs
    → (is_word_byte (get_or bs i 0) || (inside && separates s (get_or bs i 0))) ≡ false
    → IsScanned (separates s) inside (take i bs)
    → (are_words (separates s) bs ≡ false) × IsLongestBeginning (separates s) bs i
stopped s inside bs i within may before =
    let past = ends_there s inside bs i within may before in (
      sym (whole (separates s) bs (length bs) (omega arith)) ∙ past (length bs) (omega arith) within [],
      (
        omega arith,
        begins (separates s) (a_word s) inside (take i bs) before,
        λ m small (rest, e). not_past m small rest e (cases_lt i m),
      ),
    )
  where
    not_past : (m : ℕ) → m ≤ length bs → (rest : List ℕ) → are_words (separates s) (take m bs ++ rest) ≡ true
        → (i < m) ⊎ (m ≤ i) → m ≤ i
    not_past m small rest e (inl lt) =
        let no : are_words (separates s) (take m bs ++ rest) ≡ false = ends_there s inside bs i within may before m small lt rest in cc
    not_past m small rest e (inr le) = le

-- all bytes were read, a word byte last
pub read_whole : (sep : ℕ → Bool) (bs : List ℕ) (n : ℕ) → length bs ≤ n → IsScanned sep true (take n bs) → are_words sep bs ≡ true
read_whole sep bs n h scanned = sym (whole sep bs n h) ∙ scanned []

-- all bytes were read, and words have to follow
pub broken_off : (s : Separators) (bs : List ℕ) (n : ℕ) → length bs ≤ n → IsScanned (separates s) false (take n bs)
    → (are_words (separates s) bs ≡ false) × IsLongestBeginning (separates s) bs (length bs)
broken_off s bs n h scanned = (
  sym (whole (separates s) bs n h) ∙ scanned [],
  (
    omega arith,
    rw (take_all (length bs) bs (omega arith), ← take_all n bs h) (begins (separates s) (a_word s) false (take n bs) scanned),
    λ m small _. small,
  ),
)
