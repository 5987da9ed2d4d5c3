-- Words with hyphens between them, cut and joined.
use Rattle.std.proofs.Common.{◌≡◌, ℕ, zero, suc, ◌-◌, ◌<◌, ◌≤◌, ◌==◌, Bool, true, false, ◌&&◌, cond, List, [], ◌∷◌, ◌++◌, length, take, get_or, refl, ◌∙◌, ap, arith, ◌⊎◌, inl, inr}
use Rattle.std.specs.Str.{IsAscii}
use Rattle.std.proofs.lemmas.Bool.{and_parts, or_cases, and_from, or_left, or_right, false≢true}
use Rattle.std.proofs.lemmas.Bool.Decides.{nat_tests}
use Rattle.std.proofs.lemmas.List.{length-take}
use Rattle.ac_types.specs.Names.{are_words, is_word_byte, is_hyphen, is_separator}
use Rattle.pod_manifest.specs.AppNames.{ends_in_hyphen, without_hyphen}

-- ---- bytes

word_ascii : (b : ℕ) → is_word_byte b ≡ true → b < 128
word_ascii b h = grind (arith, nat_tests)

pub separator_ascii : (b : ℕ) → is_separator b ≡ true → b < 128
separator_ascii b h = grind (arith, nat_tests)

pub hyphen_ascii : (b : ℕ) → is_hyphen b ≡ true → b < 128
hyphen_ascii b h = grind (arith, nat_tests)

word_no_hyphen : (b : ℕ) → is_word_byte b ≡ true → (b == 45) ≡ false
word_no_hyphen b h = grind (arith, nat_tests)

-- ---- what words are

pub no_words : (sep : ℕ → Bool) → are_words sep [] ≡ true → ⊥
no_words sep h = false≢true h

pub first_word : (sep : ℕ → Bool) (b : ℕ) (bs : List ℕ) → are_words sep (b ∷ bs) ≡ true → is_word_byte b ≡ true
first_word sep b [] h = h
first_word sep b (c ∷ cs) h = (and_parts _ _ h).0

-- behind the first byte come words, or a separator and words
pub behind : (sep : ℕ → Bool) (b c : ℕ) (cs : List ℕ) → are_words sep (b ∷ c ∷ cs) ≡ true
    → (are_words sep (c ∷ cs) ≡ true) ⊎ ((sep c ≡ true) × (are_words sep cs ≡ true))
behind sep b c cs h = by (or_cases _ _ (and_parts _ _ h).1)
  where
    by : (are_words sep (c ∷ cs) ≡ true) ⊎ ((sep c && are_words sep cs) ≡ true)
        → (are_words sep (c ∷ cs) ≡ true) ⊎ ((sep c ≡ true) × (are_words sep cs ≡ true))
    by (inl e) = inl e
    by (inr e) = inr (and_parts _ _ e)

-- a byte before words, and a byte and a separator before words
pub longer : (sep : ℕ → Bool) (b : ℕ) (bs : List ℕ) → is_word_byte b ≡ true → are_words sep bs ≡ true → are_words sep (b ∷ bs) ≡ true
longer sep b [] word h = word
longer sep b (c ∷ cs) word h = and_from _ _ word (or_left _ _ h)

pub parted : (sep : ℕ → Bool) (b c : ℕ) (cs : List ℕ) → is_word_byte b ≡ true → sep c ≡ true → are_words sep cs ≡ true
    → are_words sep (b ∷ c ∷ cs) ≡ true
parted sep b c cs word is h = and_from _ _ word (or_right _ _ (and_from _ _ is h))

-- each byte of words is ASCII
pub words_ascii : (sep : ℕ → Bool) → ((b : ℕ) → sep b ≡ true → b < 128) → (t : List ℕ) → are_words sep t ≡ true → IsAscii t
words_ascii sep small [] h i = absurd (no_words sep h)
words_ascii sep small (b ∷ bs) h zero = word_ascii b (first_word sep b bs h)
words_ascii sep small (b ∷ []) h (suc i) = omega arith
words_ascii sep small (b ∷ c ∷ cs) h (suc i) =
    by (words_ascii sep small (c ∷ cs)) (words_ascii sep small cs) (behind sep b c cs h) i
  where
    by : (are_words sep (c ∷ cs) ≡ true → IsAscii (c ∷ cs)) → (are_words sep cs ≡ true → IsAscii cs)
        → (are_words sep (c ∷ cs) ≡ true) ⊎ ((sep c ≡ true) × (are_words sep cs ≡ true)) → (k : ℕ) → get_or (c ∷ cs) k 0 < 128
    by more rest (inl e) k = more e k
    by more rest (inr e) zero = small c e.0
    by more rest (inr e) (suc k) = rest e.1 k

-- ---- two names with a hyphen between them

pub joined_words : (a b : List ℕ) → are_words is_hyphen a ≡ true → are_words is_hyphen b ≡ true → are_words is_hyphen (a ++ 45 ∷ b) ≡ true
joined_words [] b first second = absurd (no_words is_hyphen first)
joined_words (x ∷ []) b first second = parted is_hyphen x 45 b first refl second
joined_words (x ∷ y ∷ ys) b first second =
    by (λ e. joined_words (y ∷ ys) b e second) (λ e. joined_words ys b e second) (behind is_hyphen x y ys first)
  where
    word : is_word_byte x ≡ true
    word = first_word is_hyphen x (y ∷ ys) first

    by : (are_words is_hyphen (y ∷ ys) ≡ true → are_words is_hyphen (y ∷ (ys ++ 45 ∷ b)) ≡ true)
        → (are_words is_hyphen ys ≡ true → are_words is_hyphen (ys ++ 45 ∷ b) ≡ true)
        → (are_words is_hyphen (y ∷ ys) ≡ true) ⊎ ((is_hyphen y ≡ true) × (are_words is_hyphen ys ≡ true))
        → are_words is_hyphen (x ∷ y ∷ (ys ++ 45 ∷ b)) ≡ true
    by more rest (inl e) = longer is_hyphen x (y ∷ (ys ++ 45 ∷ b)) word (more e)
    by more rest (inr e) = parted is_hyphen x y (ys ++ 45 ∷ b) word e.0 (rest e.1)

-- ---- a front of words, without a hyphen at its end

trim : List ℕ → List ℕ
trim [] = []
trim (b ∷ []) = cond (b == 45) [] (b ∷ [])
trim (b ∷ c ∷ cs) = b ∷ trim (c ∷ cs)

last_behind : (b c : ℕ) (cs : List ℕ) → get_or (b ∷ c ∷ cs) (length (b ∷ c ∷ cs) - 1) 0 ≡ get_or (c ∷ cs) (length (c ∷ cs) - 1) 0
last_behind b c cs =
    let e : length (b ∷ c ∷ cs) - 1 ≡ suc (length (c ∷ cs) - 1) = omega arith in
    ap (λ (n : ℕ). get_or (b ∷ c ∷ cs) n 0) e

front_behind : (b c : ℕ) (cs : List ℕ) → take (length (b ∷ c ∷ cs) - 1) (b ∷ c ∷ cs) ≡ b ∷ take (length (c ∷ cs) - 1) (c ∷ cs)
front_behind b c cs =
    let e : length (b ∷ c ∷ cs) - 1 ≡ suc (length (c ∷ cs) - 1) = omega arith in
    ap (λ (n : ℕ). take n (b ∷ c ∷ cs)) e

trim_is : (t : List ℕ) → without_hyphen t ≡ trim t
unfolding trim
trim_is [] = refl
trim_is (b ∷ []) = refl
trim_is (b ∷ c ∷ cs) =
    ap (λ (d : ℕ). cond (d == 45) (take (length (b ∷ c ∷ cs) - 1) (b ∷ c ∷ cs)) (b ∷ c ∷ cs)) (last_behind b c cs)
    ∙ ap (λ (f : List ℕ). cond (ends_in_hyphen (c ∷ cs)) f (b ∷ c ∷ cs)) (front_behind b c cs)
    ∙ out (ends_in_hyphen (c ∷ cs)) (take (length (c ∷ cs) - 1) (c ∷ cs)) (c ∷ cs)
    ∙ ap (λ (f : List ℕ). b ∷ f) (trim_is (c ∷ cs))
  where
    out : (test : Bool) (x y : List ℕ) → cond test (b ∷ x) (b ∷ y) ≡ b ∷ cond test x y
    out true x y = refl
    out false x y = refl

-- behind a byte and a separator
past_two : (k : ℕ) (b c : ℕ) (ds : List ℕ) → is_word_byte b ≡ true → is_hyphen c ≡ true → are_words is_hyphen ds ≡ true
    → ((m : ℕ) → are_words is_hyphen ds ≡ true → are_words is_hyphen (trim (take (suc m) ds)) ≡ true)
    → are_words is_hyphen (b ∷ trim (c ∷ take k ds)) ≡ true
unfolding trim
past_two zero b c ds word is e rest = rw is word
past_two (suc k) b c [] word is e rest = absurd (no_words is_hyphen e)
past_two (suc k) b c (d ∷ ds) word is e rest = parted is_hyphen b c (trim (d ∷ take k ds)) word is (rest k e)

-- behind a byte
past_one : (n : ℕ) (b c : ℕ) (cs : List ℕ) → is_word_byte b ≡ true
    → (are_words is_hyphen (c ∷ cs) ≡ true → are_words is_hyphen (trim (c ∷ take n cs)) ≡ true)
    → ((m : ℕ) → are_words is_hyphen cs ≡ true → are_words is_hyphen (trim (take (suc m) cs)) ≡ true)
    → (are_words is_hyphen (c ∷ cs) ≡ true) ⊎ ((is_hyphen c ≡ true) × (are_words is_hyphen cs ≡ true))
    → are_words is_hyphen (b ∷ trim (c ∷ take n cs)) ≡ true
past_one n b c cs word more rest (inl e) = longer is_hyphen b (trim (c ∷ take n cs)) word (more e)
past_one n b c cs word more rest (inr e) = past_two n b c cs word e.0 e.1 rest

trimmed_front : (n : ℕ) (t : List ℕ) → are_words is_hyphen t ≡ true → are_words is_hyphen (trim (take (suc n) t)) ≡ true
unfolding trim
trimmed_front n [] h = absurd (no_words is_hyphen h)
trimmed_front zero (b ∷ bs) h =
    let word : is_word_byte b ≡ true = first_word is_hyphen b bs h in
    let no : (b == 45) ≡ false = word_no_hyphen b word in
    rw no word
trimmed_front (suc n) (b ∷ []) h =
    let no : (b == 45) ≡ false = word_no_hyphen b h in
    rw no h
trimmed_front (suc n) (b ∷ c ∷ cs) h =
    past_one n b c cs (first_word is_hyphen b (c ∷ cs) h) (trimmed_front n (c ∷ cs)) (λ k e. trimmed_front k cs e) (behind is_hyphen b c cs h)

pub cut_words : (n : ℕ) (t : List ℕ) → 0 < n → are_words is_hyphen t ≡ true → are_words is_hyphen (without_hyphen (take n t)) ≡ true
cut_words zero t some h = absurd (omega arith)
cut_words (suc n) t some h = ap (are_words is_hyphen) (trim_is (take (suc n) t)) ∙ trimmed_front n t h

pub cut_short : (n : ℕ) (t : List ℕ) → length (without_hyphen (take n t)) ≤ n
cut_short n t = by (ends_in_hyphen (take n t))
  where
    by : (test : Bool) → length (cond test (take (length (take n t) - 1) (take n t)) (take n t)) ≤ n
    by true = omega (arith, length-take (length (take n t) - 1) (take n t), length-take n t)
    by false = omega (arith, length-take n t)
