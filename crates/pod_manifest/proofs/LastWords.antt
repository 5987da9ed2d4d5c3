-- What stands behind the last slash of an identifier, with hyphens as its separators.
use Rattle.std.proofs.Common.{◌≡◌, ℕ, zero, suc, ◌+◌, ◌-◌, ◌<◌, ◌≤◌, Bool, true, false, not, ◌||◌, cond, List, [], ◌∷◌, ◌++◌, length, map, take, drop, get_or, refl, sym, ◌∙◌, ap, arith, ◌⊎◌, inl, inr}
use Rattle.std.specs.Prelude.{if◌then◌else◌}
use Rattle.std.specs.List.{after_last, list_any, prefix_len, suffix_len}
use Rattle.std.proofs.lemmas.Bool.{or_parts}
use Rattle.std.proofs.lemmas.Bool.Decides.{nat_tests}
use Rattle.std.proofs.lemmas.List.Folds.{list_any-append}
use Rattle.std.proofs.lemmas.List.{take_more, take_all, drop_all, drop-append-le, reverse-append, map-append, length_push}
use Rattle.ac_types.specs.Names.{are_words, is_word_byte, is_hyphen, is_separator}
use Rattle.pod_manifest.specs.AppNames.{is_slash, hyphenated, last_words}
use Rattle.pod_manifest.proofs.Words.{behind, first_word, no_words, longer, parted}

-- ---- one byte more at the end

suffix_push : (p : ℕ → Bool) (xs : List ℕ) (x : ℕ) → suffix_len p (xs ++ x ∷ []) ≡ cond (p x) (1 + suffix_len p xs) 0
suffix_push p xs x = ap (prefix_len p) (reverse-append xs (x ∷ []))

pub after_push : (p : ℕ → Bool) (xs : List ℕ) (x : ℕ) → after_last p (xs ++ x ∷ []) ≡ cond (p x) [] (after_last p xs ++ x ∷ [])
after_push p xs x = ap (λ (n : ℕ). drop (length (xs ++ x ∷ []) - n) (xs ++ x ∷ [])) (suffix_push (λ y. not (p y)) xs x) ∙ by (p x)
  where
    n : ℕ
    n = suffix_len (λ y. not (p y)) xs

    by : (test : Bool) → drop (length (xs ++ x ∷ []) - cond (not test) (1 + n) 0) (xs ++ x ∷ []) ≡ cond test [] (drop (length xs - n) xs ++ x ∷ [])
    by true = drop_all (length (xs ++ x ∷ []) - 0) (xs ++ x ∷ []) (omega arith)
    by false =
        let e : length (xs ++ x ∷ []) - (1 + n) ≡ length xs - n = omega (arith, length_push xs x) in
        ap (λ (k : ℕ). drop k (xs ++ x ∷ [])) e ∙ drop-append-le (length xs - n) xs (x ∷ []) (omega arith)

-- ---- the same from the left

last_part : (ℕ → Bool) → List ℕ → List ℕ
last_part p [] = []
last_part p (x ∷ xs) = cond (list_any p xs) (last_part p xs) (cond (p x) xs (x ∷ xs))

by_tests : (y x : ℕ) (ys last : List ℕ) (a b c : Bool)
    → cond (a || (b || false)) (cond b [] (last ++ x ∷ [])) (cond c (ys ++ x ∷ []) (y ∷ (ys ++ x ∷ [])))
    ≡ cond b [] (cond a last (cond c ys (y ∷ ys)) ++ x ∷ [])
by_tests y x ys last true b c = refl
by_tests y x ys last false true c = refl
by_tests y x ys last false false true = refl
by_tests y x ys last false false false = refl

part_push : (p : ℕ → Bool) (xs : List ℕ) (x : ℕ) → last_part p (xs ++ x ∷ []) ≡ cond (p x) [] (last_part p xs ++ x ∷ [])
unfolding last_part
part_push p [] x = refl
part_push p (y ∷ ys) x =
    ap (λ (b : Bool). cond b (last_part p (ys ++ x ∷ [])) (cond (p y) (ys ++ x ∷ []) (y ∷ (ys ++ x ∷ [])))) (list_any-append p ys (x ∷ []))
    ∙ ap (λ (l : List ℕ). cond (list_any p ys || (p x || false)) l (cond (p y) (ys ++ x ∷ []) (y ∷ (ys ++ x ∷ [])))) (part_push p ys x)
    ∙ by_tests y x ys (last_part p ys) (list_any p ys) (p x) (p y)

part_upto : (p : ℕ → Bool) (xs : List ℕ) (n : ℕ) → n ≤ length xs → after_last p (take n xs) ≡ last_part p (take n xs)
unfolding last_part
part_upto p xs zero within = refl
part_upto p xs (suc n) within =
    let e : suc n ≡ n + 1 = omega arith in
    let more : take (suc n) xs ≡ take n xs ++ get_or xs n 0 ∷ [] =
    ap (λ (k : ℕ). take k xs) e ∙ take_more xs n 0 (omega arith) in
    ap (after_last p) more
    ∙ after_push p (take n xs) (get_or xs n 0)
    ∙ ap (λ (l : List ℕ). cond (p (get_or xs n 0)) [] (l ++ get_or xs n 0 ∷ [])) (part_upto p xs n (omega arith))
    ∙ sym (part_push p (take n xs) (get_or xs n 0))
    ∙ ap (last_part p) (sym more)

part_is : (p : ℕ → Bool) (xs : List ℕ) → after_last p xs ≡ last_part p xs
part_is p xs =
    let all : take (length xs) xs ≡ xs = take_all (length xs) xs (omega arith) in
    ap (after_last p) (sym all) ∙ part_upto p xs (length xs) (omega arith) ∙ ap (last_part p) all

-- ---- words

word_kept : (b : ℕ) → is_word_byte b ≡ true → hyphenated b ≡ b
word_kept b h = grind (arith, nat_tests)

word_no_slash : (b : ℕ) → is_word_byte b ≡ true → is_slash b ≡ false
word_no_slash b h = grind (arith, nat_tests)

separator_turned : (b : ℕ) → is_separator b ≡ true → is_slash b ≡ false → is_hyphen (hyphenated b) ≡ true
separator_turned b h other = grind (arith, nat_tests)

slash_here : (a b : Bool) → (a || b) ≡ true → b ≡ false → a ≡ true
slash_here true b some none = refl
slash_here false b some none = cc

-- words without a slash
turned : (t : List ℕ) → are_words is_separator t ≡ true → list_any is_slash t ≡ false → are_words is_hyphen (map hyphenated t) ≡ true
turned [] h none = absurd (no_words is_separator h)
turned (b ∷ []) h none =
    let kept : hyphenated b ≡ b = word_kept b h in
    ap is_word_byte kept ∙ h
turned (b ∷ c ∷ cs) h none = by (turned (c ∷ cs)) (turned cs) (behind is_separator b c cs h)
  where
    word : is_word_byte (hyphenated b) ≡ true
    word = ap is_word_byte (word_kept b (first_word is_separator b (c ∷ cs) h)) ∙ first_word is_separator b (c ∷ cs) h

    rest : list_any is_slash (c ∷ cs) ≡ false
    rest = (or_parts (is_slash b) (list_any is_slash (c ∷ cs)) none).1

    Turns : List ℕ → Type 0
    Turns u = are_words is_separator u ≡ true → list_any is_slash u ≡ false → are_words is_hyphen (map hyphenated u) ≡ true

    by : Turns (c ∷ cs) → Turns cs → (are_words is_separator (c ∷ cs) ≡ true) ⊎ ((is_separator c ≡ true) × (are_words is_separator cs ≡ true))
        → are_words is_hyphen (map hyphenated (b ∷ c ∷ cs)) ≡ true
    by more less (inl e) = longer is_hyphen (hyphenated b) (map hyphenated (c ∷ cs)) word (more e rest)
    by more less (inr e) =
        let parts = or_parts (is_slash c) (list_any is_slash cs) rest in
        parted is_hyphen (hyphenated b) (hyphenated c) (map hyphenated cs) word (separator_turned c e.0 parts.0) (less e.1 parts.1)

-- what stands behind the last slash, where a slash stands behind a byte
abbrev PartTurns : List ℕ → Type 0
PartTurns u = are_words is_separator u ≡ true → are_words is_hyphen (map hyphenated (last_part is_slash u)) ≡ true

behind_separator : (c : ℕ) (cs : List ℕ) → are_words is_separator cs ≡ true → list_any is_slash (c ∷ cs) ≡ true → PartTurns cs
    → (test : Bool) → list_any is_slash cs ≡ test → are_words is_hyphen (map hyphenated (last_part is_slash (c ∷ cs))) ≡ true
unfolding last_part
behind_separator c cs e some less true is = rw is (less e)
behind_separator c cs e some less false is =
    let here : is_slash c ≡ true = slash_here (is_slash c) (list_any is_slash cs) some is in
    rw (is, here) (turned cs e is)

behind_byte : (c : ℕ) (cs : List ℕ) → list_any is_slash (c ∷ cs) ≡ true → PartTurns (c ∷ cs) → PartTurns cs
    → (are_words is_separator (c ∷ cs) ≡ true) ⊎ ((is_separator c ≡ true) × (are_words is_separator cs ≡ true))
    → are_words is_hyphen (map hyphenated (last_part is_slash (c ∷ cs))) ≡ true
behind_byte c cs some more less (inl e) = more e
behind_byte c cs some more less (inr e) = behind_separator c cs e.1 some less (list_any is_slash cs) refl

by_rest : (b c : ℕ) (cs : List ℕ) → are_words is_separator (b ∷ c ∷ cs) ≡ true → PartTurns (c ∷ cs) → PartTurns cs
    → (test : Bool) → list_any is_slash (c ∷ cs) ≡ test → are_words is_hyphen (map hyphenated (last_part is_slash (b ∷ c ∷ cs))) ≡ true
unfolding last_part
by_rest b c cs h more less true some = rw some (behind_byte c cs some more less (behind is_separator b c cs h))
by_rest b c cs h more less false none =
    let word : is_slash b ≡ false = word_no_slash b (first_word is_separator b (c ∷ cs) h) in
    let all : list_any is_slash (b ∷ c ∷ cs) ≡ false = rw (word, none) refl in
    rw (none, word) (turned (b ∷ c ∷ cs) h all)

-- what stands behind the last slash
part_turned : (t : List ℕ) → PartTurns t
unfolding last_part
part_turned [] h = absurd (no_words is_separator h)
part_turned (b ∷ []) h =
    let word : is_slash b ≡ false = word_no_slash b h in
    let none : list_any is_slash (b ∷ []) ≡ false = rw word refl in
    rw word (turned (b ∷ []) h none)
part_turned (b ∷ c ∷ cs) h = by_rest b c cs h (part_turned (c ∷ cs)) (part_turned cs) (list_any is_slash (c ∷ cs)) refl

pub last_words_are : (image : List ℕ) → are_words is_separator image ≡ true → are_words is_hyphen (last_words image) ≡ true
last_words_are image h =
    ap (λ (t : List ℕ). are_words is_hyphen (map hyphenated t)) (part_is is_slash image) ∙ part_turned image h

-- what a loop has read up to a place, with one byte more
pub words_push : (image : List ℕ) (i : ℕ) → i < length image
    → last_words (take (i + 1) image)
    ≡ (if is_slash (get_or image i 0) then [] else last_words (take i image) ++ hyphenated (get_or image i 0) ∷ [])
words_push image i within =
    ap last_words (take_more image i 0 within)
    ∙ ap (map hyphenated) (after_push is_slash (take i image) (get_or image i 0))
    ∙ out (is_slash (get_or image i 0)) (after_last is_slash (take i image)) (get_or image i 0)
  where
    out : (test : Bool) (part : List ℕ) (b : ℕ) → map hyphenated (cond test [] (part ++ b ∷ []))
        ≡ cond test [] (map hyphenated part ++ hyphenated b ∷ [])
    out true part b = refl
    out false part b = map-append hyphenated part (b ∷ [])
