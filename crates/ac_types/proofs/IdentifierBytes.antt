-- The bytes of identifiers.
use Rattle.std.proofs.Common.{◌≡◌, ℕ, ◌==◌, Bool, true, false, ◌&&◌, ◌||◌, nat_le, List, [], ◌∷◌, get_or, length, refl, sym, ◌∙◌, ap, arith, ◌⊎◌, inl, inr, suc, zero}
use Rattle.std.specs.List.{All}
use Rattle.std.proofs.lemmas.Bool.Decides.{nat_tests}
use Rattle.ac_types.specs.Names.{is_word_byte, is_separator, are_words, IsAcIdentifier}
use Rattle.ac_types.specs.References.{is_identifier}
use Rattle.ac_types.specs.ReferenceForm.{Lacks}

pub and_both : (x y : Bool) → x && y ≡ true → (x ≡ true) × (y ≡ true)
and_both true y h = (refl, h)
and_both false y h = cc

pub either_of : (x y : Bool) → x || y ≡ true → (x ≡ true) ⊎ (y ≡ true)
either_of true y h = inl refl
either_of false y h = inr h

-- the byte stands in an identifier
stands : ℕ → Bool
stands b = is_word_byte b || is_separator b

word_stands : (b : ℕ) → is_word_byte b ≡ true → stands b ≡ true
unfolding stands
word_stands b h = rw h refl

separator_stands : (b : ℕ) → is_separator b ≡ true → stands b ≡ true
unfolding stands
separator_stands b h = by_word (is_word_byte b)
  where
    by_word : (w : Bool) → w || is_separator b ≡ true
    by_word true = refl
    by_word false = h

pub all_more : {X : Type 0} (P : X → Type 0) (x : X) (xs : List X) → P x → All P xs → All P (x ∷ xs)
all_more P x xs here rest zero d h = here
all_more P x xs here rest (suc k) d h = rest k d (omega arith)

pub all_none : {X : Type 0} (P : X → Type 0) → All P []
all_none P k d h = absurd (omega arith)

words_stand : (t : List ℕ) → are_words is_separator t ≡ true → All (λ b. stands b ≡ true) t
words_stand [] h = cc
words_stand (b ∷ []) h = all_more (λ x. stands x ≡ true) b [] (word_stands b h) (all_none (λ x. stands x ≡ true))
words_stand (b ∷ c ∷ cs) h =
    let parts = and_both (is_word_byte b) (are_words is_separator (c ∷ cs) || (is_separator c && are_words is_separator cs)) h in
    all_more (λ x. stands x ≡ true) b (c ∷ cs) (word_stands b parts.0)
    (elim (either_of (are_words is_separator (c ∷ cs)) (is_separator c && are_words is_separator cs) parts.1) [
      | inl more ↦ words_stand (c ∷ cs) more
      | inr other ↦
          let both = and_both (is_separator c) (are_words is_separator cs) other in
          all_more (λ x. stands x ≡ true) c cs (separator_stands c both.0) (words_stand cs both.1)
    ])

another : (c b : ℕ) → stands c ≡ false → stands b ≡ true → (b == c) ≡ false
another c b not_it is = by_test (b == c) refl
  where
    by_test : (t : Bool) → (b == c) ≡ t → t ≡ false
    by_test true e =
        let same : b ≡ c = grind (arith, nat_tests) in
        let clash : stands c ≡ true = ap stands (sym same) ∙ is in cc
    by_test false e = refl

lacks_outside : (c : ℕ) (t : List ℕ) → stands c ≡ false → are_words is_separator t ≡ true → Lacks c t
lacks_outside c t not_it are k d h = another c (get_or t k d) not_it (words_stand t are k d h)

-- an identifier has no colon, comma or equals sign
pub no_comma : (t : List ℕ) → IsAcIdentifier t → Lacks 44 t
unfolding stands
no_comma t is = lacks_outside 44 t refl is.0

pub no_colon : (t : List ℕ) → IsAcIdentifier t → Lacks 58 t
unfolding stands
no_colon t is = lacks_outside 58 t refl is.0

pub no_equals : (t : List ℕ) → IsAcIdentifier t → Lacks 61 t
unfolding stands
no_equals t is = lacks_outside 61 t refl is.0

-- the test of identifiers
pub is_by_test : (t : List ℕ) → is_identifier t ≡ true → IsAcIdentifier t
is_by_test t h =
    let both = and_both (are_words is_separator t) (nat_le (length t) 1024) h in
    (both.0, grind (arith, nat_tests, both.1))

pub test_by_is : (t : List ℕ) → IsAcIdentifier t → is_identifier t ≡ true
test_by_is t (are, short) =
    let fits : nat_le (length t) 1024 ≡ true = grind (arith, nat_tests) in
    rw (are, fits) refl
