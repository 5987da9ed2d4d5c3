-- Decimals without leading zeros.
use Rattle.std.proofs.Common.{◌≡◌, ◌≢◌, ℕ, zero, suc, ◌+◌, ◌-◌, ◌*◌, ◌/◌, ◌%◌, ◌^◌, ◌<◌, ◌≤◌, true, false, List, [], ◌∷◌, ◌++◌, map, length, get_or, take, sym, refl, ap, subst, ◌∙◌, ◌⊎◌, ⊎_elim, arith}
use Rattle.std.specs.List.{All, AllByRecursion}
use Rattle.std.specs.Int.Digits.{digits_of}
use Rattle.std.specs.Char.{digit_value, is_ascii_digit}
use Rattle.std.specs.Str.Parse.{digits_value}
use Rattle.std.specs.Fmt.{decimal}
use Rattle.std.proofs.lemmas.Bool.{cases_lt, cases_eq, cond-false, ne_eqb}
use Rattle.std.proofs.lemmas.Bool.Decides.{nat_tests}
use Rattle.std.proofs.lemmas.Int.Digits.{digits_of_step, all_below_base_digits_of, first_digits_of, same_from_digits_of, digits_value_more}
use Rattle.std.proofs.lemmas.List.{map-append, get_or-map, get_or_past, take_more}
use Rattle.std.proofs.lemmas.List.Elements.{All-nil, All-cons, All-map}
use Rattle.std.proofs.lemmas.Fmt.{decimal_by_steps}
use Rattle.tree_digest.specs.Fields.{decimal_text}

abbrev glyph : ℕ → ℕ
glyph d = 48 + d

pub decimal_above : (n : ℕ) → 0 < n → decimal_text n ≡ map (λ d. 48 + d) (digits_of 10 n)
unfolding decimal_text
decimal_above n h = cond-false _ _ _ (ne_eqb n 0 (λ e. omega arith))

pub decimal_zero : decimal_text 0 ≡ 48 ∷ []
unfolding decimal_text
decimal_zero = refl

pub decimal_more : (v d : ℕ) → 0 < v → d < 10 → decimal_text (v * 10 + d) ≡ decimal_text v ++ (48 + d) ∷ []
decimal_more v d some small =
    let high : (v * 10 + d) / 10 ≡ v = omega arith in
    let low : (v * 10 + d) % 10 ≡ d = omega arith in
    decimal_above (v * 10 + d) (omega arith)
    ∙ ap (map (λ d. 48 + d)) (digits_of_step 10 (v * 10 + d) (omega arith) (omega arith) ∙ ap (λ k. digits_of 10 k ++ ((v * 10 + d) % 10) ∷ []) high ∙ ap (λ k. digits_of 10 v ++ k ∷ []) low)
    ∙ map-append (λ d. 48 + d) (digits_of 10 v) (d ∷ [])
    ∙ ap (λ t. t ++ (48 + d) ∷ []) (sym (decimal_above v some))

pub decimal_digit : (n : ℕ) → n < 10 → decimal_text n ≡ (48 + n) ∷ []
decimal_digit zero h = decimal_zero
decimal_digit (suc n) h =
    let high : suc n / 10 ≡ 0 = omega arith in
    let low : suc n % 10 ≡ suc n = omega arith in
    decimal_above (suc n) (omega arith)
    ∙ ap (map (λ d. 48 + d)) (digits_of_step 10 (suc n) (omega arith) (omega arith) ∙ ap (λ k. digits_of 10 k ++ (suc n % 10) ∷ []) high ∙ ap (λ k. k ∷ []) low)

all_from : (P : ℕ → Type 0) (xs : List ℕ) → AllByRecursion P xs → All P xs
all_from P [] h = All-nil P
all_from P (x ∷ xs) h = All-cons P x xs h.0 (all_from P xs h.1)

digit_bounds : (ds : List ℕ) → AllByRecursion (λ d. d < 10) ds → AllByRecursion (λ d. (48 ≤ 48 + d) × (48 + d ≤ 57)) ds
digit_bounds [] h = tt
digit_bounds (d ∷ ds) h = ((omega arith, omega (arith, h.0)), digit_bounds ds h.1)

-- each byte is a digit
pub decimal_digits : (n : ℕ) → All (λ b. (48 ≤ b) × (b ≤ 57)) (decimal_text n)
decimal_digits zero = subst (All (λ b. (48 ≤ b) × (b ≤ 57))) (sym decimal_zero) (All-cons (λ b. (48 ≤ b) × (b ≤ 57)) 48 [] (omega arith, omega arith) (All-nil (λ b. (48 ≤ b) × (b ≤ 57))))
decimal_digits (suc n) =
    subst (All (λ b. (48 ≤ b) × (b ≤ 57))) (sym (decimal_above (suc n) (omega arith)))
    (All-map (λ b. (48 ≤ b) × (b ≤ 57)) (λ d. 48 + d) (digits_of 10 (suc n))
    (all_from (λ d. (48 ≤ 48 + d) × (48 + d ≤ 57)) (digits_of 10 (suc n)) (digit_bounds _ (all_below_base_digits_of 10 (suc n) (omega arith)))))

digits_some : (n : ℕ) → 0 < n → 0 < length (digits_of 10 n)
digits_some n h =
    let first = first_digits_of 10 n (omega arith) h in
    ⊎_elim (λ l. l) (λ none. absurd (omega (arith, get_or_past (digits_of 10 n) 0 0 none))) (cases_lt 0 (length (digits_of 10 n)))

-- the first is no zero, but for zero itself
pub decimal_first : (n : ℕ) → 0 < n → 49 ≤ get_or (decimal_text n) 0 0
decimal_first n h =
    let first = first_digits_of 10 n (omega arith) h in
    let read = ap (λ t. get_or t 0 0) (decimal_above n h) ∙ get_or-map (λ d. 48 + d) (digits_of 10 n) 0 0 0 (digits_some n h) in
    omega (arith, read)

pub decimal_some : (n : ℕ) → 0 < length (decimal_text n)
decimal_some zero = omega (arith, ap length decimal_zero)
decimal_some (suc n) =
    let first = decimal_first (suc n) (omega arith) in
    ⊎_elim (λ l. l) (λ none. absurd (omega (arith, get_or_past (decimal_text (suc n)) 0 0 none))) (cases_lt 0 (length (decimal_text (suc n))))

-- a text with a zero in front is that of zero
pub decimal_from_zero : (n : ℕ) → get_or (decimal_text n) 0 0 ≡ 48 → n ≡ 0
decimal_from_zero zero h = refl
decimal_from_zero (suc n) h = absurd (omega (arith, decimal_first (suc n) (omega arith)))

same_glyphs : (xs ys : List ℕ) → map (λ d. 48 + d) xs ≡ map (λ d. 48 + d) ys → xs ≡ ys
same_glyphs [] [] h = refl
same_glyphs [] (y ∷ ys) h = cc
same_glyphs (x ∷ xs) [] h = cc
same_glyphs (x ∷ xs) (y ∷ ys) h =
    let first : 48 + x ≡ 48 + y = cc in
    let others : map (λ d. 48 + d) xs ≡ map (λ d. 48 + d) ys = cc in
    let e : x ≡ y = omega arith in
    let f : xs ≡ ys = same_glyphs xs ys others in
    cc

-- no two numbers have one text
pub decimal_same : (m n : ℕ) → decimal_text m ≡ decimal_text n → m ≡ n
decimal_same zero n h = sym (decimal_from_zero n (ap (λ t. get_or t 0 0) (sym h ∙ decimal_zero)))
decimal_same (suc m) zero h = decimal_from_zero (suc m) (ap (λ t. get_or t 0 0) (h ∙ decimal_zero))
decimal_same (suc m) (suc n) h =
    same_from_digits_of 10 (suc m) (suc n) (omega arith)
    (same_glyphs _ _ (sym (decimal_above (suc m) (omega arith)) ∙ h ∙ decimal_above (suc n) (omega arith)))

-- what std writes
pub decimal_is_text : (n : ℕ) → n < 2 ^ 64 → decimal n ≡ decimal_text n
decimal_is_text n fits =
    decimal_by_steps (λ n ds. ds ≡ decimal_text n)
    (λ n h. sym (decimal_digit n h))
    (λ n ds h e.
    let whole : n / 10 * 10 + n % 10 ≡ n = omega arith in
    ap (λ t. t ++ (48 + n % 10) ∷ []) e ∙ sym (decimal_more (n / 10) (n % 10) (omega arith) (omega arith)) ∙ ap decimal_text whole)
    n fits

-- a digit more
pub value_digit : (c : ℕ) → 48 ≤ c → c ≤ 57 → digit_value c ≡ c - 48
value_digit c h k = grind (arith, nat_tests)

-- the digits so far are the decimal of their value
pub record IsDecimal (digits : List ℕ) : Type 0 where
  pub some : 0 < digits_value 10 digits
  pub text : decimal_text (digits_value 10 digits) ≡ digits

pub decimal_grows : (f : List ℕ) (i : ℕ) → i < length f → get_or f 0 0 ≢ 48 → 48 ≤ get_or f i 0 → get_or f i 0 ≤ 57
    → (0 < i → IsDecimal (take i f)) → IsDecimal (take (i + 1) f)
decimal_grows f i inside other low high so =
    let c = get_or f i 0 in
    let value : digits_value 10 (take (i + 1) f) ≡ digits_value 10 (take i f) * 10 + (c - 48) =
    digits_value_more 10 f i inside ∙ ap (λ d. digits_value 10 (take i f) * 10 + d) (value_digit c low high) in
    let front : take (i + 1) f ≡ take i f ++ c ∷ [] = take_more f i 0 inside in
    let back : 48 + (c - 48) ≡ c = omega arith in
    by (cases_eq i 0) value front back
  where
    by : ((i ≡ 0) ⊎ (i ≡ 0 → ⊥)) → digits_value 10 (take (i + 1) f) ≡ digits_value 10 (take i f) * 10 + (get_or f i 0 - 48) → take (i + 1) f ≡ take i f ++ get_or f i 0 ∷ [] → 48 + (get_or f i 0 - 48) ≡ get_or f i 0 → IsDecimal (take (i + 1) f)
    by c value front back =
        ⊎_elim
        (λ none.
        let nil : take i f ≡ [] = ap (λ k. take k f) none in
        let first : digits_value 10 (take (i + 1) f) ≡ get_or f i 0 - 48 = value ∙ ap (λ t. digits_value 10 t * 10 + (get_or f i 0 - 48)) nil ∙ omega arith in
        let not_zero : get_or f i 0 ≢ 48 = λ e. other (ap (λ k. get_or f k 0) (sym none) ∙ e) in
        record {
          some = omega (arith, first, not_zero);
          text = ap decimal_text first ∙ decimal_digit (get_or f i 0 - 48) (omega arith) ∙ ap (λ b. b ∷ []) back ∙ ap (λ t. t ++ get_or f i 0 ∷ []) (sym nil) ∙ sym front;
        })
        (λ later.
        let known = so (omega (arith, later)) in
        record {
          some = omega (arith, value, known.some);
          text = ap decimal_text value ∙ decimal_more (digits_value 10 (take i f)) (get_or f i 0 - 48) known.some (omega arith) ∙ ap (λ b. decimal_text (digits_value 10 (take i f)) ++ b ∷ []) back ∙ ap (λ t. t ++ get_or f i 0 ∷ []) known.text ∙ sym front;
        })
        c

-- a text of one byte
pub single : (f : List ℕ) (c : ℕ) → length f ≡ 1 → get_or f 0 0 ≡ c → f ≡ c ∷ []
single [] c h e = absurd (omega arith)
single (x ∷ []) c h e = ap (λ b. b ∷ []) e
single (x ∷ y ∷ f) c h e = absurd (omega arith)

pub digit_low : (b : ℕ) → is_ascii_digit b ≡ true → (48 ≤ b) × (b ≤ 57)
digit_low b h = (grind (arith, nat_tests), grind (arith, nat_tests))

pub digit_none : (b : ℕ) → is_ascii_digit b ≡ false → 48 ≤ b → b ≤ 57 → ⊥
digit_none b h k l = grind (arith, nat_tests)
