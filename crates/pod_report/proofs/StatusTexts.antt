-- The text of a status.
use Rattle.std.proofs.Common.{arith, ◌≡◌, ◌⊎◌, inl, inr, ◌≤◌, ◌<◌, ◌+◌, ◌-◌, ◌^◌, ℕ, zero, suc, Bool, true, false, bytes_eq, cond, find, Option, Some, None, IsSomeAnd, Result, Ok, Err, List, [], ◌∷◌, ◌++◌, length, length-append, take, refl, sym, ap, subst, ◌∙◌}
use Rattle.std.specs.Fmt.{decimal}
use Rattle.std.specs.List.{range_with_len}
use Rattle.std.specs.Str.{IsUtf8}
use Rattle.std.specs.Str.Parse.{ParsesUnsigned}
use Rattle.std.proofs.Math.Seq.{take-append_seam}
use Rattle.std.proofs.lemmas.Fmt.{length-decimal-le, IsAscii-decimal, decimal_injective, parse-decimal}
use Rattle.std.proofs.lemmas.Grind.{common_steps}
use Rattle.std.proofs.lemmas.Slice.Eq.{bytes_eq-Decides}
use Rattle.std.proofs.lemmas.Str.{IsUtf8-from_ascii}
use Rattle.plain_laws.proofs.Booleans.{clash}
use Rattle.lifecycle.proofs.Looking.{at_most}
use Rattle.pod_report.specs.Ends.{status_text, IsStatusText, IsNoStatus}
use Rattle.pod_report.specs.Sequential.{status_of_text}

small_64 : (n : ℕ) → n ≤ 255 → n < 2 ^ 64
small_64 n h = omega (arith, h)

-- a status takes four bytes at most
pub text_short : (n : ℕ) → n ≤ 255 → length (status_text n) ≤ 4
text_short n h =
    let digits : length (decimal n) ≤ 3 = length-decimal-le 3 n (omega arith) (omega (arith, h)) (small_64 n h) in
    omega (arith, digits, length-append (decimal n) (10 ∷ []))

-- what comes before its last byte
front_of : (xs : List ℕ) → take (length (xs ++ 10 ∷ []) - 1) (xs ++ 10 ∷ []) ≡ xs
front_of xs = ap (λ (k : ℕ). take k (xs ++ 10 ∷ [])) (omega (arith, length-append xs (10 ∷ []))) ∙ take-append_seam xs (10 ∷ [])

pub digits_of : (n : ℕ) (bytes : List ℕ) → IsStatusText n bytes → take (length bytes - 1) bytes ≡ decimal n
digits_of n bytes t = ap (λ (l : List ℕ). take (length l - 1) l) t.is ∙ front_of (decimal n)

pub some_bytes : (n : ℕ) (bytes : List ℕ) → IsStatusText n bytes → length bytes ≡ 0 → ⊥
some_bytes n bytes t none = omega (arith, none, ap length t.is, length-append (decimal n) (10 ∷ []))

pub digits_utf8 : (n : ℕ) (bytes : List ℕ) → IsStatusText n bytes → IsUtf8 (take (length bytes - 1) bytes)
digits_utf8 n bytes t = subst IsUtf8 (sym (digits_of n bytes t)) (IsUtf8-from_ascii (decimal n) (IsAscii-decimal n (small_64 n t.small)))

-- a file of which the first five bytes are a status is that status, and one that is a status has no more
short_whole : (f : List ℕ) → length (take 5 f) ≤ 4 → take 5 f ≡ f
short_whole f l = grind (arith, common_steps)

all_taken : (f : List ℕ) → length f ≤ 4 → take 5 f ≡ f
all_taken f l = grind (arith, common_steps)

pub piece_ended : (n : ℕ) (bytes : List ℕ) (file : Option (List ℕ)) → IsSomeAnd file (λ f. bytes ≡ take 5 f) → IsStatusText n bytes → file ≡ Some bytes
piece_ended n bytes None piece t = absurd piece
piece_ended n bytes (Some f) piece t =
    let short : length (take 5 f) ≤ 4 = subst (λ (l : List ℕ). length l ≤ 4) (sym t.is ∙ piece) (text_short n t.small) in
    ap Some (sym (piece ∙ short_whole f short))

pub piece_none : (n : ℕ) (bytes b : List ℕ) (file : Option (List ℕ)) → IsSomeAnd file (λ f. bytes ≡ take 5 f) → IsNoStatus bytes → file ≡ Some b → IsStatusText n b → ⊥
piece_none n bytes b file piece none is t =
    let told : bytes ≡ take 5 b = subst (λ (o : Option (List ℕ)). IsSomeAnd o (λ f. bytes ≡ take 5 f)) is piece in
    let whole : take 5 b ≡ b = all_taken b (subst (λ (l : List ℕ). length l ≤ 4) (sym t.is) (text_short n t.small)) in
    none n (subst (IsStatusText n) (sym (told ∙ whole)) t)

-- and what is parsed there is the status
parsed : {E : Type 0} (n : ℕ) (bytes digits : List ℕ) (r : Result ℕ E) → digits ≡ take (length bytes - 1) bytes → IsStatusText n bytes → ParsesUnsigned 8 10 digits r → r ≡ Ok n
parsed n bytes digits r is t p = parse-decimal 8 n digits r (let small = t.small in omega (arith, small)) (small_64 n t.small) (is ∙ digits_of n bytes t) p

abbrev pub taken : {E : Type 0} → Result ℕ E → Option ℕ
taken (Ok n) = Some n
taken (Err e) = None

pub number_taken : {E : Type 0} (n : ℕ) (bytes digits : List ℕ) (r : Result ℕ E) → digits ≡ take (length bytes - 1) bytes → IsStatusText n bytes → ParsesUnsigned 8 10 digits r → taken r ≡ Some n
number_taken n bytes digits r is t p = ap taken (parsed n bytes digits r is t p)

-- the first number that passes, where one alone does
find_one : (t : ℕ → Bool) (n : ℕ) → t n ≡ true → ((k : ℕ) → k ≤ n → t k ≡ true → k ≡ n) → (a len : ℕ) → a ≤ n → n < a + len → find t (range_with_len a len) ≡ Some n
find_one t n passes one a zero low high = absurd (omega (arith, low, high))
find_one t n passes one a (suc len) low high = by (t a) refl (at_most n a) (λ far. find_one t n passes one (a + 1) len (omega (arith, far)) (omega (arith, high)))
  where
    by : (b : Bool) → t a ≡ b → (n ≤ a) ⊎ (a < n) → (a < n → find t (range_with_len (a + 1) len) ≡ Some n) → cond b (Some a) (find t (range_with_len (a + 1) len)) ≡ Some n
    by true is near go = ap Some (one a low is)
    by false off (inl near) go = let same : n ≡ a = omega (arith, near, low) in clash (t a) (subst (λ (k : ℕ). t k ≡ true) same passes) off
    by false off (inr far) go = go far

-- one that is found passes
record Passes (t : ℕ → Bool) (top n : ℕ) : Type 0 where
  is : t n ≡ true
  below : n < top

find_told : (t : ℕ → Bool) (n a len : ℕ) → find t (range_with_len a len) ≡ Some n → Passes t (a + len) n
find_told t n a zero found = cc
find_told t n a (suc len) found = by (t a) refl found (λ rest. find_told t n (a + 1) len rest)
  where
    by : (b : Bool) → t a ≡ b → cond b (Some a) (find t (range_with_len (a + 1) len)) ≡ Some n → (find t (range_with_len (a + 1) len) ≡ Some n → Passes t ((a + 1) + len) n) → Passes t (a + suc len) n
    by true is found go = let same : a ≡ n = cc in record { is = subst (λ (k : ℕ). t k ≡ true) same is; below = omega (arith, same) }
    by false off found go = let p = go found in record { is = p.is; below = let low = p.below in omega (arith, low) }

-- a text is that of one status
abbrev is_text : List ℕ → ℕ → Bool
is_text bytes n = bytes_eq bytes (status_text n)

small_text : (bytes : List ℕ) (n : ℕ) → n ≤ 255 → is_text bytes n ≡ true → IsStatusText n bytes
small_text bytes n small is = record { small = small; is = (bytes_eq-Decides bytes (status_text n)).0 is }

one_status : (bytes : List ℕ) (k n : ℕ) → IsStatusText k bytes → IsStatusText n bytes → k ≡ n
one_status bytes k n a b = decimal_injective k n (small_64 k a.small) (small_64 n b.small) (sym (digits_of k bytes a) ∙ digits_of n bytes b)

pub text_status : (n : ℕ) (bytes : List ℕ) → IsStatusText n bytes → status_of_text bytes ≡ Some n
unfolding status_of_text
text_status n bytes t =
    let small = t.small in
    find_one (is_text bytes) n ((bytes_eq-Decides bytes (status_text n)).1 t.is) (λ k low is. one_status bytes k n (small_text bytes k (omega (arith, low, small)) is) t) 0 256 (omega arith) (omega (arith, small))

pub text_told : (n : ℕ) (bytes : List ℕ) → status_of_text bytes ≡ Some n → IsStatusText n bytes
unfolding status_of_text
text_told n bytes found = let p = find_told (is_text bytes) n 0 256 found in small_text bytes n (let low = p.below in omega (arith, low)) p.is
