-- Where a text is cut at a byte.
use Rattle.std.proofs.Common.{◌≡◌, ℕ, zero, suc, ◌+◌, ◌/◌, ◌%◌, ◌<◌, ◌≤◌, true, false, ◌==◌, eqb, List, [], ◌∷◌, ◌++◌, length, get_or, take, drop, ◌-◌, ◌≢◌, sym, refl, ap, subst, ◌∙◌, ◌⊎◌, inl, inr, ⊎_elim, arith}
use Rattle.std.specs.List.{All}
use Rattle.std.proofs.lemmas.Bool.{cases_lt, or_parts, or_from, ne_eqb, eq-eqb, eqb-true, both_ways, cases_Bool, false_from_ne_true}
use Rattle.std.proofs.lemmas.List.Folds.{list_any_none, list_any-append, list_any_more}
use Rattle.std.proofs.lemmas.List.{take-append-drop, drop_more, take_rest, take_all, get_or_past}
use Rattle.hex.specs.Hex.{encode_with, encode_lower, lower_digits}
use Rattle.percent_encoding.specs.AsciiSet.{should_percent_encode}
use Rattle.percent_encoding.specs.Percent.{percent_encode}
use Rattle.percent_encoding.proofs.PercentLemmas.{All-percent_encode}
use Rattle.tree_digest.specs.declared.escapes.TheConstants.{ESCAPED}
use Rattle.tree_digest.specs.Fields.{octal_text, decimal_text, escaped, field}
use Rattle.path_map.specs.Paths.{HasNone}
use Rattle.path_map.proofs.Ends.{has_cut}
use Rattle.tree_digest.proofs.Decimals.{decimal_digits}
use Rattle.tree_digest.proofs.EscapedBytes.{escaped_is}

-- a text is cut at the first of a byte in one way
pub cut_once : (c : ℕ) (a b xs ys : List ℕ) → HasNone c a → HasNone c xs → a ++ c ∷ b ≡ xs ++ c ∷ ys → (a ≡ xs) × (b ≡ ys)
cut_once c [] b [] ys h k e =
    let same : b ≡ ys = cc in
    (refl, same)
cut_once c [] b (x ∷ xs) ys h k e =
    let same : c ≡ x = cc in
    absurd (both_ways _ (or_parts _ _ k).0 (eq-eqb x c (sym same)))
cut_once c (x ∷ a) b [] ys h k e =
    let same : x ≡ c = cc in
    absurd (both_ways _ (or_parts _ _ h).0 (eq-eqb x c same))
cut_once c (x ∷ a) b (y ∷ xs) ys h k e =
    let first : x ≡ y = cc in
    let others : a ++ c ∷ b ≡ xs ++ c ∷ ys = cc in
    let down = cut_once c a b xs ys (or_parts _ _ h).1 (or_parts _ _ k).1 others in
    let front : a ≡ xs = down.0 in
    (cc, down.1)

-- bytes that differ from one
pub none_from_all : (c : ℕ) (bs : List ℕ) → All (λ b. eqb b c ≡ false) bs → HasNone c bs
none_from_all c bs h = list_any_none (λ b. b == c) bs h

pub none_both : (c : ℕ) (xs ys : List ℕ) → HasNone c xs → HasNone c ys → HasNone c (xs ++ ys)
none_both c xs ys h k = list_any-append (λ b. b == c) xs ys ∙ or_from _ _ h k

-- no field has a byte below the digits but those of escapes
pub octal_clear : (c n : ℕ) → c < 48 → HasNone c (octal_text n)
octal_clear c n low =
    or_from _ _ (high (n / 512)) (or_from _ _ (high (n / 64 % 8)) (or_from _ _ (high (n / 8 % 8)) (or_from _ _ (high (n % 8)) refl)))
  where
    high : (d : ℕ) → eqb (48 + d) c ≡ false
    high d = ne_eqb (48 + d) c (λ e. omega arith)

pub decimal_clear : (c n : ℕ) → c < 48 → HasNone c (decimal_text n)
decimal_clear c n low =
    none_from_all c (decimal_text n) (λ k d within. ne_eqb _ _ (λ e. omega (arith, (decimal_digits n k d within).0)))

pub read_clear : (c : ℕ) (t : List ℕ) → HasNone c t → 0 < c → (k : ℕ) → eqb (get_or t k 0) c ≡ false
read_clear c [] h some k = ne_eqb 0 c (λ e. omega arith)
read_clear c (x ∷ t) h some zero = (or_parts _ _ h).0
read_clear c (x ∷ t) h some (suc k) = read_clear c t (or_parts _ _ h).1 some k

hex_clear_by : (c : ℕ) → HasNone c lower_digits → 0 < c → (bs : List ℕ) → HasNone c (encode_lower bs)
unfolding encode_with
hex_clear_by c none some [] = refl
hex_clear_by c none some (b ∷ bs) =
    or_from _ _ (read_clear c lower_digits none some (b / 16)) (or_from _ _ (read_clear c lower_digits none some (b % 16)) (hex_clear_by c none some bs))

pub hex_clear_space : (bs : List ℕ) → HasNone 32 (encode_lower bs)
hex_clear_space bs = hex_clear_by 32 refl (omega arith) bs

pub hex_clear_end : (bs : List ℕ) → HasNone 10 (encode_lower bs)
hex_clear_end bs = hex_clear_by 10 refl (omega arith) bs

escaped_clear : (c : ℕ) → should_percent_encode ESCAPED c ≡ true → c < 37 → (text : List ℕ) → HasNone c (escaped text)
escaped_clear c is low text =
    subst (HasNone c) (escaped_is text)
    (none_from_all c (percent_encode ESCAPED text)
    (All-percent_encode (λ b. eqb b c ≡ false) ESCAPED text
    (λ b kept. false_from_ne_true _ (λ e. both_ways _ kept (subst (λ (x : ℕ). should_percent_encode ESCAPED x ≡ true) (sym (eqb-true b c e)) is)))
    (λ b escape. ne_eqb _ _ (λ e. ⊎_elim (λ h. omega arith) (λ o. ⊎_elim (λ h. omega arith) (λ h. omega arith) o) escape))))

pub escaped_clear_space : (text : List ℕ) → HasNone 32 (escaped text)
unfolding should_percent_encode
escaped_clear_space text = escaped_clear 32 refl (omega arith) text

pub escaped_clear_end : (text : List ℕ) → HasNone 10 (escaped text)
unfolding should_percent_encode
escaped_clear_end text = escaped_clear 10 refl (omega arith) text

-- a text is parted at a byte that it has
pub parted_at : (c : ℕ) (t : List ℕ) (n : ℕ) → n < length t → get_or t n 0 ≡ c → t ≡ take n t ++ c ∷ drop (n + 1) t
parted_at c t n inside at =
    sym (take-append-drop n t) ∙ ap (λ r. take n t ++ r) (drop_more t n 0 inside ∙ ap (λ b. b ∷ drop (n + 1) t) at)

pub end_inside : (t : List ℕ) (n : ℕ) → get_or t n 0 ≡ 47 → n < length t
end_inside t n e = ⊎_elim (λ l. l) (λ o. absurd (omega (arith, get_or_past t n 0 o))) (cases_lt n (length t))

pub cut_at : (t : List ℕ) (n : ℕ) → n < length t → get_or t n 0 ≡ 32 → t ≡ field (take n t) (take (length t - (n + 1)) (drop (n + 1) t))
cut_at t n inside at =
    sym (take-append-drop n t)
    ∙ ap (λ r. take n t ++ r) (drop_more t n 0 inside ∙ ap (λ b. b ∷ drop (n + 1) t) at ∙ ap (λ r. 32 ∷ r) (sym (take_rest t (n + 1))))

pub none_more : (c : ℕ) (t : List ℕ) (n : ℕ) → n < length t → get_or t n 0 ≢ c → HasNone c (take n t) → HasNone c (take (n + 1) t)
none_more c t n inside other so =
    list_any_more (λ b. b == c) t n 0 inside ∙ or_from _ _ so (ne_eqb _ _ other)

pub none_all : (c : ℕ) (t : List ℕ) (n : ℕ) → length t ≤ n → HasNone c (take n t) → HasNone c t
none_all c t n past so = subst (HasNone c) (take_all n t past) so

pub line_at : (t : List ℕ) (n : ℕ) → n < length t → get_or t n 0 ≡ 10 → t ≡ take n t ++ 10 ∷ take (length t - (n + 1)) (drop (n + 1) t)
line_at t n inside at =
    sym (take-append-drop n t)
    ∙ ap (λ r. take n t ++ r) (drop_more t n 0 inside ∙ ap (λ b. b ∷ drop (n + 1) t) at ∙ ap (λ r. 10 ∷ r) (sym (take_rest t (n + 1))))

-- a text is parted at the last of a byte in one way
pub last_once : (c : ℕ) (a b xs ys : List ℕ) → HasNone c b → HasNone c ys → a ++ c ∷ b ≡ xs ++ c ∷ ys → a ≡ xs
last_once c [] b [] ys h k e = refl
last_once c [] b (x ∷ xs) ys h k e =
    let others : b ≡ xs ++ c ∷ ys = cc in
    absurd (has_cut c xs ys (subst (HasNone c) others h))
last_once c (x ∷ a) b [] ys h k e =
    let others : ys ≡ a ++ c ∷ b = cc in
    absurd (has_cut c a b (subst (HasNone c) others k))
last_once c (x ∷ a) b (y ∷ xs) ys h k e =
    let first : x ≡ y = cc in
    let others : a ++ c ∷ b ≡ xs ++ c ∷ ys = cc in
    let front : a ≡ xs = last_once c a b xs ys h k others in
    cc

-- a byte is nowhere in a text, or there is a last one
pub has_none_or_last : (c : ℕ) (t : List ℕ) → HasNone c t ⊎ ((a : List ℕ) × (b : List ℕ) × (t ≡ a ++ c ∷ b) × HasNone c b)
has_none_or_last c [] = inl refl
has_none_or_last c (x ∷ t) =
    ⊎_elim
    (λ none. ⊎_elim
    (λ same. inr ([], t, ap (λ y. y ∷ t) (eqb-true x c same), none))
    (λ other. inl (or_from _ _ other none))
    (cases_Bool (eqb x c)))
    (λ last. inr (x ∷ last.0, last.1, ap (λ u. x ∷ u) last.2, last.3))
    (has_none_or_last c t)
