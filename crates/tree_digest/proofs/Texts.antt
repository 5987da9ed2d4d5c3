-- The bytes of a text.
use Rattle.std.proofs.Common.{◌≡◌, ℕ, ◌+◌, ◌/◌, ◌<◌, true, ltb, length, get_or, List, [], ◌∷◌, subst, sym, refl, ap, ◌∙◌, ⊎_elim, arith, IsUtf8}
use Rattle.std.specs.List.{All}
use Rattle.std.proofs.lemmas.List.{get_or_past}
use Rattle.std.proofs.lemmas.Bool.{cases_lt, and_parts, cond_both, ltb-true}
use Rattle.std.proofs.lemmas.List.Elements.{All-nil, All-cons, All-append}
use Rattle.percent_encoding.specs.Percent.{percent_decode}
use Rattle.percent_encoding.proofs.PercentLemmas.{round_trip}
use Rattle.tree_digest.specs.declared.escapes.TheConstants.{ESCAPED}
use Rattle.tree_digest.specs.Fields.{escaped}
use Rattle.tree_digest.proofs.EscapedBytes.{escaped_is}
use lib.Utf8.{scalars, encode, encodes, scalar_cases, next}

one : (a : ℕ) → a < 256 → All (λ b. b < 256) (a ∷ [])
one a h = All-cons (λ b. b < 256) a [] h (All-nil (λ b. b < 256))

more : (a : ℕ) (bs : List ℕ) → a < 256 → All (λ b. b < 256) bs → All (λ b. b < 256) (a ∷ bs)
more a bs h k = All-cons (λ b. b < 256) a bs h k

encode_small : (c : ℕ) → c < 1114112 → All (λ b. b < 256) (encode c)
unfolding encode
encode_small c h =
    cond_both (ltb c 128) _ _ (All (λ b. b < 256))
    (λ e. one c (omega (arith, ltb-true c 128 e)))
    (λ _. cond_both (ltb c 2048) _ _ (All (λ b. b < 256))
    (λ e. more (192 + c / 64) (next c ∷ []) (omega (arith, ltb-true c 2048 e)) (one (next c) (omega arith)))
    (λ _. cond_both (ltb c 65536) _ _ (All (λ b. b < 256))
    (λ e. more (224 + c / 4096) (next (c / 64) ∷ next c ∷ []) (omega (arith, ltb-true c 65536 e)) (more (next (c / 64)) (next c ∷ []) (omega arith) (one (next c) (omega arith))))
    (λ _. more (240 + c / 262144) (next (c / 4096) ∷ next (c / 64) ∷ next c ∷ []) (omega arith) (more (next (c / 4096)) (next (c / 64) ∷ next c ∷ []) (omega arith) (more (next (c / 64)) (next c ∷ []) (omega arith) (one (next c) (omega arith)))))))

encodes_small : (cs : List ℕ) → scalars cs ≡ true → All (λ b. b < 256) (encodes cs)
encodes_small [] e = All-nil (λ b. b < 256)
encodes_small (c ∷ cs) e =
    let both = and_parts _ _ e in
    let low : c < 1114112 = ⊎_elim (λ h. omega arith) (λ h. h.1) (scalar_cases c both.0) in
    All-append (λ b. b < 256) (encode c) (encodes cs) (encode_small c low) (encodes_small cs both.1)

-- each byte of a text fits eight bits
pub text_small : (bs : List ℕ) → IsUtf8 bs → All (λ b. b < 256) bs
text_small bs text = subst (All (λ b. b < 256)) text.1.1 (encodes_small text.0 text.1.0)

-- what is escaped is decoded again
pub decoded : (text : List ℕ) → IsUtf8 text → percent_decode (escaped text) ≡ text
decoded text valid = ap percent_decode (sym (escaped_is text)) ∙ round_trip ESCAPED text refl (text_small text valid)

-- no two texts have one escaping
pub escaped_same : (a b : List ℕ) → IsUtf8 a → IsUtf8 b → escaped a ≡ escaped b → a ≡ b
escaped_same a b h k e =
    sym (decoded a h) ∙ ap percent_decode e ∙ decoded b k

-- each place of bytes reads a byte, or zero past the end
pub byte_at : (bs : List ℕ) → All (λ b. b < 256) bs → (i : ℕ) → get_or bs i 0 < 256
byte_at bs h i = ⊎_elim (λ inside. h i 0 inside) (λ past. omega (arith, get_or_past bs i 0 past)) (cases_lt i (length bs))
