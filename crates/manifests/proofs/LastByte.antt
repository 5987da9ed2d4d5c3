-- Whether a text has a last byte.
use Rattle.std.proofs.Common.{◌≡◌, ℕ, ◌≤◌, ◌==◌, Bool, true, false, List, [], ◌∷◌, length, refl, sym, ◌∙◌, ap, true≢false, arith}
use Rattle.std.proofs.lemmas.Bool.{eqb-true}
use Rattle.manifests.specs.WhitelistForm.{ends_in_slash}

filled : (b : ℕ) (bs : List ℕ) → (length (b ∷ bs) == 0) ≡ true → ⊥
filled b bs h = let none : length (b ∷ bs) ≡ 0 = eqb-true (length (b ∷ bs)) 0 h in omega arith

no_slash_in : (t : List ℕ) → (length t == 0) ≡ true → false ≡ ends_in_slash t
no_slash_in [] h = refl
no_slash_in (b ∷ bs) h = absurd (filled b bs h)

some_byte_in : (t : List ℕ) → (length t == 0) ≡ false → 1 ≤ length t
some_byte_in [] h = absurd (true≢false h)
some_byte_in (b ∷ bs) h = omega arith

pub no_slash : (bytes t : List ℕ) (empty : Bool) → bytes ≡ t → empty ≡ (length bytes == 0) → empty ≡ true → false ≡ ends_in_slash t
no_slash bytes t empty same is h =
    no_slash_in t (ap (λ (x : List ℕ). length x == 0) (sym same) ∙ sym is ∙ h)

pub some_byte : (bytes t : List ℕ) (empty : Bool) → bytes ≡ t → empty ≡ (length bytes == 0) → empty ≡ false → 1 ≤ length t
some_byte bytes t empty same is h =
    some_byte_in t (ap (λ (x : List ℕ). length x == 0) (sym same) ∙ sym is ∙ h)
