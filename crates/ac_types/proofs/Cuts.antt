-- A text that is cut at the first of some bytes, and the parts between commas.
use Rattle.std.proofs.Common.{◌≡◌, ℕ, ◌<◌, ◌≤◌, ◌+◌, ◌==◌, Bool, true, false, nat_lt, List, [], ◌∷◌, ◌++◌, Option, Some, None, get_or, drop, take, length, refl, sym, ◌∙◌, ap, subst, arith, suc, zero}
use Rattle.std.specs.Prelude.{if◌then◌else◌}
use Rattle.std.specs.List.{All, slice_split, onto_first, join_with_byte, position_or_len, before_first, after_first}
use Rattle.std.proofs.lemmas.Bool.Decides.{nat_tests}
use Rattle.std.proofs.lemmas.List.Sums.{split_at_first, fails_before_first, passes_at_first, position_or_len_is}
use Rattle.std.proofs.lemmas.List.Splits.{slice_split_at, slice_split_none, slice_split_first, slice_split-cons_yes, slice_split-cons_no}
use Rattle.std.proofs.lemmas.List.{length-append}
use Rattle.std.proofs.Math.ListN.{get_or-append}
use Rattle.std.proofs.Math.Seq.{get_or-append_seam, take-append_seam, drop-append-add}
use Rattle.ac_types.specs.References.{cut}
use Rattle.ac_types.specs.ReferenceForm.{Lacks}

-- a text without that byte isn't cut
pub cut_none : (c : ℕ) (t : List ℕ) → Lacks c t → cut c t ≡ None
cut_none c t lacks =
    let end : position_or_len (λ b. b == c) t ≡ length t =
    position_or_len_is (λ b. b == c) t (length t) 0 (omega arith) (λ k h. lacks k 0 h) (λ h. absurd (omega arith)) in
    let no : nat_lt (position_or_len (λ b. b == c) t) (length t) ≡ false = grind (arith, nat_tests) in
    rw no refl

-- a text is cut at its first such byte
pub cut_at : (c : ℕ) (a b : List ℕ) → Lacks c a → cut c (a ++ c ∷ b) ≡ Some (a, b)
cut_at c a b lacks =
    let long = length-append a (c ∷ b) in
    let same : (c == c) ≡ true = grind (arith, nat_tests) in
    let at : position_or_len (λ x. x == c) (a ++ c ∷ b) ≡ length a =
    position_or_len_is (λ x. x == c) (a ++ c ∷ b) (length a) 0 (omega (arith, long))
    (λ k h. rw (get_or-append a (c ∷ b) 0 k h) (lacks k 0 h))
    (λ h. rw (get_or-append_seam a c b 0) same) in
    let yes : nat_lt (length a) (length (a ++ c ∷ b)) ≡ true = grind (arith, nat_tests, long) in
    let front : take (length a) (a ++ c ∷ b) ≡ a = take-append_seam a (c ∷ b) in
    let rest : drop (length a + 1) (a ++ c ∷ b) ≡ b = drop-append-add a (c ∷ b) 1 in
    rw (at, yes, front, rest) refl

-- what was cut is what stands before and behind the byte
pub cut_is : (c : ℕ) (t a b : List ℕ) → cut c t ≡ Some (a, b) → t ≡ a ++ c ∷ b
cut_is c t a b h = by_test (nat_lt (position_or_len (λ x. x == c) t) (length t)) refl h
  where
    by_test : (found : Bool) → nat_lt (position_or_len (λ x. x == c) t) (length t) ≡ found
        → (if◌then◌else◌ {A = Option (List ℕ × List ℕ)} found (Some (before_first (λ x. x == c) t, after_first (λ x. x == c) t)) None) ≡ Some (a, b)
        → t ≡ a ++ c ∷ b
    by_test true e k =
        let within : position_or_len (λ x. x == c) t < length t = grind (arith, nat_tests) in
        let here : (get_or t (position_or_len (λ x. x == c) t) 0 == c) ≡ true = passes_at_first (λ x. x == c) t 0 within in
        let byte : get_or t (position_or_len (λ x. x == c) t) 0 ≡ c = grind (arith, nat_tests) in
        let both : ◌≡◌ {A = List ℕ × List ℕ} (before_first (λ x. x == c) t, after_first (λ x. x == c) t) (a, b) = cc in
        let front : before_first (λ x. x == c) t ≡ a = ap (λ (p : List ℕ × List ℕ). p.0) both in
        let rest : after_first (λ x. x == c) t ≡ b = ap (λ (p : List ℕ × List ℕ). p.1) both in
        split_at_first (λ x. x == c) t 0 within ∙ rw (byte, front, rest) refl
    by_test false e k = cc

-- each part of a text that is split lacks the byte
first_longer : (c x : ℕ) (parts : List (List ℕ)) → (x == c) ≡ false → All (Lacks c) parts → All (Lacks c) (onto_first x parts)
first_longer c x [] not_it all zero d h zero e g = not_it
first_longer c x [] not_it all zero d h (suc j) e g = absurd (omega arith)
first_longer c x [] not_it all (suc k) d h j e g = absurd (omega arith)
first_longer c x (p ∷ ps) not_it all zero d h zero e g = not_it
first_longer c x (p ∷ ps) not_it all zero d h (suc j) e g = all 0 d (omega arith) j e (omega arith)
first_longer c x (p ∷ ps) not_it all (suc k) d h j e g = all (suc k) d (omega arith) j e g

parts_more : (c : ℕ) (parts : List (List ℕ)) → All (Lacks c) parts → All (Lacks c) ([] ∷ parts)
parts_more c parts all zero d h j e g = absurd (omega arith)
parts_more c parts all (suc k) d h j e g = all k d (omega arith) j e g

empty_part : (c : ℕ) → All (Lacks c) ([] ∷ [])
empty_part c zero d h j e g = absurd (omega arith)
empty_part c (suc k) d h j e g = absurd (omega arith)

pub parts_lack : (c : ℕ) (t : List ℕ) → All (Lacks c) (slice_split (λ b. b == c) t)
parts_lack c [] = empty_part c
parts_lack c (x ∷ xs) = by_test (x == c) refl (parts_lack c xs)
  where
    P : List (List ℕ) → Type 0
    P ps = All (Lacks c) ps

    by_test : (b : Bool) → (x == c) ≡ b → All (Lacks c) (slice_split (λ b. b == c) xs)
        → All (Lacks c) (slice_split (λ b. b == c) (x ∷ xs))
    by_test true e before =
        subst P (sym (slice_split-cons_yes (λ b. b == c) x xs e)) (parts_more c (slice_split (λ b. b == c) xs) before)
    by_test false e before =
        subst P (sym (slice_split-cons_no (λ b. b == c) x xs e)) (first_longer c x (slice_split (λ b. b == c) xs) e before)

-- parts that lack the byte and were joined by it are the parts again
pub split_joined : (c : ℕ) (p : List ℕ) (ps : List (List ℕ)) → All (Lacks c) (p ∷ ps)
    → slice_split (λ b. b == c) (join_with_byte c (p ∷ ps)) ≡ p ∷ ps
split_joined c p [] all = slice_split_none (λ b. b == c) p (all 0 [] (omega arith))
split_joined c p (q ∷ qs) all =
    let same : (c == c) ≡ true = grind (arith, nat_tests) in
    slice_split_at (λ b. b == c) p c (join_with_byte c (q ∷ qs)) (all 0 [] (omega arith)) same
    ∙ ap (λ (rest : List (List ℕ)). p ∷ rest) (split_joined c q qs (λ k d h. all (suc k) d (omega arith)))

-- the parts of a text, by where it is cut
pub split_none : (c : ℕ) (t : List ℕ) → cut c t ≡ None → slice_split (λ b. b == c) t ≡ t ∷ []
split_none c t h = by_test (nat_lt (position_or_len (λ x. x == c) t) (length t)) refl h
  where
    by_test : (found : Bool) → nat_lt (position_or_len (λ x. x == c) t) (length t) ≡ found
        → (if◌then◌else◌ {A = Option (List ℕ × List ℕ)} found (Some (before_first (λ x. x == c) t, after_first (λ x. x == c) t)) None) ≡ None
        → slice_split (λ b. b == c) t ≡ t ∷ []
    by_test true e k = cc
    by_test false e k =
        let past : length t ≤ position_or_len (λ x. x == c) t = grind (arith, nat_tests) in
        slice_split_none (λ b. b == c) t (λ j d lt. fails_before_first (λ b. b == c) t j d (omega arith))

pub split_some : (c : ℕ) (t a b : List ℕ) → cut c t ≡ Some (a, b) → slice_split (λ x. x == c) t ≡ a ∷ slice_split (λ x. x == c) b
split_some c t a b h = by_test (nat_lt (position_or_len (λ x. x == c) t) (length t)) refl h
  where
    by_test : (found : Bool) → nat_lt (position_or_len (λ x. x == c) t) (length t) ≡ found
        → (if◌then◌else◌ {A = Option (List ℕ × List ℕ)} found (Some (before_first (λ x. x == c) t, after_first (λ x. x == c) t)) None) ≡ Some (a, b)
        → slice_split (λ x. x == c) t ≡ a ∷ slice_split (λ x. x == c) b
    by_test true e k =
        let within : position_or_len (λ x. x == c) t < length t = grind (arith, nat_tests) in
        let both : ◌≡◌ {A = List ℕ × List ℕ} (before_first (λ x. x == c) t, after_first (λ x. x == c) t) (a, b) = cc in
        slice_split_first (λ x. x == c) t 0 within
        ∙ ap (λ (p : List ℕ × List ℕ). p.0 ∷ slice_split (λ x. x == c) p.1) both
    by_test false e k = cc
