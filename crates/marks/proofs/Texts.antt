-- Texts that are joined, decimal digits, and the last slash of a path.
use Rattle.std.proofs.Common.{◌≡◌, ℕ, zero, suc, ◌+◌, ◌-◌, ◌*◌, ◌/◌, ◌%◌, ◌<◌, ◌≤◌, Bool, true, false, ◌&&◌, ◌||◌, cond, nat_eq, bytes_eq, List, [], ◌∷◌, ◌++◌, length, take, drop, set, slice_index, refl, sym, ap, subst, ◌∙◌, arith, append_assoc, append-nil, length-append, add-one}
use Rattle.std.specs.Cmp.Lexicographic.{pointwise}
use Rattle.std.proofs.lemmas.List.{drop_more, take_more, drop-set}
use Rattle.std.proofs.lemmas.Slice.Eq.{bytes_eq-Decides}
use Rattle.dir_model.specs.Paths.{is_slash}
use Rattle.dir_rules.specs.Marks.{has_slash, parent, digits}
use Rattle.dir_laws.proofs.Paths.{parent_plain}

-- the parent, where the path was read up to a place
abbrev pub scan : ℕ → ℕ → List ℕ → List ℕ
scan i last path = cond (has_slash (drop i path)) (take i path ++ parent (drop i path)) (take last path)

scan_step : (front rest kept : List ℕ) (b : ℕ) → cond (has_slash rest) ((front ++ b ∷ []) ++ parent rest) (cond (is_slash b) front kept) ≡ cond (has_slash (b ∷ rest)) (front ++ parent (b ∷ rest)) kept
scan_step front rest kept b = by (is_slash b) (has_slash rest)
  where
    by : (s h : Bool) → cond h ((front ++ b ∷ []) ++ parent rest) (cond s front kept) ≡ cond (s || h) (front ++ cond h (b ∷ parent rest) []) kept
    by true true = append_assoc front (b ∷ []) (parent rest)
    by false true = append_assoc front (b ∷ []) (parent rest)
    by true false = sym (append-nil front)
    by false false = refl

take_by : (s : Bool) (path : List ℕ) (i last : ℕ) → take (cond s i last) path ≡ cond s (take i path) (take last path)
take_by true path i last = refl
take_by false path i last = refl

pub scan_more : (path : List ℕ) (i last : ℕ) → i < length path → scan (i + 1) (cond (is_slash (slice_index path i)) i last) path ≡ scan i last path
scan_more path i last h =
    rw (drop_more path i 0 h) (rw (take_more path i 0 h) (rw (take_by (is_slash (slice_index path i)) path i last) (scan_step (take i path) (drop (i + 1) path) (take last path) (slice_index path i))))

pub scan_first : (path : List ℕ) → scan 0 0 path ≡ parent path
scan_first path = by (has_slash path) (parent_plain path)
  where
    by : (h : Bool) → (h ≡ false → parent path ≡ []) → cond h (parent path) [] ≡ parent path
    by true none = refl
    by false none = sym (none refl)

pub bytes_joined : (bytes text rest : List ℕ) → bytes_eq bytes (text ++ rest) ≡ (pointwise nat_eq (take (length text) bytes) text && bytes_eq (drop (length text) bytes) rest)
bytes_joined bytes [] rest = refl
bytes_joined [] (t ∷ text) rest = refl
bytes_joined (b ∷ bytes) (t ∷ text) rest = by (nat_eq b t) (bytes_joined bytes text rest)
  where
    by : (s : Bool) → bytes_eq bytes (text ++ rest) ≡ (pointwise nat_eq (take (length text) bytes) text && bytes_eq (drop (length text) bytes) rest) → (s && bytes_eq bytes (text ++ rest)) ≡ ((s && pointwise nat_eq (take (length text) bytes) text) && bytes_eq (drop (length text) bytes) rest)
    by true more = more
    by false more = refl

length_digits : (k n : ℕ) → length (digits k n) ≡ k
length_digits zero n = refl
length_digits (suc k) n = omega (arith, length_digits k (n / 10), length-append (digits k (n / 10)) ((48 + n % 10) ∷ []))

pub unlike : (bytes text : List ℕ) (k n : ℕ) → (length bytes ≡ length text + k → ⊥) → bytes_eq bytes (text ++ digits k n) ≡ false
unlike bytes text k n other = by (bytes_eq bytes (text ++ digits k n)) (λ e. (bytes_eq-Decides bytes (text ++ digits k n)).0 e)
  where
    by : (b : Bool) → (b ≡ true → bytes ≡ text ++ digits k n) → b ≡ false
    by true same = absurd (other (ap length (same refl) ∙ (length-append text (digits k n) ∙ ap (λ (m : ℕ). length text + m) (length_digits k n))))
    by false same = refl

pub digits_down : (k p n : ℕ) (room : List ℕ) → p ≡ suc k → k < length room → digits k (n / 10) ++ drop k (set room k (48 + n % 10)) ≡ digits p n ++ drop p room
digits_down k p n room e h =
    rw e (rw (drop-set room k (48 + n % 10) h) (rw (add-one k) (sym (append_assoc (digits k (n / 10)) ((48 + n % 10) ∷ []) (drop (suc k) room)))))

-- what so many digits stand for at most
abbrev pub most : ℕ → ℕ
most zero = 0
most (suc k) = most k * 10 + 255

most_along : (k d : ℕ) → most k ≤ most (d + k)
most_along k zero = let P : ℕ → Type 0 = λ n. most k ≤ most n in let e : k ≡ 0 + k = omega arith in let h : most k ≤ most k = omega arith in subst P e h
most_along k (suc d) =
    let P : ℕ → Type 0 = λ n. most k ≤ most n in
    let e : suc (d + k) ≡ suc d + k = omega arith in
    let h : most k ≤ most (suc (d + k)) = omega (arith, most_along k d) in
    subst P e h

pub most_at : (k m : ℕ) → k ≤ m → most k ≤ most m
most_at k m h = let P : ℕ → Type 0 = λ n. most k ≤ most n in let e : (m - k) + k ≡ m = omega arith in subst P e (most_along k (m - k))

pub and_last : (a b x : Bool) → a ≡ true → b ≡ true → x ≡ ((a && b) && x)
and_last true true x d e = refl
and_last true false x d e = cc
and_last false b x d e = cc
