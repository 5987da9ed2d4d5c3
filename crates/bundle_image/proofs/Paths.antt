-- The order in which a walk comes to paths.
use Rattle.std.proofs.Common.{◌≡◌, ℕ, List, [], ◌∷◌, ◌++◌, length, sym, refl, ap, ◌∙◌, ◌⊎◌, inl, inr, arith, append_assoc, append-nil, length-append, nat_cmp, Less}
use Rattle.std.specs.Cmp.Lexicographic.{slice_cmp}
use Rattle.std.proofs.lemmas.Bool.{or_parts, eq-eqb, both_ways, and_parts, not-true}
use Rattle.dir_model.proofs.Lists.{same_rest}
use Rattle.dir_model.specs.Names.{IsFileName}
use Rattle.path_map.specs.Paths.{HasNone}
use Rattle.path_map.proofs.Ends.{none_from_places}
use Rattle.tree_digest.proofs.MapLines.{differ_if_less}
use Rattle.bundle_image.specs.Walks.{in_directory, IsAtOrBelow, IsBeside, ComesBefore}

pub name_has_no_slash : (name : List ℕ) → IsFileName name → HasNone 47 name
name_has_no_slash name is = none_from_places 47 name (λ k within slash. both_ways _ (not-true _ (and_parts _ _ (is.2 k 0 within)).0) (eq-eqb _ _ slash))

-- what lies below what lies below
pub lies_deeper : (a b c : List ℕ) → IsAtOrBelow a b → IsAtOrBelow b c → IsAtOrBelow a c
lies_deeper a b c (inl ab) (inl bc) = inl (ab ∙ bc)
lies_deeper a b c (inl ab) (inr below) = inr (below.0, ab ∙ below.1)
lies_deeper a b c (inr below) (inl bc) = inr (below.0, below.1 ∙ ap (λ t. t ++ 47 ∷ below.0) bc)
lies_deeper a b c (inr ab) (inr bc) =
    inr (bc.0 ++ 47 ∷ ab.0, ab.1 ∙ ap (λ t. t ++ 47 ∷ ab.0) bc.1 ∙ append_assoc c (47 ∷ bc.0) (47 ∷ ab.0))

pub beside_first : (a b c : List ℕ) → IsBeside a b → IsAtOrBelow c a → IsBeside c b
beside_first a b c beside below = record {
  directory = beside.directory;
  smaller = beside.smaller;
  greater = beside.greater;
  first_name = beside.first_name;
  second_name = beside.second_name;
  less = beside.less;
  first_below = lies_deeper c a _ below beside.first_below;
  second_below = beside.second_below;
}

pub beside_second : (a b c : List ℕ) → IsBeside a b → IsAtOrBelow c b → IsBeside a c
beside_second a b c beside below = record {
  directory = beside.directory;
  smaller = beside.smaller;
  greater = beside.greater;
  first_name = beside.first_name;
  second_name = beside.second_name;
  less = beside.less;
  first_below = beside.first_below;
  second_below = lies_deeper c b _ below beside.second_below;
}

pub before_deeper : (a b c : List ℕ) → ComesBefore a b → IsAtOrBelow c b → ComesBefore a c
before_deeper a b c (inl above) (inl same) = inl (above.0, same ∙ above.1)
before_deeper a b c (inl above) (inr below) =
    inl (above.0 ++ 47 ∷ below.0, below.1 ∙ ap (λ t. t ++ 47 ∷ below.0) above.1 ∙ append_assoc a (47 ∷ above.0) (47 ∷ below.0))
before_deeper a b c (inr beside) below = inr (beside_second a b c beside below)

-- nothing, or what follows a slash
abbrev IsEnd : List ℕ → Type 0
IsEnd text = (text ≡ []) ⊎ ((rest : List ℕ) × (text ≡ 47 ∷ rest))

no_slash_first : (x : ℕ) (xs : List ℕ) → HasNone 47 (x ∷ xs) → x ≡ 47 → ⊥
no_slash_first x xs none slash = both_ways _ (or_parts _ _ none).0 (eq-eqb _ _ slash)

-- two names with which one path begins
same_name : (n m a b : List ℕ) → HasNone 47 n → HasNone 47 m → IsEnd a → IsEnd b → n ++ a ≡ m ++ b → n ≡ m
same_name [] [] a b hn hm ea eb e = refl
same_name [] (y ∷ m) a b hn hm (inl none) eb e = let bad : [] ≡ y ∷ (m ++ b) = sym none ∙ e in cc
same_name [] (y ∷ m) a b hn hm (inr some) eb e =
    let slash : 47 ∷ some.0 ≡ y ∷ (m ++ b) = sym some.1 ∙ e in
    let is : y ≡ 47 = cc in
    absurd (no_slash_first y m hm is)
same_name (x ∷ n) [] a b hn hm ea (inl none) e = let bad : x ∷ (n ++ a) ≡ [] = e ∙ none in cc
same_name (x ∷ n) [] a b hn hm ea (inr some) e =
    let slash : x ∷ (n ++ a) ≡ 47 ∷ some.0 = e ∙ some.1 in
    let is : x ≡ 47 = cc in
    absurd (no_slash_first x n hn is)
same_name (x ∷ n) (y ∷ m) a b hn hm ea eb e =
    let first : x ≡ y = cc in
    let others : n ++ a ≡ m ++ b = cc in
    let rest : n ≡ m = same_name n m a b (or_parts _ _ hn).1 (or_parts _ _ hm).1 ea eb others in
    cc

-- how a path at or below a name goes on
goes_on : (path directory name : List ℕ) → IsAtOrBelow path (in_directory directory name) → (rest : List ℕ) × IsEnd rest × (path ≡ directory ++ 47 ∷ (name ++ rest))
goes_on path directory name (inl same) = ([], inl refl, same ∙ ap (λ t. directory ++ 47 ∷ t) (sym (append-nil name)))
goes_on path directory name (inr below) = (47 ∷ below.0, inr (below.0, refl), below.1 ∙ append_assoc directory (47 ∷ name) (47 ∷ below.0))

-- no path lies at two names of one directory
two_names : (path directory smaller greater : List ℕ) → HasNone 47 smaller → HasNone 47 greater → slice_cmp nat_cmp smaller greater ≡ Less
    → IsAtOrBelow path (in_directory directory smaller) → IsAtOrBelow path (in_directory directory greater) → ⊥
two_names path directory smaller greater hs hg less below_s below_g =
    let s = goes_on path directory smaller below_s in
    let g = goes_on path directory greater below_g in
    let same : 47 ∷ (smaller ++ s.0) ≡ 47 ∷ (greater ++ g.0) = same_rest directory (47 ∷ (smaller ++ s.0)) (47 ∷ (greater ++ g.0)) (sym s.2 ∙ g.2) in
    let rest : smaller ++ s.0 ≡ greater ++ g.0 = cc in
    differ_if_less smaller greater less (same_name smaller greater s.0 g.0 hs hg s.1 g.1 rest)

-- what comes before a path isn't the path and doesn't lie below it
pub before_apart : (a b : List ℕ) → ComesBefore a b → IsAtOrBelow a b → ⊥
before_apart a b (inl above) (inl same) = omega (arith, ap length above.1, ap length same, length-append a (47 ∷ above.0))
before_apart a b (inl above) (inr below) =
    omega (arith, ap length above.1, ap length below.1, length-append a (47 ∷ above.0), length-append b (47 ∷ below.0))
before_apart a b (inr beside) below =
    two_names a beside.directory beside.smaller beside.greater beside.first_name beside.second_name beside.less beside.first_below (lies_deeper a b _ below beside.second_below)

-- two names of one directory
pub siblings : (directory n m : List ℕ) → IsFileName n → IsFileName m → slice_cmp nat_cmp n m ≡ Less → IsBeside (in_directory directory n) (in_directory directory m)
siblings directory n m is_n is_m less = record {
  directory = directory;
  smaller = n;
  greater = m;
  first_name = name_has_no_slash n is_n;
  second_name = name_has_no_slash m is_m;
  less = less;
  first_below = inl refl;
  second_below = inl refl;
}
