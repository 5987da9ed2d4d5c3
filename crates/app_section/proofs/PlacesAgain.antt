-- A place or a program word, as it is held, is read as itself.
use Rattle.std.proofs.Common.{◌≡◌, ℕ, ◌==◌, Bool, true, false, ◌||◌, ◌&&◌, not, List, [], ◌∷◌, ◌++◌, Some, None, codes, refl, sym, ◌∙◌, ap, subst, true≢false}
use Rattle.std.specs.Prelude.{if◌then◌else◌}
use Rattle.std.specs.List.{list_any, slice_split, flat_map, onto_first}
use Rattle.std.specs.Str.{bytes_eq}
use Rattle.std.proofs.lemmas.List.Folds.{list_any-append}
use Rattle.app_section.specs.Places.{is_slash, is_rooted, has_nul, has_parent, is_dropped, with_slash, or_root, joined, place_text, is_bare_word, program_text}

neither : (a b : Bool) → (a || b) ≡ false → (a ≡ false) × (b ≡ false)
neither true b h = absurd (true≢false h)
neither false b h = (refl, h)

-- the segment is free of slashes and NUL
abbrev IsClean : List ℕ → Type 0
IsClean s = (list_any is_slash s ≡ false) × (has_nul s ≡ false)

abbrev AreClean : List (List ℕ) → Type 0
AreClean [] = Unit {0}
AreClean (s ∷ ss) = IsClean s × AreClean ss

clean_first : (b : ℕ) (ss : List (List ℕ)) → is_slash b ≡ false → (b == 0) ≡ false → AreClean ss → AreClean (onto_first b ss)
clean_first b [] slash nul clean = ((rw slash refl, rw nul refl), tt)
clean_first b (s ∷ ss) slash nul clean = ((rw slash clean.0.0, rw nul clean.0.1), clean.1)

clean_next : (b : ℕ) (bs : List ℕ) (slash : Bool) → is_slash b ≡ slash → (b == 0) ≡ false → AreClean (slice_split is_slash bs)
    → AreClean (slice_split is_slash (b ∷ bs))
clean_next b bs true is nul clean = rw is ((refl, refl), clean)
clean_next b bs false is nul clean = rw is (clean_first b (slice_split is_slash bs) is nul clean)

-- the segments of a text without NUL
segments_clean : (t : List ℕ) → has_nul t ≡ false → AreClean (slice_split is_slash t)
segments_clean [] h = ((refl, refl), tt)
segments_clean (b ∷ bs) h =
    let parts = neither (b == 0) (has_nul bs) h in
    clean_next b bs (is_slash b) refl parts.0 (segments_clean bs parts.1)

split_at_slash : (s rest : List ℕ) → list_any is_slash s ≡ false
    → slice_split is_slash (s ++ 47 ∷ rest) ≡ s ∷ slice_split is_slash rest
split_at_slash [] rest h = refl
split_at_slash (b ∷ s) rest h =
    let parts = neither (is_slash b) (list_any is_slash s) h in
    let here : is_slash b ≡ false = parts.0 in
    rw here (ap (onto_first b) (split_at_slash s rest parts.1))

split_none : (s : List ℕ) → list_any is_slash s ≡ false → slice_split is_slash (s ++ []) ≡ s ∷ []
split_none [] h = refl
split_none (b ∷ s) h =
    let parts = neither (is_slash b) (list_any is_slash s) h in
    let here : is_slash b ≡ false = parts.0 in
    rw here (ap (onto_first b) (split_none s parts.1))

-- a segment unless it is dropped
abbrev unless_dropped : Bool → List ℕ → List (List ℕ) → List (List ℕ)
unless_dropped true s ss = ss
unless_dropped false s ss = s ∷ ss

abbrev kept : List (List ℕ) → List (List ℕ)
kept [] = []
kept (s ∷ ss) = unless_dropped (is_dropped s) s (kept ss)

-- the segments of the path of some segments are those that are kept
split_next : (s r : List ℕ) (ss : List (List ℕ)) (dropped : Bool) → is_dropped r ≡ dropped → list_any is_slash s ≡ false
    → (list_any is_slash s ≡ false → slice_split is_slash (s ++ flat_map with_slash ss) ≡ s ∷ kept ss)
    → slice_split is_slash (r ++ flat_map with_slash ss) ≡ r ∷ kept ss
    → slice_split is_slash (s ++ flat_map with_slash (r ∷ ss)) ≡ s ∷ kept (r ∷ ss)
split_next s r ss true is h same next = rw is (same h)
split_next s r ss false is h same next =
    rw is (split_at_slash s (r ++ flat_map with_slash ss) h ∙ ap (λ (rs : List (List ℕ)). s ∷ rs) next)

split_again : (s : List ℕ) (ss : List (List ℕ)) → list_any is_slash s ≡ false → AreClean ss
    → slice_split is_slash (s ++ flat_map with_slash ss) ≡ s ∷ kept ss
split_again s [] h clean = split_none s h
split_again s (r ∷ ss) h clean =
    split_next s r ss (is_dropped r) refl h (λ k. split_again s ss k clean.1) (split_again r ss clean.0.0 clean.1)

no_parent_next : (r : List ℕ) (ss : List (List ℕ)) (dropped : Bool) → is_dropped r ≡ dropped → bytes_eq r (codes "..") ≡ false
    → has_parent (kept ss) ≡ false → has_parent (kept (r ∷ ss)) ≡ false
no_parent_next r ss true is here later = rw is later
no_parent_next r ss false is here later = rw (is, here) later

no_parent : (ss : List (List ℕ)) → has_parent ss ≡ false → has_parent (kept ss) ≡ false
no_parent [] h = refl
no_parent (r ∷ ss) h =
    let parts = neither (bytes_eq r (codes "..")) (has_parent ss) h in
    no_parent_next r ss (is_dropped r) refl parts.0 (no_parent ss parts.1)

joined_next : (r : List ℕ) (ss : List (List ℕ)) (dropped : Bool) → is_dropped r ≡ dropped
    → flat_map with_slash (kept ss) ≡ flat_map with_slash ss
    → flat_map with_slash (kept (r ∷ ss)) ≡ flat_map with_slash (r ∷ ss)
joined_next r ss true is later = rw is later
joined_next r ss false is later = rw (is, is) (ap (λ (bs : List ℕ). 47 ∷ (r ++ bs)) later)

joined_again : (ss : List (List ℕ)) → flat_map with_slash (kept ss) ≡ flat_map with_slash ss
joined_again [] = refl
joined_again (r ∷ ss) = joined_next r ss (is_dropped r) refl (joined_again ss)

no_nul_next : (r rest : List ℕ) (dropped : Bool) → is_dropped r ≡ dropped → has_nul r ≡ false → has_nul rest ≡ false
    → has_nul (with_slash r ++ rest) ≡ false
no_nul_next r rest true is here later = rw is later
no_nul_next r rest false is here later =
    rw is (list_any-append (λ b. b == 0) r rest ∙ rw here later)

no_nul : (ss : List (List ℕ)) → AreClean ss → has_nul (flat_map with_slash ss) ≡ false
no_nul [] clean = refl
no_nul (r ∷ ss) clean = no_nul_next r (flat_map with_slash ss) (is_dropped r) refl clean.0.1 (no_nul ss clean.1)

rooted_next : (r rest : List ℕ) (dropped : Bool) → is_dropped r ≡ dropped → is_rooted (or_root rest) ≡ true
    → is_rooted (or_root (with_slash r ++ rest)) ≡ true
rooted_next r rest true is later = rw is later
rooted_next r rest false is later = rw is refl

rooted : (ss : List (List ℕ)) → is_rooted (joined ss) ≡ true
rooted [] = refl
rooted (r ∷ ss) = rooted_next r (flat_map with_slash ss) (is_dropped r) refl (rooted ss)

-- a text that is rooted, has no NUL and these segments
held_place : (t : List ℕ) (ss : List (List ℕ)) → is_rooted t ≡ true → has_nul t ≡ false → slice_split is_slash t ≡ ss
    → has_parent ss ≡ false → place_text t ≡ Some (joined ss)
unfolding place_text
held_place t ss root nul cut parent =
    let none : has_parent (slice_split is_slash t) ≡ false = ap has_parent cut ∙ parent in
    rw (root, nul, none) (ap (λ (rs : List (List ℕ)). Some (joined rs)) cut)

-- the path of clean segments is a place, and held as it is
root_held : place_text (47 ∷ []) ≡ Some (47 ∷ [])
unfolding place_text
root_held = refl

path_held : (ss : List (List ℕ)) (path : List ℕ) → flat_map with_slash ss ≡ path → AreClean ss → has_parent ss ≡ false
    → place_text (or_root path) ≡ Some (or_root path)
path_held ss [] is clean parent = root_held
path_held ss (b ∷ bs) is clean parent =
    held_place (b ∷ bs) ([] ∷ kept ss)
    (ap (λ (p : List ℕ). is_rooted (or_root p)) (sym is) ∙ rooted ss)
    (ap has_nul (sym is) ∙ no_nul ss clean)
    (ap (slice_split is_slash) (sym is) ∙ split_again [] ss refl clean)
    (no_parent ss parent)
    ∙ ap (λ (p : List ℕ). Some (or_root p)) (joined_again ss ∙ is)

-- what a text that is a place shows
record IsPlace (t held : List ℕ) : Type 0 where
  root : is_rooted t ≡ true
  nul : has_nul t ≡ false
  parent : has_parent (slice_split is_slash t) ≡ false
  is : joined (slice_split is_slash t) ≡ held

by_tests : (t held : List ℕ) (r n p : Bool) → is_rooted t ≡ r → has_nul t ≡ n → has_parent (slice_split is_slash t) ≡ p
    → (if r && not n && not p then Some (joined (slice_split is_slash t)) else None) ≡ Some held → IsPlace t held
by_tests t held false n p root nul parent h = let none : ⊥ = cc in absurd none
by_tests t held true true p root nul parent h = let none : ⊥ = cc in absurd none
by_tests t held true false true root nul parent h = let none : ⊥ = cc in absurd none
by_tests t held true false false root nul parent h =
    let same : joined (slice_split is_slash t) ≡ held = cc in
    record { root = root; nul = nul; parent = parent; is = same }

tests_of : (t held : List ℕ) → place_text t ≡ Some held → IsPlace t held
unfolding place_text
tests_of t held h = by_tests t held (is_rooted t) (has_nul t) (has_parent (slice_split is_slash t)) refl refl refl h

-- a place as it is held is a place, and held so
pub place_again : (t held : List ℕ) → place_text t ≡ Some held → place_text held ≡ Some held
place_again t held h =
    let place = tests_of t held h in
    let ss = slice_split is_slash t in
    let P : List ℕ → Type 0 = λ p. place_text p ≡ Some p in
    subst P place.is (path_held ss (flat_map with_slash ss) refl (segments_clean t place.nul) place.parent)

pub rooted_place : (t held : List ℕ) → place_text t ≡ Some held → is_rooted held ≡ true
rooted_place t held h = (tests_of held held (place_again t held h)).root

program_by : (t held : List ℕ) (r : Bool) → is_rooted t ≡ r
    → (if r then place_text t else (if is_bare_word t then Some t else None)) ≡ Some held
    → program_text held ≡ Some held
unfolding program_text
program_by t held true root h =
    let again : is_rooted held ≡ true = rooted_place t held h in
    rw again (place_again t held h)
program_by t held false root h = bare (is_bare_word t) refl h
  where
    bare : (b : Bool) → is_bare_word t ≡ b → (if b then Some t else None) ≡ Some held → program_text held ≡ Some held
    bare true is k =
        let same : t ≡ held = cc in
        let P : List ℕ → Type 0 = λ w. program_text w ≡ Some w in
        subst P same (rw (root, is) refl)
    bare false is k = let none : ⊥ = cc in absurd none

-- a program word as it is held is a program word, and held so
pub program_again : (t held : List ℕ) → program_text t ≡ Some held → program_text held ≡ Some held
unfolding program_text
program_again t held h = program_by t held (is_rooted t) refl h
