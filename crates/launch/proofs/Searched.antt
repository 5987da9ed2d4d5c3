-- A search through directories, one after the other.
use Rattle.std.proofs.Common.{arith, ◌≡◌, ℕ, zero, suc, ◌+◌, ◌<◌, Bool, true, false, Bor, Option, Some, None, List, [], ◌∷◌, map, take, length, get_or, refl, sym, ap, ◌∙◌}
use Rattle.path_map.specs.Entries.{Tree}
use Rattle.launch.specs.Programs.{is_absolute_path, is_program, word_path_in, program_in_directory, found_among}

abbrev or_else : Option (List ℕ) → Option (List ℕ) → Option (List ℕ)
or_else None later = later
or_else (Some path) later = Some path

module _ (tree : Tree) (word : List ℕ) where
  found_first : (d : List ℕ) (rest : List (List ℕ)) → found_among tree word (d ∷ rest) ≡ or_else (program_in_directory tree word d) (found_among tree word rest)
  found_first d rest = by (is_absolute_path d) (is_program tree (word_path_in word d)) refl refl
    where
      by : (a p : Bool) → is_absolute_path d ≡ a → is_program tree (word_path_in word d) ≡ p → found_among tree word (d ∷ rest) ≡ or_else (program_in_directory tree word d) (found_among tree word rest)
      by true true e f = rw (e, f) refl
      by true false e f = rw (e, f) refl
      by false p e f = rw e refl

  none_both : (a b : Option (List ℕ)) → or_else a b ≡ None → (a ≡ None) × (b ≡ None)
  none_both None b h = (refl, h)
  none_both (Some path) b h = cc

  suc_more : (i : ℕ) → suc i + 1 ≡ suc (i + 1)
  suc_more i = omega arith

  -- where nothing is found in some directories and in the next, nothing is found in all of these
  pub searched_more : (items : List (Bor (List ℕ))) (i : ℕ) (d : Bor (List ℕ)) → i < length items →
      found_among tree word (take i (map (λ p. p.now) items)) ≡ None → program_in_directory tree word (get_or items i d).now ≡ None →
      found_among tree word (take (i + 1) (map (λ p. p.now) items)) ≡ None
  searched_more [] i d inside none here = absurd (omega (arith, inside))
  searched_more (x ∷ items) zero d inside none here = found_first x.now [] ∙ ap (λ o. or_else o None) here
  searched_more (x ∷ items) (suc i) d inside none here =
      let b = none_both (program_in_directory tree word x.now) (found_among tree word (take i (map (λ p. p.now) items))) (sym (found_first x.now (take i (map (λ p. p.now) items))) ∙ none) in
      ap (λ n. found_among tree word (take n (x.now ∷ map (λ p. p.now) items))) (suc_more i)
      ∙ (found_first x.now (take (i + 1) (map (λ p. p.now) items))
      ∙ (ap (λ o. or_else o (found_among tree word (take (i + 1) (map (λ p. p.now) items)))) b.0
      ∙ searched_more items i d (omega (arith, inside)) b.1 here))

  -- and where something is found in the next, that is found
  pub searched_here : (items : List (Bor (List ℕ))) (i : ℕ) (d : Bor (List ℕ)) (path : List ℕ) → i < length items →
      found_among tree word (take i (map (λ p. p.now) items)) ≡ None → program_in_directory tree word (get_or items i d).now ≡ Some path →
      found_among tree word (map (λ p. p.now) items) ≡ Some path
  searched_here [] i d path inside none here = absurd (omega (arith, inside))
  searched_here (x ∷ items) zero d path inside none here =
      found_first x.now (map (λ p. p.now) items) ∙ ap (λ o. or_else o (found_among tree word (map (λ p. p.now) items))) here
  searched_here (x ∷ items) (suc i) d path inside none here =
      let b = none_both (program_in_directory tree word x.now) (found_among tree word (take i (map (λ p. p.now) items))) (sym (found_first x.now (take i (map (λ p. p.now) items))) ∙ none) in
      found_first x.now (map (λ p. p.now) items)
      ∙ (ap (λ o. or_else o (found_among tree word (map (λ p. p.now) items))) b.0
      ∙ searched_here items i d path (omega (arith, inside)) b.1 here)
