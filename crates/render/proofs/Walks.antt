-- Going from file to file meets the files of a rendering, in the order of its map.
use Rattle.std.proofs.Common.{◌≡◌, ◌≢◌, ◌<◌, ◌≤◌, ◌+◌, ℕ, suc, Bool, true, false, cond, List, [], ◌∷◌, length, filter, Option, Some, None, option_map, IsSome, Ordering, Less, Equal, Greater, refl, sym, ap, subst, ◌∙◌, ⊎_elim, arith}
use Rattle.std.specs.List.{cons_option}
use Rattle.std.specs.Map.{keys_of}
use Rattle.std.specs.Ordering.{nat_cmp, is_lt, ordering_reverse}
use Rattle.std.specs.Cmp.Lexicographic.{slice_cmp}
use Rattle.std.proofs.lemmas.Map.Keys.{sorted_head, sorted_tail}
use Rattle.std.proofs.lemmas.Cmp.{nat_list_cmp_total}
use Rattle.path_map.specs.declared.entry.Entry.{Entry}
use Rattle.path_map.specs.After.{is_after, entries_after}
use Rattle.path_map.specs.Entries.{Entries, entry_at, IsPathMap}
use Rattle.render.specs.declared.rendering.Rendering.{Rendering}
use Rattle.render.specs.Layers.{source_at}
use Rattle.render.specs.Copies.{IsNextFile, HasNoFileAfter, IsWalk, files_among, files_of}
use Rattle.render.proofs.PathOrder.{after_not_before, one_or_two, at_head, off_head}
use Rattle.render.proofs.NextFiles.{AreLeft, all_left, one_passed, next_file, none_left, one_next, less_at, not_both, none_of, source_some}

is_less : (o : Ordering) → is_lt o ≡ true → o ≡ Less
is_less Less h = refl
is_less Equal h = cc
is_less Greater h = cc

-- what comes after a later path comes after an earlier one
pub after_on : (after : Option (List ℕ)) (p q : List ℕ) → is_after after p ≡ true → is_after (Some p) q ≡ true → is_after after q ≡ true
after_on None p q first then = refl
after_on (Some a) p q first then = ap is_lt (nat_list_cmp_total.trans a p q (is_less (slice_cmp nat_cmp a p) first) (is_less (slice_cmp nat_cmp p q) then))

pub not_after_itself : (p : List ℕ) → is_after (Some p) p ≡ true → ⊥
not_after_itself p h = let less = is_less (slice_cmp nat_cmp p p) h in after_not_before p p less less

-- behind the first of the entries that are left the others are
pub one_copied : (r : Rendering) (after : Option (List ℕ)) (e : List ℕ × Entry) (rest : Entries) → AreLeft r after (e ∷ rest) → AreLeft r (Some e.0) rest
one_copied r after e rest left = record {
  rising = sorted_tail (slice_cmp nat_cmp) e.0 (keys_of rest) left.rising;
  later = λ q some. ap is_lt (less_at e.0 rest q (sorted_head (slice_cmp nat_cmp) e.0 (keys_of rest) left.rising) some);
  have = λ q later some.
      subst IsSome (off_head e rest q (λ same. not_after_itself e.0 (subst (λ (p : List ℕ). is_after (Some e.0) p ≡ true) (sym same) later)))
      (left.have q (after_on after e.0 q (left.later e.0 (subst IsSome (sym (at_head e rest)) refl)) later) some);
}

none_there : (q : List ℕ) → IsSome (entry_at [] q) → ⊥
none_there q some = cc

-- behind a file that comes after a path fewer entries come than behind that path
fewer : (after : Option (List ℕ)) (p : List ℕ) → is_after after p ≡ true → (es : Entries) → IsSome (entry_at es p) → length (entries_after (Some p) es) < length (entries_after after es)
fewer after p first [] some = absurd (none_there p some)
fewer after p first (e ∷ es) some = by (is_after (Some p) e.0) refl (is_after after e.0) refl (λ other. fewer after p first es (subst IsSome (off_head e es p other) some)) (most after p first es)
  where
    most : (after : Option (List ℕ)) (p : List ℕ) → is_after after p ≡ true → (es : Entries) → length (entries_after (Some p) es) ≤ length (entries_after after es)
    most after p first [] = omega arith
    most after p first (e ∷ es) = at (is_after (Some p) e.0) (is_after after e.0) (after_on after p e.0 first) (most after p first es)
      where
        at : (b c : Bool) → (b ≡ true → c ≡ true) → length (entries_after (Some p) es) ≤ length (entries_after after es) → length (cond b (e ∷ entries_after (Some p) es) (entries_after (Some p) es)) ≤ length (cond c (e ∷ entries_after after es) (entries_after after es))
        at true true f h = omega (arith, h)
        at true false f h = let no : false ≡ true = f refl in absurd cc
        at false true f h = omega (arith, h)
        at false false f h = h

    by : (b : Bool) → is_after (Some p) e.0 ≡ b → (c : Bool) → is_after after e.0 ≡ c → ((e.0 ≢ p) → length (entries_after (Some p) es) < length (entries_after after es)) → length (entries_after (Some p) es) ≤ length (entries_after after es)
        → length (cond b (e ∷ entries_after (Some p) es) (entries_after (Some p) es)) < length (cond c (e ∷ entries_after after es) (entries_after after es))
    by true k true m strict weak = let h = strict (λ same. not_after_itself p (subst (λ (q : List ℕ). is_after (Some p) q ≡ true) same k)) in omega (arith, h)
    by true k false m strict weak = let no : false ≡ true = sym m ∙ after_on after p e.0 first k in absurd cc
    by false k true m strict weak = omega (arith, weak)
    by false k false m strict weak = strict (λ same. let no : false ≡ true = sym m ∙ subst (λ (q : List ℕ). is_after after q ≡ true) (sym same) first in absurd cc)

pub fewer_after : (r : Rendering) (after : Option (List ℕ)) (p : List ℕ) (image : ℕ) → IsNextFile r after p image → length (entries_after (Some p) r.map) < length (entries_after after r.map)
fewer_after r after p image next = fewer after p next.later r.map (source_some r p (subst IsSome (sym next.source) refl))

-- where the next file comes behind a path, none stands at that path
pub passed_over : (r : Rendering) (after : Option (List ℕ)) (p q : List ℕ) (image : ℕ) → IsNextFile r after p image → is_after after q ≡ true → slice_cmp nat_cmp p q ≡ Greater → source_at r q ≡ None
passed_over r after p q image next later greater =
    none_of (source_at r q)
    (λ some. ⊎_elim (λ same. not_greater p (subst (λ (x : List ℕ). slice_cmp nat_cmp p x ≡ Greater) (sym same) greater)) (λ less. let no : Less ≡ Greater = sym less ∙ greater in cc) (next.first q later some))
  where
    not_greater : (x : List ℕ) → slice_cmp nat_cmp x x ≡ Greater → ⊥
    not_greater x h = let back : slice_cmp nat_cmp x x ≡ Less = nat_list_cmp_total.antisymm x x ∙ ap ordering_reverse h in let no : Less ≡ Greater = sym back ∙ h in cc

module _ (r : Rendering) where
  walked : (rest : Entries) (after : Option (List ℕ)) (fs : List (List ℕ × ℕ)) → AreLeft r after rest → IsWalk r after fs → fs ≡ files_among r rest
  walked [] after [] left walk = refl
  walked [] after (f ∷ fs) left walk = absurd (none_there f.0 (left.have f.0 walk.0.later (subst IsSome (sym walk.0.source) refl)))
  walked (e ∷ rest) after fs left walk = by fs walk (λ a gs l w. walked rest a gs l w) (source_at r e.0) refl
    where
      met : (fs : List (List ℕ × ℕ)) → IsWalk r after fs → ((a : Option (List ℕ)) (gs : List (List ℕ × ℕ)) → AreLeft r a rest → IsWalk r a gs → gs ≡ files_among r rest) → (i : ℕ) → source_at r e.0 ≡ Some i → IsNextFile r after e.0 i → fs ≡ (e.0, i) ∷ files_among r rest
      met [] walk more i is here = absurd (not_both (source_at r e.0) (walk e.0 here.later) (subst IsSome (sym is) refl))
      met (f ∷ fs) walk more i is here =
          let same : f.0 ≡ e.0 = one_next r after f.0 e.0 f.1 i walk.0 here in
          let one : Some f.1 ≡ Some i = sym walk.0.source ∙ (ap (source_at r) same ∙ is) in
          let image : f.1 ≡ i = cc in
          let others : fs ≡ files_among r rest = more (Some e.0) fs (one_copied r after e rest left) (subst (λ (p : List ℕ). IsWalk r (Some p) fs) same walk.1) in
          let first : f ≡ (e.0, i) = ap (λ (p : List ℕ). (p, f.1)) same ∙ ap (λ (n : ℕ). (e.0, n)) image in
          ap (λ x. x ∷ fs) first ∙ ap (λ xs. (e.0, i) ∷ xs) others

      by : (fs : List (List ℕ × ℕ)) → IsWalk r after fs → ((a : Option (List ℕ)) (gs : List (List ℕ × ℕ)) → AreLeft r a rest → IsWalk r a gs → gs ≡ files_among r rest) → (o : Option ℕ) → source_at r e.0 ≡ o → fs ≡ cons_option (option_map (λ image. (e.0, image)) o) (files_among r rest)
      by fs walk more None none = more after fs (one_passed r after e rest none left) walk
      by fs walk more (Some i) is = met fs walk more i is (next_file r after e rest i is left)

  walks : (rest : Entries) (after : Option (List ℕ)) → AreLeft r after rest → IsWalk r after (files_among r rest)
  walks [] after left = none_left r after [] refl left
  walks (e ∷ rest) after left = by (λ a l. walks rest a l) (source_at r e.0) refl
    where
      by : ((a : Option (List ℕ)) → AreLeft r a rest → IsWalk r a (files_among r rest)) → (o : Option ℕ) → source_at r e.0 ≡ o → IsWalk r after (cons_option (option_map (λ image. (e.0, image)) o) (files_among r rest))
      by more None none = more after (one_passed r after e rest none left)
      by more (Some i) is = (next_file r after e rest i is left, more (Some e.0) (one_copied r after e rest left))

  all_after : (es : Entries) → es ≡ entries_after None es
  all_after [] = refl
  all_after (e ∷ es) = ap (λ xs. e ∷ xs) (all_after es)

  module _ (kind : IsPathMap r.map) where
    -- whoever begins before the first path and goes on from file to file meets exactly the files, in the order of their paths
    pub walk_meets_files : (fs : List (List ℕ × ℕ)) → IsWalk r None fs → fs ≡ files_of r
    walk_meets_files fs walk = walked r.map None fs (all_left r None r.map kind (all_after r.map)) walk

    pub files_are_met : IsWalk r None (files_of r)
    files_are_met = walks r.map None (all_left r None r.map kind (all_after r.map))
