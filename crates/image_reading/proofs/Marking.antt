-- The marks of a listing, and the greatest of their moments.
use Rattle.std.proofs.Common.{arith, ◌≡◌, ◌≤◌, ◌+◌, ℕ, Bool, true, false, cond, nat_le, Option, Some, None, List, [], ◌∷◌, ◌++◌, take, append-nil, refl, sym, ap, subst, ◌∙◌}
use Rattle.std.specs.Prelude.{MatchOption}
use Rattle.std.specs.List.{cons_option}
use Rattle.dir_model.specs.declared.item.Item.{Item}
use Rattle.dir_model.proofs.Lists.{all_both, all_weaker}
use Rattle.std.proofs.lemmas.List.Elements.{filter_map-append, Contains-append_left, Contains-append_right}
use Rattle.plain_laws.proofs.Numbers.{at_most_back, not_at_most}
use Rattle.image_reading.specs.Places.{mark_name}
use Rattle.dir_rules.specs.Marks.{mark_moment}
use Rattle.dir_rules.specs.Seen.{later}
use Rattle.image_reading.specs.Marks.{imported_moment, imported_moments, IsGreatest}

-- the moment of an image's mark is the moment of a mark of its text
pub as_mark : (name : List ℕ) → mark_moment mark_name name ≡ imported_moment name
unfolding imported_moment
as_mark name = refl

-- the greatest of the moments so far, if there are any
abbrev pub IsBest : List ℕ → Option ℕ → Type 0
IsBest moments best = MatchOption best (moments ≡ []) (IsGreatest moments)

alone : (m : ℕ) → IsGreatest (m ∷ []) m
alone m = record { one = (0, omega arith, refl); most = (omega arith, tt) }

best_more : (moments : List ℕ) (best o : Option ℕ) → IsBest moments best → IsBest (moments ++ cons_option o []) (later best o)
best_more moments None None is = append-nil moments ∙ is
best_more moments None (Some m) is = subst (λ (ms : List ℕ). IsGreatest (ms ++ m ∷ []) m) (sym is) (alone m)
best_more moments (Some b) None is = subst (λ (ms : List ℕ). IsGreatest ms b) (sym (append-nil moments)) is
best_more moments (Some b) (Some m) is = by (nat_le b m) refl
  where
    by : (x : Bool) → nat_le b m ≡ x → IsBest (moments ++ m ∷ []) (cond x (Some m) (Some b))
    by true h = record { one = Contains-append_right moments (m ∷ []) m (alone m).one; most = all_both (λ n. n ≤ m) moments (m ∷ []) (all_weaker (λ n. n ≤ b) (λ n. n ≤ m) (λ n l. omega (arith, l, at_most_back b m h)) moments is.most) (omega arith, tt) }
    by false h = record { one = Contains-append_left moments (m ∷ []) b is.one; most = all_both (λ n. n ≤ b) moments (m ∷ []) is.most (not_at_most b m h, tt) }

pub best_next : (items : List Item) (i : ℕ) (item : Item) (best : Option ℕ) → take (i + 1) items ≡ take i items ++ item ∷ [] → IsBest (imported_moments (take i items)) best → IsBest (imported_moments (take (i + 1) items)) (later best (imported_moment item.name))
best_next items i item best more is =
    let moment : Item → Option ℕ = λ x. imported_moment x.name in
    let grown : imported_moments (take (i + 1) items) ≡ imported_moments (take i items) ++ cons_option (imported_moment item.name) [] = ap imported_moments more ∙ filter_map-append moment (take i items) (item ∷ []) in
    subst (λ (ms : List ℕ). IsBest ms (later best (imported_moment item.name))) (sym grown) (best_more (imported_moments (take i items)) best (imported_moment item.name) is)
