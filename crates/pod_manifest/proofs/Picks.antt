-- The elements at some places of a list, one place after the other.
use Rattle.std.proofs.Common.{◌≡◌, ℕ, ◌+◌, ◌<◌, ◌≤◌, List, [], ◌∷◌, ◌++◌, Option, Some, None, length, take, drop, get_or, sym, ◌∙◌, ap, subst, ◌⊎◌, inl, inr}
use Rattle.std.specs.List.{All, filter_map, slice_get, cons_option}
use Rattle.std.proofs.lemmas.List.{take_more, drop_more}
use Rattle.std.proofs.lemmas.List.Elements.{All-cons, All-get_or, All-nil, filter_map-append}
use Rattle.std.proofs.lemmas.Option.{slice_get-get_or, slice_get_cases}

found : {X : Type 0} (xs : List X) (p : ℕ) (x : X) → p < length xs → x ≡ get_or xs p x → slice_get xs p ≡ Some x
found xs p x within is = slice_get-get_or xs p x within ∙ ap Some (sym is)

pub picked_more : {X : Type 0} (xs : List X) (ps : List ℕ) (i : ℕ) (x : X) → i < length ps → get_or ps i 0 < length xs
    → x ≡ get_or xs (get_or ps i 0) x → filter_map (slice_get xs) (take (i + 1) ps) ≡ filter_map (slice_get xs) (take i ps) ++ x ∷ []
picked_more {X} xs ps i x more within is =
    ap (filter_map (slice_get xs)) (take_more ps i 0 more)
    ∙ filter_map-append (slice_get xs) (take i ps) (get_or ps i 0 ∷ [])
    ∙ ap (λ (o : Option X). filter_map (slice_get xs) (take i ps) ++ cons_option o []) (found xs (get_or ps i 0) x within is)

pub picked_next : {X : Type 0} (xs : List X) (ps : List ℕ) (i : ℕ) (x : X) → i < length ps → get_or ps i 0 < length xs
    → x ≡ get_or xs (get_or ps i 0) x → filter_map (slice_get xs) (drop i ps) ≡ x ∷ filter_map (slice_get xs) (drop (i + 1) ps)
picked_next {X} xs ps i x more within is =
    ap (filter_map (slice_get xs)) (drop_more ps i 0 more)
    ∙ ap (λ (o : Option X). cons_option o (filter_map (slice_get xs) (drop (i + 1) ps))) (found xs (get_or ps i 0) x within is)

-- what holds of each element of the list holds of those at the places
pub all_picked : {X : Type 0} (P : X → Type 0) (xs : List X) (ps : List ℕ) → All P xs → All P (filter_map (slice_get xs) ps)
all_picked P xs [] all = All-nil P
all_picked {X} P xs (p ∷ ps) all = by (slice_get xs p) (slice_get_cases xs p).1 (all_picked P xs ps all)
  where
    by : (o : Option X) → ((x : X) × (p < length xs) × (slice_get xs p ≡ Some x) × (get_or xs p x ≡ x)) ⊎ ((length xs ≤ p) × (slice_get xs p ≡ None))
        → All P (filter_map (slice_get xs) ps) → All P (cons_option (slice_get xs p) (filter_map (slice_get xs) ps))
    by o (inl (x, within, found, is)) rest =
        let here : P x = subst P is (All-get_or P xs p x within all) in
        let Q : Option X → Type 0 = λ r. All P (cons_option r (filter_map (slice_get xs) ps)) in
        subst Q (sym found) (All-cons P x (filter_map (slice_get xs) ps) here rest)
    by o (inr (past, none)) rest =
        let Q : Option X → Type 0 = λ r. All P (cons_option r (filter_map (slice_get xs) ps)) in
        subst Q (sym none) rest
