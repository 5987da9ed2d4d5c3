-- Facts that are told for one line after the other, from the last line on.
use Rattle.std.proofs.Common.{◌≡◌, ℕ, ◌+◌, ◌-◌, ◌<◌, List, [], ◌∷◌, ◌++◌, get_or, take, reverse, length, sym, ap, ◌∙◌, append_assoc, append-nil, arith}
use Rattle.std.proofs.lemmas.List.{take_more, get_or-reverse, length-reverse}
use Rattle.std.proofs.lemmas.List.Concat.{flat_map-append}
use Rattle.std.specs.List.{flat_map}

one_more : {X Y : Type 0} (f : X → List Y) (old now new : List Y) (xs : List X) (i : ℕ) (d : X) → i < length xs → now ≡ old ++ flat_map f (take i xs) → new ≡ now ++ f (get_or xs i d) → new ≡ old ++ flat_map f (take (i + 1) xs)
one_more f old now new xs i d within before more =
    let next = ap (flat_map f) (take_more xs i d within) ∙ flat_map-append f (take i xs) (get_or xs i d ∷ []) ∙ ap (λ z. flat_map f (take i xs) ++ z) (append-nil (f (get_or xs i d))) in
    more ∙ ap (λ z. z ++ f (get_or xs i d)) before ∙ append_assoc old (flat_map f (take i xs)) (f (get_or xs i d)) ∙ ap (λ z. old ++ z) (sym next)

-- one line more, which is the next before those that were told
pub one_before : {X Y : Type 0} (f : X → List Y) (old now new : List Y) (xs : List X) (i : ℕ) (d : X) → i < length xs → now ≡ old ++ flat_map f (take i (reverse xs)) → new ≡ now ++ f (get_or xs (length xs - 1 - i) d) → new ≡ old ++ flat_map f (take (i + 1) (reverse xs))
one_before f old now new xs i d within before more =
    let long : i < length (reverse xs) = let same = length-reverse xs in omega arith in
    one_more f old now new (reverse xs) i d long before (more ∙ ap (λ x. now ++ f x) (sym (get_or-reverse xs i d within)))
