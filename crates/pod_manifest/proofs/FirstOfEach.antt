-- The first elements of each key of a list that grows at its end.
use Rattle.std.proofs.Common.{◌≡◌, ℕ, Bool, true, false, not, ◌||◌, cond, List, [], ◌∷◌, ◌++◌, map, refl, sym, ◌∙◌, ap, append_assoc}
use Rattle.std.specs.List.{filter}
use Rattle.std.specs.Str.{bytes_eq}
use Rattle.std.proofs.lemmas.List.{map-append, append-nil}
use Rattle.std.proofs.lemmas.List.Elements.{filter-append}
use Rattle.std.proofs.lemmas.List.Folds.{list_any-append}
use Rattle.ac_types.specs.SeenTexts.{is_among}
use Rattle.pod_manifest.specs.FirstOfEach.{first_of_each, new_of_each}

-- a filter of an element that is left out where a test says so
filtered : {A : Type 0} (test : A → Bool) (x : A) (one other : Bool) → test x ≡ not one
    → filter test (cond other [] (x ∷ [])) ≡ cond (one || other) [] (x ∷ [])
filtered test x true true e = refl
filtered test x false true e = refl
filtered test x true false e = rw e refl
filtered test x false false e = rw e refl

-- one element more at the end
first_push : {A : Type 0} (key : A → List ℕ) (xs : List A) (x : A)
    → first_of_each key (xs ++ x ∷ []) ≡ first_of_each key xs ++ cond (is_among (key x) (map key xs)) [] (x ∷ [])
first_push key [] x = refl
first_push {A} key (y ∷ ys) x =
    let test : A → Bool = λ z. not (bytes_eq (key y) (key z)) in
    ap (λ (zs : List A). y ∷ filter test zs) (first_push key ys x)
    ∙ ap (λ (zs : List A). y ∷ zs) (filter-append test (first_of_each key ys) (cond (is_among (key x) (map key ys)) [] (x ∷ [])))
    ∙ ap (λ (zs : List A). y ∷ (filter test (first_of_each key ys) ++ zs))
    (filtered test x (bytes_eq (key y) (key x)) (is_among (key x) (map key ys)) refl)

-- the element alone, behind keys of two lists
alone : {A : Type 0} (key : A → List ℕ) (known more : List (List ℕ)) (x : A)
    → filter (λ y. not (is_among (key y) known)) (cond (is_among (key x) more) [] (x ∷ [])) ≡ new_of_each key (known ++ more) (x ∷ [])
alone {A} key known more x =
    filtered (λ (y : A). not (is_among (key y) known)) x (is_among (key x) known) (is_among (key x) more) refl
    ∙ turned (is_among (key x) known || is_among (key x) more)
    ∙ ap (λ (b : Bool). cond (not b) (x ∷ []) []) (sym (list_any-append (λ (t : List ℕ). bytes_eq t (key x)) known more))
  where
    turned : (b : Bool) → cond b [] (x ∷ []) ≡ cond (not b) (x ∷ []) []
    turned true = refl
    turned false = refl

pub new_push : {A : Type 0} (key : A → List ℕ) (known : List (List ℕ)) (xs : List A) (x : A)
    → new_of_each key known (xs ++ x ∷ []) ≡ new_of_each key known xs ++ new_of_each key (known ++ map key xs) (x ∷ [])
new_push {A} key known xs x =
    let test : A → Bool = λ y. not (is_among (key y) known) in
    ap (filter test) (first_push key xs x)
    ∙ filter-append test (first_of_each key xs) (cond (is_among (key x) (map key xs)) [] (x ∷ []))
    ∙ ap (λ (zs : List A). new_of_each key known xs ++ zs) (alone key known (map key xs) x)

-- some elements more
pub new_append : {A : Type 0} (key : A → List ℕ) (known : List (List ℕ)) (xs ys : List A)
    → new_of_each key known (xs ++ ys) ≡ new_of_each key known xs ++ new_of_each key (known ++ map key xs) ys
new_append {A} key known xs [] =
    ap (new_of_each key known) (append-nil xs) ∙ sym (append-nil (new_of_each key known xs))
new_append {A} key known xs (y ∷ ys) =
    let keys = known ++ map key xs in
    let next : known ++ map key (xs ++ y ∷ []) ≡ keys ++ key y ∷ [] =
    ap (λ (ks : List (List ℕ)). known ++ ks) (map-append key xs (y ∷ [])) ∙ sym (append_assoc known (map key xs) (key y ∷ [])) in
    ap (new_of_each key known) (sym (append_assoc xs (y ∷ []) ys))
    ∙ new_append key known (xs ++ y ∷ []) ys
    ∙ ap (λ (zs : List A). zs ++ new_of_each key (known ++ map key (xs ++ y ∷ [])) ys) (new_push key known xs y)
    ∙ append_assoc (new_of_each key known xs) (new_of_each key keys (y ∷ [])) (new_of_each key (known ++ map key (xs ++ y ∷ [])) ys)
    ∙ ap (λ (ks : List (List ℕ)). new_of_each key known xs ++ (new_of_each key keys (y ∷ []) ++ new_of_each key ks ys)) next
    ∙ ap (λ (zs : List A). new_of_each key known xs ++ zs) (sym (new_append key keys (y ∷ []) ys))
