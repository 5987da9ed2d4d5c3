-- Loops that put in what each new element gives.
use Rattle.std.proofs.Common.{◌≡◌, ℕ, ◌+◌, ◌<◌, List, [], ◌∷◌, ◌++◌, length, map, take, get_or, sym, ◌∙◌, ap, subst, append_assoc}
use Rattle.std.specs.List.{flat_map}
use Rattle.std.proofs.lemmas.List.{take_more, map-append, map-id, append-nil}
use Rattle.std.proofs.lemmas.Grind.{flat_map-append}
use Rattle.ac_types.specs.SeenTexts.{HasSeen}
use Rattle.ac_types.specs.declared.seen_texts.SeenTexts.{SeenTexts}
use Rattle.pod_manifest.specs.FirstOfEach.{new_of_each}
use Rattle.pod_manifest.proofs.FirstOfEach.{new_append}

-- the elements up to a place, with the one there
pub front_more : {A : Type 0} (xs : List A) (i : ℕ) (x : A) → i < length xs → x ≡ get_or xs i x → take (i + 1) xs ≡ take i xs ++ x ∷ []
front_more {A} xs i x within is = take_more xs i x within ∙ ap (λ (y : A). take i xs ++ y ∷ []) (sym is)

-- the keys of what was seen
pub keys_more : {A : Type 0} (key : A → List ℕ) (seen : SeenTexts) (known : List (List ℕ)) (xs : List A) (i : ℕ) (x : A) (text : List ℕ)
    → i < length xs → x ≡ get_or xs i x → text ≡ key x → HasSeen seen ((known ++ map key (take i xs)) ++ text ∷ [])
    → HasSeen seen (known ++ map key (take (i + 1) xs))
keys_more {A} key seen known xs i x text within is text_is has =
    let P : List (List ℕ) → Type 0 = λ ks. HasSeen seen ks in
    subst P
    (ap (λ (t : List ℕ). (known ++ map key (take i xs)) ++ t ∷ []) text_is
    ∙ append_assoc known (map key (take i xs)) (key x ∷ [])
    ∙ ap (λ (ks : List (List ℕ)). known ++ ks) (sym (map-append key (take i xs) (x ∷ [])))
    ∙ ap (λ (ys : List A). known ++ map key ys) (sym (front_more xs i x within is))) has

-- what some elements more give
pub given_more : {A B : Type 0} (key : A → List ℕ) (made : A → B) (known : List (List ℕ)) (first : List B) (xs ys : List A) (before now : List B)
    → before ≡ first ++ map made (new_of_each key known xs) → now ≡ before ++ map made (new_of_each key (known ++ map key xs) ys)
    → now ≡ first ++ map made (new_of_each key known (xs ++ ys))
given_more {A} {B} key made known first xs ys before now was is =
    let old = map made (new_of_each key known xs) in
    let new = map made (new_of_each key (known ++ map key xs) ys) in
    is ∙ ap (λ (bs : List B). bs ++ new) was ∙ append_assoc first old new
    ∙ ap (λ (bs : List B). first ++ bs) (sym (map-append made (new_of_each key known xs) (new_of_each key (known ++ map key xs) ys)))
    ∙ ap (λ (zs : List A). first ++ map made zs) (sym (new_append key known xs ys))

-- what one element more gives
pub built_more : {A B : Type 0} (key : A → List ℕ) (made : A → B) (known : List (List ℕ)) (first : List B) (xs : List A) (i : ℕ) (x : A)
    (before now : List B) → i < length xs → x ≡ get_or xs i x → before ≡ first ++ map made (new_of_each key known (take i xs))
    → now ≡ before ++ map made (new_of_each key (known ++ map key (take i xs)) (x ∷ []))
    → now ≡ first ++ map made (new_of_each key known (take (i + 1) xs))
built_more {A} {B} key made known first xs i x before now within x_is was is =
    given_more key made known first (take i xs) (x ∷ []) before now was is
    ∙ ap (λ (ys : List A). first ++ map made (new_of_each key known ys)) (sym (front_more xs i x within x_is))

-- the same of texts, which are their own keys
pub texts_built : {B : Type 0} (made : List ℕ → B) (known : List (List ℕ)) (first : List B) (xs ys : List (List ℕ)) (before now : List B)
    → before ≡ first ++ map made (new_of_each (λ (n : List ℕ). n) known xs)
    → now ≡ before ++ map made (new_of_each (λ (n : List ℕ). n) (known ++ xs) ys)
    → now ≡ first ++ map made (new_of_each (λ (n : List ℕ). n) known (xs ++ ys))
texts_built {B} made known first xs ys before now was is =
    given_more (λ (n : List ℕ). n) made known first xs ys before now was
    (is ∙ ap (λ (ks : List (List ℕ)). before ++ map made (new_of_each (λ (n : List ℕ). n) (known ++ ks) ys)) (sym (map-id xs)))

-- the texts that were seen, with some more
pub texts_seen : (seen : SeenTexts) (known xs ys all : List (List ℕ)) → all ≡ xs ++ ys → HasSeen seen ((known ++ xs) ++ ys) → HasSeen seen (known ++ all)
texts_seen seen known xs ys all is has =
    let P : List (List ℕ) → Type 0 = λ ks. HasSeen seen ks in
    subst P (append_assoc known xs ys ∙ ap (λ (ks : List (List ℕ)). known ++ ks) (sym is)) has

-- what lists up to a place give together
pub joined_more : {A B C : Type 0} (shown : A → B) (f : B → List C) (xs : List A) (i : ℕ) (x : A) → i < length xs → x ≡ get_or xs i x
    → flat_map f (map shown (take (i + 1) xs)) ≡ flat_map f (map shown (take i xs)) ++ f (shown x)
joined_more {A} {B} {C} shown f xs i x within is =
    ap (λ (ys : List A). flat_map f (map shown ys)) (front_more xs i x within is)
    ∙ ap (flat_map f) (map-append shown (take i xs) (x ∷ []))
    ∙ flat_map-append f (map shown (take i xs)) (shown x ∷ [])
    ∙ ap (λ (cs : List C). flat_map f (map shown (take i xs)) ++ cs) (append-nil (f (shown x)))
