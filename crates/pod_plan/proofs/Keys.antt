-- No two images of the store have one ID.
use Rattle.std.proofs.Common.{◌≡◌, ◌<◌, ℕ, zero, suc, List, [], ◌∷◌, Option, Some, None, length, get_or, arith, take, refl, sym, ap, subst, ◌∙◌}
use Rattle.std.specs.Ordering.{nat_cmp, ordering_reverse}
use Rattle.std.specs.declared.cmp.Ordering.TheVariants.{Less}
use Rattle.std.specs.Cmp.Lexicographic.{slice_cmp}
use Rattle.std.specs.List.{AllByRecursion, cons_option, slice_get}
use Rattle.std.specs.List.Sorted.{IsStrictlySortedBy}
use Rattle.std.proofs.lemmas.Cmp.{nat_list_cmp_total}
use Rattle.ac_types.specs.declared.store_key.StoreKey.{StoreKey}
use Rattle.ac_types.specs.Ids.{id_text, id_read}
use Rattle.ac_types.proofs.IdTexts.{read_text}
use Rattle.dep_match.specs.declared.stored.Stored.{Stored}
use Rattle.dep_match.specs.Dependencies.{key_at}
use Rattle.dir_trait.specs.DirCalls.{DirAt}
use Rattle.image_reading.specs.Places.{some_key, key_of_name, keys_among}
use Rattle.image_reading.specs.Images.{ReadsImage}
use Rattle.image_reading.specs.Store.{keys, ReadsStore}
use Rattle.pod_plan.proofs.Zips.{each_at}

-- each key is another than those after it
abbrev AreApart : List StoreKey → Type 0
AreApart [] = Unit {0}
AreApart (k ∷ ks) = AllByRecursion (λ other. other ≡ k → ⊥) ks × AreApart ks

not_below_itself : (n m : List ℕ) → slice_cmp nat_cmp n m ≡ Less → n ≡ m → ⊥
not_below_itself n m less same =
    let here : slice_cmp nat_cmp n n ≡ Less = subst (λ (x : List ℕ). slice_cmp nat_cmp n x ≡ Less) (sym same) less in
    let back : Less ≡ ordering_reverse Less = sym here ∙ (nat_list_cmp_total.antisymm n n ∙ ap ordering_reverse here) in
    cc

-- a key's name is its text
name_is : (n : List ℕ) (k : StoreKey) → key_of_name n ≡ Some k → n ≡ id_text k.bytes
name_is n k is = by (id_read 32 n) refl is
  where
    by : (o : Option (List ℕ)) → id_read 32 n ≡ o → some_key o ≡ Some k → n ≡ id_text k.bytes
    by None e h = let no : ⊥ = cc in absurd no
    by (Some bytes) e h =
        let same : (record { bytes = bytes }) ≡ k = cc in
        read_text 32 n bytes e ∙ ap (λ (q : StoreKey). id_text q.bytes) same

module _ (n : List ℕ) (k : StoreKey) (is : key_of_name n ≡ Some k) where
  others : (ns : List (List ℕ)) → AllByRecursion (λ m. slice_cmp nat_cmp n m ≡ Less) ns → AllByRecursion (λ other. other ≡ k → ⊥) (keys_among ns)
  others [] below = tt
  others (m ∷ ns) below = by (key_of_name m) refl (others ns below.1)
    where
      by : (o : Option StoreKey) → key_of_name m ≡ o → AllByRecursion (λ other. other ≡ k → ⊥) (keys_among ns) → AllByRecursion (λ other. other ≡ k → ⊥) (cons_option o (keys_among ns))
      by None e rest = rest
      by (Some j) e rest = (λ same. not_below_itself n m below.0 (name_is n k is ∙ (ap (λ (q : StoreKey). id_text q.bytes) (sym same) ∙ sym (name_is m j e))), rest)

apart_among : (names : List (List ℕ)) → IsStrictlySortedBy (slice_cmp nat_cmp) names → AreApart (keys_among names)
unfolding IsStrictlySortedBy
apart_among [] sorted = tt
apart_among (n ∷ ns) sorted = by (key_of_name n) refl sorted.0 (apart_among ns sorted.1)
  where
    by : (o : Option StoreKey) → key_of_name n ≡ o → AllByRecursion (λ m. slice_cmp nat_cmp n m ≡ Less) ns → AreApart (keys_among ns) → AreApart (cons_option o (keys_among ns))
    by None e above rest = rest
    by (Some k) e above rest = (others n k e ns above, rest)

one_place : (ks : List StoreKey) → AreApart ks → (i j : ℕ) (k : StoreKey) → slice_get ks i ≡ Some k → slice_get ks j ≡ Some k → i ≡ j
one_place [] apart i j k at there = let no : ⊥ = cc in absurd no
one_place (x ∷ ks) apart zero zero k at there = refl
one_place (x ∷ ks) apart zero (suc j) k at there =
    let same : x ≡ k = cc in
    absurd (each_at (λ other. other ≡ x → ⊥) ks j k apart.0 there (sym same))
one_place (x ∷ ks) apart (suc i) zero k at there =
    let same : x ≡ k = cc in
    absurd (each_at (λ other. other ≡ x → ⊥) ks i k apart.0 at (sym same))
one_place (x ∷ ks) apart (suc i) (suc j) k at there = ap suc (one_place ks apart.1 i j k at there)

pub key_there : (images : List Stored) (i : ℕ) (image : Stored) → slice_get images i ≡ Some image → key_at images i ≡ image.key
key_there [] i image is = let no : ⊥ = cc in absurd no
key_there (x ∷ images) zero image is = let same : x ≡ image = cc in ap (λ (s : Stored). s.key) same
key_there (x ∷ images) (suc i) image is = key_there images i image is

pub key_read : (images : List Stored) (i : ℕ) (d : Stored) → i < length images → key_at images i ≡ (get_or images i d).key
key_read [] i d within = absurd (omega arith)
key_read (x ∷ images) zero d within = refl
key_read (x ∷ images) (suc i) d within = key_read images i d (omega (arith, within))

key_found : (images : List Stored) (i : ℕ) (image : Stored) → slice_get images i ≡ Some image → slice_get (keys images) i ≡ Some image.key
key_found [] i image is = let no : ⊥ = cc in absurd no
key_found (x ∷ images) zero image is = let same : x ≡ image = cc in ap (λ (s : Stored). Some s.key) same
key_found (x ∷ images) (suc i) image is = key_found images i image is

same_key : (a b : StoreKey) → a.bytes ≡ b.bytes → a ≡ b
same_key a b same = ap (λ (bytes : List ℕ). let k : StoreKey = record { bytes = bytes } in k) same

module _ {old new : DirAt} (images : List Stored) (listed : ReadsStore images old new) where
  -- an image's key is the first half of its ID
  front_is : (i : ℕ) (image : Stored) → slice_get images i ≡ Some image → take 32 image.id.bytes ≡ image.key.bytes
  front_is i image at = (each_at (λ x. ReadsImage x old new) images i image listed.read.each at).id.holds.front

  pub one_with_id : (place : ℕ) (image : Stored) → slice_get images place ≡ Some image → (other : ℕ) (another : Stored) → slice_get images other ≡ Some another → another.id ≡ image.id → other ≡ place
  one_with_id place image at other another there same =
      let bytes : another.key.bytes ≡ image.key.bytes = sym (front_is other another there) ∙ (ap (λ id. take 32 id.bytes) same ∙ front_is place image at) in
      let key : another.key ≡ image.key = same_key another.key image.key bytes in
      let apart : AreApart (keys images) = subst AreApart (sym listed.read.of_names) (apart_among listed.names listed.ordered) in
      one_place (keys images) apart other place image.key (key_found images other another there ∙ ap Some key) (key_found images place image at)
