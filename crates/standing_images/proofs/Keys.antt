-- The keys among names.
use Rattle.std.proofs.Common.{◌≡◌, ℕ, Bool, true, false, ◌||◌, bytes_eq, Less, Option, Some, None, List, [], ◌∷◌, map, refl, sym, ap, subst, ◌∙◌}
use Rattle.std.specs.Prelude.{Contains}
use Rattle.std.specs.List.{AllByRecursion, cons_option}
use Rattle.std.specs.List.Sorted.{IsStrictlySortedBy}
use Rattle.std.specs.Ordering.{nat_cmp}
use Rattle.std.specs.Cmp.Lexicographic.{slice_cmp}
use Rattle.plain_laws.proofs.Texts.{same_text}
use Rattle.ac_types.specs.declared.store_key.StoreKey.{StoreKey}
use Rattle.ac_types.specs.Ids.{AreBytes, id_text, id_read}
use Rattle.ac_types.proofs.IdTexts.{read_text, text_read}
use Rattle.dir_model.specs.Listings.{has_name}
use Rattle.image_reading.specs.Places.{some_key, key_of_name, keys_among}
use Rattle.standing_images.specs.Images.{KeysRise}
use Rattle.standing_images.proofs.Members.{contains_first, contains_more}

-- the text of a key is read back
key_back : (key : StoreKey) → AreBytes 32 key.bytes → key_of_name (id_text key.bytes) ≡ Some key
key_back key are = ap some_key (text_read 32 key.bytes are)

pub text_back : (name : List ℕ) (key : StoreKey) → key_of_name name ≡ Some key → id_text key.bytes ≡ name
text_back name key named = by (id_read 32 name) refl named
  where
    by : (o : Option (List ℕ)) → id_read 32 name ≡ o → some_key o ≡ Some key → id_text key.bytes ≡ name
    by None read is = cc
    by (Some bytes) read is =
        let key_is : record { bytes = bytes } ≡ key = cc in
        sym (read_text 32 name bytes read ∙ ap (λ (k : StoreKey). id_text k.bytes) key_is)

-- a name that is there has its key among them
named_key : (names : List (List ℕ)) (name : List ℕ) (key : StoreKey) → key_of_name name ≡ Some key → has_name names name ≡ true →
    Contains (keys_among names) key
named_key [] name key named there = cc
named_key (n ∷ ns) name key named there = by (bytes_eq n name) refl there (key_of_name n) refl (λ t. named_key ns name key named t)
  where
    by : (b : Bool) → bytes_eq n name ≡ b → (b || has_name ns name) ≡ true → (o : Option StoreKey) → key_of_name n ≡ o
        → (has_name ns name ≡ true → Contains (keys_among ns) key) → Contains (cons_option o (keys_among ns)) key
    by true same t None m go = let no : None ≡ Some key = sym m ∙ (ap key_of_name (same_text n name same) ∙ named) in absurd (cc)
    by true same t (Some k) m go =
        let one : Some k ≡ Some key = sym m ∙ (ap key_of_name (same_text n name same) ∙ named) in
        let e : k ≡ key = cc in
        subst (λ (x : StoreKey). Contains (x ∷ keys_among ns) key) (sym e) (contains_first key (keys_among ns))
    by false other t None m go = go t
    by false other t (Some k) m go = contains_more k (keys_among ns) key (go t)

pub key_among : (names : List (List ℕ)) (key : StoreKey) → AreBytes 32 key.bytes → has_name names (id_text key.bytes) ≡ true →
    Contains (keys_among names) key
key_among names key are there = named_key names (id_text key.bytes) key (key_back key are) there

-- the keys of names in byte order are in byte order
abbrev texts : List StoreKey → List (List ℕ)
texts ks = map (λ (key : StoreKey). id_text key.bytes) ks

all_texts : (P : List ℕ → Type 0) (names : List (List ℕ)) → AllByRecursion P names → AllByRecursion P (texts (keys_among names))
all_texts P [] all = tt
all_texts P (n ∷ ns) all = by (key_of_name n) refl (all_texts P ns all.1)
  where
    by : (o : Option StoreKey) → key_of_name n ≡ o → AllByRecursion P (texts (keys_among ns)) → AllByRecursion P (texts (cons_option o (keys_among ns)))
    by None named go = go
    by (Some key) named go = (subst P (sym (text_back n key named)) all.0, go)

pub keys_rise : (names : List (List ℕ)) → IsStrictlySortedBy (slice_cmp nat_cmp) names → KeysRise (keys_among names)
unfolding IsStrictlySortedBy
keys_rise [] sorted = tt
keys_rise (n ∷ ns) sorted = by (key_of_name n) refl (keys_rise ns sorted.1)
  where
    by : (o : Option StoreKey) → key_of_name n ≡ o → KeysRise (keys_among ns) → KeysRise (cons_option o (keys_among ns))
    by None named go = go
    by (Some key) named go = (
      subst (λ (z : List ℕ). AllByRecursion (λ (y : List ℕ). slice_cmp nat_cmp z y ≡ Less) (texts (keys_among ns))) (sym (text_back n key named))
          (all_texts (λ (y : List ℕ). slice_cmp nat_cmp n y ≡ Less) ns sorted.0),
      go,
    )
