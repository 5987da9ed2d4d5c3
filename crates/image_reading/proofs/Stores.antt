-- The images of a list of names, read one after the other.
use Rattle.std.proofs.Common.{◌≡◌, Bool, true, ℕ, Option, Some, None, List, [], ◌∷◌, ◌++◌, append-nil, sym, ap, subst, ◌∙◌}
use Rattle.std.specs.List.{AllByRecursion, cons_option}
use Rattle.std.proofs.lemmas.List.{map-append}
use Rattle.std.proofs.lemmas.List.Elements.{filter_map-append}
use Rattle.ac_types.specs.declared.store_key.StoreKey.{StoreKey}
use Rattle.dep_match.specs.declared.stored.Stored.{Stored}
use Rattle.dir_model.proofs.Lists.{all_both, all_weaker}
use Rattle.dir_trait.specs.DirCalls.{DirAt}
use Rattle.image_reading.specs.Places.{key_of_name, keys_among}
use Rattle.image_reading.specs.declared.error.StoreError.{StoreError}
use Rattle.image_reading.specs.Looks.{OnlyReadsImages}
use Rattle.image_reading.specs.Images.{ReadsImage}
use Rattle.image_reading.specs.Store.{keys, AddsImage, AreRead, LacksNamed, LacksFirst}
use Rattle.image_reading.proofs.Images.{image_after, image_before, image_lack_after}

pub are_start : (names : List (List ℕ)) (images : List Stored) {d : DirAt} → names ≡ [] → images ≡ [] → AreRead names images d d
are_start names images {d} n i = record { of_names = ap keys i ∙ sym (ap keys_among n); each = subst (λ (xs : List Stored). AllByRecursion (λ x. ReadsImage x d d) xs) (sym i) tt }

module _ {observed : Bool} (t : observed ≡ true) (names : List (List ℕ)) (images : List Stored) {a b c : DirAt} where
  -- in a part of the time
  pub are_after : OnlyReadsImages observed a b → AreRead names images b c → AreRead names images a c
  are_after ab r = record { of_names = r.of_names; each = all_weaker (λ x. ReadsImage x b c) (λ x. ReadsImage x a c) (λ x h. image_after t ab h) images r.each }

  module _ (more : List (List ℕ)) (name : List ℕ) (grown : more ≡ names ++ name ∷ []) (ab : OnlyReadsImages observed a b) (r : AreRead names images a b) (bc : OnlyReadsImages observed b c) where
    keys_more : keys_among more ≡ keys_among names ++ cons_option (key_of_name name) []
    keys_more = ap keys_among grown ∙ filter_map-append key_of_name names (name ∷ [])

    each_later : AllByRecursion (λ x. ReadsImage x a c) images
    each_later = all_weaker (λ x. ReadsImage x a b) (λ x. ReadsImage x a c) (λ x h. image_before t h bc) images r.each

    -- one name more
    pub are_added : (o : Option StoreKey) (after : List Stored) → o ≡ key_of_name name → AddsImage o images after b c → AreRead more after a c
    are_added None after is same = record {
      of_names = ap keys same ∙ (r.of_names ∙ (sym (append-nil (keys_among names)) ∙ (ap (λ (o : Option StoreKey). keys_among names ++ cons_option o []) is ∙ sym keys_more)));
      each = subst (λ (xs : List Stored). AllByRecursion (λ x. ReadsImage x a c) xs) (sym same) each_later;
    }
    are_added (Some key) after is added = record {
      of_names =
          ap keys added.1
          ∙ (map-append (λ (x : Stored). x.key) images (added.0 ∷ [])
          ∙ (ap (λ (ks : List StoreKey). ks ++ added.0.key ∷ []) r.of_names
          ∙ (ap (λ (k : StoreKey). keys_among names ++ k ∷ []) added.2
          ∙ (ap (λ (o : Option StoreKey). keys_among names ++ cons_option o []) is ∙ sym keys_more))));
      each = subst (λ (xs : List Stored). AllByRecursion (λ x. ReadsImage x a c) xs) (sym added.1) (all_both (λ x. ReadsImage x a c) images (added.0 ∷ []) each_later (image_after t ab added.3, tt));
    }

module _ {observed : Bool} (t : observed ≡ true) {a b c : DirAt} (ab : OnlyReadsImages observed a b) where
  -- those before it were read, and the next one isn't whole
  pub lacks_next : (names done rest : List (List ℕ)) (name : List ℕ) (images : List Stored) → names ≡ done ++ name ∷ rest → AreRead done images a b → OnlyReadsImages observed b c
      → (o : Option StoreKey) → o ≡ key_of_name name → (e : StoreError) → LacksNamed o e b c → LacksFirst names e a c
  lacks_next names done rest name images grown r bc None is e l = absurd l
  lacks_next names done rest name images grown r bc (Some key) is e l = record {
    before = images;
    key = key;
    after = keys_among rest;
    is =
        ap keys_among grown
        ∙ (filter_map-append key_of_name done (name ∷ rest)
        ∙ (ap (λ (ks : List StoreKey). ks ++ keys_among (name ∷ rest)) (sym r.of_names)
        ∙ ap (λ (o : Option StoreKey). keys images ++ cons_option o (keys_among rest)) (sym is)));
    earlier = all_weaker (λ x. ReadsImage x a b) (λ x. ReadsImage x a c) (λ x h. image_before t h bc) images r.each;
    lacks = image_lack_after t key e c ab l;
  }

  pub first_after : (names : List (List ℕ)) (e : StoreError) → LacksFirst names e b c → LacksFirst names e a c
  first_after names e l = record {
    before = l.before;
    key = l.key;
    after = l.after;
    is = l.is;
    earlier = all_weaker (λ x. ReadsImage x b c) (λ x. ReadsImage x a c) (λ x h. image_after t ab h) l.before l.earlier;
    lacks = image_lack_after t l.key e c ab l.lacks;
  }
