-- At one state one list of images is the store, by what is seen of them.
use Rattle.std.proofs.Common.{arith, ◌≡◌, ◌⊎◌, inl, inr, ◌<◌, ◌≤◌, ℕ, Less, Some, List, [], ◌∷◌, map, length, take, refl, sym, ap, subst, ◌∙◌}
use Rattle.std.specs.Prelude.{Contains, slice_index}
use Rattle.std.specs.List.{AllByRecursion}
use Rattle.std.specs.List.Sorted.{IsStrictlySortedBy}
use Rattle.std.specs.Ordering.{nat_cmp}
use Rattle.std.specs.Cmp.Lexicographic.{slice_cmp}
use Rattle.std.proofs.lemmas.Bool.{cases_lt}
use Rattle.std.proofs.lemmas.Grind.{common_steps}
use Rattle.std.proofs.lemmas.List.{append_cancel_right, get_or-take, get_or_past}
use Rattle.plain_laws.proofs.Texts.{none_below}
use Rattle.ac_types.specs.declared.image_id.ImageId.{ImageId}
use Rattle.ac_types.specs.declared.store_key.StoreKey.{StoreKey}
use Rattle.ac_types.specs.Ids.{AreBytes, id_text, id_read}
use Rattle.ac_types.specs.Outcomes.{reads}
use Rattle.ac_types.proofs.IdTexts.{text_read}
use Rattle.dep_match.specs.declared.stored.Stored.{Stored}
use Rattle.dep_match.specs.Copies.{StoredData, stored_data}
use Rattle.manifests.specs.ImageData.{image_data}
use Rattle.manifests.specs.ImageForm.{image_manifest}
use Rattle.dir_model.specs.State.{DirState, folder_at}
use Rattle.dir_files.specs.Reads.{file_at}
use Rattle.image_reading.specs.Places.{image_spot, image_inner, manifest_name, id_name, IsPresent}
use Rattle.image_reading.specs.Files.{IsIdOf}
use Rattle.image_reading.specs.Store.{keys}
use Rattle.standing_images.specs.Images.{HasFile, HasMark, StandsWithItsFiles, StandTogether, AreAll, KeysRise, AreStore}
use Rattle.standing_images.proofs.Members.{contains_none, contains_first, contains_more, contains_cases}

-- one image

same_bytes : (s : DirState) (k j : StoreKey) (name : List ℕ) {P Q : List ℕ → Type 0} → k ≡ j → (f : HasFile k name P s) (h : HasFile j name Q s) →
    f.bytes ≡ h.bytes
same_bytes s k j name same f h =
    let e : Some f.bytes ≡ Some h.bytes = sym f.there ∙ (ap (λ (key : StoreKey). file_at s (image_inner key name)) same ∙ h.there) in
    cc

same_texts : (k j : StoreKey) (a b : ImageId) (bytes : List ℕ) → IsIdOf k a bytes → IsIdOf j b bytes → a ≡ b
same_texts k j a b bytes x y =
    let texts : id_text a.bytes ≡ id_text b.bytes = append_cancel_right (id_text a.bytes) (id_text b.bytes) (10 ∷ []) (sym x.text ∙ y.text) in
    let read : Some a.bytes ≡ Some b.bytes = sym (text_read 64 a.bytes x.kind) ∙ (ap (id_read 64) texts ∙ text_read 64 b.bytes y.kind) in
    let same : a.bytes ≡ b.bytes = cc in
    ap (λ (l : List ℕ). let i : ImageId = record { bytes = l } in i) same

module _ (s : DirState) (a b : Stored) (x : StandsWithItsFiles a s) (y : StandsWithItsFiles b s) (same : a.key ≡ b.key) where
  same_folder : x.folder ≡ y.folder
  same_folder =
      let e : Some x.folder ≡ Some y.folder = sym x.here ∙ (ap (λ (k : StoreKey). folder_at s.namespace (image_spot k)) same ∙ y.here) in
      cc

  same_manifest : image_data a.manifest ≡ image_data b.manifest
  same_manifest =
      let e : reads (image_data a.manifest) ≡ reads (image_data b.manifest) =
      sym x.manifest.holds ∙ (ap image_manifest (same_bytes s a.key b.key manifest_name same x.manifest y.manifest) ∙ y.manifest.holds) in
      cc

  same_id : a.id ≡ b.id
  same_id = same_texts a.key b.key a.id b.id y.id.bytes
      (subst (λ (l : List ℕ). IsIdOf a.key a.id l) (same_bytes s a.key b.key id_name same x.id y.id) x.id.holds) y.id.holds

  same_moment : a.moment ≡ b.moment
  same_moment =
      let up : a.moment ≤ b.moment = y.newest a.moment (subst (λ (k : ℕ). HasMark k a.moment s) same_folder x.mark) in
      let down : b.moment ≤ a.moment = x.newest b.moment (subst (λ (k : ℕ). HasMark k b.moment s) (sym same_folder) y.mark) in
      omega (arith, up, down)

  same_data : stored_data a ≡ stored_data b
  same_data = rw (same, same_id, same_manifest, same_moment) refl

-- lists of keys that rise

above : (P : List ℕ → Type 0) (ks : List StoreKey) (k : StoreKey) → AllByRecursion P (map (λ (key : StoreKey). id_text key.bytes) ks) →
    Contains ks k → P (id_text k.bytes)
above P [] k all there = absurd (contains_none k there)
above P (j ∷ ks) k all there = by (contains_cases j ks k there) (λ t. above P ks k all.1 t)
  where
    by : (j ≡ k) ⊎ Contains ks k → (Contains ks k → P (id_text k.bytes)) → P (id_text k.bytes)
    by (inl same) go = subst (λ (z : StoreKey). P (id_text z.bytes)) same all.0
    by (inr later) go = go later

abbrev Below : StoreKey → StoreKey → Type 0
Below k j = slice_cmp nat_cmp (id_text k.bytes) (id_text j.bytes) ≡ Less

pub later_above : (k : StoreKey) (ks : List StoreKey) (j : StoreKey) → KeysRise (k ∷ ks) → Contains ks j → Below k j
unfolding IsStrictlySortedBy
later_above k ks j rise there = above (λ (t : List ℕ). slice_cmp nat_cmp (id_text k.bytes) t ≡ Less) ks j rise.0 there

pub rest_rise : (k : StoreKey) (ks : List StoreKey) → KeysRise (k ∷ ks) → KeysRise ks
unfolding IsStrictlySortedBy
rest_rise k ks rise = rise.1

abbrev Among : List StoreKey → List StoreKey → Type 0
Among ks js = (k : StoreKey) → Contains ks k → Contains js k

first_same : (k j : StoreKey) (ks js : List StoreKey) → KeysRise (k ∷ ks) → KeysRise (j ∷ js) → Among (k ∷ ks) (j ∷ js) → Among (j ∷ js) (k ∷ ks) →
    k ≡ j
first_same k j ks js x y f h = by (contains_cases j js k (f k (contains_first k ks))) (contains_cases k ks j (h j (contains_first j js)))
  where
    by : (j ≡ k) ⊎ Contains js k → (k ≡ j) ⊎ Contains ks j → k ≡ j
    by (inl same) there = sym same
    by (inr later) (inl same) = same
    by (inr later) (inr other) =
        absurd (none_below (id_text k.bytes) (id_text j.bytes) (later_above k ks j x other) (later_above j js k y later))

rest_among : (k j : StoreKey) (ks js : List StoreKey) → k ≡ j → KeysRise (k ∷ ks) → Among (k ∷ ks) (j ∷ js) → Among ks js
rest_among k j ks js same rise f z there = by (contains_cases j js z (f z (contains_more k ks z there)))
  where
    by : (j ≡ z) ⊎ Contains js z → Contains js z
    by (inl first) =
        let below : Below k z = later_above k ks z rise there in
        let self : Below k k = subst (λ (q : StoreKey). Below k q) (sym first ∙ sym same) below in
        absurd (none_below (id_text k.bytes) (id_text k.bytes) self self)
    by (inr later) = later

same_keys : (ks js : List StoreKey) → KeysRise ks → KeysRise js → Among ks js → Among js ks → ks ≡ js
same_keys [] [] x y f h = refl
same_keys [] (j ∷ js) x y f h = absurd (contains_none j (h j (contains_first j js)))
same_keys (k ∷ ks) [] x y f h = absurd (contains_none k (f k (contains_first k ks)))
same_keys (k ∷ ks) (j ∷ js) x y f h =
    let first = first_same k j ks js x y f h in
    let rest = same_keys ks js (rest_rise k ks x) (rest_rise j js y) (rest_among k j ks js first x f) (rest_among j k js ks (sym first) y h) in
    ap (λ (z : StoreKey). z ∷ ks) first ∙ ap (λ (l : List StoreKey). j ∷ l) rest

-- the keys of images that stand

front_length : (n : ℕ) (xs : List ℕ) → n ≤ length xs → length (take n xs) ≡ n
front_length n xs within = grind (arith, common_steps)

front_bytes : (bytes : List ℕ) → AreBytes 64 bytes → AreBytes 32 (take 32 bytes)
front_bytes bytes are = (long, small)
  where
    long : length (take 32 bytes) ≡ 32
    long = front_length 32 bytes (omega (arith, are.0))

    small : (i : ℕ) → slice_index (take 32 bytes) i < 256
    small i = by (cases_lt i 32)
      where
        by : (i < 32) ⊎ (32 ≤ i) → slice_index (take 32 bytes) i < 256
        by (inl inside) = rw (get_or-take 32 bytes i 0 inside) (are.1 i)
        by (inr past) = rw (get_or_past (take 32 bytes) i 0 (omega (arith, long, past))) (omega arith)

key_stands : (s : DirState) (images : List Stored) (key : StoreKey) → StandTogether images s → Contains (keys images) key →
    AreBytes 32 key.bytes × IsPresent key s
key_stands s [] key all there = absurd (contains_none key there)
key_stands s (x ∷ xs) key all there = by (contains_cases x.key (keys xs) key there) (λ t. key_stands s xs key all.1 t)
  where
    one : AreBytes 32 x.key.bytes × IsPresent x.key s
    one = let h = all.0 in
        (subst (λ (l : List ℕ). AreBytes 32 l) h.id.holds.front (front_bytes x.id.bytes h.id.holds.kind), (h.folder, h.here))

    by : (x.key ≡ key) ⊎ Contains (keys xs) key → (Contains (keys xs) key → AreBytes 32 key.bytes × IsPresent key s) →
        AreBytes 32 key.bytes × IsPresent key s
    by (inl same) go = subst (λ (k : StoreKey). AreBytes 32 k.bytes × IsPresent k s) same one
    by (inr later) go = go later

among : (s : DirState) (xs ys : List Stored) → StandTogether xs s → AreAll (keys ys) s → Among (keys xs) (keys ys)
among s xs ys all whole key there =
    let k = key_stands s xs key all there in
    whole key k.0 k.1

same_all : (s : DirState) (xs ys : List Stored) → StandTogether xs s → StandTogether ys s → keys xs ≡ keys ys → map stored_data xs ≡ map stored_data ys
same_all s [] [] x y same = refl
same_all s [] (b ∷ ys) x y same = cc
same_all s (a ∷ xs) [] x y same = cc
same_all s (a ∷ xs) (b ∷ ys) x y same =
    let first : a.key ≡ b.key = cc in
    let rest : keys xs ≡ keys ys = cc in
    ap (λ (d : StoredData). d ∷ map stored_data xs) (same_data s a b x.0 y.0 first)
    ∙ ap (λ (ds : List StoredData). stored_data b ∷ ds) (same_all s xs ys x.1 y.1 rest)

pub one_store : (s : DirState) (xs ys : List Stored) → AreStore xs s → AreStore ys s → map stored_data xs ≡ map stored_data ys
one_store s xs ys x y = same_all s xs ys x.together y.together
    (same_keys (keys xs) (keys ys) x.rise y.rise (among s xs ys x.together y.all) (among s ys xs y.together x.all))
