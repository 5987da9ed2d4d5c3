-- While the images stay as they are, the first damage that was read is that of the state before.
use Rattle.std.proofs.Common.{◌≡◌, ◌⊎◌, inl, inr, ◌<◌, arith, ℕ, true, ◌||◌, bytes_eq, Option, Some, None, is_some, List, [], ◌∷◌, ◌++◌, take, refl, sym, ap, subst, ◌∙◌}
use Rattle.std.specs.Prelude.{Contains}
use Rattle.std.specs.List.{cons_option}
use Rattle.std.proofs.lemmas.List.Elements.{Contains-append_right, Contains-append_cases}
use Rattle.plain_laws.proofs.Texts.{none_below}
use Rattle.ac_types.specs.declared.store_key.StoreKey.{StoreKey}
use Rattle.ac_types.specs.Ids.{AreBytes, id_text, id_read}
use Rattle.ac_types.proofs.IdTexts.{read_are}
use Rattle.manifests.specs.ImageData.{image_data}
use Rattle.dir_model.specs.Listings.{has_name}
use Rattle.dir_model.specs.State.{DirState, folder_at}
use Rattle.dir_model.specs.Trace.{state_after}
use Rattle.dir_model.proofs.Lists.{all_weaker, or_last}
use Rattle.dir_model.proofs.Moments.{some_number}
use Rattle.dir_trait.specs.DirCalls.{DirAt}
use Rattle.dir_files.specs.Reads.{file_at, WasMissing}
use Rattle.gate_reading.specs.Files.{is_outside_stage1}
use Rattle.lifecycle.proofs.Places.{same_name}
use Rattle.image_reading.specs.declared.error.StoreError.TheVariants.{Damaged}
use Rattle.image_reading.specs.Places.{some_key, key_of_name, keys_among, image_spot, image_inner, manifest_name, id_name, mark_name}
use Rattle.image_reading.specs.Files.{IsNoImageManifest, IsNoId, IsKeptOf, ReadsFile, LacksFile, ReadsNoImageManifest, LacksId, LacksMoment, most_of_id}
use Rattle.image_reading.specs.Images as read
use Rattle.image_reading.specs.Images.{ReadsImage}
use Rattle.image_reading.specs.Store.{keys, LacksListed}
use Rattle.image_reading.proofs.Values.{manifest_front, no_manifest_front, no_id_front}
use Rattle.standing_images.specs.Images.{ImagesStay, HasFile, HasMark, StandsWithItsFiles, KeysRise}
use Rattle.standing_images.specs.Damage.{IsAnyManifest, IsAnyId, HasManifest, HasId, HasMoment, IsWholeImage, LacksPart, IsBefore, IsFirstDamage}
use Rattle.standing_images.proofs.Before.{told_before, absent_before, front_before, id_before, items_before, image_before, names_before}
use Rattle.standing_images.proofs.Keys.{text_back, key_among, keys_rise}
use Rattle.standing_images.proofs.Members.{contains_none, contains_first, contains_cases}
use Rattle.standing_images.proofs.Moments.{none_shown}
use Rattle.standing_images.proofs.OneDamage.{store_whole}
use Rattle.standing_images.proofs.OneStore.{later_above, rest_rise}
use Rattle.manifests.specs.ManifestSize.{most_of_manifest}

-- a key that is read of a name has 32 bytes
key_bytes : (name : List ℕ) (key : StoreKey) → key_of_name name ≡ Some key → AreBytes 32 key.bytes
key_bytes name key is = by (id_read 32 name) refl is
  where
    by : (o : Option (List ℕ)) → id_read 32 name ≡ o → some_key o ≡ Some key → AreBytes 32 key.bytes
    by None read is = cc
    by (Some bytes) read is =
        let same : record { bytes = bytes } ≡ key = cc in
        subst (λ (k : StoreKey). AreBytes 32 k.bytes) same (read_are 32 name bytes read)

-- its text is one of the names
pub record IsNamed (names : List (List ℕ)) (key : StoreKey) : Type 0 where
  pub kind : AreBytes 32 key.bytes
  pub there : has_name names (id_text key.bytes) ≡ true

pub named : (names : List (List ℕ)) (key : StoreKey) → Contains (keys_among names) key → IsNamed names key
named [] key there = absurd (contains_none key there)
named (n ∷ ns) key there = by (key_of_name n) refl there (λ t. named ns key t)
  where
    more : IsNamed ns key → IsNamed (n ∷ ns) key
    more x = record { kind = x.kind; there = or_last (bytes_eq n (id_text key.bytes)) (has_name ns (id_text key.bytes)) x.there }

    one : (k : StoreKey) → key_of_name n ≡ Some k → k ≡ key → IsNamed (n ∷ ns) key
    one k is same =
        let text : n ≡ id_text key.bytes = sym (text_back n k is) ∙ ap (λ (x : StoreKey). id_text x.bytes) same in
        record {
          kind = subst (λ (x : StoreKey). AreBytes 32 x.bytes) same (key_bytes n k is);
          there = ap (λ b. b || has_name ns (id_text key.bytes)) (same_name n (id_text key.bytes) text);
        }

    by : (o : Option StoreKey) → key_of_name n ≡ o → Contains (cons_option o (keys_among ns)) key → (Contains (keys_among ns) key → IsNamed ns key) → IsNamed (n ∷ ns) key
    by None is there go = more (go there)
    by (Some k) is there go = either (contains_cases k (keys_among ns) key there)
      where
        either : (k ≡ key) ⊎ Contains (keys_among ns) key → IsNamed (n ∷ ns) key
        either (inl same) = one k is same
        either (inr later) = more (go later)

rise_after : (ks js : List StoreKey) → KeysRise (ks ++ js) → KeysRise js
rise_after [] js rise = rise
rise_after (k ∷ ks) js rise = rise_after ks js (rest_rise k (ks ++ js) rise)

module _ (old new : DirAt) (stay : ImagesStay old.trace new.trace) (key : StoreKey) where
  abbrev before : DirState
  before = state_after old.trace

  -- a file that was missing, or had no reading, isn't there so
  pub lacks_file : (name : List ℕ) (most : ℕ) (P Q : List ℕ → Type 0) → is_outside_stage1 name ≡ true → 0 < most →
      ((file : List ℕ) → P (take most file) → Q file → ⊥) → LacksFile (image_inner key name) most P old new → HasFile key name Q before → ⊥
  lacks_file name most P Q plain some refuses lack h = by lack
    where
      by : WasMissing (image_inner key name) old new ⊎ ReadsFile (image_inner key name) most P old new → ⊥
      by (inl missing) =
          let none : file_at before (image_inner key name) ≡ None = told_before old.process old.trace new.trace stay key name (λ file. file ≡ None) plain missing in
          let clash : None ≡ Some h.bytes = sym none ∙ h.there in
          cc
      by (inr r) =
          let f = front_before old new stay key name most P plain some r in
          let one : Some h.bytes ≡ Some f.0 = sym h.there ∙ f.1 in
          let same : h.bytes ≡ f.0 = cc in
          refuses f.0 f.2 (subst Q same h.holds)

  pub lacks_manifest : ReadsNoImageManifest key old new → HasManifest key before → ⊥
  lacks_manifest lack = lacks_file manifest_name most_of_manifest IsNoImageManifest IsAnyManifest refl (omega arith)
      (λ file none any. no_manifest_front file none any.0 any.1) lack

  pub lacks_id : LacksId key old new → HasId key before → ⊥
  lacks_id lack = lacks_file id_name most_of_id (IsNoId key) (IsAnyId key) refl (omega arith) (λ file none any. no_id_front key file none any.0 any.1) lack

  pub has_manifest : read.ReadsSomeManifest key old new → HasManifest key before
  has_manifest x =
      let f = front_before old new stay key manifest_name most_of_manifest (IsKeptOf x.0) refl (omega arith) x.1 in
      record { bytes = f.0; there = f.1; holds = (image_data x.0.manifest, (manifest_front f.0 x.0 f.2).1) }

  pub has_id : read.ReadsSomeId key old new → HasId key before
  has_id x =
      let f = id_before old new stay key x.0 x.1 in
      record { bytes = f.bytes; there = f.there; holds = (x.0, f.holds) }

  lacks_moment : LacksMoment key old new → HasMoment key before → ⊥
  lacks_moment (inl absent) h =
      let none : folder_at before.namespace (image_spot key) ≡ None = absent_before old.process old.trace new.trace stay key absent in
      let clash : None ≡ Some h.folder = sym none ∙ h.here in
      cc
  lacks_moment (inr shows) h =
      let i = items_before old new stay key _ shows in
      let one : Some h.folder ≡ Some i.0 = sym h.here ∙ i.1 in
      let same : h.folder ≡ i.0 = cc in
      none_shown i.0 before shows.items i.2 shows.holds h.moment (subst (λ (k : ℕ). HasMark k h.moment before) same h.mark)

  -- the part that was read as the first is the first
  pub lacks_before : (path : List ℕ) → read.LacksInTurn key mark_name (LacksMoment key) path old new → LacksPart key mark_name (HasMoment key before) path before
  lacks_before path (inl l) = inl (l.0, lacks_manifest l.1)
  lacks_before path (inr (inl l)) = inr (inl (l.0, has_manifest l.1, lacks_id l.2))
  lacks_before path (inr (inr l)) = inr (inr (l.0, has_manifest l.1, has_id l.2, lacks_moment l.3))

-- the first image that isn't whole, and what it lacks
module _ (old new : DirAt) (stay : ImagesStay old.trace new.trace) (path : List ℕ) (x : LacksListed (Damaged path) old new) where
  abbrev old_state : DirState
  old_state = state_after old.trace

  rise : KeysRise (x.first.key ∷ x.first.after)
  rise = rise_after (keys x.first.before) (x.first.key ∷ x.first.after) (subst (λ (ks : List StoreKey). KeysRise ks) x.first.is (keys_rise x.names x.ordered))

  earlier_whole : (other : StoreKey) → IsBefore other x.first.key → Contains (keys x.first.before ++ x.first.key ∷ x.first.after) other → IsWholeImage other old_state
  earlier_whole other less there = by (Contains-append_cases (keys x.first.before) (x.first.key ∷ x.first.after) other there)
    where
      rest : (x.first.key ≡ other) ⊎ Contains x.first.after other → IsWholeImage other old_state
      rest (inl same) =
          let self : IsBefore other other = subst (λ (k : StoreKey). IsBefore other k) same less in
          absurd (none_below (id_text other.bytes) (id_text other.bytes) self self)
      rest (inr later) = absurd (none_below (id_text other.bytes) (id_text x.first.key.bytes) less (later_above x.first.key x.first.after other rise later))

      by : Contains (keys x.first.before) other ⊎ Contains (x.first.key ∷ x.first.after) other → IsWholeImage other old_state
      by (inl first) = store_whole old_state x.first.before other
          (all_weaker (λ image. ReadsImage image old new) (λ image. StandsWithItsFiles image old_state) (image_before old new stay) x.first.before x.first.earlier) first
      by (inr later) = rest (contains_cases x.first.key x.first.after other later)

  pub damage_before : IsFirstDamage path old_state
  damage_before =
      let f = x.first in
      let there : Contains (keys_among x.names) f.key = subst (λ (ks : List StoreKey). Contains ks f.key) (sym f.is)
      (Contains-append_right (keys f.before) (f.key ∷ f.after) f.key (contains_first f.key f.after)) in
      let n = named x.names f.key there in
      let names = names_before old new stay x.names x.shown in
      record {
        key = f.key;
        kind = n.kind;
        stands = some_number (folder_at old_state.namespace (image_spot f.key)) (sym (names (id_text f.key.bytes)) ∙ n.there);
        lacks = lacks_before old new stay f.key path f.lacks;
        earlier = λ other are present less. earlier_whole other less
            (subst (λ (ks : List StoreKey). Contains ks other) f.is (key_among x.names other are (names (id_text other.bytes) ∙ ap is_some present.1)));
      }
