-- While the images stay as they are, what is read of them is so of the state before.
use Rattle.std.proofs.Common.{arith, ◌≡◌, ◌<◌, ℕ, Bool, true, false, Option, Some, None, is_some, List, [], ◌∷◌, ◌++◌, take, append_assoc, refl, sym, ap, subst, ◌∙◌}
use Rattle.std.specs.Prelude.{Contains}
use Rattle.ac_types.specs.declared.store_key.StoreKey.{StoreKey}
use Rattle.ac_types.specs.declared.image_id.ImageId.{ImageId}
use Rattle.ac_types.specs.Ids.{id_text}
use Rattle.dep_match.specs.declared.stored.Stored.{Stored}
use Rattle.manifests.specs.declared.image_manifest.ImageManifest.{ImageManifest}
use Rattle.manifest_laws.proofs.Heads.{manifest_so}
use Rattle.dir_model.specs.declared.area.Area.TheVariants.{Images}
use Rattle.dir_model.specs.declared.event.Event.{Event}
use Rattle.dir_model.specs.declared.request.Request.{Request}
use Rattle.dir_model.specs.declared.request.Reply.{Reply}
use Rattle.dir_model.specs.declared.spot.Spot.{Spot}
use Rattle.dir_model.specs.State.{DirState, empty_state, folder_at}
use Rattle.dir_model.specs.Trace.{states_next, state_after}
use Rattle.dir_model.specs.Calls.{AtOwnStep, event}
use Rattle.dir_model.specs.Listings.{has_name, item_names}
use Rattle.dir_model.proofs.Chains.{states_next-append}
use Rattle.dir_model.proofs.Lists.{all_weaker}
use Rattle.dir_rules.specs.Standing.{is_in}
use Rattle.dir_trait.specs.DirCalls.{DirAt}
use Rattle.dir_laws.specs.Stretches.{StandsInArea}
use Rattle.dir_files.specs.Reads.{inner_at, bytes_in, file_at, TellsFile, IsPiece, AreTold}
use Rattle.dir_files.specs.Listed.{Stretch, ShowsArea, ShowsDirectory}
use Rattle.folder_contents.specs.Entries.{entries_in}
use Rattle.gate_reading.specs.Areas.{is_image}
use Rattle.gate_reading.specs.Files.{is_outside_stage1}
use Rattle.gate_reading.specs.Listings.{has_direct}
use Rattle.gate_reading.proofs.Listed.{throughout, sometime}
use Rattle.gate_reading.proofs.PlainPaths.{plain_own}
use Rattle.gate_reading.proofs.AreaNames.{image_named}
use Rattle.gate_reading.proofs.StoredFiles.{same_file}
use Rattle.image_reading.specs.Within.{Within}
use Rattle.image_reading.specs.Places.{image_spot, image_inner, manifest_name, id_name, IsImageAbsent, IsPresent}
use Rattle.image_reading.specs.Files.{IsImageManifestOf, IsIdOf, ReadsFile, ReadsImageManifest, ReadsId, ShowsImportMarks, most_of_id}
use Rattle.image_reading.specs.Images.{ReadsImage}
use Rattle.image_reading.specs.Store.{ReadsStore}
use Rattle.image_reading.proofs.Values.{id_front}
use Rattle.standing_images.specs.Images.{SameImages, ImagesStay, HasFile, StandsWithItsFiles, KeysRise, AreStore}
use Rattle.standing_images.proofs.AreaNames.{place}
use Rattle.standing_images.proofs.Keys.{key_among, keys_rise}
use Rattle.standing_images.proofs.Moments.{has_mark, is_newest}
use Rattle.standing_images.proofs.Pieces.{all_told, is_front}
use Rattle.standing_images.proofs.Shown.{shows_names}
use Rattle.manifests.specs.ManifestSize.{most_of_manifest}

module _ (me : ℕ) (old new : List Event) (stay : ImagesStay old new) where
  abbrev s : DirState
  s = state_after old

  -- at a moment of it
  same_at : (here u v : List Event) → here ≡ old ++ u → new ≡ here ++ v → SameImages s (state_after here)
  same_at here u v is ends = subst (λ (h : List Event). SameImages s (state_after h)) (sym is) (stay u v (ends ∙ ap (λ (h : List Event). h ++ v) is))

  same_step : {P : DirState → Type 0} (at : AtOwnStep me old new P) → SameImages s (state_after (at.before ++ at.step ∷ []))
  same_step at = same_at (at.before ++ at.step ∷ []) (at.later ++ at.step ∷ []) at.rest
      (ap (λ (h : List Event). h ++ at.step ∷ []) at.begins ∙ append_assoc old at.later (at.step ∷ [])) at.ends

  -- a file of an image is the same
  file_same : (t : DirState) → SameImages s t → (spot : Spot) (path : List ℕ) → is_in Images spot.area ≡ true →
      file_at t (inner_at spot path) ≡ file_at s (inner_at spot path)
  file_same t same spot path is = by (folder_at s.namespace spot) refl
    where
      by : (o : Option ℕ) → folder_at s.namespace spot ≡ o → file_at t (inner_at spot path) ≡ file_at s (inner_at spot path)
      by None none = ap (bytes_in t.entries path) (same.places spot is ∙ none) ∙ sym (ap (bytes_in s.entries path) none)
      by (Some folder) there = same_file t s (inner_at spot path) folder (same.places spot is ∙ there) there (same.trees spot folder is there)

  pub told_before : (key : StoreKey) (name : List ℕ) (P : Option (List ℕ) → Type 0) → is_outside_stage1 name ≡ true →
      AtOwnStep me old new (TellsFile (image_inner key name) P) → P (file_at s (image_inner key name))
  told_before key name P plain at =
      let here : List Event = at.before ++ at.step ∷ [] in
      subst P (file_same (state_after here) (same_step at) (image_spot key) name refl) (at.holds (plain_own here (image_inner key name) plain))

  pub absent_before : (key : StoreKey) → AtOwnStep me old new (IsImageAbsent key) → IsImageAbsent key s
  absent_before key at = sym ((same_step at).places (image_spot key) refl) ∙ at.holds

  pub present_before : (key : StoreKey) → AtOwnStep me old new (IsPresent key) → IsPresent key s
  present_before key at = (at.holds.0, sym ((same_step at).places (image_spot key) refl) ∙ at.holds.1)

  -- a listing lies within it
  module _ {first last : List Event} (earlier later : List Event) (begins : first ≡ old ++ earlier) (ends : new ≡ last ++ later)
      (request : Request) (reply : Reply) (st : Stretch me first last request reply) where
    abbrev lead : List Event
    lead = earlier ++ st.earlier

    begun_is : st.begun ≡ old ++ lead
    begun_is = st.begins ∙ (ap (λ (h : List Event). h ++ st.earlier) begins ∙ append_assoc old earlier st.earlier)

    pub same_in : (a b : List Event) → st.others ≡ a ++ b → SameImages s (states_next (state_after st.begun) a)
    same_in a b is =
        let rest : List Event = b ++ (event me request reply ∷ later) in
        let place : st.begun ++ a ≡ old ++ (lead ++ a) = ap (λ (h : List Event). h ++ a) begun_is ∙ append_assoc old lead a in
        let whole : new ≡ (st.begun ++ a) ++ rest =
        ends ∙ (ap (λ (h : List Event). h ++ later) (st.ends ∙ ap (λ (l : List Event). (st.begun ++ l) ++ event me request reply ∷ []) is) ∙ simp append_assoc) in
        subst (λ (t : DirState). SameImages s t) (states_next-append empty_state st.begun a) (same_at (st.begun ++ a) (lead ++ a) rest place whole)

module _ (old new : DirAt) (stay : ImagesStay old.trace new.trace) where
  abbrev before : DirState
  before = state_after old.trace

  -- what was read of a file of an image is the front of the file that stood there
  pub front_before : (key : StoreKey) (name : List ℕ) (most : ℕ) (P : List ℕ → Type 0) → is_outside_stage1 name ≡ true → 0 < most →
      ReadsFile (image_inner key name) most P old new →
      (file : List ℕ) × (file_at before (image_inner key name) ≡ Some file) × P (take most file)
  front_before key name most P plain some r =
      let w = r.read in
      let reads = w.told.reads in
      let told = subst (λ (p : ℕ). AreTold p (image_inner key name) w.first.trace reads.pieces w.last.trace) w.same reads.told in
      let f = is_front most r.bytes reads.pieces (file_at before (image_inner key name)) some reads.whole r.few w.told.ended
      (all_told old.process (image_inner key name) old.trace new.trace (file_at before (image_inner key name))
      (λ at room bytes step. told_before old.process old.trace new.trace stay key name (IsPiece at room bytes) plain step)
      w.first.trace w.earlier w.begins reads.pieces w.last.trace w.later w.ends told) in
      (f.file, f.is, subst P f.front r.holds)

  manifest_before : (key : StoreKey) (manifest : ImageManifest) → ReadsImageManifest key manifest old new → HasFile key manifest_name (IsImageManifestOf manifest) before
  manifest_before key manifest r =
      let f = front_before key manifest_name most_of_manifest (IsImageManifestOf manifest) refl (omega arith) r in
      record { bytes = f.0; there = f.1; holds = sym (manifest_so f.0) ∙ f.2 }

  pub id_before : (key : StoreKey) (id : ImageId) → ReadsId key id old new → HasFile key id_name (IsIdOf key id) before
  id_before key id r =
      let f = front_before key id_name most_of_id (IsIdOf key id) refl (omega arith) r in
      record { bytes = f.0; there = f.1; holds = id_front key f.0 id f.2 }

  -- a listing of an image shows what stood in it
  pub items_before : (key : StoreKey) (P : List ℕ → Type 0) (m : ShowsImportMarks key P old new) →
      (folder : ℕ) × (folder_at before.namespace (image_spot key) ≡ Some folder)
      × ((name : List ℕ) → has_name (item_names m.items) name ≡ has_direct (entries_in folder before.entries) name)
  items_before key P m =
      let w = m.shown in
      let d = subst (λ (p : ℕ). ShowsDirectory p w.first.trace w.last.trace (image_inner key []) m.items) w.same w.told in
      let i = d.shows (plain_own (d.stretch.begun ++ d.stretch.others) (image_inner key []) refl) in
      let same = λ (a b : List Event) (is : d.stretch.others ≡ a ++ b). same_in old.process old.trace new.trace stay w.earlier w.later w.begins w.ends _ _ d.stretch a b is in
      let there : folder_at before.namespace (image_spot key) ≡ Some i.folder =
      sym ((same [] d.stretch.others refl).places (image_spot key) refl) ∙ i.here in (
        i.folder,
        there,
        shows_names old.process w.first.trace w.last.trace (image_spot key) m.items d i (entries_in i.folder before.entries)
            (λ a b is. (same a b is).trees (image_spot key) i.folder refl there),
      )

  -- an image that was read stood so
  pub image_before : (image : Stored) → ReadsImage image old new → StandsWithItsFiles image before
  image_before image r =
      let i = items_before image.key _ r.moment in
      record {
        folder = i.0;
        here = i.1;
        manifest = manifest_before image.key image.manifest r.manifest;
        id = id_before image.key image.id r.id;
        mark = has_mark i.0 before r.moment.items i.2 image.moment r.moment.holds;
        newest = is_newest i.0 before r.moment.items i.2 image.moment r.moment.holds;
      }

  -- the names of the area were those of its folders
  pub names_before : (names : List (List ℕ)) → Within (λ first last. ShowsArea first.process first.trace last.trace Images names) old new →
      (name : List ℕ) → has_name names name ≡ is_image before name
  names_before names w name = same_test (has_name names name) (is_image before name) only all
    where
      d : ShowsArea old.process w.first.trace w.last.trace Images names
      d = subst (λ (p : ℕ). ShowsArea p w.first.trace w.last.trace Images names) w.same w.told

      first : DirState
      first = state_after d.stretch.begun

      same : (a b : List Event) → d.stretch.others ≡ a ++ b → is_image (states_next first a) name ≡ is_image before name
      same a b is = ap is_some ((same_in old.process old.trace new.trace stay w.earlier w.later w.begins w.ends _ _ d.stretch a b is).places (place name) refl)

      same_test : (a b : Bool) → (a ≡ true → b ≡ true) → (b ≡ true → a ≡ true) → a ≡ b
      same_test true b f g = sym (f refl)
      same_test false true f g = g refl
      same_test false false f g = refl

      only : has_name names name ≡ true → is_image before name ≡ true
      only h =
          let m = sometime (StandsInArea Images name) first d.stretch.others (d.only name h) in
          sym (same m.earlier m.later m.split) ∙ (sym (image_named (states_next first m.earlier) name) ∙ m.holds)

      all : is_image before name ≡ true → has_name names name ≡ true
      all h = d.all name (throughout (StandsInArea Images name) first d.stretch.others
          (λ a b is. image_named (states_next first a) name ∙ (same a b is ∙ h)))

  -- and what was read is the store as it was
  pub store_before : (images : List Stored) → ReadsStore images old new → AreStore images before
  store_before images r = record {
    together = all_weaker (λ image. ReadsImage image old new) (λ image. StandsWithItsFiles image before) image_before images r.read.each;
    all = λ key are there.
        subst (λ (ks : List StoreKey). Contains ks key) (sym r.read.of_names)
        (key_among r.names key are (names_before r.names r.shown (id_text key.bytes) ∙ ap is_some there.1));
    rise = subst (λ (ks : List StoreKey). KeysRise ks) (sym r.read.of_names) (keys_rise r.names r.ordered);
  }
