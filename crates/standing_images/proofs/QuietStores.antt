-- Where nobody else steps, what was read of the store is the store as the state before had it.
use Rattle.std.proofs.Common.{◌≡◌, ℕ, Bool, true, false, not, ◌||◌, ◌==◌, Option, position, option_to_list, List, [], ◌∷◌, ◌++◌, append_assoc, append-nil, refl, sym, ap, subst, ◌∙◌}
use Rattle.std.specs.List.{AllByRecursion}
use Rattle.ac_types.specs.declared.store_key.StoreKey.{StoreKey}
use Rattle.dep_match.specs.declared.stored.Stored.{Stored}
use Rattle.dir_model.specs.declared.event.Event.{Event}
use Rattle.dir_model.specs.declared.item.Inner.{Inner}
use Rattle.dir_model.specs.declared.request.Request.{Request}
use Rattle.dir_model.specs.declared.request.Request.TheVariants.{Begin, MakeFolder, MoveFolder, Open, OpenArea, TryLock, Close, MakeDirIn, MakeFileIn, AppendIn, RemoveFileIn, RemoveDirIn, RemoveFolder, Finish, Kill, ListArea, ListIn, ReadIn}
use Rattle.dir_model.specs.declared.request.Reply.{Reply}
use Rattle.dir_model.specs.declared.request.Reply.TheVariants.{Done, Opened}
use Rattle.dir_model.specs.declared.spot.Spot.{Spot}
use Rattle.dir_model.specs.declared.tree.TreeEntry.{TreeEntry}
use Rattle.dir_model.specs.Calls.{AtOwnStep, Extends, is_foreign, is_kill}
use Rattle.dir_model.specs.Quiet.{Quiet}
use Rattle.dir_model.specs.State.{Namespace, DirState, empty_state, is_at, folder_at}
use Rattle.dir_model.specs.Trace.{namespace_replied, entries_kept, entry_made, state_next, states_next, state_after}
use Rattle.dir_model.proofs.Chains.{states_next-append}
use Rattle.dir_model.proofs.Lists.{all_left, all_weaker, same_rest, same_self}
use Rattle.dir_model.proofs.Moments.{at_within}
use Rattle.dir_files.specs.Reads.{bytes_in, file_at}
use Rattle.folder_contents.specs.Entries.{entries_in}
use Rattle.gate_reading.specs.Listings.{has_direct}
use Rattle.image_reading.specs.Looks.{reads_images}
use Rattle.image_reading.specs.Places.{image_spot, image_inner, manifest_name, id_name}
use Rattle.image_reading.specs.Store.{keys}
use Rattle.standing_images.specs.Images.{HasFile, HasMark, StandsWithItsFiles, StandTogether, AreAll, AreStore, StoodTogether, SameImages, ImagesStay}
use Rattle.standing_images.specs.Laws.{leaves_store}

-- the same folders stand, and hold the same
record SameStore (s t : DirState) : Type 0 where
  folders : t.namespace.folders ≡ s.namespace.folders
  entries : t.entries ≡ s.entries

-- what a request leaves
folders_left : (n : Namespace) (p : ℕ) (request : Request) (reply : Reply) → leaves_store request ≡ true →
    (namespace_replied n p request reply).folders ≡ n.folders
folders_left n p (MakeFolder spot) reply h = cc
folders_left n p (MoveFolder from to) reply h = cc
folders_left n p (RemoveFolder spot) reply h = cc
folders_left n p (Open spot which) (Opened handle) h = refl
folders_left n p (OpenArea area) (Opened handle) h = refl
folders_left n p request (Opened handle) h = refl
folders_left n p (Begin intent) Done h = refl
folders_left n p (TryLock handle mode) Done h = refl
folders_left n p (Close handle) Done h = refl
folders_left n p Finish Done h = refl
folders_left n p Kill Done h = refl
folders_left n p request Done h = refl
folders_left n p request reply h = refl

entries_left : (n : Namespace) (es : List TreeEntry) (request : Request) (reply : Reply) → leaves_store request ≡ true →
    entries_kept n es request reply ++ option_to_list (entry_made n request reply) ≡ es
entries_left n es (MakeDirIn inner) reply h = cc
entries_left n es (MakeFileIn inner) reply h = cc
entries_left n es (AppendIn inner piece) reply h = cc
entries_left n es (RemoveFileIn inner) reply h = cc
entries_left n es (RemoveDirIn inner) reply h = cc
entries_left n es request reply h = append-nil es

kill_leaves : (request : Request) → is_kill request ≡ true → leaves_store request ≡ true
kill_leaves Kill h = refl
kill_leaves request h = cc

-- reads and listings leave all
pub reads_leave : (request : Request) → reads_images request ≡ true → leaves_store request ≡ true
reads_leave (ReadIn inner at room) h = refl
reads_leave (ListIn inner) h = refl
reads_leave (ListArea area) h = refl
reads_leave request h = cc

module _ (asks : Request → Bool) (leaves : (request : Request) → asks request ≡ true → leaves_store request ≡ true) (me : ℕ) where
  own_leaves : (e : Event) → e.process ≡ me → (is_foreign me e || asks e.request) ≡ true → leaves_store e.request ≡ true
  own_leaves e mine asked = by (is_kill e.request) refl (ap (λ (q : ℕ). (not (q == me) || is_kill e.request) || asks e.request) (sym mine) ∙ asked)
    where
      by : (k : Bool) → is_kill e.request ≡ k → ((not (me == me) || is_kill e.request) || asks e.request) ≡ true → leaves_store e.request ≡ true
      by true kill h = kill_leaves e.request kill
      by false alive h =
          let x : (not (me == me) || is_kill e.request) ≡ false = rw (same_self me) alive in
          leaves e.request (ap (λ b. b || asks e.request) (sym x) ∙ h)

  same_along : (s : DirState) (es : List Event) → AllByRecursion (λ e. e.process ≡ me) es →
      AllByRecursion (λ e. (is_foreign me e || asks e.request) ≡ true) es → SameStore s (states_next s es)
  same_along s [] own asked = record { folders = refl; entries = refl }
  same_along s (e ∷ es) own asked =
      let left = own_leaves e own.0 asked.0 in
      let rest = same_along (state_next s e) es own.1 asked.1 in
      record {
        folders = rest.folders ∙ folders_left s.namespace e.process e.request e.reply left;
        entries = rest.entries ∙ entries_left s.namespace s.entries e.request e.reply left;
      }

  -- what held at an own step and is so of any state with that store was so before
  quiet_at : {old new : List Event} (P : DirState → Type 0) → ((s t : DirState) → SameStore s t → P t → P s) → Extends asks me old new →
      Quiet me old new → AtOwnStep me old new P → P (state_after old)
  quiet_at {old} {new} P back e quiet at =
      let es : List Event = at.later ++ at.step ∷ [] in
      let whole : new ≡ old ++ (es ++ at.rest) =
      at.ends ∙ (ap (λ (h : List Event). (h ++ at.step ∷ []) ++ at.rest) at.begins ∙ simp append_assoc) in
      let own : AllByRecursion (λ e. e.process ≡ me) es =
      all_left (λ e. e.process ≡ me) es at.rest
      (subst (λ (l : List Event). AllByRecursion (λ e. e.process ≡ me) l) (same_rest old quiet.more (es ++ at.rest) (sym quiet.grown ∙ whole)) quiet.own) in
      let asked : AllByRecursion (λ e. (is_foreign me e || asks e.request) ≡ true) es =
      all_left (λ e. (is_foreign me e || asks e.request) ≡ true) es at.rest
      (subst (λ (l : List Event). AllByRecursion (λ e. (is_foreign me e || asks e.request) ≡ true) l)
      (same_rest old e.more (es ++ at.rest) (sym e.grown ∙ whole)) e.asked) in
      let here : state_after (at.before ++ at.step ∷ []) ≡ states_next (state_after old) es =
      ap (λ (h : List Event). state_after (h ++ at.step ∷ [])) at.begins
      ∙ (ap state_after (append_assoc old at.later (at.step ∷ [])) ∙ states_next-append empty_state old es) in
      back (state_after old) (states_next (state_after old) es) (same_along (state_after old) es own asked) (subst P here at.holds)

  -- so the images stay as they are
  pub images_stay : {old new : List Event} → Extends asks me old new → Quiet me old new → ImagesStay old new
  images_stay {old} {new} e quiet more rest is =
      let whole : new ≡ old ++ (more ++ rest) = is ∙ append_assoc old more rest in
      let own : AllByRecursion (λ e. e.process ≡ me) more =
      all_left (λ e. e.process ≡ me) more rest
      (subst (λ (l : List Event). AllByRecursion (λ e. e.process ≡ me) l) (same_rest old quiet.more (more ++ rest) (sym quiet.grown ∙ whole)) quiet.own) in
      let asked : AllByRecursion (λ e. (is_foreign me e || asks e.request) ≡ true) more =
      all_left (λ e. (is_foreign me e || asks e.request) ≡ true) more rest
      (subst (λ (l : List Event). AllByRecursion (λ e. (is_foreign me e || asks e.request) ≡ true) l)
      (same_rest old e.more (more ++ rest) (sym e.grown ∙ whole)) e.asked) in
      let same = same_along (state_after old) more own asked in
      subst (λ (t : DirState). SameImages (state_after old) t) (sym (states_next-append empty_state old more)) (record {
        places = λ spot is. ap (λ (places : List (Option Spot)). position (is_at spot) places) same.folders;
        trees = λ spot folder is there. ap (entries_in folder) same.entries;
      })

-- what stands so in one state does in each with that store
module _ (s t : DirState) (same : SameStore s t) where
  same_at : (spot : Spot) → folder_at t.namespace spot ≡ folder_at s.namespace spot
  same_at spot = ap (λ (places : List (Option Spot)). position (is_at spot) places) same.folders

  same_file : (inner : Inner) → file_at t inner ≡ file_at s inner
  same_file inner =
      ap (bytes_in t.entries inner.path) (same_at inner.spot)
      ∙ ap (λ (es : List TreeEntry). bytes_in es inner.path (folder_at s.namespace inner.spot)) same.entries

  file_back : (key : StoreKey) (name : List ℕ) (P : List ℕ → Type 0) → HasFile key name P t → HasFile key name P s
  file_back key name P f = record { bytes = f.bytes; there = sym (same_file (image_inner key name)) ∙ f.there; holds = f.holds }

  mark_back : (folder moment : ℕ) → HasMark folder moment t → HasMark folder moment s
  mark_back folder moment m = record {
    name = m.name;
    is = m.is;
    there = subst (λ (es : List TreeEntry). has_direct (entries_in folder es) m.name ≡ true) same.entries m.there;
  }

  mark_on : (folder moment : ℕ) → HasMark folder moment s → HasMark folder moment t
  mark_on folder moment m = record {
    name = m.name;
    is = m.is;
    there = subst (λ (es : List TreeEntry). has_direct (entries_in folder es) m.name ≡ true) (sym same.entries) m.there;
  }

  image_back : (image : Stored) → StandsWithItsFiles image t → StandsWithItsFiles image s
  image_back image h = record {
    folder = h.folder;
    here = sym (same_at (image_spot image.key)) ∙ h.here;
    manifest = file_back image.key manifest_name _ h.manifest;
    id = file_back image.key id_name _ h.id;
    mark = mark_back h.folder image.moment h.mark;
    newest = λ moment m. h.newest moment (mark_on h.folder moment m);
  }

  all_back : (images : List Stored) → StandTogether images t → StandTogether images s
  all_back images h = all_weaker (λ image. StandsWithItsFiles image t) (λ image. StandsWithItsFiles image s) image_back images h

  whole_back : (ks : List StoreKey) → AreAll ks t → AreAll ks s
  whole_back ks h key are there = h key are (there.0, same_at (image_spot key) ∙ there.1)

-- by requests of which none changes the store
pub quiet_store : {images : List Stored} {me : ℕ} {old new : List Event} (asks : Request → Bool) →
    ((request : Request) → asks request ≡ true → leaves_store request ≡ true) → StoodTogether images me old new → Extends asks me old new →
    Quiet me old new → AreStore images (state_after old)
quiet_store {images} {me} {old} {new} asks leaves t e quiet = record {
  together = quiet_at asks leaves me (StandTogether images) (λ s u same h. all_back s u same images h) e quiet t.stood;
  all = quiet_at asks leaves me (AreAll (keys images)) (λ s u same h. whole_back s u same (keys images) h) e quiet
      (at_within [] (t.stood.step ∷ t.stood.rest) (sym (append-nil old)) (t.stood.ends ∙ append_assoc t.stood.before (t.stood.step ∷ []) t.stood.rest) t.listed);
  rise = t.rise;
}
