-- Up to the last own event of a stretch under the gate images stay, and what was read of a file is the file that stands then.
use Rattle.std.proofs.Common.{◌≡◌, ◌<◌, ℕ, Bool, true, false, ◌||◌, Option, Some, None, List, [], ◌∷◌, ◌++◌, take, append_assoc, append-nil, refl, sym, ap, subst, ◌∙◌}
use Rattle.std.specs.List.{AllByRecursion}
use Rattle.ac_types.specs.declared.store_key.StoreKey.{StoreKey}
use Rattle.dir_model.specs.declared.area.Area.TheVariants.{Images}
use Rattle.dir_model.specs.declared.event.Event.{Event}
use Rattle.dir_model.specs.declared.request.Request.{Request}
use Rattle.dir_model.specs.declared.spot.Spot.{Spot}
use Rattle.dir_model.specs.State.{folder_at}
use Rattle.dir_model.specs.Trace.{state_after}
use Rattle.dir_model.specs.Calls.{AtOwnStep, is_foreign}
use Rattle.dir_model.proofs.Lists.{all_left, same_rest}
use Rattle.dir_rules.specs.declared.seen.Seen.{Seen}
use Rattle.dir_rules.specs.Standing.{is_in}
use Rattle.dir_trait.specs.DirCalls.{DirAt}
use Rattle.dir_files.specs.Reads.{inner_at, bytes_in, file_at, TellsFile, IsPiece, AreTold}
use Rattle.folder_contents.specs.Entries.{entries_in}
use Rattle.folder_contents.specs.UnderGate.{keeps_handles, shares_images, KnowsAlong}
use Rattle.gate_reading.specs.Gate.{HasGate, GoesOnUnderLock}
use Rattle.gate_reading.specs.Files.{is_outside_stage1}
use Rattle.gate_reading.proofs.OwnSteps.{knows_to, stays_after}
use Rattle.gate_reading.proofs.GoingOn.{lived_at_first, has_gate}
use Rattle.gate_reading.proofs.PlainPaths.{plain_own}
use Rattle.gate_reading.proofs.StoredFiles.{same_file}
use Rattle.image_reading.specs.Places.{image_inner, image_spot}
use Rattle.image_reading.specs.Files.{ReadsFile}
use Rattle.standing_images.proofs.LastSteps.{LastOwn}
use Rattle.standing_images.proofs.Pieces.{all_told, is_front}

module _ {asks : Request → Bool} {s : Seen} {old new : DirAt} (g : GoesOnUnderLock asks s old new) (l : LastOwn old.process g.extends.more) where
  abbrev pub me : ℕ
  me = old.process

  abbrev pub stretch : List Event
  stretch = l.before ++ l.step ∷ []

  abbrev pub end : List Event
  end = (old.trace ++ l.before) ++ l.step ∷ []

  pub whole : new.trace ≡ ((old.trace ++ l.before) ++ l.step ∷ []) ++ l.rest
  whole = g.extends.grown ∙ (ap (λ (h : List Event). old.trace ++ h) l.is ∙ simp append_assoc)

  abbrev Keeps : List Event → Type 0
  Keeps es = AllByRecursion (λ e. (is_foreign me e || keeps_handles e.request) ≡ true) es

  pub gate_to : HasGate me old.trace stretch
  gate_to =
      let h = has_gate g (lived_at_first g l.before l.rest l.step whole l.own) in
      record {
        shares = h.shares;
        keeps = all_left (λ e. (is_foreign me e || keeps_handles e.request) ≡ true) stretch l.rest
            (subst (λ (es : List Event). Keeps es) l.is h.keeps);
      }

  -- the process has the gate all along
  pub knows_all : KnowsAlong shares_images me old.trace stretch
  knows_all = knows_to new.trace g.conforms me old.trace l.before l.rest l.step whole l.own gate_to

  abbrev pub StandsAt : List Event → List Event → Spot → ℕ → Type 0
  StandsAt first last spot folder =
      (folder_at (state_after last).namespace spot ≡ Some folder) ×
      (entries_in folder (state_after last).entries ≡ entries_in folder (state_after first).entries)

  -- an image that stands at a moment of the stretch stands at its end, and holds the same
  pub stays_on : (u v : List Event) → stretch ≡ u ++ v → (spot : Spot) (folder : ℕ) → is_in Images spot.area ≡ true →
      folder_at (state_after (old.trace ++ u)).namespace spot ≡ Some folder → StandsAt (old.trace ++ u) end spot folder
  stays_on u v split spot folder is at =
      let here = stays_after new.trace g.conforms me old.trace l.before l.rest l.step whole l.own gate_to u v split spot folder is at
      v [] (sym (append-nil v)) in
      let ends : (old.trace ++ u) ++ v ≡ end =
      append_assoc old.trace u v
      ∙ (ap (λ (h : List Event). old.trace ++ h) (sym split) ∙ sym (append_assoc old.trace l.before (l.step ∷ []))) in
      subst (λ (h : List Event). StandsAt (old.trace ++ u) h spot folder) ends here

  -- an own event lies in the stretch
  pub up_to : (u v : List Event) (e : Event) → new.trace ≡ (old.trace ++ u) ++ e ∷ v → is_foreign me e ≡ false →
      (w : List Event) × (stretch ≡ u ++ e ∷ w)
  up_to u v e is own =
      l.covers u v e (same_rest old.trace g.extends.more (u ++ e ∷ v) (sym g.extends.grown ∙ (is ∙ append_assoc old.trace u (e ∷ v)))) own

  module _ (spot : Spot) (path : List ℕ) (is : is_in Images spot.area ≡ true) (plain : is_outside_stage1 path ≡ true) where
    abbrev last_file : Option (List ℕ)
    last_file = file_at (state_after end) (inner_at spot path)

    -- what an own step told of a file that stood there is so of the file at the end
    told_last : (P : Option (List ℕ) → Type 0) → (P None → ⊥) → AtOwnStep me old.trace new.trace (TellsFile (inner_at spot path) P) →
        P last_file
    told_last P never at = by (folder_at (state_after here).namespace spot) refl
      where
        here : List Event
        here = at.before ++ at.step ∷ []

        told : P (file_at (state_after here) (inner_at spot path))
        told = at.holds (plain_own here (inner_at spot path) plain)

        u : List Event
        u = at.later ++ at.step ∷ []

        place : here ≡ old.trace ++ u
        place = ap (λ (h : List Event). h ++ at.step ∷ []) at.begins ∙ append_assoc old.trace at.later (at.step ∷ [])

        after : (w : List Event) × (stretch ≡ at.later ++ at.step ∷ w)
        after = up_to at.later at.rest at.step
            (at.ends
            ∙ (ap (λ (h : List Event). (h ++ at.step ∷ []) ++ at.rest) at.begins
            ∙ append_assoc (old.trace ++ at.later) (at.step ∷ []) at.rest)) at.own

        by : (o : Option ℕ) → folder_at (state_after here).namespace spot ≡ o → P last_file
        by None none =
            absurd (never (subst P (ap (bytes_in (state_after here).entries path) none) told))
        by (Some folder) there =
            let stays = stays_on u after.0 (after.1 ∙ sym (append_assoc at.later (at.step ∷ []) after.0)) spot folder is
            (subst (λ (h : List Event). folder_at (state_after h).namespace spot ≡ Some folder) place there) in
            subst P (same_file (state_after here) (state_after end) (inner_at spot path) folder there stays.0
            (ap (λ (h : List Event). entries_in folder (state_after h).entries) place ∙ sym stays.1)) told

  -- what was read of a file of an image is the front of the file that stands there at the end
  pub file_front : (key : StoreKey) (name : List ℕ) (most : ℕ) (P : List ℕ → Type 0) → is_outside_stage1 name ≡ true → 0 < most →
      ReadsFile (image_inner key name) most P old new →
      (file : List ℕ) × (file_at (state_after end) (image_inner key name) ≡ Some file) × P (take most file)
  file_front key name most P plain some r =
      let w = r.read in
      let reads = w.told.reads in
      let told = subst (λ (p : ℕ). AreTold p (image_inner key name) w.first.trace reads.pieces w.last.trace) w.same reads.told in
      let f = is_front most r.bytes reads.pieces (file_at (state_after end) (image_inner key name)) some reads.whole r.few w.told.ended
      (all_told me (image_inner key name) old.trace new.trace (file_at (state_after end) (image_inner key name))
      (λ at room bytes step. told_last (image_spot key) name refl plain (IsPiece at room bytes) (λ none. none) step)
      w.first.trace w.earlier w.begins reads.pieces w.last.trace w.later w.ends told) in
      (f.file, f.is, subst P f.front r.holds)
