-- Where nobody else steps, what was read of a file is the front of the file that stood there before.
use Rattle.std.proofs.Common.{◌≡◌, ◌<◌, ◌⊎◌, inl, inr, ℕ, true, Option, Some, None, List, [], ◌∷◌, ◌++◌, take, refl, sym, ap, subst, ◌∙◌, append_assoc}
use Rattle.dir_model.specs.declared.event.Event.{Event}
use Rattle.dir_model.specs.declared.item.Inner.{Inner}
use Rattle.dir_model.specs.Calls.{AtOwnStep, Extends}
use Rattle.dir_model.specs.State.{DirState}
use Rattle.dir_model.specs.Trace.{state_after}
use Rattle.dir_model.proofs.Chains.{extends_wider}
use Rattle.dir_trait.specs.DirCalls.{DirAt}
use Rattle.dir_files.specs.Reads.{file_at, TellsFile, IsPiece, AreTold}
use Rattle.gate_reading.specs.Files.{is_outside_stage1}
use Rattle.gate_reading.proofs.PlainPaths.{plain_own}
use Rattle.image_reading.specs.Files.{ReadsFile, LacksFile}
use Rattle.pod_report.specs.Requests.{OnlyAsksFor}
use Rattle.pod_report.proofs.QuietSurvey.{is_calm, SameWorld, same_world}
use Rattle.standing_images.proofs.Pieces.{all_told, is_front}
use Rattle.metadata.specs.Looks.{looks_in_run}
use Rattle.metadata.proofs.Calm.{looks_calm}
use Rattle.running_views.specs.Laws.{ReadsUndisturbed}
use Rattle.pod_report.proofs.QuietLines.{same_file}

module _ {old new : DirAt} (only : OnlyAsksFor true looks_in_run old new) (alone : ReadsUndisturbed old new) where
  abbrev before : DirState
  before = state_after old.trace

  calm : Extends is_calm old.process old.trace new.trace
  calm = extends_wider looks_calm (only.extends refl)

  -- just after an event the world is as before
  pub world_at : (front : List Event) (step : Event) (later rest : List Event) → front ≡ old.trace ++ later → new.trace ≡ (front ++ step ∷ []) ++ rest → SameWorld old.process before (state_after (front ++ step ∷ []))
  world_at front step later rest begins ends =
      let here : front ++ step ∷ [] ≡ old.trace ++ (later ++ step ∷ []) = ap (λ h. h ++ step ∷ []) begins ∙ append_assoc old.trace later (step ∷ []) in
      subst (λ (h : List Event). SameWorld old.process before (state_after h)) (sym here) (same_world calm alone.quiet alone.idle (later ++ step ∷ []) rest (ends ∙ ap (λ h. h ++ rest) here))

  told_before : (inner : Inner) (P : Option (List ℕ) → Type 0) → is_outside_stage1 inner.path ≡ true → AtOwnStep old.process old.trace new.trace (TellsFile inner P) → P (file_at before inner)
  told_before inner P plain at =
      let w = world_at at.before at.step at.later at.rest at.begins at.ends in
      subst P (same_file w inner) (at.holds (plain_own (at.before ++ at.step ∷ []) inner plain))

  pub front_before : (inner : Inner) (most : ℕ) (P : List ℕ → Type 0) → is_outside_stage1 inner.path ≡ true → 0 < most → ReadsFile inner most P old new →
      (file : List ℕ) × (file_at before inner ≡ Some file) × P (take most file)
  front_before inner most P plain some r =
      let w = r.read in
      let reads = w.told.reads in
      let told = subst (λ (p : ℕ). AreTold p inner w.first.trace reads.pieces w.last.trace) w.same reads.told in
      let f = is_front most r.bytes reads.pieces (file_at before inner) some reads.whole r.few w.told.ended
      (all_told old.process inner old.trace new.trace (file_at before inner)
      (λ at room bytes step. told_before inner (IsPiece at room bytes) plain step)
      w.first.trace w.earlier w.begins reads.pieces w.last.trace w.later w.ends told) in
      (f.file, f.is, subst P f.front r.holds)

  lacks_before : (inner : Inner) (most : ℕ) (P : List ℕ → Type 0) → is_outside_stage1 inner.path ≡ true → 0 < most → LacksFile inner most P old new →
      (file_at before inner ≡ None) ⊎ ((file : List ℕ) × (file_at before inner ≡ Some file) × P (take most file))
  lacks_before inner most P plain some (inl missing) = inl (told_before inner (λ file. file ≡ None) plain missing)
  lacks_before inner most P plain some (inr read) = inr (front_before inner most P plain some read)

  -- a file that stood there before, and whose front doesn't lack this, wasn't found to
  pub lacks_not : (inner : Inner) (most : ℕ) (P : List ℕ → Type 0) → is_outside_stage1 inner.path ≡ true → 0 < most → (bytes : List ℕ) → file_at before inner ≡ Some bytes →
      (P (take most bytes) → ⊥) → LacksFile inner most P old new → ⊥
  lacks_not inner most P plain some bytes there holds lacks = by (lacks_before inner most P plain some lacks)
    where
      by : (file_at before inner ≡ None) ⊎ ((file : List ℕ) × (file_at before inner ≡ Some file) × P (take most file)) → ⊥
      by (inl none) = let clash : None ≡ Some bytes = sym none ∙ there in cc
      by (inr (file, is, lacking)) =
          let twice : Some file ≡ Some bytes = sym is ∙ there in
          let same : file ≡ bytes = cc in
          holds (subst (λ (l : List ℕ). P (take most l)) same lacking)
