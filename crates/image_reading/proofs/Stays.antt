-- A file that stays there while it is read.
use Rattle.std.proofs.Common.{◌≡◌, ℕ, false, Some, List, [], ◌∷◌, ◌++◌, take, append_assoc, sym, ap, subst, ◌∙◌}
use Rattle.dir_model.specs.declared.event.Event.{Event}
use Rattle.dir_model.specs.declared.item.Inner.{Inner}
use Rattle.dir_model.specs.Trace.{state_after}
use Rattle.dir_model.specs.Replies.{is_apps_inner}
use Rattle.dir_model.specs.Calls.{is_foreign}
use Rattle.dir_trait.specs.DirCalls.{DirAt}
use Rattle.dir_files.specs.Reads.{file_at, FileStaysBetween}
use Rattle.dir_files.proofs.Reading.{stays_whole}
use Rattle.image_reading.specs.Within.{Within}
use Rattle.image_reading.specs.Files.{ReadsFile}

-- it stays there in a part of the time too
module _ {R : DirAt → DirAt → Type 0} {old new : DirAt} (w : Within R old new) (inner : Inner) (file : List ℕ) (s : FileStaysBetween inner file old new) where
  stays_within : FileStaysBetween inner file w.first w.last
  stays_within later rest step is own =
      let here : w.first.trace ++ later ≡ old.trace ++ (w.earlier ++ later) = ap (λ h. h ++ later) w.begins ∙ append_assoc old.trace w.earlier later in
      let whole : new.trace ≡ ((old.trace ++ (w.earlier ++ later)) ++ step ∷ []) ++ (rest ++ w.later) = w.ends ∙ (ap (λ h. h ++ w.later) (is ∙ ap (λ h. (h ++ step ∷ []) ++ rest) here) ∙ append_assoc ((old.trace ++ (w.earlier ++ later)) ++ step ∷ []) rest w.later) in
      subst (λ (h : List Event). (is_apps_inner (state_after (h ++ step ∷ [])) (Some inner) ≡ false) × (file_at (state_after (h ++ step ∷ [])) inner ≡ Some file)) (sym here)
      (s (w.earlier ++ later) (rest ++ w.later) step whole (subst (λ (p : ℕ). is_foreign p step ≡ false) w.same own))

-- what was read is that file, or its first bytes
pub file_whole : {inner : Inner} {most : ℕ} {P : List ℕ → Type 0} {old new : DirAt} → ReadsFile inner most P old new → (file : List ℕ) → FileStaysBetween inner file old new → P (take most file)
file_whole {inner} {most} {P} {old} {new} r file s = subst P (stays_whole file r.read.told r.few (stays_within r.read inner file s)) r.holds
