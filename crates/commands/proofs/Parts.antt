-- What was read of the images in a part of a time was read in the whole.
use Rattle.std.proofs.Common.{◌≡◌, inl, inr, ℕ, List, ◌++◌, ap, subst, ◌∙◌, append_assoc}
use Rattle.ac_types.specs.declared.store_key.StoreKey.{StoreKey}
use Rattle.dep_match.specs.declared.stored.Stored.{Stored}
use Rattle.dir_model.specs.declared.event.Event.{Event}
use Rattle.dir_model.specs.declared.item.Inner.{Inner}
use Rattle.dir_model.specs.Calls.{AtOwnStep}
use Rattle.dir_model.specs.State.{DirState}
use Rattle.dir_model.proofs.Lists.{all_weaker}
use Rattle.dir_model.proofs.Moments.{at_within}
use Rattle.dir_trait.specs.DirCalls.{DirAt, HeldBetween}
use Rattle.image_reading.specs.declared.error.StoreError.TheVariants.{Damaged}
use Rattle.image_reading.specs.Within.{Within}
use Rattle.image_reading.specs.Places.{image_inner, manifest_name, id_name, IsImageAbsent}
use Rattle.image_reading.specs.Files.{ReadsFile, LacksFile, ShowsImportMarks, LacksMoment, IsNoImageManifest, IsNoId, most_of_id}
use Rattle.image_reading.specs.Images.{ReadsImage, LacksImage}
use Rattle.image_reading.specs.Store.{ReadsStore, LacksListed}
use Rattle.manifests.specs.ManifestSize.{most_of_manifest}

-- the time between the inner two moments is a part of that between the outer two
pub record Part (old first last new : DirAt) : Type 0 where
  pub earlier : List Event
  pub later : List Event
  pub same : first.process ≡ old.process
  pub begins : first.trace ≡ old.trace ++ earlier
  pub ends : new.trace ≡ last.trace ++ later

module _ {old first last new : DirAt} (p : Part old first last new) where
  pub within_wider : {R : DirAt → DirAt → Type 0} → Within R first last → Within R old new
  within_wider w = record {
    first = w.first;
    last = w.last;
    earlier = p.earlier ++ w.earlier;
    later = w.later ++ p.later;
    same = w.same ∙ p.same;
    begins = w.begins ∙ (ap (λ h. h ++ w.earlier) p.begins ∙ append_assoc old.trace p.earlier w.earlier);
    ends = p.ends ∙ (ap (λ h. h ++ p.later) w.ends ∙ append_assoc w.last.trace w.later p.later);
    told = w.told;
  }

  pub held_wider : (P : DirState → Type 0) → HeldBetween first last P → HeldBetween old new P
  held_wider P held = at_within {P = P} p.earlier p.later p.begins p.ends (subst (λ (me : ℕ). AtOwnStep me first.trace last.trace P) p.same held)

  pub file_wider : {inner : Inner} {most : ℕ} {P : List ℕ → Type 0} → ReadsFile inner most P first last → ReadsFile inner most P old new
  file_wider r = record { bytes = r.bytes; few = r.few; read = within_wider r.read; holds = r.holds }

  pub lack_wider : (inner : Inner) (most : ℕ) (P : List ℕ → Type 0) → LacksFile inner most P first last → LacksFile inner most P old new
  lack_wider inner most P (inl missing) = inl (held_wider _ missing)
  lack_wider inner most P (inr read) = inr (file_wider read)

  marks_wider : {key : StoreKey} {P : List ℕ → Type 0} → ShowsImportMarks key P first last → ShowsImportMarks key P old new
  marks_wider r = record { items = r.items; shown = within_wider r.shown; holds = r.holds }

  moment_wider : (key : StoreKey) → LacksMoment key first last → LacksMoment key old new
  moment_wider key (inl absent) = inl (held_wider (IsImageAbsent key) absent)
  moment_wider key (inr none) = inr (marks_wider none)

  image_wider : (image : Stored) → ReadsImage image first last → ReadsImage image old new
  image_wider image r = record { manifest = file_wider r.manifest; id = file_wider r.id; moment = marks_wider r.moment }

  image_lack_wider : (key : StoreKey) (path : List ℕ) → LacksImage key (Damaged path) first last → LacksImage key (Damaged path) old new
  image_lack_wider key path (inl x) = inl (x.0, lack_wider (image_inner key manifest_name) most_of_manifest IsNoImageManifest x.1)
  image_lack_wider key path (inr (inl x)) = inr (inl (x.0, (x.1.0, file_wider x.1.1), lack_wider (image_inner key id_name) most_of_id (IsNoId key) x.2))
  image_lack_wider key path (inr (inr x)) = inr (inr (x.0, (x.1.0, file_wider x.1.1), (x.2.0, file_wider x.2.1), moment_wider key x.3))

  pub store_wider : (images : List Stored) → ReadsStore images first last → ReadsStore images old new
  store_wider images r = record {
    names = r.names;
    ordered = r.ordered;
    shown = within_wider r.shown;
    read = record { of_names = r.read.of_names; each = all_weaker (λ x. ReadsImage x first last) (λ x. ReadsImage x old new) image_wider images r.read.each };
  }

  pub lacks_wider : (path : List ℕ) → LacksListed (Damaged path) first last → LacksListed (Damaged path) old new
  lacks_wider path l = record {
    names = l.names;
    ordered = l.ordered;
    shown = within_wider l.shown;
    first = record {
      before = l.first.before;
      key = l.first.key;
      after = l.first.after;
      is = l.first.is;
      earlier = all_weaker (λ x. ReadsImage x first last) (λ x. ReadsImage x old new) image_wider l.first.before l.first.earlier;
      lacks = image_lack_wider l.first.key path l.first.lacks;
    };
  }
