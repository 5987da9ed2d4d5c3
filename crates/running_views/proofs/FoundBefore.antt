-- Where nobody else steps, the pod that is found for a token is one that the state before has.
use Rattle.std.proofs.Common.{arith, ◌≡◌, inl, inr, ℕ, true, Option, Some, None, List, [], ◌∷◌, ◌++◌, length, refl, sym, ap, subst, ◌∙◌}
use Rattle.hex.specs.Hex.{encode_lower}
use Rattle.ac_types.specs.Outcomes.{reads}
use Rattle.manifests.specs.PodData.{PodData}
use Rattle.manifests.specs.PodForm.{pod_manifest}
use Rattle.dir_model.specs.declared.pod.PodId.{PodId}
use Rattle.dir_model.specs.State.{DirState}
use Rattle.dir_model.specs.Trace.{state_after}
use Rattle.dir_trait.specs.DirCalls.{DirAt}
use Rattle.pod_files.specs.Files.{IsManifestOf, IsNoManifest, ReadsNoPodManifest, most_of_token}
use Rattle.pod_files.specs.Places.{pod_file, pod_manifest_name, token_name}
use Rattle.pod_report.specs.Requests.{OnlyAsksFor}
use Rattle.pod_report.proofs.Reading.{same_reading}
use Rattle.pod_report.proofs.QuietLines.{file_stands}
use Rattle.metadata_reply.specs.Views.{ViewData, HasReading}
use Rattle.metadata.specs.Looks.{looks_in_run}
use Rattle.metadata.specs.PodViews.{app_names, image_path, ReadsAppImages, LacksSomeImage, HasOtherDigits, HasNoView, IsViewOf, FindsPodByToken}
use Rattle.running_views.specs.Laws.{ReadsUndisturbed}
use Rattle.running_views.specs.Views.{HasImageIn, HaveImagesIn, IsViewIn, FindsIn}
use Rattle.running_views.proofs.Limits.{short_image, whole_image, digits_length, short_token, whole_token}
use Rattle.running_views.proofs.QuietReads.{front_before, lacks_not}
use Rattle.running_views.proofs.Running.{runs_before, stopped_before}
use Rattle.manifests.specs.ManifestSize.{most_of_manifest}

pub some_same : (x y : List ℕ) → Some x ≡ Some y → x ≡ y
some_same x y is = cc

pub reads_same : (x y : PodData) → reads x ≡ reads y → x ≡ y
reads_same x y is = cc

-- each of the apps has an image
image_among : (s : DirState) (pod : PodId) (earlier : List (List ℕ)) (app : List ℕ) (later images : List (List ℕ)) → HaveImagesIn s pod (earlier ++ app ∷ later) images → (image : List ℕ) × HasImageIn s pod app image
image_among s pod [] app later [] are = absurd are
image_among s pod [] app later (image ∷ images) are = (image, are.0)
image_among s pod (first ∷ earlier) app later [] are = absurd are
image_among s pod (first ∷ earlier) app later (image ∷ images) are = image_among s pod earlier app later images are.1

module _ {old new : DirAt} (only : OnlyAsksFor true looks_in_run old new) (alone : ReadsUndisturbed old new) (pod : PodId) where
  abbrev before : DirState
  before = state_after old.trace

  images_before : (apps images : List (List ℕ)) → ReadsAppImages pod apps images old new → HaveImagesIn before pod apps images
  images_before [] [] are = tt
  images_before [] (image ∷ images) are = absurd are
  images_before (app ∷ apps) [] are = absurd are
  images_before (app ∷ apps) (image ∷ images) are =
      let f = front_before only alone (pod_file pod (image_path app)) most_of_manifest (λ bytes. (bytes ≡ image) × HasReading bytes) refl (omega arith) are.0 in
      let same : f.0 ≡ image = sym (whole_image f.0 f.2.1) ∙ f.2.0 in
      ((f.1 ∙ ap Some same, subst HasReading f.2.0 f.2.1), images_before apps images are.1)

  view_before : (digits : List ℕ) (v : ViewData) → length digits ≡ 32 → IsViewOf pod digits v old new → IsViewIn before pod digits v
  view_before digits v long is =
      let t = front_before only alone (pod_file pod token_name) most_of_token (λ bytes. bytes ≡ digits) refl (omega arith) is.named in
      let m = front_before only alone (pod_file pod pod_manifest_name) most_of_manifest (IsManifestOf v.manifest) refl (omega arith) is.files.manifest in
      record {
        token = t.1 ∙ ap Some (whole_token t.0 digits long t.2);
        runs = runs_before only alone pod is.running (file_stands before (pod_file pod token_name) t.0 t.1);
        uuid = is.files.uuid;
        manifest = record { bytes = m.0; there = m.1; is = sym (same_reading m.0) ∙ m.2 };
        images = images_before (app_names v.manifest) v.images is.files.images;
      }

  module _ (digits : List ℕ) (v : ViewData) (x : IsViewIn before pod digits v) where
    not_other : length digits ≡ 32 → HasOtherDigits pod digits old new → ⊥
    not_other long other =
        lacks_not only alone (pod_file pod token_name) most_of_token (λ bytes. bytes ≡ digits → ⊥) refl (omega arith) digits x.token
        (λ lacking. lacking (short_token digits digits long refl)) other

    not_bare : ReadsNoPodManifest pod old new → ⊥
    not_bare lacks =
        lacks_not only alone (pod_file pod pod_manifest_name) most_of_manifest IsNoManifest refl (omega arith) x.manifest.bytes x.manifest.there
        (λ lacking. lacking v.manifest (same_reading x.manifest.bytes ∙ x.manifest.is)) lacks

    not_partly : LacksSomeImage pod old new → ⊥
    not_partly l =
        let m = front_before only alone (pod_file pod pod_manifest_name) most_of_manifest (IsManifestOf l.manifest) refl (omega arith) l.read in
        let file : m.0 ≡ x.manifest.bytes = some_same m.0 x.manifest.bytes (sym m.1 ∙ x.manifest.there) in
        let same : l.manifest ≡ v.manifest =
        reads_same l.manifest v.manifest (sym m.2 ∙ (same_reading m.0 ∙ (ap pod_manifest file ∙ x.manifest.is))) in
        let among : app_names v.manifest ≡ l.lacks.before ++ l.lacks.app ∷ l.lacks.after = ap app_names (sym same) ∙ l.lacks.among in
        let i = image_among before pod l.lacks.before l.lacks.app l.lacks.after v.images
        (subst (λ (apps : List (List ℕ)). HaveImagesIn before pod apps v.images) among x.images) in
        lacks_not only alone (pod_file pod (image_path l.lacks.app)) most_of_manifest (λ bytes. HasReading bytes → ⊥) refl (omega arith) i.0 i.1.0
        (λ lacking. lacking (subst HasReading (sym (short_image i.0 i.1.1)) i.1.1)) l.lacks.lacks

    no_view : length digits ≡ 32 → HasNoView pod digits old new → ⊥
    no_view long (inl stopped) = stopped_before only alone pod stopped x.runs
    no_view long (inr (inl other)) = not_other long other
    no_view long (inr (inr (inl bare))) = not_bare bare
    no_view long (inr (inr (inr partly))) = not_partly partly

pub found_before : {old new : DirAt} → OnlyAsksFor true looks_in_run old new → ReadsUndisturbed old new → (token : List ℕ) (found : Option ViewData) → length token ≡ 16 → FindsPodByToken token found old new → FindsIn (state_after old.trace) token found
found_before only alone token (Some v) long x = (x.0, view_before only alone x.0 (encode_lower token) v (digits_length token long) x.1)
found_before only alone token None long none = λ pod v named view. no_view only alone pod (encode_lower token) v view (digits_length token long) (none pod named)
