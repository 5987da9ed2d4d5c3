-- The elements of both manifests are read again from what is written for them.
use Rattle.std.proofs.Common.{◌≡◌, ℕ, List, [], map, None, codes, refl, ap}
use Rattle.serde_json.specs.Data.{string, object}
use Rattle.ac_types.specs.FieldForms.{filled, default, list}
use Rattle.ac_types.specs.Ids.{id_text}
use Rattle.ac_types.specs.Outcomes.{reads, ◌>>=◌}
use Rattle.ac_types.specs.declared.label.Label.{Label}
use Rattle.ac_types.proofs.IdTexts.{text_read}
use Rattle.app_section.specs.Objects.{Field, written, if_filled}
use Rattle.app_section.proofs.Fields.{value_of, found, IsWholeField, required_again, optional_again, filled_again, members_are_whole, filled_is_whole, optional_is_whole}
use Rattle.app_section.proofs.Readings.{Rereads, then_reads, all_again}
use Rattle.app_section.proofs.Texts.{filled_reads, filled_identifier_again, identifier_again, whole_again}
use Rattle.manifest_parts.specs.AnnotationForm.{annotation}
use Rattle.manifest_parts.specs.DependencyForm.{dependency}
use Rattle.manifest_parts.specs.HeadForms.{ac_version}
use Rattle.manifest_parts.specs.IdForms.{if_id, image_id, filled_id}
use Rattle.manifest_parts.specs.LabelsForm.{label, labels_of, if_standing}
use Rattle.manifest_parts.specs.PartRules.{IsVersion, IsImageId, IsLabel, AreLabels, IsAnnotation, IsDependency, IsRuntimeImage}
use Rattle.manifest_parts.specs.RuntimeImageForm.{runtime_image}
use Rattle.manifest_parts.proofs.Versions.{version_again, version_filled}
use Rattle.manifests.specs.ElementObjects.{annotation_fields, annotation_object, dependency_fields, dependency_object, id_data, label_fields, label_object, runtime_image_fields, runtime_image_object}

pub ac_version_again : Rereads IsVersion ac_version string
ac_version_again = record {
  law = λ at t is. then_reads _ _ t t (filled_reads at t (version_filled t is)) (version_again at t is);
  shown = λ t is. refl;
  whole = λ t is. refl;
}

-- ---- image IDs

id_again : Rereads IsImageId image_id id_data
id_again = record { law = λ at id is. ap (if_id at) (text_read 64 id.bytes is); shown = λ id is. refl; whole = λ id is. refl }

id_filled : (at bytes : List ℕ) → filled at (id_text bytes) ≡ reads (id_text bytes)
unfolding id_text
id_filled at bytes = refl

filled_id_again : Rereads IsImageId filled_id id_data
filled_id_again = record {
  law = λ at id is. then_reads _ _ (id_text id.bytes) id (id_filled at id.bytes) (ap (if_id at) (text_read 64 id.bytes is));
  shown = λ id is. refl;
  whole = λ id is. refl;
}

-- ---- labels

label_again : Rereads IsLabel label label_object
unfolding label label_object
label_again = record {
  law = λ at l is.
      then_reads _ _ _ _ (required_again filled_identifier_again at (codes "name") (label_fields l) l.name refl is) refl;
  shown = λ l is. refl;
  whole = λ l is. refl;
}

labels_read : (at : List ℕ) (ls : List Label) → AreLabels ls → labels_of at (map label_object ls) ≡ reads ls
unfolding labels_of
labels_read at ls are = then_reads _ _ ls ls (all_again label_again at ls are.each) (ap (if_standing at ls) are.together)

pub labels_again : (at : List ℕ) (fields : List Field) (ls : List Label) → value_of (codes "labels") fields ≡ found (if_filled label_object ls) None
    → AreLabels ls → default [] (λ p d. list p d >>= labels_of p) at (codes "labels") (object (written fields)) ≡ reads ls
labels_again at fields ls there are =
    filled_again labels_of label_object at (codes "labels") fields ls there (λ path. labels_read path ls are)

pub labels_are_whole : (ls : List Label) → AreLabels ls → IsWholeField (if_filled label_object ls)
labels_are_whole ls are = filled_is_whole label_again ls are.each

-- ---- elements

pub annotation_again : Rereads IsAnnotation annotation annotation_object
unfolding annotation annotation_object
annotation_again = record {
  law = λ at a is.
      then_reads _ _ _ _ (required_again filled_identifier_again at (codes "name") (annotation_fields a) a.name refl is) refl;
  shown = λ a is. refl;
  whole = λ a is. refl;
}

pub dependency_again : Rereads IsDependency dependency dependency_object
unfolding dependency dependency_object
dependency_again = record {
  law = λ at d is.
      let fields = dependency_fields d in
      then_reads _ _ _ _ (required_again filled_identifier_again at (codes "imageName") fields d.image_name refl is.named)
      (then_reads _ _ _ _ (optional_again id_again at (codes "imageID") fields d.image_id refl is.id)
      (then_reads _ _ _ _ (labels_again at fields d.labels refl is.labelled)
      (then_reads _ _ _ _ (optional_again (whole_again 18446744073709551615) at (codes "size") fields d.size refl is.sized) refl)));
  shown = λ d is. refl;
  whole = λ d is.
      let id = optional_is_whole id_again d.image_id is.id in
      let size = optional_is_whole (whole_again 18446744073709551615) d.size is.sized in
      members_are_whole (dependency_fields d) (id, (refl, (labels_are_whole d.labels is.labelled, (size, tt))));
}

pub runtime_image_again : Rereads IsRuntimeImage runtime_image runtime_image_object
unfolding runtime_image runtime_image_object
runtime_image_again = record {
  law = λ at i is.
      let fields = runtime_image_fields i in
      then_reads _ _ _ _ (required_again filled_id_again at (codes "id") fields i.id refl is.known)
      (then_reads _ _ _ _ (optional_again identifier_again at (codes "name") fields i.name refl is.named)
      (then_reads _ _ _ _ (labels_again at fields i.labels refl is.labelled) refl));
  shown = λ i is. refl;
  whole = λ i is.
      let name = optional_is_whole identifier_again i.name is.named in
      members_are_whole (runtime_image_fields i) (refl, (labels_are_whole i.labels is.labelled, (name, tt)));
}
