-- What the forms of the elements of both manifests give.
use Rattle.std.proofs.Common.{◌≡◌, ℕ, List, [], Option, Some, None, codes, refl}
use Rattle.std.specs.List.{All}
use Rattle.std.proofs.lemmas.List.Elements.{All-nil}
use Rattle.serde_json.specs.Data.{Data}
use Rattle.ac_types.specs.FieldForms.{list, default}
use Rattle.ac_types.specs.Ids.{id_read}
use Rattle.ac_types.specs.Labels.{label_fault}
use Rattle.ac_types.specs.Outcomes.{◌>>=◌}
use Rattle.ac_types.specs.declared.label.Label.{Label}
use Rattle.ac_types.specs.declared.label.LabelFault.{LabelFault}
use Rattle.ac_types.proofs.IdTexts.{read_are}
use Rattle.app_section.proofs.Fields.{required_given, optional_given, default_given, list_given}
use Rattle.app_section.proofs.Readings.{GivesOnly, Gives, gives, gives_none, gives_then, gives_behind, all_given}
use Rattle.app_section.proofs.Texts.{text_given, filled_text_given, filled_identifier_given, identifier_given, whole_given}
use Rattle.manifest_parts.specs.AnnotationForm.{annotation}
use Rattle.manifest_parts.specs.DependencyForm.{dependency}
use Rattle.manifest_parts.specs.HeadForms.{ac_version}
use Rattle.manifest_parts.specs.IdForms.{if_id, image_id, filled_id}
use Rattle.manifest_parts.specs.LabelsForm.{label, labels_of, if_standing}
use Rattle.manifest_parts.specs.PartRules.{IsVersion, IsImageId, IsLabel, AreLabels, IsAnnotation, IsDependency, IsRuntimeImage}
use Rattle.manifest_parts.specs.RuntimeImageForm.{runtime_image}
use Rattle.manifest_parts.proofs.Versions.{version_given}

pub ac_version_given : Gives IsVersion ac_version
ac_version_given = record { law = λ at d. gives_then _ _ (filled_text_given.law at d) λ t f a h. version_given at t a h }

-- ---- image IDs

known_given : (at t : List ℕ) → GivesOnly IsImageId (if_id at (id_read 64 t))
known_given at t = by (id_read 64 t) refl
  where
    by : (o : Option (List ℕ)) → id_read 64 t ≡ o → GivesOnly IsImageId (if_id at o)
    by None is = gives_none IsImageId at _
    by (Some bytes) is = gives IsImageId (record { bytes = bytes }) (read_are 64 t bytes is)

pub id_given : Gives IsImageId image_id
id_given = record { law = λ at d. gives_then _ _ (text_given.law at d) λ t u. known_given at t }

pub filled_id_given : Gives IsImageId filled_id
filled_id_given = record { law = λ at d. gives_then _ _ (filled_text_given.law at d) λ t u. known_given at t }

-- ---- labels

label_given : Gives IsLabel label
unfolding label
label_given = record {
  law = λ at d.
      gives_then _ _ (gives_behind _ _ (required_given filled_identifier_given at (codes "name") d)) λ name n.
      gives_then _ _ (required_given text_given at (codes "value") d) λ value v.
      gives IsLabel _ n;
}

standing_given : (at : List ℕ) (ls : List Label) → All IsLabel ls → GivesOnly AreLabels (if_standing at ls (label_fault ls))
standing_given at ls are = by (label_fault ls) refl
  where
    by : (o : Option LabelFault) → label_fault ls ≡ o → GivesOnly AreLabels (if_standing at ls o)
    by None is = gives AreLabels ls (record { each = are; together = is })
    by (Some fault) is = gives_none AreLabels _ _

labels_of_given : (at : List ℕ) (ds : List Data) → GivesOnly AreLabels (labels_of at ds)
unfolding labels_of
labels_of_given at ds = gives_then _ _ (all_given label_given at ds) λ ls are. standing_given at ls are

no_labels : AreLabels []
no_labels = record { each = All-nil IsLabel; together = refl }

pub labels_given : (at name : List ℕ) (d : Data) → GivesOnly AreLabels (default [] (λ p e. list p e >>= labels_of p) at name d)
labels_given at name d = default_given [] no_labels (list_given AreLabels labels_of labels_of_given) at name d

-- ---- elements

pub annotation_given : Gives IsAnnotation annotation
unfolding annotation
annotation_given = record {
  law = λ at d.
      gives_then _ _ (gives_behind _ _ (required_given filled_identifier_given at (codes "name") d)) λ name n.
      gives_then _ _ (required_given text_given at (codes "value") d) λ value v.
      gives IsAnnotation _ n;
}

pub dependency_given : Gives IsDependency dependency
unfolding dependency
dependency_given = record {
  law = λ at d.
      gives_then _ _ (gives_behind _ _ (required_given filled_identifier_given at (codes "imageName") d)) λ image_name n.
      gives_then _ _ (optional_given id_given at (codes "imageID") d) λ id i.
      gives_then _ _ (labels_given at (codes "labels") d) λ ls l.
      gives_then _ _ (optional_given (whole_given 18446744073709551615) at (codes "size") d) λ size s.
      gives IsDependency _ (record { named = n; id = i; labelled = l; sized = s });
}

pub runtime_image_given : Gives IsRuntimeImage runtime_image
unfolding runtime_image
runtime_image_given = record {
  law = λ at d.
      gives_then _ _ (gives_behind _ _ (required_given filled_id_given at (codes "id") d)) λ id i.
      gives_then _ _ (optional_given identifier_given at (codes "name") d) λ name n.
      gives_then _ _ (labels_given at (codes "labels") d) λ ls l.
      gives IsRuntimeImage _ (record { known = i; named = n; labelled = l });
}
