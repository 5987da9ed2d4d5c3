-- Either document, by its kind.
use Rattle.std.specs.Prelude.{ℕ, List, codes, if◌then◌else◌}
use Rattle.std.specs.Str.{bytes_eq}
use Rattle.serde_json.specs.Data.{Data}
use Rattle.ac_types.specs.FieldForms.{required, filled_text}
use Rattle.ac_types.specs.Outcomes.{Outcome, reads, fails, ◌>>=◌}
use Rattle.ac_types.specs.JsonPaths.{field_path}
use Rattle.ac_types.specs.declared.fault.FaultKind.TheVariants.{WrongAcKind}
use Rattle.manifest_parts.specs.DocumentForm.{document}
use Rattle.manifests.specs.ImageData.{ImageData, image_data}
use Rattle.manifests.specs.ImageForm.{image_fields}
use Rattle.manifests.specs.PodData.{PodData, pod_data}
use Rattle.manifests.specs.PodForm.{pod_fields}
use Rattle.manifests.specs.declared.document.Document.{Document}
use Rattle.manifests.specs.declared.document.Document.TheVariants.{Image, Pod}

pub data DocumentData : Type 0 where
  an_image : ImageData → DocumentData
  a_pod : PodData → DocumentData

abbrev pub document_data : Document → DocumentData
document_data (Image m) = an_image (image_data m)
document_data (Pod m) = a_pod (pod_data m)

-- the fields of the document of that kind; another kind is refused
unfoldable pub fields_of : List ℕ → Data → Outcome DocumentData
fields_of kind d =
    if bytes_eq kind (codes "ImageManifest") then (image_fields d >>= λ m. reads (an_image m))
    else (if bytes_eq kind (codes "PodManifest") then (pod_fields d >>= λ m. reads (a_pod m))
    else fails (field_path (codes "$") (codes "acKind")) WrongAcKind)

-- the manifest that some bytes are, of either kind
unfoldable pub any_manifest : List ℕ → Outcome DocumentData
any_manifest bytes =
    document bytes >>= λ d.
    required filled_text (codes "$") (codes "acKind") d >>= λ kind.
    fields_of kind d
