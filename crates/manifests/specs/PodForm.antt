-- The pod manifest: its fields in the order in which they are read.
use Rattle.std.specs.Prelude.{ℕ, List, [], codes}
use Rattle.serde_json.specs.Data.{Data}
use Rattle.ac_types.specs.FieldForms.{required, default}
use Rattle.ac_types.specs.Outcomes.{Outcome, reads, ◌>>=◌, ◌>>◌}
use Rattle.app_section.specs.IsolatorForm.{isolator}
use Rattle.app_section.specs.ListForms.{list_of}
use Rattle.manifest_parts.specs.AnnotationForm.{annotation}
use Rattle.manifest_parts.specs.DistinctForms.{distinct_list}
use Rattle.manifest_parts.specs.DocumentForm.{document}
use Rattle.manifest_parts.specs.HeadForms.{ac_kind, ac_version}
use Rattle.manifests.specs.PodData.{PodData}
use Rattle.manifests.specs.PodPortForm.{pod_port}
use Rattle.manifests.specs.RuntimeAppForm.{runtime_app}
use Rattle.manifests.specs.VolumeForm.{volume}

-- what follows the kind
unfoldable pub pod_fields : Data → Outcome PodData
pod_fields d =
    required ac_version (codes "$") (codes "acVersion") d >>= λ version.
    required (distinct_list (λ a. a.name) runtime_app) (codes "$") (codes "apps") d >>= λ apps.
    default [] (distinct_list (λ v. v.name) volume) (codes "$") (codes "volumes") d >>= λ volumes.
    default [] (list_of isolator) (codes "$") (codes "isolators") d >>= λ isolators.
    default [] (list_of annotation) (codes "$") (codes "annotations") d >>= λ annotations.
    default [] (list_of pod_port) (codes "$") (codes "ports") d >>= λ ports.
    reads (record {
      ac_version = version;
      apps = apps;
      volumes = volumes;
      isolators = isolators;
      annotations = annotations;
      ports = ports;
    })

abbrev pub pod_kind : Data → Outcome (List ℕ)
pod_kind d = required (ac_kind (codes "PodManifest")) (codes "$") (codes "acKind") d

-- the pod manifest that some bytes are
unfoldable pub pod_manifest : List ℕ → Outcome PodData
pod_manifest bytes = document bytes >>= λ d. pod_kind d >> pod_fields d
