use Rattle.app_section.proofs.Readings.{answer_given}
use Rattle.manifests.specs.PodData.{pod_data}
use Rattle.manifests.specs.PodForm.{pod_manifest}
use Rattle.manifests.proofs.Manifests.{pod_manifest_given}
use Rattle.manifests.proofs.pod_reader.read_pod.Goals as goal

pub returns-clause-kind : goal.returns-clause-kind
returns-clause-kind c =
    answer_given pod_data (pod_manifest c.args.bytes.now) c.read_whole_pod.result (pod_manifest_given c.args.bytes.now) c.read_whole_pod.ensures
