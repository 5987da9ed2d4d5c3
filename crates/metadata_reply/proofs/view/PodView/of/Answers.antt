use Rattle.manifests.specs.PodData.{pod_data}
use Rattle.manifests.proofs.ManifestsAgain.{pod_is_whole}
use Rattle.metadata_reply.proofs.view.PodView.of.Goals as goal

pub invariant_of-result : goal.invariant_of-result
invariant_of-result c = record { whole_numbers = pod_is_whole (pod_data c.args.manifest) c.requires }
