use Rattle.app_section.proofs.Readings.{answer_given}
use Rattle.manifests.specs.DocumentData.{document_data}
use Rattle.manifests.specs.DocumentData.{any_manifest}
use Rattle.manifests.proofs.Manifests.{any_manifest_given}
use Rattle.manifests.proofs.document.read_document.Goals as goal

pub returns-clause-kind : goal.returns-clause-kind
returns-clause-kind c =
    answer_given document_data (any_manifest c.args.bytes.now) c.read_any.result (any_manifest_given c.args.bytes.now) c.read_any.ensures
