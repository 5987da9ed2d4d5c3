use Rattle.std.proofs.Common.{◌≡◌, subst, IfOk}
use Rattle.std.proofs.lemmas.Result.{IfOk-weaker}
use Rattle.serde_json.specs.Data.{Data}
use Rattle.serde_json.specs.Written.{compact_text}
use Rattle.ac_types.specs.Outcomes.{reads}
use Rattle.manifests.specs.PodData.{pod_data}
use Rattle.manifests.specs.PodForm.{pod_manifest}
use Rattle.manifests.specs.ManifestRules.{IsPodManifest}
use Rattle.manifests.specs.PodObject.{pod_object}
use Rattle.manifests.specs.WrittenTexts.{IsCompactText, IsTextOf, KeepsLimits}
use Rattle.manifests.proofs.ManifestsAgain.{pod_again, pod_is_whole}
use Rattle.manifests.proofs.pod_writer.pod_bytes.Goals as goal

pub returns-clause-text : goal.returns-clause-text
returns-clause-text c =
    let m = pod_data c.args.manifest.now in
    let P : Data → Type 0 = λ d. IfOk c.document_bytes.result (λ b. IsTextOf d b.items) in
    IfOk-weaker c.document_bytes.result (λ b. IsTextOf (pod_object m) b.items)
    (λ b. IsCompactText (pod_object m) b.items) (λ b is. is.compact)
    (subst P c.in_ok-value.ensures c.document_bytes.ensures)

pub returns-clause-text_of_manifest : goal.returns-clause-text_of_manifest
returns-clause-text_of_manifest c =
    let m = pod_data c.args.manifest.now in
    let P : Data → Type 0 = λ d. IfOk c.document_bytes.result (λ b. IsTextOf d b.items) in
    IfOk-weaker c.document_bytes.result (λ b. IsTextOf (pod_object m) b.items)
    (λ b. IsPodManifest m → b.items ≡ compact_text (pod_object m)) (λ b is kind. is.compact (pod_is_whole m kind))
    (subst P c.in_ok-value.ensures c.document_bytes.ensures)

pub returns-clause-reads_back : goal.returns-clause-reads_back
returns-clause-reads_back c =
    let m = pod_data c.args.manifest.now in
    let P : Data → Type 0 = λ d. IfOk c.document_bytes.result (λ b. IsTextOf d b.items) in
    IfOk-weaker c.document_bytes.result (λ b. IsTextOf (pod_object m) b.items)
    (λ b. IsPodManifest m → KeepsLimits (pod_object m) b.items → pod_manifest b.items ≡ reads m)
    (λ b is kind limits. pod_again m b.items limits.short is.utf8 (is.back limits.flat) kind)
    (subst P c.in_ok-value.ensures c.document_bytes.ensures)
