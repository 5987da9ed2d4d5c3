use Rattle.std.proofs.Common.{◌≡◌, subst, IfOk}
use Rattle.std.proofs.lemmas.Result.{IfOk-weaker}
use Rattle.serde_json.specs.Data.{Data}
use Rattle.serde_json.specs.Written.{compact_text}
use Rattle.ac_types.specs.Outcomes.{reads}
use Rattle.manifests.specs.ImageData.{image_data}
use Rattle.manifests.specs.ImageForm.{image_manifest}
use Rattle.manifests.specs.ManifestRules.{IsImageManifest}
use Rattle.manifests.specs.ImageObject.{image_object}
use Rattle.manifests.specs.WrittenTexts.{IsCompactText, IsTextOf, KeepsLimits}
use Rattle.manifests.proofs.ManifestsAgain.{image_again, image_is_whole}
use Rattle.manifests.proofs.image_writer.image_bytes.Goals as goal

pub returns-clause-text : goal.returns-clause-text
returns-clause-text c =
    let m = image_data c.args.manifest.now in
    let P : Data → Type 0 = λ d. IfOk c.document_bytes.result (λ b. IsTextOf d b.items) in
    IfOk-weaker c.document_bytes.result (λ b. IsTextOf (image_object m) b.items)
    (λ b. IsCompactText (image_object m) b.items) (λ b is. is.compact)
    (subst P c.in_ok-value.ensures c.document_bytes.ensures)

pub returns-clause-text_of_manifest : goal.returns-clause-text_of_manifest
returns-clause-text_of_manifest c =
    let m = image_data c.args.manifest.now in
    let P : Data → Type 0 = λ d. IfOk c.document_bytes.result (λ b. IsTextOf d b.items) in
    IfOk-weaker c.document_bytes.result (λ b. IsTextOf (image_object m) b.items)
    (λ b. IsImageManifest m → b.items ≡ compact_text (image_object m)) (λ b is kind. is.compact (image_is_whole m kind))
    (subst P c.in_ok-value.ensures c.document_bytes.ensures)

pub returns-clause-reads_back : goal.returns-clause-reads_back
returns-clause-reads_back c =
    let m = image_data c.args.manifest.now in
    let P : Data → Type 0 = λ d. IfOk c.document_bytes.result (λ b. IsTextOf d b.items) in
    IfOk-weaker c.document_bytes.result (λ b. IsTextOf (image_object m) b.items)
    (λ b. IsImageManifest m → KeepsLimits (image_object m) b.items → image_manifest b.items ≡ reads m)
    (λ b is kind limits. image_again m b.items limits.short is.utf8 (is.back limits.flat) kind)
    (subst P c.in_ok-value.ensures c.document_bytes.ensures)
