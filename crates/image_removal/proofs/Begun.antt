-- A process that has just begun may remove an image, or sweep.
use Rattle.std.proofs.Common.{◌≡◌, true, bytes_eq, refl, ap, ◌∙◌}
use Rattle.plain_laws.proofs.Texts.{same_bytes}
use Rattle.dir_model.specs.declared.intent.Intent.{Intent}
use Rattle.dir_model.specs.declared.pod.PodId.{PodId}
use Rattle.dir_model.specs.declared.request.Request.TheVariants.{Begin}
use Rattle.dir_model.specs.declared.request.Reply.TheVariants.{Done}
use Rattle.dir_model.specs.Pods.{pod_text}
use Rattle.dir_rules.specs.Standing.{is_image_rm, is_image_remover}
use Rattle.dir_rules.specs.Conforms.{nothing_seen, seen_replied}
use Rattle.image_removal.specs.Work.{MayRemoveImage, MaySweepStore}

pub begun_removes : (intent : Intent) (draw : PodId) → is_image_rm intent.kind ≡ true → intent.draw ≡ draw → MayRemoveImage draw (seen_replied nothing_seen (Begin intent) Done)
begun_removes intent draw kind drawn = record {
  kind = kind;
  drawn = ap (λ (d : PodId). bytes_eq (pod_text d.bytes) (pod_text draw.bytes)) drawn ∙ same_bytes (pod_text draw.bytes);
  images = refl;
  removed = refl;
  fresh = refl;
  bare = refl;
}

pub begun_sweeps : (intent : Intent) → is_image_remover intent.kind ≡ true → MaySweepStore (seen_replied nothing_seen (Begin intent) Done)
begun_sweeps intent kind = record { kind = kind; incoming = refl; removed = refl; bare = refl }
