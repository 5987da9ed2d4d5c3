use Rattle.std.proofs.Common.{rules, arith, List, [], ◌∷◌, map, length, length-append, refl, ap, subst}
use Rattle.std.proofs.lemmas.List.{take_all}
use Rattle.manifests.specs.declared.runtime_app.RuntimeApp.{RuntimeApp}
use Rattle.metadata_reply.specs.Views.{image_bytes}
use Rattle.pod_files.proofs.Reading.{reads_none, reads_more}
use Rattle.metadata.specs.Images.{names}
use Rattle.metadata.specs.PodViews.{ReadsAppImages}
use Rattle.metadata.proofs.Images.{images_none, images_next, image_lacks, readable_none, readable_next}
use Rattle.metadata.proofs.image.read_images.Goals as goal

pub apps-init : goal.apps-init
apps-init g c = record {
  only = reads_none c.args.pod;
  each = search rules;
  readable = readable_none c.new-images.result.items c.new-images.ensures.items;
  read = λ t. images_none c.args.pod [] (map image_bytes c.new-images.result.items) (g.D.Dir.shown c.args.dir.now) refl (ap (map image_bytes) c.new-images.ensures.items);
}

pub apps-preserved : goal.apps-preserved
apps-preserved g c =
    let D = g.D.Dir in
    let e = rw c.in-Ok-Some.field-0-is at c.in-Ok-Some.ensures in
    record {
      only = reads_more c.args.pod c.apps.invariant.only c.read_image_bytes.ensures.only;
      each = let items = ap length c.in_ok-push-in-Ok-Some.ensures.items in let long = length-append c.apps.images.items (c.in-Ok-Some.image ∷ []) in omega (arith, items, long, c.apps.invariant.each);
      readable = readable_next c.apps.images.items c.push.new.images.items c.in-Ok-Some.image c.in_ok-push-in-Ok-Some.ensures.items c.apps.invariant.readable e.reads;
      read = λ t. images_next t c.args.pod (D.shown c.args.dir.now) (D.shown c.apps.dir) (D.shown c.read_image_bytes.new.dir) c.apps.invariant.only c.read_image_bytes.ensures.only c.args.apps.now c.apps.app-index c.app-item.result c.apps-test.true c.app-item.is
          c.apps.images.items c.push.new.images.items c.in-Ok-Some.image c.in_ok-push-in-Ok-Some.ensures.items (c.apps.invariant.read t) (e.tells t);
    }

pub returns-in-Ok-None-clause-only : goal.returns-in-Ok-None-clause-only
returns-in-Ok-None-clause-only g c = reads_more c.args.pod c.apps.invariant.only c.read_image_bytes.ensures.only

pub returns-in-Err-clause-only : goal.returns-in-Err-clause-only
returns-in-Err-clause-only g c = reads_more c.args.pod c.apps.invariant.only c.read_image_bytes.ensures.only

pub returns-in_err-push-in-Ok-Some-clause-only : goal.returns-in_err-push-in-Ok-Some-clause-only
returns-in_err-push-in-Ok-Some-clause-only g c = reads_more c.args.pod c.apps.invariant.only c.read_image_bytes.ensures.only

pub returns-in-Ok-None-clause-tells : goal.returns-in-Ok-None-clause-tells
returns-in-Ok-None-clause-tells g c t =
    let D = g.D.Dir in
    let e = rw c.in-Ok-None.field-0-is at c.in-Ok-None.ensures in
    image_lacks t c.args.pod (D.shown c.args.dir.now) (D.shown c.apps.dir) (D.shown c.read_image_bytes.new.dir) c.apps.invariant.only c.read_image_bytes.ensures.only c.args.apps.now c.apps.app-index c.app-item.result c.apps-test.true c.app-item.is (e.tells t)

pub returns-clause-tells : goal.returns-clause-tells
returns-clause-tells g c t =
    let D = g.D.Dir in
    subst (λ (l : List RuntimeApp). ReadsAppImages c.args.pod (names l) (map image_bytes c.apps.images.items) (D.shown c.args.dir.now) (D.shown c.apps.dir)) (take_all c.apps.app-index c.args.apps.now c.apps-test.false) (c.apps.invariant.read t)
