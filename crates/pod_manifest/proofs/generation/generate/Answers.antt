use Rattle.std.proofs.Common.{◌≡◌, List, map, sym, ◌∙◌, ap, subst}
use Rattle.std.specs.List.{All}
use Rattle.manifest_parts.specs.PartRules.{IsImageId}
use Rattle.manifests.specs.ManifestRules.{IsPodManifest}
use Rattle.manifests.specs.PodData.{PodData, RuntimeAppData, pod_data}
use Rattle.pod_manifest.specs.Generation.{app_of, picked, pod_with}
use Rattle.pod_manifest.specs.Mounted.{HasItsMounts, HasItsVolumes}
use Rattle.pod_manifest.proofs.Mounted.{mounts_there, volumes_there}
use Rattle.pod_manifest.proofs.PodManifests.{pod_good}
use Rattle.pod_manifest.proofs.generation.generate.Goals as goal

pub returns-clause-volumes : goal.returns-clause-volumes
returns-clause-volumes c =
    let images = picked c.args.list.now c.args.picks.now in
    let is : pod_data c.in_ok-pod_with.field-0 ≡ pod_with c.args.options.now (map (app_of c.args.options.now) images) =
    c.in_ok-pod_with.ensures ∙ ap (pod_with c.args.options.now) c.in_ok-apps.ensures.apps in
    let P : PodData → Type 0 = λ pod. HasItsVolumes pod in
    subst P (sym is) (volumes_there c.args.options.now (map (app_of c.args.options.now) images))

pub returns-clause-mounts : goal.returns-clause-mounts
returns-clause-mounts c =
    let images = picked c.args.list.now c.args.picks.now in
    let is : pod_data c.in_ok-pod_with.field-0 ≡ pod_with c.args.options.now (map (app_of c.args.options.now) images) =
    c.in_ok-pod_with.ensures ∙ ap (pod_with c.args.options.now) c.in_ok-apps.ensures.apps in
    let P : PodData → Type 0 = λ pod. HasItsMounts images pod in
    subst P (sym is) (mounts_there c.args.options.now images)

pub returns-clause-manifest : goal.returns-clause-manifest
returns-clause-manifest c = λ are.
    let images = picked c.args.list.now c.args.picks.now in
    let is : pod_data c.in_ok-pod_with.field-0 ≡ pod_with c.args.options.now (map (app_of c.args.options.now) images) =
    c.in_ok-pod_with.ensures ∙ ap (pod_with c.args.options.now) c.in_ok-apps.ensures.apps in
    let P : PodData → Type 0 = λ pod. IsPodManifest pod in
    let HaveIds : List RuntimeAppData → Type 0 = λ apps. All (λ (a : RuntimeAppData). IsImageId a.image.id) apps in
    subst P (sym is)
    (pod_good c.args.options.now images c.in_ok-check_images.ensures c.check_mounts.ensures.kind
    (subst HaveIds c.in_ok-apps.ensures.apps c.in_ok-apps.ensures.ids) are)
