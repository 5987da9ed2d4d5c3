use Rattle.std.proofs.Common.{◌≡◌, ◌++◌, ℕ, List, map, take, sym, ◌∙◌, ap, subst, arith, ◌+◌}
use Rattle.std.proofs.lemmas.List.{append-nil, take_all}
use Rattle.ac_types.specs.SeenTexts.{HasSeen}
use Rattle.manifests.specs.PodData.{RuntimeAppData, runtime_app_data}
use Rattle.manifests.specs.declared.mount.Mount.{Mount}
use Rattle.manifests.specs.declared.runtime_app.RuntimeApp.{RuntimeApp}
use Rattle.pod_manifest.specs.FirstOfEach.{new_of_each}
use Rattle.pod_manifest.specs.Generation.{empty_volume, mounted, volume_names}
use Rattle.pod_manifest.proofs.Built.{joined_more, texts_built, texts_seen}
use Rattle.pod_manifest.proofs.volumes.volumes_of.Goals as goal

pub loop-app-init : goal.loop-app-init
loop-app-init c =
    let P : List (List ℕ) → Type 0 = λ ks. HasSeen c.in_ok-seen.seen ks in
    record {
      built = c.in_ok-volumes.ensures ∙ c.volumes-asked.ensures.volumes ∙ sym (append-nil c.args.options.now.volumes);
      seen = subst P (ap volume_names c.volumes-asked.ensures.volumes ∙ sym (append-nil (volume_names c.args.options.now.volumes))) c.in_ok-seen.ensures;
    }

pub loop-app-preserved : goal.loop-app-preserved
loop-app-preserved c =
    let volumes : RuntimeAppData → List (List ℕ) = λ a. map (λ (m : Mount). m.volume) a.mounts in
    let known = volume_names c.args.options.now.volumes in
    let i = c.loop-app.app-index in
    let before = mounted (map runtime_app_data (take i c.args.apps.now)) in
    let names = volumes (runtime_app_data c.app-item.result) in
    let more : mounted (map runtime_app_data (take (i + 1) c.args.apps.now)) ≡ before ++ names =
    joined_more runtime_app_data volumes c.args.apps.now i c.app-item.result c.loop-app-test.true c.app-item.is in
    let list : c.as_slice.result.now ≡ c.app-item.result.mounts = c.as_slice.ensures in
    let Has : List (List ℕ) → Type 0 = λ ns. HasSeen c.with_mounted.new.seen ((known ++ before) ++ ns) in
    record {
      built =
          texts_built empty_volume known c.args.options.now.volumes before names c.loop-app.volumes c.in_ok-volumes-2.volumes
          c.loop-app.invariant.built
          (c.in_ok-volumes-2.ensures.volumes (known ++ before) c.loop-app.invariant.seen
          ∙ ap (λ (ms : List Mount). c.loop-app.volumes ++ map empty_volume (new_of_each (λ (n : List ℕ). n) (known ++ before) (map (λ (m : Mount). m.volume) ms))) list)
          ∙ ap (λ (ns : List (List ℕ)). c.args.options.now.volumes ++ map empty_volume (new_of_each (λ (n : List ℕ). n) known ns)) (sym more);
      seen =
          texts_seen c.with_mounted.new.seen known before names (mounted (map runtime_app_data (take (i + 1) c.args.apps.now))) more
          (subst Has (ap (λ (ms : List Mount). map (λ (m : Mount). m.volume) ms) list)
          (c.in_ok-volumes-2.ensures.seen (known ++ before) c.loop-app.invariant.seen));
    }

pub returns : goal.returns
returns c =
    c.loop-app.invariant.built
    ∙ ap (λ (apps : List RuntimeApp). c.args.options.now.volumes ++ map empty_volume
    (new_of_each (λ (n : List ℕ). n) (volume_names c.args.options.now.volumes) (mounted (map runtime_app_data apps))))
    (take_all c.loop-app.app-index c.args.apps.now (omega arith))
