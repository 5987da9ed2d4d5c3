use Rattle.std.proofs.Common.{◌≡◌, map, take}
use Rattle.std.specs.List.{All}
use Rattle.manifest_parts.specs.PartRules.{IsImageId}
use Rattle.manifests.specs.PodData.{RuntimeAppData, runtime_app_data}
use Rattle.pod_manifest.specs.Generation.{app_of, picked}
use Rattle.pod_manifest.proofs.runtime_apps.apps_of.Given as goal

abbrev pub invariant-loop-pick : goal.invariant-loop-pick
invariant-loop-pick l = record {
  made : map runtime_app_data l.apps ≡ map (app_of l.options) (picked l.list (take l.pick-index l.picks));
  ids : All (λ (a : RuntimeAppData). IsImageId a.image.id) (map runtime_app_data l.apps);
}
