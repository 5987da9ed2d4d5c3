-- The names of a pod's volumes.
use Rattle.std.proofs.Common.{◌≡◌, ℕ, List, [], ◌∷◌, ◌++◌, map, refl, ◌∙◌, ap}
use Rattle.std.proofs.lemmas.List.{map-append}
use Rattle.manifests.specs.PodData.{RuntimeAppData}
use Rattle.manifests.specs.declared.volume.Volume.{Volume}
use Rattle.pod_manifest.specs.FirstOfEach.{new_of_each}
use Rattle.pod_manifest.specs.Generation.{empty_volume, mounted, volume_names, volumes_of}
use Rattle.pod_manifest.specs.Wishes.{Wishes}

names_of_empty : (ns : List (List ℕ)) → volume_names (map empty_volume ns) ≡ ns
names_of_empty [] = refl
names_of_empty (n ∷ ns) = ap (λ (ms : List (List ℕ)). n ∷ ms) (names_of_empty ns)

pub names_of_volumes : (options : Wishes) (apps : List RuntimeAppData)
    → volume_names (volumes_of options apps)
    ≡ volume_names options.volumes ++ new_of_each (λ (n : List ℕ). n) (volume_names options.volumes) (mounted apps)
names_of_volumes options apps =
    let names = new_of_each (λ (n : List ℕ). n) (volume_names options.volumes) (mounted apps) in
    map-append (λ (v : Volume). v.name) options.volumes (map empty_volume names)
    ∙ ap (λ (ns : List (List ℕ)). volume_names options.volumes ++ ns) (names_of_empty names)
