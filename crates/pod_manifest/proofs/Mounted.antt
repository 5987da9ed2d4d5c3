-- What is mounted in the pod of some images.
use Rattle.std.proofs.Common.{◌≡◌, ℕ, Bool, true, ◌||◌, List, [], ◌∷◌, ◌++◌, map, refl, sym, ◌∙◌, ap, subst, get_or}
use Rattle.std.specs.List.{All, AllZip}
use Rattle.std.specs.Str.{bytes_eq}
use Rattle.std.proofs.lemmas.Bool.{or_left, or_right}
use Rattle.std.proofs.lemmas.List.{map-append, map-id}
use Rattle.std.proofs.lemmas.List.Elements.{All-nil, All-cons}
use Rattle.std.proofs.lemmas.List.Folds.{list_any-append}
use Rattle.ac_types.specs.SeenTexts.{is_among}
use Rattle.app_section.specs.declared.mount_point.MountPoint.{MountPoint}
use Rattle.manifests.specs.PodData.{RuntimeAppData}
use Rattle.manifests.specs.declared.mount.Mount.{Mount}
use Rattle.manifests.specs.declared.volume.Volume.{Volume}
use Rattle.dep_match.specs.declared.stored.Stored.{Stored}
use Rattle.pod_manifest.specs.FirstOfEach.{new_of_each}
use Rattle.pod_manifest.specs.Generation.{app_of, has_volume, mount_at, mount_paths, mounted, mounts_of, name_of, pod_with, points_of, volume_names, volumes_of}
use Rattle.pod_manifest.specs.Mounted.{HasItsMounts, HasItsVolumes, IsMountedAt}
use Rattle.pod_manifest.specs.Wishes.{Wishes}
use Rattle.pod_manifest.proofs.Present.{all_present, own_key}
use Rattle.pod_manifest.proofs.VolumeNames.{names_of_volumes}

-- ---- mounts are of volumes of the pod

pub has_named : (volumes : List Volume) (name : List ℕ) → has_volume volumes name ≡ is_among name (volume_names volumes)
has_named [] name = refl
has_named (v ∷ vs) name = ap (λ (b : Bool). bytes_eq v.name name || b) (has_named vs name)

volumes_named : RuntimeAppData → List (List ℕ)
volumes_named a = map (λ (m : Mount). m.volume) a.mounts

-- what an app has mounted is among what apps have mounted
all_mounted : (apps : List RuntimeAppData)
    → All (λ (a : RuntimeAppData). All (λ (m : Mount). is_among m.volume (mounted apps) ≡ true) a.mounts) apps
all_mounted [] = All-nil (λ (a : RuntimeAppData). All (λ (m : Mount). is_among m.volume [] ≡ true) a.mounts)
all_mounted (a ∷ apps) =
    let names = map (λ (m : Mount). m.volume) a.mounts in
    let split : (n : List ℕ) → is_among n (mounted (a ∷ apps)) ≡ (is_among n names || is_among n (mounted apps)) =
    λ n. list_any-append (λ (t : List ℕ). bytes_eq t n) names (mounted apps) in
    All-cons (λ (b : RuntimeAppData). All (λ (m : Mount). is_among m.volume (mounted (a ∷ apps)) ≡ true) b.mounts) a apps
    (λ k d within. split (get_or a.mounts k d).volume ∙ or_left _ _ (own_key (λ (m : Mount). m.volume) a.mounts k d within))
    (λ k d within j e inside. split (get_or (get_or apps k d).mounts j e).volume ∙ or_right _ _ (all_mounted apps k d within j e inside))

pub volumes_there : (options : Wishes) (apps : List RuntimeAppData) → HasItsVolumes (pod_with options apps)
volumes_there options apps k d within j e inside =
    let name = (get_or (get_or apps k d).mounts j e).volume in
    let Among : List (List ℕ) → Type 0 = λ ns. is_among name ns ≡ true in
    let known = volume_names options.volumes in
    let new = new_of_each (λ (n : List ℕ). n) known (mounted apps) in
    has_named (volumes_of options apps) name
    ∙ ap (is_among name) (names_of_volumes options apps)
    ∙ ap (λ (ns : List (List ℕ)). is_among name (known ++ ns)) (sym (map-id new))
    ∙ all_present (λ (n : List ℕ). n) known name (mounted apps)
    (subst Among (sym (map-id (mounted apps))) (all_mounted apps k d within j e inside))

-- ---- each mount point has a mount

paths_of_mounts : (options : Wishes) (app : List ℕ) (points : List MountPoint)
    → mount_paths (map (mount_at options app) points) ≡ map (λ (p : MountPoint). p.path) points
paths_of_mounts options app [] = refl
paths_of_mounts options app (p ∷ ps) = ap (λ (ts : List (List ℕ)). p.path ∷ ts) (paths_of_mounts options app ps)

points_mounted : (options : Wishes) (app : List ℕ) (points : List MountPoint)
    → All (λ (p : MountPoint). is_among p.path (mount_paths (mounts_of options app points)) ≡ true) points
points_mounted options app points k d within =
    let path = (get_or points k d).path in
    let key : MountPoint → List ℕ = λ p. p.path in
    let known = mount_paths options.mounts in
    let new = new_of_each key known points in
    ap (is_among path) (map-append (λ (m : Mount). m.path) options.mounts (map (mount_at options app) new))
    ∙ ap (λ (ts : List (List ℕ)). is_among path (known ++ ts)) (paths_of_mounts options app new)
    ∙ all_present key known path points (own_key key points k d within)

pub mounts_there : (options : Wishes) (images : List Stored) → HasItsMounts images (pod_with options (map (app_of options) images))
mounts_there options images = each options images
  where
    each : (options : Wishes) (images : List Stored) → AllZip IsMountedAt images (map (app_of options) images)
    each options [] = tt
    each options (image ∷ images) = (points_mounted options (name_of image) (points_of image.manifest.app), each options images)
