-- The pod manifest of images whose manifests are manifests is one.
use Rattle.std.proofs.Common.{◌≡◌, ℕ, ◌≤◌, Bool, true, false, cond, List, [], ◌∷◌, map, Option, Some, None, option_map, refl, sym, ap, subst, arith, IfSome}
use Rattle.std.specs.List.{All, AllByRecursion, IsDistinct}
use Rattle.std.specs.Str.{bytes_eq}
use Rattle.std.proofs.lemmas.List.{map-id}
use Rattle.std.proofs.lemmas.List.Elements.{All-nil, All-cons, All-head, All-tail, All-append, All-map, All-weaker}
use Rattle.ac_types.specs.Names.{IsAcName}
use Rattle.ac_types.specs.SeenTexts.{is_among}
use Rattle.app_section.specs.AppData.{app_data}
use Rattle.app_section.specs.AppRules.{IsApp, IsMountPoint, IsIsolator, HaveNames}
use Rattle.app_section.specs.declared.app.App.{App}
use Rattle.app_section.specs.declared.mount_point.MountPoint.{MountPoint}
use Rattle.manifest_parts.specs.PartRules.{IsAnnotation, IsImageId}
use Rattle.manifests.specs.ManifestRules.{IsMount, IsPodManifest, IsPodPort, IsRuntimeApp, IsVolume}
use Rattle.manifests.specs.PodData.{RuntimeAppData}
use Rattle.manifests.specs.declared.mount.Mount.{Mount}
use Rattle.manifests.specs.declared.volume.Volume.{Volume}
use Rattle.dep_match.specs.declared.stored.Stored.{Stored}
use Rattle.pod_manifest.specs.AppNames.{own_volume}
use Rattle.pod_manifest.specs.FirstOfEach.{new_of_each}
use Rattle.pod_manifest.specs.Generation.{app_of, empty_volume, first_fault, has_volume, mount_at, mount_paths, mounted, mounts_of, name_of, pod_with, points_of, volume_names, volumes_of}
use Rattle.pod_manifest.specs.Inputs.{IsImage}
use Rattle.pod_manifest.specs.Wishes.{AreWishes, Wishes}
use Rattle.pod_manifest.proofs.AppsApart.{names_apart}
use Rattle.pod_manifest.proofs.Distinct.{all_joined, all_new, both_distinct, new_distinct, new_unknown}
use Rattle.pod_manifest.proofs.Names.{app_name_good, own_volume_good}
use Rattle.pod_manifest.proofs.Version.{version_good}
use Rattle.pod_manifest.proofs.VolumeNames.{names_of_volumes}

-- ---- an app

mount_good : (options : Wishes) (app : List ℕ) (point : MountPoint) → IsAcName app → IsMountPoint point → IsMount (mount_at options app point)
mount_good options app point a p = record { named = by (has_volume options.volumes point.name); place = p.place }
  where
    by : (b : Bool) → IsAcName (cond b point.name (own_volume app point.name))
    by true = p.named
    by false = own_volume_good app point.name a p.named

mounts_good : (options : Wishes) (app : List ℕ) (points : List MountPoint) → AreWishes options → IsAcName app → All IsMountPoint points
    → All IsMount (mounts_of options app points)
mounts_good options app points o a p =
    let made = new_of_each (λ (m : MountPoint). m.path) (mount_paths options.mounts) points in
    All-append IsMount options.mounts (map (mount_at options app) made) o.each_mount
    (All-map IsMount (mount_at options app) made
    (All-weaker IsMountPoint (λ (m : MountPoint). IsMount (mount_at options app m)) (λ m g. mount_good options app m a g) made
    (all_new IsMountPoint (λ (m : MountPoint). m.path) (mount_paths options.mounts) points p)))

points_good : (o : Option App) → IfSome (option_map app_data o) IsApp → All IsMountPoint (points_of o)
points_good None h = All-nil IsMountPoint
points_good (Some app) h = h.mounts

app_good : (options : Wishes) (image : Stored) → AreWishes options → IsImageId image.id → IsImage image → IsRuntimeApp (app_of options image)
app_good options image o id m =
    let name : IsAcName (name_of image) = app_name_good image.manifest.name m.named in
    record {
      named = name;
      image_known = record { known = id; named = m.named; labelled = m.labelled };
      section = m.section;
      mounted = mounts_good options (name_of image) (points_of image.manifest.app) o name (points_good image.manifest.app m.section);
      remarks = All-nil IsAnnotation;
    }

apps_good : (options : Wishes) (images : List Stored) → AreWishes options
    → All (λ (a : RuntimeAppData). IsImageId a.image.id) (map (app_of options) images) → All IsImage images
    → All IsRuntimeApp (map (app_of options) images)
apps_good options [] o ids are = All-nil IsRuntimeApp
apps_good options (image ∷ images) o ids are =
    let HasId : RuntimeAppData → Type 0 = λ a. IsImageId a.image.id in
    All-cons IsRuntimeApp (app_of options image) (map (app_of options) images)
    (app_good options image o (All-head HasId (app_of options image) (map (app_of options) images) ids) (All-head IsImage image images are))
    (apps_good options images o (All-tail HasId (app_of options image) (map (app_of options) images) ids) (All-tail IsImage image images are))

names_of_apps : (options : Wishes) (images : List Stored) → map (λ (a : RuntimeAppData). a.name) (map (app_of options) images) ≡ map name_of images
names_of_apps options [] = refl
names_of_apps options (image ∷ images) = ap (λ (ns : List (List ℕ)). name_of image ∷ ns) (names_of_apps options images)

-- ---- volumes

names_mounted : (apps : List RuntimeAppData) → All IsRuntimeApp apps → All IsAcName (mounted apps)
names_mounted apps are =
    let volumes : RuntimeAppData → List (List ℕ) = λ a. map (λ (m : Mount). m.volume) a.mounts in
    all_joined IsAcName volumes apps
    (All-weaker IsRuntimeApp (λ (a : RuntimeAppData). All IsAcName (volumes a))
    (λ a g. All-map IsAcName (λ (m : Mount). m.volume) a.mounts
    (All-weaker IsMount (λ (m : Mount). IsAcName m.volume) (λ m k. k.named) a.mounts g.mounted)) apps are)

empty_good : (name : List ℕ) → IsAcName name → IsVolume (empty_volume name)
empty_good name n =
    let none : 0 ≤ 4294967295 = omega arith in
    record { named = n; where_it_is = (refl, none, none) }

volumes_good : (options : Wishes) (apps : List RuntimeAppData) → AreWishes options → All IsRuntimeApp apps
    → All IsVolume (volumes_of options apps)
volumes_good options apps o are =
    let names = new_of_each (λ (n : List ℕ). n) (volume_names options.volumes) (mounted apps) in
    All-append IsVolume options.volumes (map empty_volume names) o.each_volume
    (All-map IsVolume empty_volume names
    (All-weaker IsAcName (λ (n : List ℕ). IsVolume (empty_volume n)) empty_good names
    (all_new IsAcName (λ (n : List ℕ). n) (volume_names options.volumes) (mounted apps) (names_mounted apps are))))

volumes_apart : (options : Wishes) (apps : List RuntimeAppData) → AreWishes options → HaveNames (λ (v : Volume). v.name) (volumes_of options apps)
volumes_apart options apps o =
    let known = volume_names options.volumes in
    let names = new_of_each (λ (n : List ℕ). n) known (mounted apps) in
    let P : List (List ℕ) → Type 0 = λ ns. IsDistinct bytes_eq ns in
    let Q : List (List ℕ) → Type 0 = λ ns. AllByRecursion (λ k. is_among k known ≡ false) ns in
    subst P (sym (names_of_volumes options apps))
    (both_distinct known names o.volume_names (subst P (map-id names) (new_distinct (λ (n : List ℕ). n) known (mounted apps)))
    (subst Q (map-id names) (new_unknown (λ (n : List ℕ). n) known (mounted apps))))

-- ---- the whole

pub pod_good : (options : Wishes) (images : List Stored) → first_fault [] images ≡ None → AreWishes options
    → All (λ (a : RuntimeAppData). IsImageId a.image.id) (map (app_of options) images) → All IsImage images
    → IsPodManifest (pod_with options (map (app_of options) images))
pod_good options images none o ids are =
    let apps = map (app_of options) images in
    let each : All IsRuntimeApp apps = apps_good options images o ids are in
    let P : List (List ℕ) → Type 0 = λ ns. IsDistinct bytes_eq ns in
    record {
      version = version_good;
      each_app = each;
      app_names = subst P (sym (names_of_apps options images)) (names_apart [] images none).1;
      each_volume = volumes_good options apps o each;
      volume_names = volumes_apart options apps o;
      limits = All-nil IsIsolator;
      remarks = All-nil IsAnnotation;
      listens = All-nil IsPodPort;
    }
