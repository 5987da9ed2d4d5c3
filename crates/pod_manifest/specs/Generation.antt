-- The pod manifest of some images, and why there is none.
use Rattle.std.specs.Prelude.{◌≡◌, ◌⊎◌, ℕ, Bool, not, nat_lt, List, [], ◌∷◌, ◌++◌, length, map, Option, Some, None, option_map, false, codes, if◌then◌else◌}
use Rattle.std.specs.List.{filter_map, flat_map, find, list_any, slice_get}
use Rattle.std.specs.Option.{option_or}
use Rattle.std.specs.Str.{bytes_eq}
use Rattle.ac_types.specs.SeenTexts.{is_among}
use Rattle.app_section.specs.AppData.{app_data}
use Rattle.app_section.specs.declared.app.App.{App}
use Rattle.app_section.specs.declared.mount_point.MountPoint.{MountPoint}
use Rattle.manifest_parts.specs.declared.runtime_image.RuntimeImage.{RuntimeImage}
use Rattle.manifests.specs.PodData.{PodData, RuntimeAppData}
use Rattle.manifests.specs.declared.mount.Mount.{Mount}
use Rattle.manifests.specs.declared.volume.Volume.{Volume}
use Rattle.manifests.specs.declared.volume.VolumeKind.TheVariants.{Empty}
use Rattle.dep_match.specs.declared.stored.Stored.{Stored}
use Rattle.pod_manifest.specs.AppNames.{app_name, own_volume}
use Rattle.pod_manifest.specs.FirstOfEach.{new_of_each}
use Rattle.pod_manifest.specs.declared.gen_error.GenError.{GenError}
use Rattle.pod_manifest.specs.declared.gen_error.GenError.TheVariants.{TooManyApps, NoApp, NoExec, AppTwice, NoVolume, NoMemory}
use Rattle.pod_manifest.specs.Wishes.{Wishes}
use Rattle.pod_manifest.specs.declared.refusals.TheConstants.{MAX_APPS}

-- the images at some places of a list
abbrev pub picked : List Stored → List ℕ → List Stored
picked images picks = filter_map (slice_get images) picks

-- the name of an image's app
abbrev pub name_of : Stored → List ℕ
name_of image = app_name image.manifest.name

-- the mount points of an app
abbrev pub points_of : Option App → List MountPoint
points_of None = []
points_of (Some app) = app.mount_points

-- a volume has the name
abbrev pub has_volume : List Volume → List ℕ → Bool
has_volume volumes name = list_any (λ (v : Volume). bytes_eq v.name name) volumes

abbrev pub volume_names : List Volume → List (List ℕ)
volume_names volumes = map (λ (v : Volume). v.name) volumes

abbrev pub mount_paths : List Mount → List (List ℕ)
mount_paths mounts = map (λ (m : Mount). m.path) mounts

-- what a mount point of an app gets: the volume of its name that was asked for, or else one that is made for it
abbrev pub mount_at : Wishes → List ℕ → MountPoint → Mount
mount_at options app point = record {
  volume = if has_volume options.volumes point.name then point.name else own_volume app point.name;
  path = point.path;
}

-- the mounts of an app: those that were asked for, and then one for each mount point whose path no mount before has
abbrev pub mounts_of : Wishes → List ℕ → List MountPoint → List Mount
mounts_of options app points =
    options.mounts ++ map (mount_at options app) (new_of_each (λ (p : MountPoint). p.path) (mount_paths options.mounts) points)

-- what an app says of its image
abbrev pub runtime_image : Stored → RuntimeImage
runtime_image image = record { id = image.id; name = Some image.manifest.name; labels = image.manifest.labels }

-- an image's app in the pod
abbrev pub app_of : Wishes → Stored → RuntimeAppData
app_of options image = record {
  name = name_of image;
  image = runtime_image image;
  app = option_map app_data image.manifest.app;
  read_only_root_fs = false;
  mounts = mounts_of options (name_of image) (points_of image.manifest.app);
  annotations = [];
}

-- an empty volume of that name
abbrev pub empty_volume : List ℕ → Volume
empty_volume name = record { name = name; kind = Empty (codes "0755") 0 0 }

-- the names of the volumes that apps have mounted, in order
abbrev pub mounted : List RuntimeAppData → List (List ℕ)
mounted apps = flat_map (λ (a : RuntimeAppData). map (λ (m : Mount). m.volume) a.mounts) apps

-- the volumes of a pod: those that were asked for, and then each other that an app has mounted, once
abbrev pub volumes_of : Wishes → List RuntimeAppData → List Volume
volumes_of options apps =
    options.volumes ++ map empty_volume (new_of_each (λ (n : List ℕ). n) (volume_names options.volumes) (mounted apps))

-- the pod manifest of apps
abbrev pub pod_with : Wishes → List RuntimeAppData → PodData
pod_with options apps = record {
  ac_version = codes "0.8.0";
  apps = apps;
  volumes = volumes_of options apps;
  isolators = [];
  annotations = [];
  ports = [];
}

-- the pod manifest of the images at some places
abbrev pub pod_of : List Stored → List ℕ → Wishes → PodData
pod_of images picks options = pod_with options (map (app_of options) (picked images picks))

-- why an image has no app in a pod in which the apps before it have these names
abbrev pub words_fault : List (List ℕ) → List ℕ → List (List ℕ) → Option GenError
words_fault names name [] = Some (NoExec name)
words_fault names name (w ∷ ws) = if is_among name names then Some (AppTwice name) else None

abbrev pub app_fault : List (List ℕ) → Stored → Option App → Option GenError
app_fault names image None = Some (NoApp image.manifest.name)
app_fault names image (Some app) = words_fault names (name_of image) app.exec

abbrev pub image_fault : List (List ℕ) → Stored → Option GenError
image_fault names image = app_fault names image image.manifest.app

-- the fault of the first image that has one, behind apps of these names
abbrev pub first_fault : List (List ℕ) → List Stored → Option GenError
first_fault names [] = None
first_fault names (image ∷ images) = option_or (image_fault names image) (first_fault (names ++ name_of image ∷ []) images)

-- the first mount that was asked for whose volume wasn't
abbrev pub lacks_volume : List Volume → Mount → Bool
lacks_volume volumes mount = not (has_volume volumes mount.volume)

abbrev pub mount_fault : Wishes → Option GenError
mount_fault options = option_map (λ (m : Mount). NoVolume m.volume) (find (lacks_volume options.volumes) options.mounts)

-- the first reason why the images at some places have no pod manifest
abbrev pub first_refusal : List Stored → List ℕ → Wishes → Option GenError
first_refusal images picks options =
    if nat_lt MAX_APPS (length picks) then Some TooManyApps
    else option_or (first_fault [] (picked images picks)) (mount_fault options)

-- memory ran out, or this is the refusal
abbrev pub IsRefusal : Option GenError → GenError → Type 0
IsRefusal refusal error = (error ≡ NoMemory) ⊎ (refusal ≡ Some error)
