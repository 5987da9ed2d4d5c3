-- The images of a pod's apps, read one after the other.
use Rattle.std.proofs.Common.{◌≡◌, ◌<◌, ◌≤◌, ◌+◌, ℕ, Bool, true, Option, Some, None, List, [], ◌∷◌, ◌++◌, length, take, drop, map, get_or, refl, sym, ap, subst, ◌∙◌}
use Rattle.std.specs.Prelude.{All, codes}
use Rattle.std.proofs.lemmas.List.Elements.{All-nil, All-push}
use Rattle.ac_types.specs.Names.{IsAcName}
use Rattle.dir_model.specs.Paths.{is_path}
use Rattle.dir_model.proofs.Lists.{map_push}
use Rattle.dir_model.specs.declared.pod.PodId.{PodId}
use Rattle.dir_laws.proofs.Names.{app_name, plain_behind, info_path}
use Rattle.dir_trait.specs.DirCalls.{DirAt}
use Rattle.dir_files.specs.Reads.{ReadsUp}
use Rattle.manifests.specs.declared.runtime_app.RuntimeApp.{RuntimeApp}
use Rattle.manifests.specs.PodData.{RuntimeAppData, runtime_app_data}
use Rattle.metadata_reply.specs.declared.view.ImageBytes.{ImageBytes}
use Rattle.metadata_reply.specs.Views.{HasReading, image_bytes}
use Rattle.pod_files.specs.Looks.{OnlyReadsPod}
use Rattle.pod_files.specs.Places.{pod_file}
use Rattle.pod_files.proofs.Reading.{taken_so, not_taken}
use Rattle.pod_files.proofs.AppNames.{names_more, names_around}
use Rattle.metadata.specs.PodViews.{image_path, ReadsAppImage, LacksAppImage, ReadsAppImages, LacksImageOf}
use Rattle.metadata.specs.Images.{names, IsImageFromBytes, TellsImage, IfReads}
use Rattle.metadata.proofs.Wider.{wider_after, wider_before, reads_wider, lacks_wider, images_wider}
use Rattle.manifests.specs.ManifestSize.{most_of_manifest}

-- what the bytes tell
pub tells_image : {observed : Bool} {old new : DirAt} (pod : PodId) (app bytes : List ℕ) → length bytes ≤ most_of_manifest → (observed ≡ true → ReadsUp (pod_file pod (image_path app)) most_of_manifest old new bytes) → (found : Option ImageBytes) → IsImageFromBytes bytes found → observed ≡ true → TellsImage pod app found old new
tells_image pod app bytes few read None is = not_taken (pod_file pod (image_path app)) most_of_manifest bytes bytes refl few read (λ b. HasReading b → ⊥) is
tells_image pod app bytes few read (Some image) is = taken_so (pod_file pod (image_path app)) most_of_manifest bytes bytes refl few read (λ b. (b ≡ image.bytes) × HasReading b) is

pub image_reads : (bytes : List ℕ) (found : Option ImageBytes) → IsImageFromBytes bytes found → IfReads found
image_reads bytes None is = tt
image_reads bytes (Some image) is = subst HasReading is.0 is.1

-- the names that the manifest's data have
pub data_names : (apps : List RuntimeApp) → map (λ (a : RuntimeAppData). a.name) (map runtime_app_data apps) ≡ names apps
data_names [] = refl
data_names (app ∷ apps) = ap (λ (l : List (List ℕ)). app.name ∷ l) (data_names apps)

push_image : (pod : PodId) (a c : DirAt) (apps images : List (List ℕ)) (app image : List ℕ) → ReadsAppImages pod apps images a c → ReadsAppImage pod app image a c → ReadsAppImages pod (apps ++ app ∷ []) (images ++ image ∷ []) a c
push_image pod a c [] [] app image are read = (read, tt)
push_image pod a c [] (r ∷ images) app image are read = absurd are
push_image pod a c (n ∷ apps) [] app image are read = absurd are
push_image pod a c (n ∷ apps) (r ∷ images) app image are read = (are.0, push_image pod a c apps images app image are.1 read)

module _ {observed : Bool} (t : observed ≡ true) (pod : PodId) (a b c : DirAt) (ab : OnlyReadsPod observed pod a b) (bc : OnlyReadsPod observed pod b c) (apps : List RuntimeApp) (i : ℕ) (app : RuntimeApp) (h : i < length apps) (is : app ≡ get_or apps i app) where
  -- one image more was read
  pub images_next : (before after : List ImageBytes) (image : ImageBytes) → after ≡ before ++ image ∷ [] → ReadsAppImages pod (names (take i apps)) (map image_bytes before) a b → ReadsAppImage pod app.name image.bytes b c → ReadsAppImages pod (names (take (i + 1) apps)) (map image_bytes after) a c
  images_next before after image added are read =
      subst (λ (ns : List (List ℕ)). ReadsAppImages pod ns (map image_bytes after) a c) (sym (names_more apps i app h is))
      (subst (λ (l : List (List ℕ)). ReadsAppImages pod (names (take i apps) ++ app.name ∷ []) l a c) (sym (ap (map image_bytes) added ∙ map_push image_bytes before image))
      (push_image pod a c (names (take i apps)) (map image_bytes before) app.name image.bytes
      (images_wider (wider_before a b c (bc.extends t)) pod (names (take i apps)) (map image_bytes before) are)
      (reads_wider (wider_after a b c ab.same (ab.extends t)) read)))

  -- or there was none
  pub image_lacks : LacksAppImage pod app.name b c → LacksImageOf pod (names apps) a c
  image_lacks lacks = record {
    before = names (take i apps);
    app = app.name;
    after = names (drop (i + 1) apps);
    among = names_around apps i app h is;
    lacks = lacks_wider (wider_after a b c ab.same (ab.extends t)) (pod_file pod (image_path app.name)) most_of_manifest (λ bytes. HasReading bytes → ⊥) lacks;
  }

pub images_none : (pod : PodId) (apps images : List (List ℕ)) (d : DirAt) → apps ≡ [] → images ≡ [] → ReadsAppImages pod apps images d d
images_none pod apps images d no_apps no_images = rw (no_apps, no_images) tt

-- each has a reading
pub readable_none : (images : List ImageBytes) → images ≡ [] → All HasReading (map image_bytes images)
readable_none images none = subst (λ (l : List ImageBytes). All HasReading (map image_bytes l)) (sym none) (All-nil HasReading)

pub readable_next : (before after : List ImageBytes) (image : ImageBytes) → after ≡ before ++ image ∷ [] → All HasReading (map image_bytes before) → HasReading image.bytes → All HasReading (map image_bytes after)
readable_next before after image added all one =
    subst (λ (l : List (List ℕ)). All HasReading l) (sym (ap (map image_bytes) added ∙ map_push image_bytes before image)) (All-push HasReading (map image_bytes before) image.bytes all one)

pub image_form : (app : List ℕ) → IsAcName app → is_path (image_path app) ≡ true
image_form app is =
    let name = app_name app is in
    plain_behind (codes "appsinfo/" ++ app) (codes "manifest") (plain_behind (codes "appsinfo") app info_path refl name.some name.short name.plain) refl refl refl refl
