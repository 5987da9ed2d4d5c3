-- The apps of the images at some places, one place after the other.
use Rattle.std.proofs.Common.{◌≡◌, ℕ, ◌+◌, ◌<◌, ◌≤◌, List, [], ◌∷◌, ◌++◌, Option, Some, None, length, map, take, drop, get_or, sym, ◌∙◌, ap, subst, inl, inr}
use Rattle.std.specs.List.{All}
use Rattle.std.specs.Option.{option_or}
use Rattle.std.proofs.lemmas.List.{map-append, drop_all}
use Rattle.std.proofs.lemmas.List.Elements.{All-push}
use Rattle.ac_types.specs.SeenTexts.{HasSeen}
use Rattle.ac_types.specs.declared.seen_texts.SeenTexts.{SeenTexts}
use Rattle.manifest_parts.specs.PartRules.{IsImageId}
use Rattle.manifests.specs.PodData.{RuntimeAppData, runtime_app_data}
use Rattle.manifests.specs.declared.runtime_app.RuntimeApp.{RuntimeApp}
use Rattle.dep_match.specs.declared.stored.Stored.{Stored}
use Rattle.pod_manifest.specs.Generation.{app_of, first_fault, image_fault, name_of, picked, IsRefusal}
use Rattle.pod_manifest.specs.declared.gen_error.GenError.{GenError}
use Rattle.pod_manifest.specs.Wishes.{Wishes}
use Rattle.pod_manifest.proofs.Picks.{picked_more, picked_next}

module _ (images : List Stored) (picks : List ℕ) (i : ℕ) (image : Stored) (more : i < length picks) (within : get_or picks i 0 < length images)
    (is : image ≡ get_or images (get_or picks i 0) image) where
  -- one app more
  pub apps_more : (options : Wishes) (apps now : List RuntimeApp) (app : RuntimeApp) → now ≡ apps ++ app ∷ []
      → runtime_app_data app ≡ app_of options image → map runtime_app_data apps ≡ map (app_of options) (picked images (take i picks))
      → map runtime_app_data now ≡ map (app_of options) (picked images (take (i + 1) picks))
  apps_more options apps now app now_is app_is before =
      ap (map runtime_app_data) now_is
      ∙ map-append runtime_app_data apps (app ∷ [])
      ∙ ap (λ (shown : List RuntimeAppData). shown ++ runtime_app_data app ∷ []) before
      ∙ ap (λ (a : RuntimeAppData). map (app_of options) (picked images (take i picks)) ++ a ∷ []) app_is
      ∙ sym (map-append (app_of options) (picked images (take i picks)) (image ∷ []))
      ∙ ap (map (app_of options)) (sym (picked_more images picks i image more within is))

  -- an image without a fault
  pub left_more : image_fault (map name_of (picked images (take i picks))) image ≡ None
      → first_fault (map name_of (picked images (take i picks))) (picked images (drop i picks))
      ≡ first_fault (map name_of (picked images (take (i + 1) picks))) (picked images (drop (i + 1) picks))
  left_more none =
      let names = map name_of (picked images (take i picks)) in
      let rest = picked images (drop (i + 1) picks) in
      ap (first_fault names) (picked_next images picks i image more within is)
      ∙ ap (λ (o : Option GenError). option_or o (first_fault (names ++ name_of image ∷ []) rest)) none
      ∙ ap (λ (ns : List (List ℕ)). first_fault ns rest)
      (sym (map-append name_of (picked images (take i picks)) (image ∷ [])) ∙ ap (map name_of) (sym (picked_more images picks i image more within is)))

  -- an image with a fault
  pub left_fault : (error : GenError) → image_fault (map name_of (picked images (take i picks))) image ≡ Some error
      → first_fault (map name_of (picked images (take i picks))) (picked images (drop i picks)) ≡ Some error
  left_fault error fault =
      let names = map name_of (picked images (take i picks)) in
      ap (first_fault names) (picked_next images picks i image more within is)
      ∙ ap (λ (o : Option GenError). option_or o (first_fault (names ++ name_of image ∷ []) (picked images (drop (i + 1) picks)))) fault

  pub refused : (whole : Option GenError) → whole ≡ first_fault (map name_of (picked images (take i picks))) (picked images (drop i picks))
      → (error : GenError) → IsRefusal (image_fault (map name_of (picked images (take i picks))) image) error → IsRefusal whole error
  refused whole whole_is error (inl none) = inl none
  refused whole whole_is error (inr fault) = inr (whole_is ∙ left_fault error fault)

  -- the names that were seen
  pub names_more : (seen : SeenTexts) → HasSeen seen (map name_of (picked images (take i picks)) ++ name_of image ∷ [])
      → HasSeen seen (map name_of (picked images (take (i + 1) picks)))
  names_more seen has =
      let P : List (List ℕ) → Type 0 = λ ns. HasSeen seen ns in
      subst P
      (sym (map-append name_of (picked images (take i picks)) (image ∷ [])) ∙ ap (map name_of) (sym (picked_more images picks i image more within is)))
      has

-- each app has the ID of an image
pub ids_more : (apps now : List RuntimeApp) (app : RuntimeApp) → now ≡ apps ++ app ∷ [] → IsImageId app.image.id
    → All (λ (a : RuntimeAppData). IsImageId a.image.id) (map runtime_app_data apps)
    → All (λ (a : RuntimeAppData). IsImageId a.image.id) (map runtime_app_data now)
ids_more apps now app now_is id ids =
    let P : List RuntimeAppData → Type 0 = λ shown. All (λ (a : RuntimeAppData). IsImageId a.image.id) shown in
    subst P (sym (ap (map runtime_app_data) now_is ∙ map-append runtime_app_data apps (app ∷ [])))
    (All-push (λ (a : RuntimeAppData). IsImageId a.image.id) (map runtime_app_data apps) (runtime_app_data app) ids id)

-- all images were looked at
pub none_left : (images : List Stored) (picks : List ℕ) (i : ℕ) (names : List (List ℕ)) → length picks ≤ i
    → first_fault names (picked images (drop i picks)) ≡ None
none_left images picks i names past = ap (λ (ps : List ℕ). first_fault names (picked images ps)) (drop_all i picks past)
