-- The manifests of the images of a pod.
use Rattle.std.proofs.Common.{◌≡◌, ◌≢◌, ℕ, ◌+◌, ◌<◌, Bool, IsTrue, List, [], ◌∷◌, ◌++◌, length, map, take, get_or, Result, Ok, Err, IfOk, sym, ap, subst, ◌∙◌}
use Rattle.std.specs.List.{All}
use Rattle.std.proofs.lemmas.List.{take_more, map-append, length-map, get_or-map}
use Rattle.std.proofs.lemmas.List.Elements.{All-push, All-get_or}
use Rattle.manifests.specs.PodData.{runtime_app_data}
use Rattle.metadata_reply.specs.declared.view.ImageBytes.{ImageBytes}
use Rattle.metadata_reply.specs.declared.view.PodView.{PodView}
use Rattle.metadata_reply.specs.Views.{image_bytes, view_data, HasReading, IsWholeView}

abbrev pub AllRead : List ImageBytes → Type 0
AllRead images = All HasReading (map image_bytes images)

-- one more was read
pub one_more : (images : List ImageBytes) (i : ℕ) (image : ImageBytes) → i < length images → image ≡ get_or images i image → AllRead (take i images) → HasReading image.bytes → AllRead (take (i + 1) images)
one_more images i image more is before here =
    let grown : map image_bytes (take (i + 1) images) ≡ map image_bytes (take i images) ++ image.bytes ∷ [] =
    ap (map image_bytes) (take_more images i image more ∙ ap (λ (x : ImageBytes). take i images ++ x ∷ []) (sym is))
    ∙ map-append image_bytes (take i images) (image ∷ []) in
    subst (λ (bytes : List (List ℕ)). All HasReading bytes) (sym grown) (All-push HasReading (map image_bytes (take i images)) image.bytes before here)

-- a view with an image for each app, whose manifests were all read
pub whole_when_read : {E : Type 0} (r : Result Bool E) (v : PodView) (images : List ImageBytes) → images ≡ v.images → length images ≡ length v.manifest.apps → IfOk r (λ read. IsTrue read → AllRead images) → IfOk r (λ whole. IsTrue whole → IsWholeView (view_data v))
whole_when_read (Err e) v images are paired h = tt
whole_when_read (Ok read) v images are paired h = λ yes.
    let sizes : length v.images ≡ length v.manifest.apps = ap (λ (xs : List ImageBytes). length xs) (sym are) ∙ paired in
    record {
      paired = length-map v.images image_bytes ∙ (sizes ∙ sym (length-map v.manifest.apps runtime_app_data));
      readable = subst AllRead are (h yes);
    }

-- where all were read, so was this one
pub one_of_all : (images : List ImageBytes) (i : ℕ) (image : ImageBytes) → i < length images → image ≡ get_or images i image → AllRead images → HasReading image.bytes
one_of_all images i image within is all =
    let inside : i < length (map image_bytes images) = subst (λ (n : ℕ). i < n) (sym (length-map images image_bytes)) within in
    subst HasReading (get_or-map image_bytes images i image image.bytes within ∙ ap image_bytes (sym is))
    (All-get_or HasReading (map image_bytes images) i image.bytes inside all)

-- a view that isn't whole: it has more or fewer images than apps
pub other_count : (v : PodView) (images : List ImageBytes) → images ≡ v.images → length images ≢ length v.manifest.apps → IsWholeView (view_data v) → ⊥
other_count v images are other whole =
    other (ap (λ (xs : List ImageBytes). length xs) are ∙ (sym (length-map v.images image_bytes) ∙ (whole.paired ∙ length-map v.manifest.apps runtime_app_data)))
