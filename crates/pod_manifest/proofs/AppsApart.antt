-- Images without a fault have apps of different names.
use Rattle.std.proofs.Common.{◌≡◌, ℕ, Bool, true, false, ◌||◌, List, [], ◌∷◌, ◌++◌, map, Option, Some, None, refl, sym, ◌∙◌}
use Rattle.std.specs.List.{AllByRecursion, IsDistinct}
use Rattle.std.specs.Option.{option_or}
use Rattle.std.specs.Prelude.{if◌then◌else◌}
use Rattle.std.specs.Str.{bytes_eq}
use Rattle.std.proofs.lemmas.Bool.{or_parts}
use Rattle.std.proofs.lemmas.List.Folds.{list_any-append}
use Rattle.ac_types.specs.SeenTexts.{is_among}
use Rattle.app_section.specs.declared.app.App.{App}
use Rattle.dep_match.specs.declared.stored.Stored.{Stored}
use Rattle.pod_manifest.specs.Generation.{app_fault, first_fault, image_fault, name_of, words_fault}
use Rattle.pod_manifest.specs.declared.gen_error.GenError.TheVariants.{AppTwice}
use Rattle.pod_manifest.proofs.Distinct.{each_weaker}

pub neither : {A : Type 0} (a b : Option A) → option_or a b ≡ None → (a ≡ None) × (b ≡ None)
neither None b h = (refl, h)
neither (Some x) b h = cc

words_new : (names : List (List ℕ)) (name : List ℕ) (words : List (List ℕ)) → words_fault names name words ≡ None
    → is_among name names ≡ false
words_new names name [] h = cc
words_new names name (w ∷ ws) h = by (is_among name names) h
  where
    by : (b : Bool) → (if b then Some (AppTwice name) else None) ≡ None → b ≡ false
    by true g = cc
    by false g = refl

app_new : (names : List (List ℕ)) (image : Stored) (o : Option App) → app_fault names image o ≡ None → is_among (name_of image) names ≡ false
app_new names image None h = cc
app_new names image (Some app) h = words_new names (name_of image) app.exec h

-- what an image's app in a pod is, where the images before have no fault
pub names_apart : (names : List (List ℕ)) (images : List Stored) → first_fault names images ≡ None
    → AllByRecursion (λ n. is_among n names ≡ false) (map name_of images) × IsDistinct bytes_eq (map name_of images)
unfolding IsDistinct
names_apart names [] h = (tt, tt)
names_apart names (image ∷ images) h =
    let parts = neither (image_fault names image) (first_fault (names ++ name_of image ∷ []) images) h in
    let rest = names_apart (names ++ name_of image ∷ []) images parts.1 in
    let both : (n : List ℕ) → is_among n (names ++ name_of image ∷ []) ≡ false
    → (is_among n names ≡ false) × ((bytes_eq (name_of image) n || false) ≡ false) =
    λ n g. or_parts (is_among n names) (bytes_eq (name_of image) n || false)
    (sym (list_any-append (λ (t : List ℕ). bytes_eq t n) names (name_of image ∷ [])) ∙ g) in (
      (
        app_new names image image.manifest.app parts.0,
        each_weaker (λ (n : List ℕ). is_among n (names ++ name_of image ∷ []) ≡ false) (λ (n : List ℕ). is_among n names ≡ false)
            (λ n g. (both n g).0) (map name_of images) rest.0,
      ),
      (
        each_weaker (λ (n : List ℕ). is_among n (names ++ name_of image ∷ []) ≡ false) (λ (n : List ℕ). bytes_eq (name_of image) n ≡ false)
            (λ n g. (or_parts (bytes_eq (name_of image) n) false (both n g).1).0) (map name_of images) rest.0,
        rest.1,
      ),
    )
