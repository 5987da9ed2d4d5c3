-- There are such images.
use Rattle.std.proofs.Common.{ℕ, zero, suc, ◌/◌, codes, None, List, [], ◌∷◌, map, refl, sym, subst, arith}
use Rattle.std.specs.List.{range_with_len}
use Rattle.std.proofs.lemmas.List.FromFn.{get_or-map-range_with_len, length-map-range_with_len}
use Rattle.manifest_parts.specs.declared.dependency.Dependency.{Dependency}
use Rattle.dep_match.specs.declared.stored.Stored.{Stored}
use Rattle.demo_images.specs.DemoImages.{demo_name, AreDependencies, IsDemoImage, AreDemoImages}

on : ℕ → Dependency
on i = record { image_name = demo_name i; image_id = None; labels = []; size = None }

dependencies : ℕ → List Dependency
dependencies zero = []
dependencies (suc i) = on (i / 2) ∷ []

are_dependencies : (i : ℕ) → AreDependencies i (dependencies i)
unfolding on dependencies
are_dependencies zero = refl
are_dependencies (suc i) = (on (i / 2), refl, record { name = refl; id = refl; labels = refl })

image : ℕ → Stored
image i = record {
  key = record { bytes = [] };
  id = record { bytes = [] };
  manifest = record { ac_version = codes "0.8.0"; name = demo_name i; labels = []; app = None; dependencies = dependencies i; path_whitelist = []; annotations = [] };
  moment = i;
}

is_image : (i : ℕ) → IsDemoImage i (image i)
unfolding image
is_image i = record { name = refl; dependencies = are_dependencies i; whitelist = refl }

pub some_images : (n : ℕ) → (images : List Stored) × AreDemoImages n images
some_images n = (
  map image (range_with_len 0 n),
  record {
    count = length-map-range_with_len image 0 n;
    each = λ i h other. subst (IsDemoImage i) (sym (get_or-map-range_with_len image 0 n i i other h (omega arith))) (is_image i);
  },
)
