-- A pod of one image without wishes.
use Rattle.std.proofs.Common.{arith, ◌≡◌, ◌&&◌, ℕ, Bool, true, false, bytes_eq, List, [], ◌∷◌, Ok, is_ok, ap}
use Rattle.std.proofs.lemmas.Map.Keys.{IsDistinct-from_apart}
use Rattle.ac_types.specs.References.{reference}
use Rattle.ac_types.specs.declared.image_ref.ImageRef.{ImageRef}
use Rattle.commands.specs.References.{are_references}
use Rattle.pod_manifest.specs.Wishes.{AreWishes}

pub no_wishes : AreWishes (record { volumes = []; mounts = [] })
no_wishes = record {
  each_volume = λ k d within. absurd (omega arith);
  volume_names = IsDistinct-from_apart bytes_eq [] (λ i j d lt le. absurd (omega arith));
  each_mount = λ k d within. absurd (omega arith);
}

pub one_reference : (word : List ℕ) (image : ImageRef) → reference word ≡ Ok image → are_references (word ∷ []) ≡ true
one_reference word image is = by (is_ok (reference word)) (ap is_ok is)
  where
    by : (b : Bool) → b ≡ true → (b && true) ≡ true
    by true h = h
    by false h = h
