-- What a user wants of a pod that is to be made.
use Rattle.std.specs.Prelude.{ℕ, List}
use Rattle.pod_manifest.specs.Wishes.{Wishes}

-- the words that name its images, and the volumes and mounts that are asked for beside them
pub record Wants : Type 0 where
  pub images : List (List ℕ)
  pub wishes : Wishes
