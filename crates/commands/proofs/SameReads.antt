-- Where folders and owners are the same, a pod's phase is read the same.
use Rattle.std.proofs.Common.{◌≡◌, ℕ, Option, Some, None, is_some, position, List, refl, ap, ◌∙◌}
use Rattle.dir_model.specs.declared.area.Area.{Area}
use Rattle.dir_model.specs.declared.area.Area.TheVariants as area
use Rattle.dir_model.specs.declared.pod.PodId.{PodId}
use Rattle.dir_model.specs.declared.spot.Spot.{Spot}
use Rattle.dir_model.specs.Quiet.{SameNamespace}
use Rattle.dir_model.specs.State.{DirState, is_at, folder_at, stands, is_owned_in, is_owned_at}
use Rattle.phase_read.specs.declared.found.Found.{Found}
use Rattle.dir_model.specs.Spots.{pod_spot}
use Rattle.phase_read.specs.Sequential.{or_in, sequential_read}

module _ (me : ℕ) (s s' : DirState) (same : SameNamespace me s.namespace s'.namespace) where
  pub same_stands : (spot : Spot) → stands s'.namespace spot ≡ stands s.namespace spot
  same_stands spot = ap (λ (l : List (Option Spot)). is_some (position (is_at spot) l)) same.folders

  owned_in : (folder : Option ℕ) → is_owned_in s'.namespace folder ≡ is_owned_in s.namespace folder
  owned_in None = refl
  owned_in (Some k) = same.owned k

  pub same_owned : (spot : Spot) → is_owned_at s'.namespace spot ≡ is_owned_at s.namespace spot
  same_owned spot = owned_in (folder_at s'.namespace spot) ∙ ap (λ (l : List (Option Spot)). is_owned_in s.namespace (position (is_at spot) l)) same.folders

  or_same : (pod : PodId) (a : Area) (later later' : Found) → later' ≡ later → or_in s' pod a later' ≡ or_in s pod a later
  or_same pod a later later' is = rw (same_stands (pod_spot pod a), same_owned (pod_spot pod a), is) refl

  pub sequential_same : (pod : PodId) → sequential_read s' pod ≡ sequential_read s pod
  sequential_same pod =
      or_same pod area.Embryo _ _ (or_same pod area.Prepare _ _ (or_same pod area.Prepared _ _ (or_same pod area.Run _ _ (or_same pod area.ExitedGarbage _ _ (or_same pod area.Garbage _ _ refl)))))
