-- Where folders, owners and files are the same, so is a pod's status.
use Rattle.std.proofs.Common.{◌≡◌, ℕ, option_map, is_some, Option, Some, None, List, [], ◌∷◌, refl, ap, ◌∙◌}
use Rattle.std.specs.List.{cons_option, filter_map}
use Rattle.dir_model.specs.declared.area.Area.{Area}
use Rattle.dir_model.specs.declared.area.Area.TheVariants as area
use Rattle.dir_model.specs.declared.item.Inner.{Inner}
use Rattle.dir_model.specs.declared.pod.PodId.{PodId}
use Rattle.dir_model.specs.declared.spot.Spot.{Spot}
use Rattle.dir_model.specs.declared.tree.TreeEntry.{TreeEntry}
use Rattle.dir_model.specs.Listings.{item_names}
use Rattle.dir_model.specs.State.{DirState, folder_at, stands, is_owned_in, is_owned_at}
use Rattle.dir_rules.specs.Marks.{status_directory}
use Rattle.dir_rules.specs.Seen.{created_among}
use Rattle.dir_files.specs.Reads.{inner_at}
use Rattle.phase_read.specs.declared.found.Found.{Found}
use Rattle.phase_read.specs.declared.found.Found.TheVariants.{At, Gone}
use Rattle.dir_model.specs.Spots.{pod_spot}
use Rattle.phase_read.specs.Sequential.{or_in, sequential_read}
use Rattle.pod_lookup.specs.Pods.{in_order}
use Rattle.pod_report.specs.declared.ends.AppEndText.{AppEndText}
use Rattle.pod_report.specs.Ends.{status_file}
use Rattle.pod_report.specs.Sequential.{items_of, items_at, status_in_file, end_with, end_in, ends_in, created_in, status_found, sequential_status}
use Rattle.pod_report.proofs.QuietLines.{same_folder, same_file}
use Rattle.pod_report.proofs.QuietSurvey.{SameWorld}

module _ {me : ℕ} {s t : DirState} (w : SameWorld me s t) where
  pub same_stands : (spot : Spot) → stands t.namespace spot ≡ stands s.namespace spot
  same_stands spot = ap (λ (o : Option ℕ). is_some o) (same_folder w spot)

  owned_in : (folder : Option ℕ) → is_owned_in t.namespace folder ≡ is_owned_in s.namespace folder
  owned_in None = refl
  owned_in (Some k) = w.names.owned k

  pub same_owned : (spot : Spot) → is_owned_at t.namespace spot ≡ is_owned_at s.namespace spot
  same_owned spot = owned_in (folder_at t.namespace spot) ∙ ap (λ (o : Option ℕ). is_owned_in s.namespace o) (same_folder w spot)

  or_same : (pod : PodId) (a : Area) (here later : Found) → here ≡ later → or_in t pod a here ≡ or_in s pod a later
  or_same pod a here later is = rw (same_stands (pod_spot pod a), same_owned (pod_spot pod a), is) refl

  pub same_read : (pod : PodId) → sequential_read t pod ≡ sequential_read s pod
  same_read pod =
      or_same pod area.Embryo _ _ (or_same pod area.Prepare _ _ (or_same pod area.Prepared _ _ (or_same pod area.Run _ _ (or_same pod area.ExitedGarbage _ _ (or_same pod area.Garbage _ _ refl)))))

  same_items : (inner : Inner) → items_at t inner ≡ items_at s inner
  same_items inner =
      ap (λ (es : List TreeEntry). items_of es inner.path (folder_at t.namespace inner.spot)) w.entries
      ∙ ap (λ (o : Option ℕ). items_of s.entries inner.path o) (same_folder w inner.spot)

  same_end : (pod : PodId) (a : Area) (app : List ℕ) → end_in t pod a app ≡ end_in s pod a app
  same_end pod a app = ap (λ (o : Option (List ℕ)). option_map (end_with app) (status_in_file o)) (same_file w (status_file pod a app))

  ends_of : (pod : PodId) (a : Area) (names : List (List ℕ)) → filter_map (end_in t pod a) names ≡ filter_map (end_in s pod a) names
  ends_of pod a [] = refl
  ends_of pod a (name ∷ names) =
      ap (λ (o : Option AppEndText). cons_option o (filter_map (end_in t pod a) names)) (same_end pod a name)
      ∙ ap (λ (l : List AppEndText). cons_option (end_in s pod a name) l) (ends_of pod a names)

  same_ends : (pod : PodId) (a : Area) → ends_in t pod a ≡ ends_in s pod a
  same_ends pod a =
      ends_of pod a (in_order (item_names (items_at t (inner_at (pod_spot pod a) status_directory))))
      ∙ ap (λ l. filter_map (end_in s pod a) (in_order (item_names l))) (same_items (inner_at (pod_spot pod a) status_directory))

  same_created : (pod : PodId) (a : Area) → created_in t pod a ≡ created_in s pod a
  same_created pod a = ap created_among (same_items (inner_at (pod_spot pod a) []))

  same_found : (pod : PodId) (f : Found) → status_found t pod f ≡ status_found s pod f
  same_found pod (At phase a) = rw (same_created pod a, same_ends pod a) refl
  same_found pod Gone = refl

  pub same_status : (pod : PodId) → sequential_status t pod ≡ sequential_status s pod
  same_status pod = same_found pod (sequential_read t pod) ∙ ap (λ (f : Found). status_found s pod f) (same_read pod)
