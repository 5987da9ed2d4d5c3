-- The loops over a pod's apps and over its directories.
use Rattle.std.proofs.Common.{◌≡◌, ◌+◌, ◌<◌, ℕ, List, [], ◌∷◌, ◌++◌, length, take, get_or, sym, ap, subst, ◌∙◌, append_assoc, append-nil}
use Rattle.std.specs.List.{flat_map, AllByRecursion}
use Rattle.std.proofs.lemmas.List.{take_more}
use Rattle.std.proofs.lemmas.Grind.{flat_map-append}
use Rattle.dir_model.proofs.Lists.{all_push}
use Rattle.folder_building.specs.declared.plan.PlanEntry.{PlanEntry}
use Rattle.folder_building.specs.declared.plan.Content.TheVariants.{Directory}
use Rattle.folder_building.specs.TreePlans.{plan_entry_at}
use Rattle.pod_plan.specs.declared.pod_app.PodApp.{PodApp}
use Rattle.pod_plan.specs.AppParts.{IsPlanned}
use Rattle.pod_plan.specs.PodPlans.{app_entries}

-- the apps so far
pub record AreDone (images : List (List ℕ)) (apps : List PodApp) (i : ℕ) (before plan : List PlanEntry) : Type 0 where
  pub entries : plan ≡ before ++ flat_map (app_entries images) (take i apps)
  pub known : AllByRecursion (IsPlanned images) (take i apps)

pub one_more : (images : List (List ℕ)) (apps : List PodApp) (i : ℕ) (d : PodApp) (before plan new : List PlanEntry) → i < length apps → AreDone images apps i before plan → new ≡ plan ++ app_entries images (get_or apps i d) → IsPlanned images (get_or apps i d) → AreDone images apps (i + 1) before new
one_more images apps i d before plan new inside done is known =
    let app = get_or apps i d in
    let so_far = take i apps in
    let next : take (i + 1) apps ≡ so_far ++ app ∷ [] = take_more apps i d inside in
    let parts : flat_map (app_entries images) (so_far ++ app ∷ []) ≡ flat_map (app_entries images) so_far ++ app_entries images app =
    flat_map-append (app_entries images) so_far (app ∷ []) ∙ ap (λ l. flat_map (app_entries images) so_far ++ l) (append-nil (app_entries images app)) in
    record {
      entries = is ∙ (ap (λ l. l ++ app_entries images app) done.entries ∙ (append_assoc before (flat_map (app_entries images) so_far) (app_entries images app) ∙ ap (λ l. before ++ l) (sym parts ∙ ap (flat_map (app_entries images)) (sym next))));
      known = subst (λ (l : List PodApp). AllByRecursion (IsPlanned images) l) (sym next) (all_push (IsPlanned images) so_far app done.known known);
    }

-- the directories so far
module _ {A : Type 0} (text : A → List ℕ) where
  abbrev pub directory_of : A → PlanEntry
  directory_of path = plan_entry_at (text path) Directory
