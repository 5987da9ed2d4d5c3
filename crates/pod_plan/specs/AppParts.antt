-- The parts of an app's files.
use Rattle.std.specs.Prelude.{ℕ, codes, List, [], ◌∷◌}
use Rattle.dir_model.specs.Trees.{app_root}
use Rattle.ac_types.specs.Names.{IsAcName}
use Rattle.tree_digest.specs.Listings.{listing_text, IsListing}
use Rattle.folder_building.specs.declared.plan.PlanEntry.{PlanEntry}
use Rattle.folder_building.specs.declared.plan.Content.TheVariants.{Directory}
use Rattle.folder_building.specs.TreePlans.{plan_entry_at, CarriesOn, MakesTree}
use Rattle.folder_building.specs.ImagePlans.{given_file}
use Rattle.pod_plan.specs.declared.pod_app.PodApp.{PodApp}
use Rattle.pod_plan.specs.PodFiles.{info_directory, app_manifest_path, stage_directory, tree_file}
use Rattle.pod_plan.specs.PodPlans.{root_entries}

abbrev pub info_entries : PodApp → List PlanEntry
info_entries app = plan_entry_at (info_directory app.name) Directory ∷ given_file (app_manifest_path app.name) app.manifest ∷ []

abbrev pub stage_entries : PodApp → List PlanEntry
stage_entries app =
    plan_entry_at (stage_directory app.name) Directory ∷ given_file (tree_file app.name) (listing_text app.listing)
    ∷ plan_entry_at (app_root app.name) Directory ∷ []

-- an app whose root's entries carry a plan on and make the tree of its listing
pub record IsPlanned (images : List (List ℕ)) (app : PodApp) : Type 0 where
  pub named : IsAcName app.name
  pub listed : IsListing app.listing
  pub carries : CarriesOn (app_root app.name) (codes "rootfs") (root_entries images app app.listing)
  pub makes : MakesTree (app_root app.name) app.listing (root_entries images app app.listing)
