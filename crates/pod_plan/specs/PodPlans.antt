-- What is made in the folder of a pod, in this order.
use Rattle.std.specs.Prelude.{◌≡◌, ◌==◌, ℕ, true, codes, List, [], ◌∷◌, ◌++◌, map, Option, Some, None}
use Rattle.std.specs.List.{filter_map, flat_map, slice_get}
use Rattle.dir_model.specs.declared.area.Area.TheVariants.{Prepare}
use Rattle.dir_model.specs.Trees.{app_root}
use Rattle.dir_rules.specs.declared.seen.Making.{Making}
use Rattle.dir_rules.specs.declared.seen.Seen.{Seen}
use Rattle.dir_rules.specs.Marks.{created_mark}
use Rattle.dir_rules.specs.Rules.{is_all_done, is_whole_pod}
use Rattle.dir_rules.specs.Standing.{intends}
use Rattle.tree_digest.specs.declared.line.ListingLine.{ListingLine}
use Rattle.tree_digest.specs.Listings.{listing_text}
use Rattle.folder_building.specs.declared.plan.PlanEntry.{PlanEntry}
use Rattle.folder_building.specs.declared.plan.Content.TheVariants.{Directory}
use Rattle.folder_building.specs.Plans.{AreMade, are_in_turn}
use Rattle.folder_building.specs.TreePlans.{plan_entry_at, tree_entry}
use Rattle.folder_building.specs.ImagePlans.{given_file}
use Rattle.render.specs.Layers.{source_at}
use Rattle.pod_plan.specs.declared.pod_app.PodApp.{PodApp}
use Rattle.pod_plan.specs.PodFiles.{token_text, info_directory, app_manifest_path, stage_directory, tree_file, shared_directories}

-- the folder of the image at a place in the list of images
abbrev pub image_at : List (List ℕ) → Option ℕ → Option (List ℕ)
image_at images None = None
image_at images (Some place) = slice_get images place

-- the folder of the image whose file an app's rendering has at a path
abbrev pub image_of : List (List ℕ) → PodApp → List ℕ → Option (List ℕ)
image_of images app path = image_at images (source_at app.rendering path)

-- the directories and files of an app's root, each file copied from its path below the `rootfs` of the image that it is from
abbrev pub root_entries : List (List ℕ) → PodApp → List ListingLine → List PlanEntry
root_entries images app lines = filter_map (λ line. tree_entry (app_root app.name) (image_of images app line.path) (codes "rootfs") line) lines

-- an app's files: its image's manifest, its listing, and its root
abbrev pub app_entries : List (List ℕ) → PodApp → List PlanEntry
app_entries images app =
    plan_entry_at (info_directory app.name) Directory ∷ given_file (app_manifest_path app.name) app.manifest
    ∷ plan_entry_at (stage_directory app.name) Directory ∷ given_file (tree_file app.name) (listing_text app.listing)
    ∷ plan_entry_at (app_root app.name) Directory ∷ root_entries images app app.listing

-- the mark of the pod's creation, its token, and the directories that any pod has
abbrev pub pod_head_entries : ℕ → List ℕ → List PlanEntry
pod_head_entries now token =
    given_file (created_mark now) [] ∷ given_file (codes "token") (token_text token) ∷ map (λ path. plan_entry_at path Directory) shared_directories

-- then the files of each app, and the pod manifest last
abbrev pub pod_entries : ℕ → List ℕ → List ℕ → List (List ℕ) → List PodApp → List PlanEntry
pod_entries now token manifest images apps =
    pod_head_entries now token ++ (flat_map (app_entries images) apps ++ given_file (codes "pod") manifest ∷ [])

-- the plan comes in the order in which the rules let the maker of a pod fill it, where its moment is this
abbrev pub ComesInTurn : ℕ → List PlanEntry → Type 0
ComesInTurn now plan = (s : Seen) → intends (λ i. i.now == now) s.standing.intent ≡ true → are_in_turn s Prepare [] plan ≡ true

-- wherever it was carried out and everything was synced, the rules let the maker move the pod on
abbrev pub MakesWhole : List PlanEntry → Type 0
MakesWhole plan = (m : Making) → is_all_done m ≡ true → AreMade plan m.entries → is_whole_pod m ≡ true
