-- What it means that a folder is a pod.
use Rattle.std.specs.Prelude.{◌≡◌, ℕ, true, codes, List, [], map}
use Rattle.std.specs.List.{list_all, All}
use Rattle.dir_model.specs.Trees.{is_dir, app_root}
use Rattle.dir_rules.specs.declared.seen.Entry.{Entry}
use Rattle.dir_rules.specs.Marks.{created_mark, status_directory}
use Rattle.dir_rules.specs.Rules.{has_dir_among}
use Rattle.tree_digest.specs.declared.line.ListingLine.{ListingLine}
use Rattle.tree_digest.specs.Listings.{listing_text}
use Rattle.folder_building.specs.declared.plan.PlanEntry.{PlanEntry}
use Rattle.folder_building.specs.Plans.{AreMade}
use Rattle.folder_building.specs.Materialized.{has_bytes, materializes}
use Rattle.pod_plan.specs.declared.pod_app.PodApp.{PodApp}
use Rattle.pod_plan.specs.PodFiles.{token_text, app_manifest_path, tree_file, is_pod_path}

-- what an app's files are made from: its name, its image's manifest, and its root's listing
pub record AppFiles : Type 0 where
  pub name : List ℕ
  pub manifest : List ℕ
  pub listing : List ListingLine

abbrev pub files_of : PodApp → AppFiles
files_of app = record { name = app.name; manifest = app.manifest; listing = app.listing }

-- the names of apps
abbrev pub names_of : List AppFiles → List (List ℕ)
names_of apps = map (λ (app : AppFiles). app.name) apps

-- the manifest of an app's image stands there, and the app's root is the tree of its listing
pub record HasApp (entries : List Entry) (app : AppFiles) : Type 0 where
  pub manifest : has_bytes (app_manifest_path app.name) app.manifest entries ≡ true
  pub root : has_dir_among (app_root app.name) entries ≡ true
  pub tree : materializes (app_root app.name) app.listing entries ≡ true
  pub listing : has_bytes (tree_file app.name) (listing_text app.listing) entries ≡ true

-- a folder with these entries is the pod with that token, that manifest and those apps, made at that moment: it has the mark of
-- its creation and the files of the pod and of each app, a directory for statuses, and nothing else
pub record IsPod (now : ℕ) (token manifest : List ℕ) (apps : List AppFiles) (entries : List Entry) : Type 0 where
  pub created : has_bytes (created_mark now) [] entries ≡ true
  pub token_there : has_bytes (codes "token") (token_text token) entries ≡ true
  pub each_app : All (HasApp entries) apps
  pub statuses : has_dir_among status_directory entries ≡ true
  pub manifest_there : has_bytes (codes "pod") manifest entries ≡ true
  pub others : list_all (λ e. is_pod_path now (names_of apps) (is_dir e.node) e.path) entries ≡ true

-- wherever this plan was carried out, the folder is that pod
abbrev pub MakesPod : ℕ → List ℕ → List ℕ → List AppFiles → List PlanEntry → Type 0
MakesPod now token manifest apps plan = (entries : List Entry) → AreMade plan entries → IsPod now token manifest apps entries
