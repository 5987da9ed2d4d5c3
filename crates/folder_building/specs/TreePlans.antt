-- The part of a plan that makes the tree of a listing.
use Rattle.std.specs.Prelude.{◌≡◌, ◌≤◌, ℕ, true, false, List, ◌∷◌, length, Option, Some, None, option_map}
use Rattle.std.specs.List.{list_any, filter_map}
use Rattle.dir_model.specs.Paths.{is_empty, is_path}
use Rattle.dir_model.specs.Trees.{is_within}
use Rattle.dir_rules.specs.declared.seen.Entry.{Entry}
use Rattle.dir_rules.specs.Rules.{is_in_directory}
use Rattle.path_map.specs.declared.entry.Entry.{Entry as TreeEntry}
use Rattle.path_map.specs.declared.entry.Entry.TheVariants.{Dir, File, Link}
use Rattle.tree_digest.specs.declared.line.ListingLine.{ListingLine}
use Rattle.folder_building.specs.declared.plan.PlanEntry.{PlanEntry}
use Rattle.folder_building.specs.declared.plan.Content.{Content}
use Rattle.folder_building.specs.declared.plan.Content.TheVariants.{Directory, Copied}
use Rattle.folder_building.specs.Plans.{AreMade, planned_entries, is_plan_after}
use Rattle.folder_building.specs.Materialized.{prefixed_path, materializes}

-- what is made for a line, whose bytes lie here in a folder of the store or elsewhere. A link isn't made
abbrev pub content_of : Option (List ℕ) → List ℕ → TreeEntry → Option Content
content_of folder from (Dir meta) = Some Directory
content_of folder from (File meta size sha) = Some (Copied (record { folder = folder; path = from }) size sha)
content_of folder from (Link meta target) = None

abbrev pub plan_entry_at : List ℕ → Content → PlanEntry
plan_entry_at path content = record { path = path; content = content }

abbrev pub tree_entry : List ℕ → Option (List ℕ) → List ℕ → ListingLine → Option PlanEntry
tree_entry prefix folder from line = option_map (plan_entry_at (prefixed_path prefix line.path)) (content_of folder (prefixed_path from line.path) line.entry)

-- the directories and files of the listing, below the prefix, in the listing's order
abbrev pub tree_entries : List ℕ → Option (List ℕ) → List ℕ → List ListingLine → List PlanEntry
tree_entries prefix folder from lines = filter_map (tree_entry prefix folder from) lines

-- wherever these entries were made, they are the tree of the listing below the prefix
abbrev pub MakesTree : List ℕ → List ListingLine → List PlanEntry → Type 0
MakesTree prefix lines plan = (entries : List Entry) → AreMade plan entries → materializes prefix lines entries ≡ true

-- the prefix is a new directory's path, with room below it for absolute paths, and what is copied lies below a path
pub record IsTreePrefix (prefix from : List ℕ) (before : List PlanEntry) : Type 0 where
  pub path : is_path prefix ≡ true
  pub some : is_empty prefix ≡ false
  pub short : length prefix ≤ 4096
  pub parent : is_in_directory prefix (planned_entries before) ≡ true
  -- nothing of the plan before lies at the prefix or below it
  pub free : list_any (λ e. is_within prefix e.path) before ≡ false
  pub source : is_path from ≡ true
  pub given : is_empty from ≡ false

-- wherever the prefix is such, the directory at it and these entries carry a plan on
abbrev pub CarriesOn : List ℕ → List ℕ → List PlanEntry → Type 0
CarriesOn prefix from plan = (before : List PlanEntry) → IsTreePrefix prefix from before → is_plan_after before (plan_entry_at prefix Directory ∷ plan) ≡ true
