-- How the entries of a root get the images that their files are from, line by line.
use Rattle.std.specs.Prelude.{ℕ, zero, suc, List, [], ◌∷◌, Option, Some, None, option_map, slice_get}
use Rattle.path_map.specs.declared.entry.Entry.{Entry}
use Rattle.path_map.specs.declared.entry.Entry.TheVariants.{Dir, File, Link}
use Rattle.tree_digest.specs.declared.line.ListingLine.{ListingLine}
use Rattle.folder_building.specs.declared.plan.PlanEntry.{PlanEntry}
use Rattle.folder_building.specs.declared.plan.Content.{Content}
use Rattle.folder_building.specs.declared.plan.Content.TheVariants.{Directory, Given, Copied}

-- what is copied is of this image
abbrev pub content_from : Option (List ℕ) → Content → Content
content_from image Directory = Directory
content_from image (Given bytes) = Given bytes
content_from image (Copied origin size sha) = Copied (record { folder = image; path = origin.path }) size sha

abbrev pub from_image : Option (List ℕ) → PlanEntry → PlanEntry
from_image image e = record { path = e.path; content = content_from image e.content }

-- the first of the entries, and those that are left. For a link none was made
abbrev pub first_plan_entry : List PlanEntry → Option PlanEntry
first_plan_entry [] = None
first_plan_entry (e ∷ es) = Some e

abbrev pub others_of : List PlanEntry → List PlanEntry
others_of [] = []
others_of (e ∷ es) = es

abbrev pub taken : Entry → List PlanEntry → Option PlanEntry
taken (Dir meta) es = first_plan_entry es
taken (File meta size sha) es = first_plan_entry es
taken (Link meta target) es = None

abbrev pub left : Entry → List PlanEntry → List PlanEntry
left (Dir meta) es = others_of es
left (File meta size sha) es = others_of es
left (Link meta target) es = es

-- the image that a file is from; a directory and a link have none
abbrev pub for_file : Entry → Option (List ℕ) → Option (List ℕ)
for_file (Dir meta) image = None
for_file (File meta size sha) image = image
for_file (Link meta target) image = None

-- the path of the line before the one at a place
abbrev pub path_before : List ListingLine → ℕ → Option (List ℕ)
path_before lines zero = None
path_before lines (suc place) = option_map (λ (line : ListingLine). line.path) (slice_get lines place)
