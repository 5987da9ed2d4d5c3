-- What the folder of an image holds.
use Rattle.std.specs.Prelude.{◌≡◌, ℕ, Bool, true, ◌||◌, bytes_eq, codes, List, [], ◌∷◌, ◌++◌, None}
use Rattle.std.specs.List.{list_all}
use Rattle.dir_model.specs.Paths.{lies_below}
use Rattle.dir_rules.specs.declared.seen.Entry.{Entry}
use Rattle.dir_rules.specs.Marks.{mark}
use Rattle.ac_types.specs.Ids.{id_text}
use Rattle.tree_digest.specs.declared.line.ListingLine.{ListingLine}
use Rattle.tree_digest.specs.Listings.{listing_text}
use Rattle.folder_building.specs.declared.plan.PlanEntry.{PlanEntry}
use Rattle.folder_building.specs.declared.plan.Content.TheVariants.{Directory, Given}
use Rattle.folder_building.specs.Plans.{AreMade}
use Rattle.folder_building.specs.Materialized.{has_bytes, stands_for}
use Rattle.folder_building.specs.TreePlans.{plan_entry_at, tree_entries}

-- the bytes of the file `id`: the ID's text and a line feed
abbrev pub id_file : List ℕ → List ℕ
id_file id = id_text id ++ 10 ∷ []

-- the mark of an import at a moment
abbrev pub imported_mark : ℕ → List ℕ
imported_mark moment = mark (codes "imported-") moment

abbrev pub given_file : List ℕ → List ℕ → PlanEntry
given_file path bytes = plan_entry_at path (Given bytes)

abbrev pub mark_file : ℕ → PlanEntry
mark_file moment = given_file (imported_mark moment) []

-- the files beside the tree
abbrev pub image_head_entries : List ℕ → List ℕ → List ListingLine → ℕ → List PlanEntry
image_head_entries manifest id lines now = given_file (codes "manifest") manifest ∷ given_file (codes "id") (id_file id) ∷ given_file (codes "tree") (listing_text lines) ∷ mark_file now ∷ []

-- and the directory `rootfs` with the directories and files of the listing, each file copied from its path below another `rootfs`
abbrev pub image_entries : List ℕ → List ℕ → List ListingLine → ℕ → List PlanEntry
image_entries manifest id lines now = image_head_entries manifest id lines now ++ plan_entry_at (codes "rootfs") Directory ∷ tree_entries (codes "rootfs") None (codes "rootfs") lines

-- one of an image's own files, or something of its tree
abbrev pub is_of_image : ℕ → List ℕ → Bool
is_of_image now path =
    bytes_eq path (codes "manifest") || (bytes_eq path (codes "id") || (bytes_eq path (codes "tree") || (bytes_eq path (imported_mark now)
    || (bytes_eq path (codes "rootfs") || lies_below path (codes "rootfs")))))

-- a folder with these entries is the image of that manifest, that ID and that listing, imported at that moment: it stands for
-- the listing's tree, has those files, and holds nothing else
pub record IsImageFolder (manifest id : List ℕ) (lines : List ListingLine) (now : ℕ) (entries : List Entry) : Type 0 where
  pub manifest_file : has_bytes (codes "manifest") manifest entries ≡ true
  pub id_file_there : has_bytes (codes "id") (id_file id) entries ≡ true
  pub stands : stands_for lines entries ≡ true
  pub marked : has_bytes (imported_mark now) [] entries ≡ true
  pub others : list_all (λ e. is_of_image now e.path) entries ≡ true

-- wherever this plan was carried out, the folder is that image
abbrev pub MakesImage : List ℕ → List ℕ → List ListingLine → ℕ → List PlanEntry → Type 0
MakesImage manifest id lines now plan = (entries : List Entry) → AreMade plan entries → IsImageFolder manifest id lines now entries
