-- What is told of a root before its programs start.
use Rattle.std.specs.Prelude.{◌≡◌, ℕ, ◌==◌, if◌then◌else◌, List, [], ◌∷◌, ◌++◌, length, take, drop, reverse, bit_or}
use Rattle.std.specs.List.{flat_map}
use Rattle.host_files.specs.Places.{folder_path}
use Rattle.path_map.specs.declared.entry.Entry.{Entry}
use Rattle.path_map.specs.declared.entry.Entry.TheVariants.{Dir, File, Link}
use Rattle.spawner.specs.declared.call.RootPlace.{RootPlace}
use Rattle.tree_digest.specs.declared.line.ListingLine.{ListingLine}
use Rattle.tree_digest.specs.Listings.{listing_text, IsListing}
use Rattle.host_spawner.specs.declared.standing.Standing.TheVariants as standing
use Rattle.host_spawner.specs.Facts.{SpawnFact, stands, links, has_mode}
use Rattle.host_spawner.specs.Roots.{root_path, below_root}

-- the mode with all bits for the owner
abbrev pub opened_to_owner : ℕ → ℕ
opened_to_owner mode = bit_or mode 0o700

-- a directory stands at its path, and is opened to its owner
abbrev pub opening_at : List ℕ → Entry → List SpawnFact
opening_at path (Dir meta) = stands path standing.Directory ∷ has_mode path (opened_to_owner meta.mode) ∷ []
opening_at path (File meta size sha) = []
opening_at path (Link meta target) = []

abbrev pub opening : List ℕ → ListingLine → List SpawnFact
opening root line = opening_at (below_root root line.path) line.entry

-- a link stands at its path, with its target
abbrev pub linking_at : List ℕ → Entry → List SpawnFact
linking_at path (Dir meta) = []
linking_at path (File meta size sha) = []
linking_at path (Link meta target) = links path target ∷ []

abbrev pub linking : List ℕ → ListingLine → List SpawnFact
linking root line = linking_at (below_root root line.path) line.entry

-- a directory gets its mode; a file stands at its path, and gets its mode
abbrev pub closing_at : List ℕ → Entry → List SpawnFact
closing_at path (Dir meta) = has_mode path meta.mode ∷ []
closing_at path (File meta size sha) = stands path standing.File ∷ has_mode path meta.mode ∷ []
closing_at path (Link meta target) = []

abbrev pub closing : List ℕ → ListingLine → List SpawnFact
closing root line = closing_at (below_root root line.path) line.entry

-- all directories are opened, then all links stand, then all modes are set, those of the last line first: what stands in
-- a directory comes before it
abbrev pub laying : List ℕ → List ListingLine → List SpawnFact
laying root lines = flat_map (opening root) lines ++ flat_map (linking root) lines ++ flat_map (closing root) (reverse lines)

-- a directory stands where the path ends at a slash
abbrev pub step_at : List ℕ → ℕ → List SpawnFact
step_at before byte = if byte == 47 then stands before standing.Directory ∷ [] else []

-- directories stand at each path on the way, and at its end
abbrev pub way_from : List ℕ → List ℕ → List SpawnFact
way_from before [] = stands before standing.Directory ∷ []
way_from before (byte ∷ behind) = step_at before byte ++ way_from (before ++ byte ∷ []) behind

-- the way to a path, from a byte of it on
abbrev pub way : List ℕ → ℕ → List SpawnFact
way path start = way_from (take start path) (drop start path)

-- the text is a listing; directories stand on the way from the pod's folder to the root, and the listing's lines are laid
-- out below it
pub record IsRootReady (text base : List ℕ) (root : RootPlace) (old new : List SpawnFact) : Type 0 where
  pub lines : List ListingLine
  pub are : IsListing lines
  pub read : text ≡ listing_text lines
  pub told : new ≡ old ++ way (root_path base root) (length (folder_path base root.spot)) ++ laying (root_path base root) lines
