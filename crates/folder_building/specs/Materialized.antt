-- What it means that a folder holds the tree of a listing.
use Rattle.std.specs.Prelude.{ℕ, Bool, true, false, not, ◌&&◌, ◌||◌, ◌==◌, bytes_eq, codes, List, ◌++◌, length, filter}
use Rattle.std.specs.List.{list_any, list_all, flat_map}
use Rattle.sha2.specs.Sha512.{sha512}
use Rattle.dir_model.specs.declared.tree.TreeNode.{TreeNode}
use Rattle.dir_model.specs.Paths.{lies_below}
use Rattle.dir_model.specs.Trees.{is_dir, bytes_of}
use Rattle.dir_rules.specs.declared.seen.Entry.{Entry}
use Rattle.dir_rules.specs.Rules.{has_dir_among, has_file_among}
use Rattle.path_map.specs.declared.entry.Entry.{Entry as TreeEntry}
use Rattle.path_map.specs.declared.entry.Entry.TheVariants.{Dir, File, Link}
use Rattle.tree_digest.specs.declared.line.ListingLine.{ListingLine}
use Rattle.tree_digest.specs.Listings.{listing_text}
use Rattle.folder_building.specs.Plans.{is_entry_at}

-- the path in the folder of what a listing has at an absolute path
abbrev pub prefixed_path : List ℕ → List ℕ → List ℕ
prefixed_path prefix path = prefix ++ path

-- a file's bytes: its pieces, one after the other
abbrev pub joined_file_pieces : List ℕ → List Entry → List ℕ
joined_file_pieces path entries = flat_map (λ e. bytes_of e.node) (filter (is_entry_at path) entries)

-- a file stands there, with this size and SHA-512
abbrev pub has_file_of : List ℕ → ℕ → List ℕ → List Entry → Bool
has_file_of path size sha entries = has_file_among path entries && ((length (joined_file_pieces path entries) == size) && bytes_eq (sha512 (joined_file_pieces path entries)) sha)

-- what a line names stands there: a directory, or a file with its size and SHA-512. A link stands in the listing alone
abbrev pub stands_at : TreeEntry → List ℕ → List Entry → Bool
stands_at (Dir meta) path entries = has_dir_among path entries
stands_at (File meta size sha) path entries = has_file_of path size sha entries
stands_at (Link meta target) path entries = true

-- it is of the kind that a line names
abbrev pub is_kind_of_line : TreeEntry → TreeNode → Bool
is_kind_of_line (Dir meta) node = is_dir node
is_kind_of_line (File meta size sha) node = not (is_dir node)
is_kind_of_line (Link meta target) node = false

-- one of the lines names it
abbrev pub is_named_by_lines : List ℕ → List ListingLine → Entry → Bool
is_named_by_lines prefix lines e = list_any (λ line. is_kind_of_line line.entry e.node && bytes_eq e.path (prefixed_path prefix line.path)) lines

abbrev pub are_standing : List ℕ → List ListingLine → List Entry → Bool
are_standing prefix lines entries = list_all (λ line. stands_at line.entry (prefixed_path prefix line.path) entries) lines

abbrev pub are_named : List ℕ → List ListingLine → List Entry → Bool
are_named prefix lines entries = list_all (λ e. not (lies_below e.path prefix) || is_named_by_lines prefix lines e) entries

-- below the prefix stand the directories and files of the listing, and nothing else
abbrev pub materializes : List ℕ → List ListingLine → List Entry → Bool
materializes prefix lines entries = are_standing prefix lines entries && are_named prefix lines entries

-- a file with these bytes stands there
abbrev pub has_bytes : List ℕ → List ℕ → List Entry → Bool
has_bytes path bytes entries = has_file_among path entries && bytes_eq (joined_file_pieces path entries) bytes

-- the folder stands for the map of a listing: its directory `rootfs` holds the tree, and its file `tree` is the listing's text
abbrev pub stands_for : List ListingLine → List Entry → Bool
stands_for lines entries = has_dir_among (codes "rootfs") entries && (materializes (codes "rootfs") lines entries && has_bytes (codes "tree") (listing_text lines) entries)
