-- What stands below a directory of a bundle, and the order in which a walk comes to it.
use Rattle.std.specs.Prelude.{◌≡◌, ◌⊎◌, ℕ, List, [], ◌∷◌, ◌++◌, length, Some, IsSome}
use Rattle.std.specs.List.{AllByRecursion}
use Rattle.std.specs.Ordering.{nat_cmp}
use Rattle.std.specs.declared.cmp.Ordering.TheVariants.{Less}
use Rattle.std.specs.Cmp.Lexicographic.{slice_cmp}
use Rattle.dir_model.specs.Names.{IsFileName}
use Rattle.dir_trait.specs.Bundles.{BundleTree, kind_at}
use Rattle.dir_trait.specs.declared.bundle.BundleKind.TheVariants as kinds
use Rattle.path_map.specs.Paths.{HasNone}
use Rattle.path_map.specs.declared.entry.Entry.{Entry}
use Rattle.path_map.specs.Entries.{entry_at}
use Rattle.tree_digest.specs.declared.line.ListingLine.{ListingLine}
use Rattle.tree_digest.specs.declared.listing_error.ListingError.TheVariants.{TooMany}
use Rattle.tree_digest.specs.Listings.{entries_of, IsTooLarge}
use Rattle.bundle_image.specs.declared.refusal.BundleRefusal.{BundleRefusal}
use Rattle.bundle_image.specs.declared.refusal.BundleRefusal.TheVariants.{Listing}
use Rattle.bundle_image.specs.Entries.{IsEntryOf, EntryFault}

-- what stands at the paths below a directory, which begin with a slash. The empty path is the directory's own
abbrev pub subtree_below : BundleTree → List ℕ → BundleTree
subtree_below tree root path = tree (root ++ path)

-- the path of a name in a directory
abbrev pub in_directory : List ℕ → List ℕ → List ℕ
in_directory directory name = directory ++ 47 ∷ name

-- the path to which names lead from a directory
abbrev pub path_along : List ℕ → List (List ℕ) → List ℕ
path_along directory [] = directory
path_along directory (name ∷ names) = path_along (in_directory directory name) names

-- names of files, each in a directory that stands
abbrev pub Leads : BundleTree → List ℕ → List (List ℕ) → Type 0
Leads nodes directory [] = Unit {0}
Leads nodes directory (name ∷ names) = IsFileName name × (kind_at (nodes directory) ≡ Some kinds.Dir) × Leads nodes (in_directory directory name) names

-- names lead from a directory through directories to a path
pub record LeadsTo (nodes : BundleTree) (directory path : List ℕ) : Type 0 where
  pub names : List (List ℕ)
  pub leads : Leads nodes directory names
  pub is : path ≡ path_along directory names

-- something stands at a path below the root, and each directory on the way to it
pub record Stands (nodes : BundleTree) (path : List ℕ) : Type 0 where
  pub name : List ℕ
  pub names : List (List ℕ)
  pub leads : Leads nodes [] (name ∷ names)
  pub is : path ≡ path_along [] (name ∷ names)
  pub some : IsSome (nodes path)

-- a path is the other, or lies below it
abbrev pub IsAtOrBelow : List ℕ → List ℕ → Type 0
IsAtOrBelow path other = (path ≡ other) ⊎ ((rest : List ℕ) × (path ≡ other ++ 47 ∷ rest))

-- two paths are at or below two names of one directory, the first path at the smaller name
pub record IsBeside (first second : List ℕ) : Type 0 where
  pub directory : List ℕ
  pub smaller : List ℕ
  pub greater : List ℕ
  pub first_name : HasNone 47 smaller
  pub second_name : HasNone 47 greater
  pub less : slice_cmp nat_cmp smaller greater ≡ Less
  pub first_below : IsAtOrBelow first (in_directory directory smaller)
  pub second_below : IsAtOrBelow second (in_directory directory greater)

-- a walk comes to the first path before the second: the second lies below the first, or they part at two names
abbrev pub ComesBefore : List ℕ → List ℕ → Type 0
ComesBefore first second = ((rest : List ℕ) × (second ≡ first ++ 47 ∷ rest)) ⊎ IsBeside first second

-- one of the lines is at the path
abbrev pub IsLinePath : List ListingLine → List ℕ → Type 0
IsLinePath [] path = ⊥
IsLinePath (line ∷ lines) path = (line.path ≡ path) ⊎ IsLinePath lines path

-- each line comes before those after it
abbrev pub AreInWalkOrder : List ListingLine → Type 0
AreInWalkOrder [] = Unit {0}
AreInWalkOrder (line ∷ lines) = AllByRecursion (λ later. ComesBefore line.path later.path) lines × AreInWalkOrder lines

-- the line of something that stands there
pub record IsLineOfBundle (nodes : BundleTree) (line : ListingLine) : Type 0 where
  pub stands : Stands nodes line.path
  pub entry : IsEntryOf (nodes line.path) line.entry

-- the lines of all that a walk comes to before a path, at which something stands
pub record AreBefore (nodes : BundleTree) (lines : List ListingLine) (path : List ℕ) : Type 0 where
  pub each : AllByRecursion (IsLineOfBundle nodes) lines
  pub order : AreInWalkOrder lines
  pub stands : Stands nodes path
  pub later : AllByRecursion (λ line. ComesBefore line.path path) lines
  pub others : (other : List ℕ) → Stands nodes other → IsLinePath lines other ⊎ ((other ≡ path) ⊎ ComesBefore path other)

-- the fault of an entry after these lines: its own, or that with its line there are too many lines or bytes
abbrev pub FaultWith : BundleTree → List ListingLine → List ℕ → BundleRefusal → Type 0
FaultWith nodes lines path refusal =
    EntryFault (nodes path) path (length lines) refusal
    ⊎ ((line : ListingLine) × (limit : ℕ) × (line.path ≡ path) × IsEntryOf (nodes path) line.entry × (refusal ≡ Listing (TooMany limit)) × IsTooLarge (lines ++ line ∷ []) (TooMany limit))

-- the first fault that a walk comes to
pub record IsFirstFault (nodes : BundleTree) (refusal : BundleRefusal) : Type 0 where
  pub before : List ListingLine
  pub path : List ℕ
  pub are : AreBefore nodes before path
  pub fault : FaultWith nodes before path refusal

-- the listing is that of all that stands below the root: each entry is of something there, and nothing is left out
pub record IsWalked (nodes : BundleTree) (listing : List ListingLine) : Type 0 where
  pub each : (path : List ℕ) (entry : Entry) → entry_at (entries_of listing) path ≡ Some entry → Stands nodes path × IsEntryOf (nodes path) entry
  pub whole : (path : List ℕ) → Stands nodes path → IsSome (entry_at (entries_of listing) path)
