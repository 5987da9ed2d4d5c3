-- What stands in a bundle, and what its calls answer.
use Rattle.std.specs.Prelude.{◌≡◌, ◌≤◌, ℕ, ◌+◌, ◌-◌, ◌==◌, min, Bool, true, if◌then◌else◌, List, [], ◌∷◌, ◌++◌, length, take, drop, map, All, Contains, Option, Some, None, IsSome, option_map, Result, Ok, Err}
use Rattle.std.specs.List.{AllByRecursion}
use Rattle.std.specs.List.Sorted.{IsStrictlySortedBy}
use Rattle.std.specs.Ordering.{nat_cmp}
use Rattle.std.specs.Cmp.Lexicographic.{slice_cmp}
use Rattle.dir_model.specs.Names.{IsFileName}
use Rattle.dir_trait.specs.declared.bundle.BundleError.{BundleError}
use Rattle.dir_trait.specs.declared.bundle.BundleItem.{BundleItem}
use Rattle.dir_trait.specs.declared.bundle.BundleAction.{BundleAction}
use Rattle.dir_trait.specs.declared.bundle.BundleRequest.{BundleRequest}
use Rattle.dir_trait.specs.declared.bundle.BundleKind.{BundleKind}
use Rattle.dir_trait.specs.declared.bundle.BundleKind.TheVariants as kinds
use Rattle.dir_trait.specs.declared.node.Node.{Node}
use Rattle.dir_trait.specs.declared.node.Node.TheVariants.{Directory, File, Link, Other}

-- what stands at each path. The empty path is the bundle's own root
abbrev pub BundleTree : Type 0
BundleTree = List ℕ → Option Node

-- what a bundle shows at a moment
pub record BundleAt : Type 0 where
  -- what stands in it, where it is observed
  pub tree : BundleTree
  -- how often it failed
  pub faults : ℕ
  -- a measure of the bytes that it gave, which one reading raises by at most those that it answers: their number is one
  pub given : ℕ
  -- what it was asked for so far, where it is observed
  pub asked : List BundleRequest

abbrev pub request_at : BundleAction → List ℕ → BundleRequest
request_at action path = record { action = action; path = path }

-- it was asked for nothing but this
pub record AsksBundleOnly (request : BundleRequest) (old new : List BundleRequest) : Type 0 where
  pub more : List BundleRequest
  pub grown : new ≡ old ++ more
  pub each : AllByRecursion (λ asked. asked ≡ request) more

-- how many bytes an answer gave
abbrev pub bytes_given : Result ℕ BundleError → ℕ
bytes_given (Ok count) = count
bytes_given (Err error) = 0

-- one call, which gave so many bytes
pub record BundleCall (observed : Bool) (old : BundleAt) (request : BundleRequest) (count : ℕ) (new : BundleAt) : Type 0 where
  pub faults : old.faults ≤ new.faults
  pub given : new.given ≤ old.given + count
  pub same : observed ≡ true → new.tree ≡ old.tree
  pub asked : observed ≡ true → AsksBundleOnly request old.asked new.asked

abbrev pub bundle_kind_of : Node → BundleKind
bundle_kind_of Directory = kinds.Dir
bundle_kind_of (File bytes) = kinds.File
bundle_kind_of (Link target) = kinds.Link
bundle_kind_of Other = kinds.Other

-- the kind of what stands there
abbrev pub kind_at : Option Node → Option BundleKind
kind_at node = option_map bundle_kind_of node

-- the bytes of the file that stands there
abbrev pub bytes_of_node : Option Node → Option (List ℕ)
bytes_of_node None = None
bytes_of_node (Some Directory) = None
bytes_of_node (Some (File bytes)) = Some bytes
bytes_of_node (Some (Link target)) = None
bytes_of_node (Some Other) = None

-- the target of the link that stands there
abbrev pub link_target : Option Node → Option (List ℕ)
link_target None = None
link_target (Some Directory) = None
link_target (Some (File bytes)) = None
link_target (Some (Link target)) = Some target
link_target (Some Other) = None

-- n of the bytes from a place on were written over the front of a room: as many as fit, of those that there are
pub record Fills (bytes : List ℕ) (at : ℕ) (old : List ℕ) (n : ℕ) (new : List ℕ) : Type 0 where
  pub count : n ≡ min (length old) (length bytes - at)
  pub room : new ≡ take n (drop at bytes) ++ drop n old

-- how the paths of what stands in a directory begin
abbrev pub directory_prefix : List ℕ → List ℕ
directory_prefix directory = if length directory == 0 then [] else directory ++ 47 ∷ []

-- the path of a name in a directory
abbrev pub child_path : List ℕ → List ℕ → List ℕ
child_path directory name = directory_prefix directory ++ name

abbrev pub bundle_item_of : List ℕ × BundleKind → BundleItem
bundle_item_of named = record { name = named.0; kind = named.1 }

-- in byte order of the names, and each name once
abbrev pub IsBundleListing : List BundleItem → Type 0
IsBundleListing items = IsStrictlySortedBy (slice_cmp nat_cmp) (map (λ item. item.name) items)

-- a directory stands at the path, each item is the name and kind of what stands in it, and no name is left out
pub record Lists (tree : BundleTree) (path : List ℕ) (items : List BundleItem) : Type 0 where
  pub directory : kind_at (tree path) ≡ Some kinds.Dir
  pub each : All (λ item. kind_at (tree (child_path path item.name)) ≡ Some item.kind) items
  pub whole : (name : List ℕ) → IsFileName name → IsSome (tree (child_path path name)) → Contains (map (λ item. item.name) items) name
