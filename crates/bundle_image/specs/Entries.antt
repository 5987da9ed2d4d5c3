-- What an image carries of what stands in its bundle.
use Rattle.std.specs.Prelude.{◌≡◌, ◌⊎◌, ◌≤◌, ◌<◌, ℕ, ◌+◌, List, ◌++◌, length, Option, Some, None, IsSome, codes}
use Rattle.sha2.specs.Sha512.{sha512}
use Rattle.dir_trait.specs.declared.node.Node.{Node}
use Rattle.dir_trait.specs.declared.node.Node.TheVariants as nodes
use Rattle.path_map.specs.declared.entry.Meta.{Meta}
use Rattle.path_map.specs.declared.entry.Entry.{Entry}
use Rattle.path_map.specs.declared.entry.Entry.TheVariants.{Dir, File, Link}
use Rattle.path_map.specs.Paths.{path_fault}
use Rattle.tree_digest.specs.declared.refusals.TheConstants.{MAX_FILE}
use Rattle.tree_digest.specs.declared.listing_error.ListingError.TheVariants.{FileTooLong}
use Rattle.tree_digest.specs.Fields.{IsTarget}
use Rattle.bundle_image.specs.Refusals.{IsBundleFailure}
use Rattle.bundle_image.specs.declared.refusal.BundleRefusal.{BundleRefusal}
use Rattle.bundle_image.specs.declared.refusal.BundleRefusal.TheVariants.{Listing, BadKind, NoMemory}

-- a mode, and the owners 0:0
abbrev pub owned_by_root : ℕ → Meta
owned_by_root mode = record { mode = mode; uid = 0; gid = 0 }

-- directories and files have the mode 0755, links 0777
abbrev pub directory_meta : Meta
directory_meta = owned_by_root 493

abbrev pub link_meta : Meta
link_meta = owned_by_root 511

-- the entry for what stands there: a directory, a file of at most 1 GiB with its size and SHA-512, a link with its target
abbrev pub IsEntryOf : Option Node → Entry → Type 0
IsEntryOf None entry = ⊥
IsEntryOf (Some nodes.Directory) entry = entry ≡ Dir directory_meta
IsEntryOf (Some (nodes.File bytes)) entry = (length bytes ≤ MAX_FILE) × (entry ≡ File directory_meta (length bytes) (sha512 bytes))
IsEntryOf (Some (nodes.Link target)) entry = IsTarget target × (entry ≡ Link link_meta target)
IsEntryOf (Some nodes.Other) entry = ⊥

-- what stands there isn't carried: it is of another kind, or a link whose target is empty, too long, with NUL or no UTF-8
abbrev pub IsNoKind : Option Node → Type 0
IsNoKind None = ⊥
IsNoKind (Some nodes.Directory) = ⊥
IsNoKind (Some (nodes.File bytes)) = ⊥
IsNoKind (Some (nodes.Link target)) = ¬ IsTarget target
IsNoKind (Some nodes.Other) = Unit {0}

-- a file of more than 1 GiB
abbrev pub IsTooLong : Option Node → Type 0
IsTooLong None = ⊥
IsTooLong (Some nodes.Directory) = ⊥
IsTooLong (Some (nodes.File bytes)) = MAX_FILE < length bytes
IsTooLong (Some (nodes.Link target)) = ⊥
IsTooLong (Some nodes.Other) = ⊥

-- the path of an entry, relative to the bundle
abbrev pub shown_path : List ℕ → List ℕ
shown_path path = codes "rootfs" ++ path

-- the refusal names the path as one that isn't carried, or memory ran out
abbrev pub IsBadKindAt : List ℕ → BundleRefusal → Type 0
IsBadKindAt path refusal = (refusal ≡ BadKind (shown_path path)) ⊎ (refusal ≡ NoMemory)

-- the fault of an entry of itself, after so many entries: its path has no reading or it isn't carried, or else its file is too long
abbrev pub EntryFault : Option Node → List ℕ → ℕ → BundleRefusal → Type 0
EntryFault standing path count (BadKind text) = (text ≡ shown_path path) × (IsSome (path_fault path) ⊎ IsNoKind standing)
EntryFault standing path count (Listing (FileTooLong n)) = (n ≡ count + 1) × (path_fault path ≡ None) × IsTooLong standing
EntryFault standing path count refusal = ⊥

-- it failed by itself, or the bundle failed or memory ran out
abbrev pub FailsBy : Option Node → List ℕ → ℕ → BundleRefusal → Type 0
FailsBy standing path count refusal = IsBundleFailure refusal ⊎ EntryFault standing path count refusal
