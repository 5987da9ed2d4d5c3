-- What contracts see of a bundle in memory, and what a call leaves there.
use Rattle.std.specs.Prelude.{◌≡◌, ◌⊎◌, ℕ, ◌+◌, ◌==◌, Bool, true, false, not, ◌&&◌, ◌||◌, cond, if◌then◌else◌, List, [], ◌∷◌, ◌++◌, length, min, ◌^◌, ◌-◌, Option, Some, None, IsSome, Result, Ok, Err}
use Rattle.std.specs.List.{list_any}
use Rattle.std.specs.Ordering.{nat_cmp}
use Rattle.std.specs.Cmp.Lexicographic.{slice_cmp}
use Rattle.std.specs.BTreeMap.{BTreeMap, get}
use Rattle.dir_model.specs.Names.{same_bytes, IsFileName}
use Rattle.dir_model.specs.Paths.{lies_below}
use Rattle.dir_trait.specs.declared.bundle.BundleItem.{BundleItem}
use Rattle.dir_trait.specs.declared.bundle.BundleKind.{BundleKind}
use Rattle.dir_trait.specs.declared.bundle.BundleRequest.{BundleRequest}
use Rattle.dir_trait.specs.declared.bundle.BundleError.{BundleError}
use Rattle.dir_trait.specs.declared.bundle.BundleError.TheVariants.{Missing, Failed, NoMemory}
use Rattle.dir_trait.specs.declared.node.Node.{Node}
use Rattle.dir_trait.specs.declared.node.Node.TheVariants.{Directory, File, Link, Other}
use Rattle.dir_memory.specs.declared.entry.Entry.{Entry}
use Rattle.dir_trait.specs.Bundles.{BundleTree, BundleAt, kind_at, child_path}
use Rattle.dir_memory.specs.Memories.{raised}

-- what was put where, the newest first, the faults, the calls and the bytes that were given so far, what was asked for,
-- and the numbers of the calls that are to fail
pub record BundleMemory : Type 0 where
  pub entries : List Entry
  pub faults : ℕ
  pub calls : ℕ
  pub given : ℕ
  pub asked : List BundleRequest
  pub failing : List ℕ

abbrev pub is_bundle_directory : Node → Bool
is_bundle_directory Directory = true
is_bundle_directory (File bytes) = false
is_bundle_directory (Link target) = false
is_bundle_directory Other = false

-- a root without entries
abbrev pub empty_bundle : BundleTree
empty_bundle q = if length q == 0 then Some Directory else None

-- the tree after a node was put at a path: directories stand above it, and nothing below it unless it is a directory
abbrev pub with_node : BundleTree → List ℕ → Node → BundleTree
with_node tree path node q =
    if same_bytes path q then Some node
    else (if lies_below path q then Some Directory
    else (if not (is_bundle_directory node) && lies_below q path then None else tree q))

abbrev pub bundle_tree_of : List Entry → BundleTree
bundle_tree_of [] = empty_bundle
bundle_tree_of (entry ∷ older) = with_node (bundle_tree_of older) entry.path entry.node

-- the entry decides what stands at the path, whatever is older
abbrev pub is_decisive : List ℕ → Entry → Bool
is_decisive q entry = same_bytes entry.path q || lies_below entry.path q || (not (is_bundle_directory entry.node) && lies_below q entry.path)

-- the node that stands at a path by the entry that decides it
abbrev pub decided_node : Option Entry → List ℕ → Option Node
decided_node None q = empty_bundle q
decided_node (Some entry) q =
    if same_bytes entry.path q then Some entry.node
    else (if lies_below entry.path q then Some Directory else None)

-- the node that the entry put at that path itself
abbrev pub own_node : Option Entry → List ℕ → Option Node
own_node None q = None
own_node (Some entry) q = if same_bytes entry.path q then Some entry.node else None

abbrev pub bundle_with_entry : BundleMemory → List ℕ → Node → BundleMemory
bundle_with_entry m path node = record m { entries = record { path = path; node = node } ∷ m.entries }

-- as every bundle is seen
abbrev pub bundle_of_memory : BundleMemory → BundleAt
bundle_of_memory m = record { tree = bundle_tree_of m.entries; faults = m.faults; given = m.given; asked = m.asked }

-- a call was listed to fail
abbrev pub is_bundle_failure_due : BundleMemory → Bool
is_bundle_failure_due m = list_any (λ number. number == m.calls + 1) m.failing

-- after the next call, of which this was noted
abbrev pub bundle_after_call : BundleMemory → List BundleRequest → BundleMemory
bundle_after_call m asked = record m { faults = cond (is_bundle_failure_due m) (raised m.faults) m.faults; calls = raised m.calls; asked = m.asked ++ asked }

-- a call is counted, noted and fails where it was listed so, unless memory ran out for the note
abbrev pub Entered : BundleMemory → BundleRequest → Result (Unit {0}) BundleError → BundleMemory → Type 0
Entered old request (Ok done) new = (is_bundle_failure_due old ≡ false) × (new ≡ bundle_after_call old (request ∷ []))
Entered old request (Err Missing) new = ⊥
Entered old request (Err Failed) new = (is_bundle_failure_due old ≡ true) × (new ≡ bundle_after_call old (request ∷ []))
Entered old request (Err NoMemory) new = new ≡ bundle_after_call old []

-- the bytes that were given are counted, up to the greatest number of a u64
abbrev pub with_given : BundleMemory → ℕ → BundleMemory
with_given m count = record m { given = min (m.given + count) (2 ^ 64 - 1) }

-- a listed call fails, and every other is answered by the tree, unless memory ran out
abbrev pub AnswersCall : BundleMemory → BundleRequest → Result ℕ BundleError → BundleMemory → Type 0
AnswersCall old request (Ok count) new = (is_bundle_failure_due old ≡ false) × (new ≡ with_given (bundle_after_call old (request ∷ [])) count)
AnswersCall old request (Err Missing) new = (is_bundle_failure_due old ≡ false) × (new ≡ bundle_after_call old (request ∷ []))
AnswersCall old request (Err Failed) new = (is_bundle_failure_due old ≡ true) × (new ≡ bundle_after_call old (request ∷ []))
AnswersCall old request (Err NoMemory) new = (new ≡ bundle_after_call old []) ⊎ (new ≡ bundle_after_call old (request ∷ []))

-- the same of a listing, which gives no bytes
abbrev pub AnswersListing : {T : Type 0} → BundleMemory → BundleRequest → Result T BundleError → BundleMemory → Type 0
AnswersListing old request (Ok items) new = (is_bundle_failure_due old ≡ false) × (new ≡ bundle_after_call old (request ∷ []))
AnswersListing old request (Err error) new = AnswersCall old request (Err error) new

-- the path is the other or lies below it
abbrev pub leads_through : List ℕ → List ℕ → Bool
leads_through path q = same_bytes path q || lies_below path q

-- the names and kinds of some of what stands in a directory
abbrev pub Found : Type 0
Found = BTreeMap (List ℕ) BundleKind

-- each name that was found stands in the directory, and is of that kind
abbrev pub AreKinds : BundleTree → List ℕ → Found → Type 0
AreKinds tree directory found = (name : List ℕ) (kind : BundleKind) → get (slice_cmp nat_cmp) found name ≡ Some kind → kind_at (tree (child_path directory name)) ≡ Some kind

-- each name that stands in the directory, and through which a path of these entries leads, was found
abbrev pub AreFound : BundleTree → List ℕ → List Entry → Found → Type 0
AreFound tree directory entries found = (name : List ℕ) → IsFileName name → IsSome (tree (child_path directory name))
    → list_any (λ entry. leads_through entry.path (child_path directory name)) entries ≡ true → IsSome (get (slice_cmp nat_cmp) found name)

-- the kind that is found for a name once an item was added
abbrev pub kind_with : Option BundleItem → List ℕ → Option BundleKind → Option BundleKind
kind_with None name kind = kind
kind_with (Some item) name kind = if same_bytes item.name name then Some item.kind else kind
