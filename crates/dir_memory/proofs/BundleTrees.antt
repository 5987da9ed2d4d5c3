-- What stands at a path is what the newest entry that decides it says.
use Rattle.std.proofs.Common.{◌≡◌, ℕ, ◌==◌, Bool, true, false, not, ◌&&◌, ◌||◌, cond, List, [], ◌∷◌, length, Option, Some, None, refl, sym, ap, ◌∙◌}
use Rattle.std.specs.List.{find}
use Rattle.dir_model.specs.Names.{same_bytes}
use Rattle.dir_trait.specs.declared.node.Node.{Node}
use Rattle.dir_trait.specs.declared.node.Node.TheVariants.{Directory}
use Rattle.dir_memory.specs.declared.entry.Entry.{Entry}
use Rattle.dir_trait.specs.Bundles.{bytes_of_node, link_target}
use Rattle.dir_model.specs.Paths.{lies_below}
use Rattle.dir_memory.specs.MemoryBundles.{is_bundle_directory, bundle_tree_of, is_decisive, decided_node, own_node}

step : (a b c : Bool) (node folder : Node) (older : Option Node) (X : Option Entry → Option Node) (entry : Entry) (rest : Option Entry)
    → X (Some entry) ≡ cond a (Some node) (cond b (Some folder) None) → older ≡ X rest
    → cond a (Some node) (cond b (Some folder) (cond c None older)) ≡ X (cond ((a || b) || c) (Some entry) rest)
step true b c node folder older X entry rest own more = sym own
step false true c node folder older X entry rest own more = sym own
step false false true node folder older X entry rest own more = sym own
step false false false node folder older X entry rest own more = more

pub tree_decided : (entries : List Entry) (q : List ℕ) → bundle_tree_of entries q ≡ decided_node (find (is_decisive q) entries) q
tree_decided [] q = refl
tree_decided (entry ∷ older) q =
    step (same_bytes entry.path q) (lies_below entry.path q) (not (is_bundle_directory entry.node) && lies_below q entry.path) entry.node Directory (bundle_tree_of older q)
    (λ found. decided_node found q) entry (find (is_decisive q) older) refl (tree_decided older q)

-- a file or a link stands only where it was put itself
own_only : {A : Type 0} (f : Option Node → Option A) → f None ≡ None → f (Some Directory) ≡ None → (found : Option Entry) (q : List ℕ) → f (decided_node found q) ≡ f (own_node found q)
own_only f none directory None q = by (length q == 0)
  where
    by : (b : Bool) → f (cond b (Some Directory) None) ≡ f None
    by true = directory ∙ sym none
    by false = refl
own_only f none directory (Some entry) q = by (same_bytes entry.path q) (lies_below entry.path q)
  where
    by : (a b : Bool) → f (cond a (Some entry.node) (cond b (Some Directory) None)) ≡ f (cond a (Some entry.node) None)
    by true b = refl
    by false true = directory ∙ sym none
    by false false = refl

pub file_own : (entries : List Entry) (q : List ℕ) → bytes_of_node (bundle_tree_of entries q) ≡ bytes_of_node (own_node (find (is_decisive q) entries) q)
file_own entries q = ap bytes_of_node (tree_decided entries q) ∙ own_only bytes_of_node refl refl (find (is_decisive q) entries) q

pub link_own : (entries : List Entry) (q : List ℕ) → link_target (bundle_tree_of entries q) ≡ link_target (own_node (find (is_decisive q) entries) q)
link_own entries q = ap link_target (tree_decided entries q) ∙ own_only link_target refl refl (find (is_decisive q) entries) q
