-- While the images stay as they are, the listings that were read for the roots of a pod are those of the state before.
use Rattle.std.proofs.Common.{arith, ◌≡◌, ◌<◌, ℕ, Bool, true, List, [], ◌∷◌, ◌++◌, length, refl, subst}
use Rattle.std.specs.List.{AllByRecursion}
use Rattle.ac_types.specs.declared.store_key.StoreKey.{StoreKey}
use Rattle.dep_match.specs.declared.dep_tree.DepNode.{DepNode}
use Rattle.dep_match.specs.declared.dep_tree.DepTree.{DepTree}
use Rattle.dep_match.specs.declared.stored.Stored.{Stored}
use Rattle.dep_match.specs.TreeOrder.{IsOrderedTree}
use Rattle.dir_model.specs.State.{DirState}
use Rattle.dir_model.specs.Trace.{state_after}
use Rattle.dir_trait.specs.DirCalls.{DirAt}
use Rattle.image_reading.specs.Places.{image_inner, tree_name}
use Rattle.image_reading.specs.Files.{IsListingOf, IsNoListing}
use Rattle.image_reading.proofs.Values.{tree_front}
use Rattle.path_map.specs.Entries.{Entries}
use Rattle.pod_plan.specs.Readings.{KnowsTree}
use Rattle.pod_plan.specs.Roots.{count_in_list, node_key, HasReadListings, IsRendered, AreImageRoots}
use Rattle.pod_plan.specs.RootRefusals as refusals
use Rattle.pod_plan.proofs.Times.{times_here}
use Rattle.render.specs.declared.rendering.Rendering.{Rendering}
use Rattle.tree_digest.specs.Listings.{IsListing}
use Rattle.tree_digest.specs.declared.listing_error.ListingError.{ListingError}
use Rattle.standing_images.specs.Images.{AreStore, ImagesStay}
use Rattle.standing_images.proofs.Before.{front_before}
use Rattle.commands.specs.PrepareTable.{HasEntries, HaveEntries, IsRootInStore, HasRoot, TreeLacksListing, HasTooManyEntries, RootListingIsLarge}
use Rattle.commands.proofs.ImportStanding.{lacks_listing}
use Rattle.commands.proofs.NodesStand.{comes_within, node_stands}
use Rattle.commands.proofs.Parts.{Part, file_wider, lack_wider}
use Rattle.tree_digest.specs.ListingSize.{most_of_tree}

-- each number of a list is one that comes there
each_of : (P : ℕ → Type 0) (xs : List ℕ) → ((n : ℕ) → 0 < count_in_list n xs → P n) → AllByRecursion P xs
each_of P [] f = tt
each_of P (x ∷ xs) f = (f x (omega (arith, times_here x xs)), each_of P xs (λ n h. f n (more x n xs h)))
  where
    more : (m n : ℕ) (ns : List ℕ) → 0 < count_in_list n ns → 0 < count_in_list n (m ∷ ns)
    more m n ns h = omega (arith, h)

module _ (old new : DirAt) (stay : ImagesStay old.trace new.trace) {start end : DirAt} (p : Part old start end new) (observed : Bool) (t : observed ≡ true) where
  abbrev s : DirState
  s = state_after old.trace

  pub entries_before : (key : StoreKey) (map : Entries) → KnowsTree observed key map start end → HasEntries key map s
  entries_before key map k =
      let h = k.read t in
      let f = front_before old new stay key tree_name most_of_tree (IsListingOf h.0) refl (omega arith) (file_wider p h.1) in
      (h.0, record { bytes = f.0; there = f.1; holds = tree_front f.0 h.0 f.2 }, h.2)

  module _ (images : List Stored) where
    have_before : (nodes : List DepNode) (first others : List ℕ) (own : ℕ → Entries) → HasReadListings observed images nodes first others own start end → HaveEntries images nodes first others own s
    have_before nodes first others own r = record {
      order = r.order;
      each = each_of (λ n. HasEntries (node_key images nodes n) (own n) s) first (λ n h. entries_before (node_key images nodes n) (own n) (r.read n h));
    }

    pub rendered_before : (tree : DepTree) (r : Rendering) → IsRendered observed images tree.nodes r start end → IsRootInStore images tree r.map s
    rendered_before tree r x = record {
      own = x.own;
      each = λ n inside. entries_before (node_key images tree.nodes n) (x.own n) (x.read n inside);
      few = x.few;
      rendered = x.rendering;
    }

    pub roots_before : (trees : List DepTree) (roots : _) → AreImageRoots observed images start end trees roots → AllByRecursion (HasRoot images s) trees
    roots_before [] roots are = tt
    roots_before (tree ∷ trees) [] are = absurd are
    roots_before (tree ∷ trees) (root ∷ roots) are = ((root.rendering.map, rendered_before tree root.rendering are.0.rendered, subst IsListing are.0.listing are.0.kind), roots_before trees roots are.1)

    -- why there is no root
    pub lacks_before : (tree : DepTree) (path : List ℕ) → IsOrderedTree (length images) tree.nodes → AreStore images s → refusals.LacksNext observed images tree.nodes path start end → TreeLacksListing images path s tree
    lacks_before tree path ordered are x = record {
      first = x.first;
      next = x.next;
      others = x.others;
      own = x.own;
      earlier = have_before tree.nodes x.first (x.next ∷ x.others) x.own x.read;
      few = x.few;
      within = comes_within (length images) tree.nodes ordered x.first x.next x.others x.read.order;
      stands = node_stands images s are tree.nodes ordered x.next (comes_within (length images) tree.nodes ordered x.first x.next x.others x.read.order);
      is = x.lacks.0;
      lacks = lacks_listing old new stay (node_key images tree.nodes x.next) (lack_wider p (image_inner (node_key images tree.nodes x.next) tree_name) most_of_tree IsNoListing x.lacks.1);
    }

    pub many_before : (tree : DepTree) → refusals.HasTooMany observed images tree.nodes start end → HasTooManyEntries images s tree
    many_before tree x = record {
      first = x.first;
      next = x.next;
      others = x.others;
      own = x.own;
      listed = have_before tree.nodes (x.first ++ x.next ∷ []) x.others x.own x.read;
      few = x.few;
      many = x.many;
    }

    pub large_before : (tree : DepTree) (error : ListingError) → refusals.HasLargeListing observed images tree.nodes error start end → RootListingIsLarge images error s tree
    large_before tree error x = record { whole = x.rendering.map; root = rendered_before tree x.rendering x.rendered; large = x.large }
