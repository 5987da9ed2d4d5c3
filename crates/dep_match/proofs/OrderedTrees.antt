-- In the tree of an image's dependencies each node comes before its children, which are the best of its dependencies.
use Rattle.std.proofs.Common.{◌≡◌, ℕ, zero, suc, ◌<◌, ◌≤◌, ◌+◌, ◌-◌, List, [], ◌∷◌, ◌++◌, length, map, ◌∙◌, Option, Some, None, Result, Ok, Err, refl, sym, ap, subst, arith, ⊎_elim}
use Rattle.std.specs.Prelude.{Bool, true, false, nat_le, ◌==◌, if◌then◌else◌}
use Rattle.std.specs.List.{All, list_any, position}
use Rattle.std.proofs.lemmas.Bool.{cases_lt}
use Rattle.std.proofs.lemmas.List.{get_or_append_left, get_or-append_right, length-append}
use Rattle.std.proofs.lemmas.List.Elements.{All-append}
use Rattle.plain_laws.proofs.Lists.{position_within}
use Rattle.manifest_parts.specs.declared.dependency.Dependency.{Dependency}
use Rattle.dep_match.specs.Dependencies.{and_then, branches, with_root, subtree, dependency_tree, next_image, unless_faulty, dependencies_at, key_at}
use Rattle.dep_match.specs.Selection.{best_match, matches_dependency}
use Rattle.dep_match.specs.TreeOrder.{node_at, IsOrderedTree, HasBestChildren}
use Rattle.dep_match.specs.declared.dep_error.DepError.{DepError}
use Rattle.dep_match.specs.declared.dep_error.DepError.TheVariants.{Cycle, TooDeep, TooMany}
use Rattle.dep_match.specs.declared.dep_tree.DepNode.{DepNode}
use Rattle.dep_match.specs.declared.stored.Stored.{Stored}
use Rattle.dep_match.proofs.Trees.{Grows, grow_below}

-- the place of the best match of a dependency
abbrev best_of : List Stored → Dependency → Option ℕ
best_of images d = best_match (matches_dependency d) images

-- nodes that are numbered from `first` on: each has one of the images, its children come after it, among them, and
-- are the best matches of its image's dependencies
record AreOrdered (images : List Stored) (first : ℕ) (nodes : List DepNode) : Type 0 where
  known : All (λ (node : DepNode). node.image < length images) nodes
  children : (n : ℕ) → n < length nodes → All (λ child. (first + n < child) × (child < first + length nodes)) (node_at nodes n).children
  best : (n : ℕ) → n < length nodes
      → map (λ child. Some (node_at nodes (child - first)).image) (node_at nodes n).children ≡ map (best_of images) (dependencies_at images (node_at nodes n).image)

-- the nodes of the tree of one image, numbered from `first` on
record IsBranch (images : List Stored) (first image : ℕ) (nodes : List DepNode) : Type 0 where
  order : AreOrdered images first nodes
  some : 0 < length nodes
  root : (node_at nodes 0).image ≡ image

-- the nodes of several trees, and the numbers of their tops
record AreBranches (images : List Stored) (first : ℕ) (ds : List Dependency) (numbers : List ℕ) (nodes : List DepNode) : Type 0 where
  order : AreOrdered images first nodes
  tops : All (λ n. (first ≤ n) × (n < first + length nodes)) numbers
  roots : map (λ k. Some (node_at nodes (k - first)).image) numbers ≡ map (best_of images) ds

map_where : {X Y : Type 0} (P : X → Type 0) (f g : X → Y) (xs : List X) → All P xs → ((x : X) → P x → f x ≡ g x) → map f xs ≡ map g xs
map_where P f g [] all same = refl
map_where P f g (x ∷ xs) all same =
    let here : f x ≡ g x = same x (all 0 x (omega arith)) in
    let more : map f xs ≡ map g xs = map_where P f g xs (λ k d h. all (suc k) d (omega (arith, h))) same in
    cc

no_branches : (images : List Stored) (first : ℕ) → AreBranches images first [] [] []
no_branches images first = record {
  order = record { known = λ k d h. absurd (omega (arith, h)); children = λ n h. absurd (omega (arith, h)); best = λ n h. absurd (omega (arith, h)) };
  tops = λ k d h. absurd (omega (arith, h));
  roots = refl;
}

-- a node that isn't in the tree
abbrev pub nil : DepNode
nil = record { image = 0; children = [] }

module _ (images : List Stored) (first image : ℕ) (d : Dependency) (ds : List Dependency) (one : List DepNode) (numbers : List ℕ) (more : List DepNode)
    (found : best_of images d ≡ Some image) (here : IsBranch images first image one) (rest : AreBranches images (first + length one) ds numbers more) where
  low_at : (n : ℕ) → n < length one → node_at (one ++ more) n ≡ node_at one n
  low_at n low = get_or_append_left one more nil n low

  high_at : (n : ℕ) → length one ≤ n → node_at (one ++ more) n ≡ node_at more (n - length one)
  high_at n high = get_or-append_right one more (length one) n nil refl high

  later : (k : ℕ) → first + length one ≤ k → node_at (one ++ more) (k - first) ≡ node_at more (k - (first + length one))
  later k after = high_at (k - first) (omega (arith, after)) ∙ ap (λ (i : ℕ). node_at more i) (omega arith)

  children_of : (n : ℕ) → n < length (one ++ more) → All (λ child. (first + n < child) × (child < first + length (one ++ more))) (node_at (one ++ more) n).children
  children_of n inside =
      let size = length-append one more in
      let P = λ (x : DepNode). All (λ child. (first + n < child) × (child < first + length (one ++ more))) x.children in
      ⊎_elim
      (λ (low : n < length one).
      subst P (sym (low_at n low))
      (λ k e h. let both = here.order.children n low k e h in (both.0, omega (arith, both.1, size))))
      (λ (high : length one ≤ n).
      subst P (sym (high_at n high))
      (λ k e h. let both = rest.order.children (n - length one) (omega (arith, inside, size, high)) k e h in
      (omega (arith, both.0, high), omega (arith, both.1, size))))
      (cases_lt n (length one))

  best_at : (n : ℕ) → n < length (one ++ more)
      → map (λ child. Some (node_at (one ++ more) (child - first)).image) (node_at (one ++ more) n).children
      ≡ map (best_of images) (dependencies_at images (node_at (one ++ more) n).image)
  best_at n inside =
      let size = length-append one more in
      let P = λ (x : DepNode). map (λ child. Some (node_at (one ++ more) (child - first)).image) x.children ≡ map (best_of images) (dependencies_at images x.image) in
      ⊎_elim
      (λ (low : n < length one).
      subst P (sym (low_at n low))
      (map_where (λ child. (first + n < child) × (child < first + length one)) (λ child. Some (node_at (one ++ more) (child - first)).image)
      (λ child. Some (node_at one (child - first)).image) (node_at one n).children (here.order.children n low)
      (λ child both. ap (λ (x : DepNode). Some x.image) (low_at (child - first) (omega (arith, both.0, both.1))))
      ∙ here.order.best n low))
      (λ (high : length one ≤ n).
      let m = n - length one in
      let within : m < length more = omega (arith, inside, size, high) in
      subst P (sym (high_at n high))
      (map_where (λ child. (first + length one + m < child) × (child < first + length one + length more)) (λ child. Some (node_at (one ++ more) (child - first)).image)
      (λ child. Some (node_at more (child - (first + length one))).image) (node_at more m).children (rest.order.children m within)
      (λ child both. ap (λ (x : DepNode). Some x.image) (later child (omega (arith, both.0))))
      ∙ rest.order.best m within))
      (cases_lt n (length one))

  tops_of : All (λ n. (first ≤ n) × (n < first + length (one ++ more))) (first ∷ numbers)
  tops_of zero e h = (omega arith, omega (arith, here.some, length-append one more))
  tops_of (suc k) e h = let both = rest.tops k e (omega (arith, h)) in (omega (arith, both.0), omega (arith, both.1, length-append one more))

  roots_of : map (λ k. Some (node_at (one ++ more) (k - first)).image) (first ∷ numbers) ≡ map (best_of images) (d ∷ ds)
  roots_of =
      let zero_is : first - first ≡ 0 = omega arith in
      let head : Some (node_at (one ++ more) (first - first)).image ≡ best_of images d =
      ap (λ (i : ℕ). Some (node_at (one ++ more) i).image) zero_is ∙ ap (λ (x : DepNode). Some x.image) (low_at 0 here.some) ∙ ap (λ (i : ℕ). Some i) here.root ∙ sym found in
      let tail : map (λ k. Some (node_at (one ++ more) (k - first)).image) numbers ≡ map (best_of images) ds =
      map_where (λ k. (first + length one ≤ k) × (k < first + length one + length more)) (λ k. Some (node_at (one ++ more) (k - first)).image)
      (λ k. Some (node_at more (k - (first + length one))).image) numbers rest.tops
      (λ k both. ap (λ (x : DepNode). Some x.image) (later k both.0))
      ∙ rest.roots in
      cc

  joined : AreBranches images first (d ∷ ds) (first ∷ numbers) (one ++ more)
  joined = record {
    order = record {
      known = All-append (λ (node : DepNode). node.image < length images) one more here.order.known rest.order.known;
      children = children_of;
      best = best_at;
    };
    tops = tops_of;
    roots = roots_of;
  }

-- the tree that grew at a dependency is that of the best image
record IsGrown (images : List Stored) (first : ℕ) (d : Dependency) (nodes : List DepNode) : Type 0 where
  image : ℕ
  found : best_of images d ≡ Some image
  branch : IsBranch images first image nodes

joined_if : (images : List Stored) (first : ℕ) (d : Dependency) (ds : List Dependency) (one : List DepNode) (rest : Result (List ℕ × List DepNode) DepError) (b : List ℕ × List DepNode)
    → IsGrown images first d one → ((r : List ℕ × List DepNode) → rest ≡ Ok r → AreBranches images (first + length one) ds r.0 r.1)
    → and_then rest (λ r. Ok (first ∷ r.0, one ++ r.1)) ≡ Ok b → AreBranches images first (d ∷ ds) b.0 b.1
joined_if images first d ds one (Ok r) b here more h =
    let e : (first ∷ r.0, one ++ r.1) ≡ b = cc in
    subst (λ (x : List ℕ × List DepNode). AreBranches images first (d ∷ ds) x.0 x.1) e (joined images first here.image d ds one r.0 r.1 here.found here.branch (more r refl))
joined_if images first d ds one (Err fault) b here more h = absurd (cc)

with_first : (images : List Stored) (grow : Grows) (first : ℕ) (d : Dependency) (ds : List Dependency) (b : List ℕ × List DepNode) (g : Result (List DepNode) DepError)
    → ((nodes : List DepNode) → g ≡ Ok nodes → IsGrown images first d nodes)
    → ((next : ℕ) (r : List ℕ × List DepNode) → branches grow next ds ≡ Ok r → AreBranches images next ds r.0 r.1)
    → and_then g (λ nodes. and_then (branches grow (first + length nodes) ds) (λ r. Ok (first ∷ r.0, nodes ++ r.1))) ≡ Ok b → AreBranches images first (d ∷ ds) b.0 b.1
with_first images grow first d ds b (Ok nodes) one more h =
    joined_if images first d ds nodes (branches grow (first + length nodes) ds) b (one nodes refl) (λ r e. more (first + length nodes) r e) h
with_first images grow first d ds b (Err fault) one more h = absurd (cc)

branches_ordered : (images : List Stored) (grow : Grows) → ((n : ℕ) (d : Dependency) (nodes : List DepNode) → grow n d ≡ Ok nodes → IsGrown images n d nodes)
    → (ds : List Dependency) (first : ℕ) (b : List ℕ × List DepNode) → branches grow first ds ≡ Ok b → AreBranches images first ds b.0 b.1
branches_ordered images grow grown [] first b h =
    let e : ([], []) ≡ b = cc in
    subst (λ (x : List ℕ × List DepNode). AreBranches images first [] x.0 x.1) e (no_branches images first)
branches_ordered images grow grown (d ∷ ds) first b h =
    with_first images grow first d ds b (grow first d) (λ nodes e. grown first d nodes e) (λ next r e. branches_ordered images grow grown ds next r e) h

-- a node before the branches below it
module _ (images : List Stored) (first image : ℕ) (numbers : List ℕ) (nodes : List DepNode) (known : image < length images)
    (below : AreBranches images (first + 1) (dependencies_at images image) numbers nodes) where
  all : List DepNode
  all = record { image = image; children = numbers } ∷ nodes

  known_of : All (λ (node : DepNode). node.image < length images) all
  unfolding all
  known_of zero d h = known
  known_of (suc k) d h = below.order.known k d (omega (arith, h))

  within_of : (n : ℕ) → n < length all → All (λ child. (first + n < child) × (child < first + length all)) (node_at all n).children
  unfolding all
  within_of zero h k d inside = let both = below.tops k d inside in (omega (arith, both.0), omega (arith, both.1))
  within_of (suc n) h k d inside = let both = below.order.children n (omega (arith, h)) k d inside in (omega (arith, both.0), omega (arith, both.1))

  after_at : (k : ℕ) → first + 1 ≤ k → node_at all (k - first) ≡ node_at nodes (k - (first + 1))
  unfolding all
  after_at k after =
      let next : k - first ≡ suc (k - (first + 1)) = omega (arith, after) in
      ap (λ (i : ℕ). node_at all i) next

  best_of_all : (n : ℕ) → n < length all
      → map (λ child. Some (node_at all (child - first)).image) (node_at all n).children ≡ map (best_of images) (dependencies_at images (node_at all n).image)
  unfolding all
  best_of_all zero h =
      map_where (λ k. (first + 1 ≤ k) × (k < first + 1 + length nodes)) (λ child. Some (node_at all (child - first)).image)
      (λ child. Some (node_at nodes (child - (first + 1))).image) numbers below.tops
      (λ k both. ap (λ (x : DepNode). Some x.image) (after_at k both.0))
      ∙ below.roots
  best_of_all (suc n) h =
      let inside : n < length nodes = omega (arith, h) in
      map_where (λ k. (first + 1 + n < k) × (k < first + 1 + length nodes)) (λ child. Some (node_at all (child - first)).image)
      (λ child. Some (node_at nodes (child - (first + 1))).image) (node_at nodes n).children (below.order.children n inside)
      (λ k both. ap (λ (x : DepNode). Some x.image) (after_at k (omega (arith, both.0))))
      ∙ below.order.best n inside

  rooted : IsBranch images first image (record { image = image; children = numbers } ∷ nodes)
  unfolding all
  rooted = record {
    order = record { known = known_of; children = within_of; best = best_of_all };
    some = omega arith;
    root = refl;
  }

rooted_if : (images : List Stored) (first image : ℕ) (below : Result (List ℕ × List DepNode) DepError) (nodes : List DepNode) → image < length images
    → ((b : List ℕ × List DepNode) → below ≡ Ok b → AreBranches images (first + 1) (dependencies_at images image) b.0 b.1) → with_root image below ≡ Ok nodes
    → IsBranch images first image nodes
rooted_if images first image (Ok b) nodes known more h =
    let e : (record { image = image; children = b.0 } ∷ b.1) ≡ nodes = cc in
    subst (IsBranch images first image) e (rooted images first image b.0 b.1 known (more b refl))
rooted_if images first image (Err fault) nodes known more h = absurd (cc)

chosen : (a b c : Bool) (x y z : DepError) (k i : ℕ) → (if a then Err x else if b then Err y else if c then Err z else Ok k) ≡ Ok i → k ≡ i
chosen true b c x y z k i h = absurd (cc)
chosen false true c x y z k i h = absurd (cc)
chosen false false true x y z k i h = absurd (cc)
chosen false false false x y z k i h = cc

was_found : (images : List Stored) (way : List ℕ) (levels made : ℕ) (name : List ℕ) (found : Option ℕ) (i : ℕ) → unless_faulty images way levels made name found ≡ Ok i → found ≡ Some i
was_found images way levels made name None i h = absurd (cc)
was_found images way levels made name (Some k) i h =
    ap (λ (n : ℕ). Some n) (chosen (list_any (λ j. j == k) way) (levels == 0) (nat_le 256 made) (Cycle (key_at images k)) TooDeep TooMany k i h)

-- the image of a dependency is in the list
next_within : (images : List Stored) (way : List ℕ) (levels made : ℕ) (d : Dependency) (i : ℕ) → next_image images way levels made d ≡ Ok i → i < length images
next_within images way levels made d i h =
    position_within _ images i (was_found images way levels made d.image_name (best_match (matches_dependency d) images) i h)

grown_ordered : (images : List Stored) (d : Dependency) (subtree_of : ℕ → ℕ → Result (List DepNode) DepError) (next : Result ℕ DepError) (n : ℕ) (nodes : List DepNode)
    → ((k : ℕ) → next ≡ Ok k → (best_of images d ≡ Some k) × (k < length images))
    → ((k : ℕ) (below : List DepNode) → k < length images → subtree_of n k ≡ Ok below → IsBranch images n k below)
    → and_then next (subtree_of n) ≡ Ok nodes → IsGrown images n d nodes
grown_ordered images d subtree_of (Ok k) n nodes within below h =
    let known = within k refl in
    record { image = k; found = known.0; branch = below k nodes known.1 h }
grown_ordered images d subtree_of (Err fault) n nodes within below h = absurd (cc)

subtree_ordered : (levels : ℕ) (images : List Stored) (above : List ℕ) (made i : ℕ) (nodes : List DepNode) → i < length images
    → subtree levels images above made i ≡ Ok nodes → IsBranch images made i nodes
unfolding subtree
subtree_ordered zero images above made i nodes known h = absurd (cc)
subtree_ordered (suc levels) images above made i nodes known h =
    let way = above ++ i ∷ [] in
    let grow = grow_below levels images way in
    let grown : (n : ℕ) (d : Dependency) (ms : List DepNode) → grow n d ≡ Ok ms → IsGrown images n d ms =
    λ n d ms e. grown_ordered images d (subtree levels images way) (next_image images way levels n d) n ms
    (λ k next. (was_found images way levels n d.image_name (best_of images d) k next, next_within images way levels n d k next))
    (λ k below inside e'. subtree_ordered levels images way n k below inside e') e in
    rooted_if images made i (branches grow (made + 1) (dependencies_at images i)) nodes known
    (λ b e. branches_ordered images grow grown (dependencies_at images i) (made + 1) b e) h

module _ (images : List Stored) (top : ℕ) (nodes : List DepNode) (known : top < length images) (made : dependency_tree images top ≡ Ok nodes) where
  whole : IsBranch images 0 top nodes
  whole = subtree_ordered 32 images [] 0 top nodes known made

  -- the nodes of an image's tree are ordered
  pub tree_ordered : IsOrderedTree (length images) nodes
  tree_ordered = record {
    top = whole.some;
    images = whole.order.known;
    children = λ n inside k d at. let both = whole.order.children n inside k d at in (omega (arith, both.0), omega (arith, both.1));
  }

  -- the first is the image's own
  pub tree_top : (node_at nodes 0).image ≡ top
  tree_top = whole.root

  -- and each has the best matches as its children
  pub tree_best : (n : ℕ) → n < length nodes → HasBestChildren images nodes n
  tree_best n inside =
      map_where (λ child. (0 + n < child) × (child < 0 + length nodes)) (λ child. Some (node_at nodes child).image) (λ child. Some (node_at nodes (child - 0)).image)
      (node_at nodes n).children (whole.order.children n inside) (λ child both. ap (λ (i : ℕ). Some (node_at nodes i).image) (omega arith))
      ∙ whole.order.best n inside
