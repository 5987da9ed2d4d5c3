-- Each node of an image's tree comes once in the order in which listings are wanted.
use Rattle.std.proofs.Common.{◌≡◌, ℕ, zero, suc, ◌<◌, ◌≤◌, ◌+◌, ◌-◌, List, [], ◌∷◌, ◌++◌, length, ◌∙◌, Result, Ok, Err, refl, sym, ap, subst, arith, ⊎_elim}
use Rattle.std.specs.List.{All}
use Rattle.std.proofs.lemmas.Bool.{cases_lt}
use Rattle.std.proofs.lemmas.List.{get_or_append_left, get_or-append_right, length-append}
use Rattle.std.proofs.lemmas.List.Elements.{All-nil, All-cons, All-head, All-tail}
use Rattle.manifest_parts.specs.declared.dependency.Dependency.{Dependency}
use Rattle.dep_match.specs.declared.dep_error.DepError.{DepError}
use Rattle.dep_match.specs.declared.dep_tree.DepNode.{DepNode}
use Rattle.dep_match.specs.declared.dep_tree.DepTree.{DepTree}
use Rattle.dep_match.specs.declared.refusals.TheConstants.{MAX_DEPTH}
use Rattle.dep_match.specs.declared.stored.Stored.{Stored}
use Rattle.dep_match.specs.Dependencies.{and_then, branches, with_root, subtree, dependency_tree, next_image, dependencies_at}
use Rattle.dep_match.specs.TreeOrder.{node_at, IsOrderedTree}
use Rattle.dep_match.proofs.OrderedTrees.{nil}
use Rattle.render.specs.Orders.{from_last, all_down}
use Rattle.render.proofs.LayingOrder.{down_steps}
use Rattle.pod_plan.specs.Choices.{AreTrees}
use Rattle.pod_plan.specs.Roots.{count_in_list, ComesOnce}
use Rattle.pod_plan.proofs.Times.{times_here, times_other, times_both}

-- ---- lists of numbers that have each of a block once, and no other
record Fills (first len : ℕ) (xs : List ℕ) : Type 0 where
  before : (n : ℕ) → n < first → count_in_list n xs ≡ 0
  inside : (n : ℕ) → first ≤ n → n < first + len → count_in_list n xs ≡ 1
  after : (n : ℕ) → first + len ≤ n → count_in_list n xs ≡ 0

fills_none : (first : ℕ) → Fills first 0 []
fills_none first = record { before = λ n h. refl; inside = λ n h g. absurd (omega (arith, h, g)); after = λ n h. refl }

fills_top : (first len : ℕ) (xs : List ℕ) → Fills (first + 1) len xs → Fills first (suc len) (first ∷ xs)
fills_top first len xs below = record {
  before = λ n h. times_other first n xs (λ same. omega (arith, h, same)) ∙ below.before n (omega (arith, h));
  inside = λ n h g. ⊎_elim
      (λ (above : first < n). times_other first n xs (λ same. omega (arith, above, same)) ∙ below.inside n (omega (arith, above)) (omega (arith, g)))
      (λ (not : n ≤ first). let same : first ≡ n = omega (arith, h, not) in
      subst (λ (m : ℕ). count_in_list n (m ∷ xs) ≡ 1) (sym same) (times_here n xs ∙ ap (λ (k : ℕ). 1 + k) (below.before n (omega (arith, not)))))
      (cases_lt first n);
  after = λ n h. times_other first n xs (λ same. omega (arith, h, same)) ∙ below.after n (omega (arith, h));
}

fills_both : (first few more : ℕ) (xs ys : List ℕ) → Fills first few xs → Fills (first + few) more ys → Fills first (few + more) (ys ++ xs)
fills_both first few more xs ys low high = record {
  before = λ n h. omega (arith, times_both n ys xs, low.before n h, high.before n (omega (arith, h)));
  inside = λ n h g. ⊎_elim
      (λ (below : n < first + few). omega (arith, times_both n ys xs, low.inside n h below, high.before n below))
      (λ (above : first + few ≤ n). omega (arith, times_both n ys xs, low.after n above, high.inside n above (omega (arith, g))))
      (cases_lt n (first + few));
  after = λ n h. omega (arith, times_both n ys xs, low.after n (omega (arith, h)), high.after n (omega (arith, h)));
}

-- ---- the blocks of trees
-- some nodes stand among others from a number on
record StandAt (nodes : List DepNode) (first : ℕ) (some : List DepNode) : Type 0 where
  few : first + length some ≤ length nodes
  there : (k : ℕ) → k < length some → node_at nodes (first + k) ≡ node_at some k

first_stand : (nodes : List DepNode) (first : ℕ) (one more : List DepNode) → StandAt nodes first (one ++ more) → StandAt nodes first one
first_stand nodes first one more all = record {
  few = omega (arith, all.few, length-append one more);
  there = λ k h. all.there k (omega (arith, h, length-append one more)) ∙ get_or_append_left one more nil k h;
}

rest_stand : (nodes : List DepNode) (first : ℕ) (one more : List DepNode) → StandAt nodes first (one ++ more) → StandAt nodes (first + length one) more
rest_stand nodes first one more all = record {
  few = omega (arith, all.few, length-append one more);
  there = λ k h.
      let place : first + length one + k ≡ first + (length one + k) = omega arith in
      let back : length one + k - length one ≡ k = omega arith in
      ap (λ (i : ℕ). node_at nodes i) place
      ∙ all.there (length one + k) (omega (arith, h, length-append one more))
      ∙ get_or-append_right one more (length one) (length one + k) nil refl (omega arith)
      ∙ ap (λ (i : ℕ). node_at more i) back;
}

below_stand : (nodes : List DepNode) (first : ℕ) (top : DepNode) (more : List DepNode) → StandAt nodes first (top ∷ more) → StandAt nodes (first + 1) more
below_stand nodes first top more all = record {
  few = omega (arith, all.few);
  there = λ k h.
      let place : first + 1 + k ≡ first + suc k = omega arith in
      ap (λ (i : ℕ). node_at nodes i) place ∙ all.there (suc k) (omega (arith, h));
}

top_stands : (nodes : List DepNode) (first : ℕ) (top : DepNode) (more : List DepNode) → StandAt nodes first (top ∷ more) → node_at nodes first ≡ top
top_stands nodes first top more all =
    let place : first ≡ first + 0 = omega arith in
    ap (λ (i : ℕ). node_at nodes i) place ∙ all.there 0 (omega arith)

module _ (count : ℕ) (nodes : List DepNode) (order : IsOrderedTree count nodes) where
  -- trees that grow at dependencies fill their blocks
  abbrev FillsBlock : ℕ → List DepNode → Type 0
  FillsBlock first some = StandAt nodes first some → Fills first (length some) (all_down nodes first)

  abbrev FillBlocks : ℕ → List ℕ × List DepNode → Type 0
  FillBlocks first b = StandAt nodes first b.1 → Fills first (length b.1) (from_last (all_down nodes) b.0)

  both_blocks : (first : ℕ) (one : List DepNode) (rest : List ℕ × List DepNode) → FillsBlock first one → FillBlocks (first + length one) rest → FillBlocks first (first ∷ rest.0, one ++ rest.1)
  both_blocks first one rest here more at =
      subst (λ (len : ℕ). Fills first len (from_last (all_down nodes) rest.0 ++ all_down nodes first)) (sym (length-append one rest.1))
      (fills_both first (length one) (length rest.1) (all_down nodes first) (from_last (all_down nodes) rest.0) (here (first_stand nodes first one rest.1 at)) (more (rest_stand nodes first one rest.1 at)))

  branches_fill : (grow : ℕ → Dependency → Result (List DepNode) DepError) → ((first : ℕ) (d : Dependency) (some : List DepNode) → grow first d ≡ Ok some → FillsBlock first some)
      → (ds : List Dependency) (first : ℕ) (b : List ℕ × List DepNode) → branches grow first ds ≡ Ok b → FillBlocks first b
  branches_fill grow each [] first b is =
      let e : ([], []) ≡ b = cc in
      subst (λ (x : List ℕ × List DepNode). FillBlocks first x) e (λ at. fills_none first)
  branches_fill grow each (d ∷ ds) first b is = by (grow first d) refl is (λ next r more. branches_fill grow each ds next r more)
    where
      joined : (one : List DepNode) → FillsBlock first one → (rest : Result (List ℕ × List DepNode) DepError) → ((r : List ℕ × List DepNode) → rest ≡ Ok r → FillBlocks (first + length one) r)
          → and_then rest (λ r. Ok (first ∷ r.0, one ++ r.1)) ≡ Ok b → FillBlocks first b
      joined one here (Err fault) more h = absurd (cc)
      joined one here (Ok r) more h =
          let e : (first ∷ r.0, one ++ r.1) ≡ b = cc in
          subst (λ (x : List ℕ × List DepNode). FillBlocks first x) e (both_blocks first one r here (more r refl))

      by : (g : Result (List DepNode) DepError) → grow first d ≡ g → and_then g (λ one. and_then (branches grow (first + length one) ds) (λ r. Ok (first ∷ r.0, one ++ r.1))) ≡ Ok b
          → ((next : ℕ) (r : List ℕ × List DepNode) → branches grow next ds ≡ Ok r → FillBlocks next r) → FillBlocks first b
      by (Err fault) e h more = absurd (cc)
      by (Ok one) e h more = joined one (each first d one e) (branches grow (first + length one) ds) (λ r made. more (first + length one) r made) h

  root_fills : (first i : ℕ) (below : Result (List ℕ × List DepNode) DepError) (some : List DepNode) → ((b : List ℕ × List DepNode) → below ≡ Ok b → FillBlocks (first + 1) b) → with_root i below ≡ Ok some → FillsBlock first some
  root_fills first i (Err fault) some each is = absurd (cc)
  root_fills first i (Ok b) some each is =
      let top : DepNode = record { image = i; children = b.0 } in
      let e : top ∷ b.1 ≡ some = cc in
      subst (λ (x : List DepNode). FillsBlock first x) e
      (λ at.
      let here : node_at nodes first ≡ top = top_stands nodes first top b.1 at in
      let inside : first < length nodes = omega (arith, at.few) in
      let steps : all_down nodes first ≡ first ∷ from_last (all_down nodes) b.0 =
      down_steps count nodes order first inside ∙ ap (λ (x : DepNode). first ∷ from_last (all_down nodes) x.children) here in
      subst (λ (xs : List ℕ). Fills first (suc (length b.1)) xs) (sym steps) (fills_top first (length b.1) (from_last (all_down nodes) b.0) (each b refl (below_stand nodes first top b.1 at))))

  below_fills : (found : Result ℕ DepError) (grow : ℕ → Result (List DepNode) DepError) (first : ℕ) (some : List DepNode) → ((i : ℕ) → grow i ≡ Ok some → FillsBlock first some) → and_then found grow ≡ Ok some → FillsBlock first some
  below_fills (Err fault) grow first some each is = absurd (cc)
  below_fills (Ok i) grow first some each is = each i is

  tree_fills : (levels : ℕ) (images : List Stored) (above : List ℕ) (first i : ℕ) (some : List DepNode) → subtree levels images above first i ≡ Ok some → FillsBlock first some
  unfolding subtree
  tree_fills zero images above first i some is = absurd (cc)
  tree_fills (suc levels) images above first i some is =
      let way = above ++ i ∷ [] in
      root_fills first i (branches (λ n d. and_then (next_image images way levels n d) (subtree levels images way n)) (first + 1) (dependencies_at images i)) some
      (λ b made. branches_fill (λ n d. and_then (next_image images way levels n d) (subtree levels images way n))
      (λ n d one grown. below_fills (next_image images way levels n d) (subtree levels images way n) n one (λ j tree. tree_fills levels images way n j one tree) grown)
      (dependencies_at images i) (first + 1) b made)
      is

-- each node of an image's tree comes once
pub each_once : (count : ℕ) (images : List Stored) (place : ℕ) (nodes : List DepNode) → IsOrderedTree count nodes → dependency_tree images place ≡ Ok nodes → ComesOnce nodes
each_once count images place nodes order made n inside =
    let all : StandAt nodes 0 nodes = record { few = omega arith; there = λ k h. let same : 0 + k ≡ k = omega arith in ap (λ (i : ℕ). node_at nodes i) same } in
    (tree_fills count nodes order MAX_DEPTH images [] 0 place nodes made all).inside n (omega arith) (omega (arith, inside))

-- and so in each of the trees of several images
pub all_once : (images : List Stored) (picks : List ℕ) (trees : List DepTree) → AreTrees images picks trees → All (λ (t : DepTree). IsOrderedTree (length images) t.nodes) trees → All (λ (t : DepTree). ComesOnce t.nodes) trees
all_once images picks [] are order = All-nil (λ (t : DepTree). ComesOnce t.nodes)
all_once images [] (t ∷ trees) are order = absurd (cc)
all_once images (p ∷ picks) (t ∷ trees) are order =
    let here : dependency_tree images p ≡ Ok t.nodes = cc in
    All-cons (λ (x : DepTree). ComesOnce x.nodes) t trees (each_once (length images) images p t.nodes (All-head (λ (x : DepTree). IsOrderedTree (length images) x.nodes) t trees order) here)
    (all_once images picks trees (cc) (All-tail (λ (x : DepTree). IsOrderedTree (length images) x.nodes) t trees order))
