-- The tree of dependencies of a demo image is its way.
use Rattle.std.proofs.Common.{◌≡◌, ◌≢◌, ℕ, zero, suc, ◌+◌, ◌/◌, ◌^◌, ◌<◌, ◌≤◌, Bool, true, false, ◌&&◌, ◌||◌, ◌==◌, nat_le, Some, Result, Ok, List, [], ◌∷◌, ◌++◌, length, get_or, refl, sym, ap, subst, ◌∙◌, arith, append-nil}
use Rattle.std.proofs.lemmas.Bool.Decides.{nat_tests}
use Rattle.std.proofs.lemmas.Bool.{false_from_ne_true, both_ways}
use Rattle.std.proofs.lemmas.List.{get_or-map}
use Rattle.std.proofs.lemmas.Slice.Eq.{bytes_eq-Decides}
use Rattle.std.specs.List.{list_any}
use Rattle.std.specs.Str.{bytes_eq}
use Rattle.manifest_parts.specs.declared.dependency.Dependency.{Dependency}
use Rattle.dep_match.specs.declared.dep_tree.DepNode.{DepNode}
use Rattle.dep_match.specs.declared.dep_error.DepError.{DepError}
use Rattle.dep_match.specs.declared.stored.Stored.{Stored}
use Rattle.dep_match.specs.declared.refusals.TheConstants.{MAX_NODES, MAX_DEPTH}
use Rattle.dep_match.specs.Selection.{best_match, matches_dependency, outranks}
use Rattle.dep_match.specs.Dependencies.{and_then, subtree, branches, with_root, next_image, unless_faulty, dependencies_at, dependency_tree}
use Rattle.dep_match.proofs.BestSoFar.{IsBestSoFar, best_is, outranks_ranks}
use Rattle.demo_images.specs.DemoImages.{demo_name, AreDependencies, IsDependencyOn, AreDemoImages}
use Rattle.demo_line.specs.Ways.{way_within}
use Rattle.demo_images.specs.DemoTrees.{nodes_within, nodes_of}
use Rattle.demo_images.proofs.Names.{one_name}
use Rattle.demo_line.proofs.WayLaws.{some_way, way_short}

-- an image outranks not itself
not_itself : (s : Stored) → outranks s s ≡ false
not_itself s = false_from_ne_true (outranks s s) (λ so. both_ways (outranks s s) (outranks_ranks.one_way s s so) so)

-- the only image that passes a test is the best that does
only_best : (test : Stored → Bool) (images : List Stored) (p : ℕ) → p < length images → ((d : Stored) → test (get_or images p d) ≡ true) →
    ((j : ℕ) → j < length images → (d : Stored) → test (get_or images j d) ≡ true → j ≡ p) → best_match test images ≡ Some p
only_best test images p within passes only = sym (best_is test outranks images (length images) (Some p) refl best)
  where
    best : IsBestSoFar test outranks images (length images) (Some p)
    best = (
      within,
      passes,
      (λ j h d so. ap (λ (k : ℕ). outranks (get_or images k d) (get_or images p d)) (only j h d so) ∙ not_itself (get_or images p d)),
      (λ j h d so. let same : j ≡ p = only j (omega arith) d so in absurd (omega arith)),
    )

-- an image without dependencies, and one with one
leaf : (grow : ℕ → Dependency → Result (List DepNode) DepError) (first i : ℕ) (ds : List Dependency) → ds ≡ [] → with_root i (branches grow first ds) ≡ Ok (record { image = i; children = [] } ∷ [])
leaf grow first i ds none = ap (λ (l : List Dependency). with_root i (branches grow first l)) none

one : (grow : ℕ → Dependency → Result (List DepNode) DepError) (first i : ℕ) (ds : List Dependency) (d : Dependency) (nodes : List DepNode) → ds ≡ d ∷ [] → grow first d ≡ Ok nodes →
    with_root i (branches grow first ds) ≡ Ok (record { image = i; children = first ∷ [] } ∷ nodes)
one grow first i ds d nodes are grown =
    ap (λ (l : List Dependency). with_root i (branches grow first l)) are
    ∙ (ap (λ (r : Result (List DepNode) DepError). with_root i (and_then r (λ below. and_then (branches grow (first + length below) []) (λ rest. Ok (first ∷ rest.0, below ++ rest.1))))) grown
    ∙ ap (λ (l : List DepNode). Ok (record { image = i; children = first ∷ [] } ∷ l)) (append-nil nodes))

module _ (n : ℕ) (bound : n ≤ 2 ^ 31) (images : List Stored) (demo : AreDemoImages n images) where
  -- a dependency on an image matches that one alone
  matched : (p : ℕ) (d : Dependency) → IsDependencyOn p d → p < n → (j : ℕ) → j < n → (e : Stored) → matches_dependency d (get_or images j e) ≡ bytes_eq (demo_name j) (demo_name p)
  matched p d on h j k e =
      let image = demo.each j k e in
      rw (on.id, on.labels, on.name, image.name) (by (bytes_eq (demo_name j) (demo_name p)))
    where
      by : (b : Bool) → ((b && true) && true) ≡ b
      by true = refl
      by false = refl

  best_is_parent : (p : ℕ) (d : Dependency) → IsDependencyOn p d → p < n → best_match (matches_dependency d) images ≡ Some p
  best_is_parent p d on h = only_best (matches_dependency d) images p (let c = demo.count in omega arith)
      (λ e. matched p d on h p h e ∙ (bytes_eq-Decides (demo_name p) (demo_name p)).1 refl)
      (λ j k e so. let j_small : j < n = (let c = demo.count in omega arith) in
      one_name j p (omega arith) (omega arith) ((bytes_eq-Decides (demo_name j) (demo_name p)).0 (sym (matched p d on h j j_small e) ∙ so)))

  some_image : n ≢ 0 → Stored
  some_image some = by images demo.count
    where
      by : (xs : List Stored) → length xs ≡ n → Stored
      by [] c = absurd (some (sym c))
      by (x ∷ xs) c = x

  depends : (i : ℕ) → i < n → AreDependencies i (dependencies_at images i)
  depends i h =
      let d = some_image (λ z. omega arith) in
      subst (AreDependencies i) (sym (get_or-map (λ (s : Stored). s.manifest.dependencies) images i d [] (let c = demo.count in omega arith))) (demo.each i h d).dependencies

  -- no image on the way from the top is one of these
  abbrev AllAbove : List ℕ → ℕ → Type 0
  AllAbove above i = (k : ℕ) → k ≤ i → list_any (λ a. a == k) above ≡ false

  any_more : (k i : ℕ) (above : List ℕ) → list_any (λ a. a == k) above ≡ false → (i == k) ≡ false → list_any (λ a. a == k) (above ++ i ∷ []) ≡ false
  any_more k i [] none last = rw last refl
  any_more k i (a ∷ above) none last = by (a == k) refl (λ rest. any_more k i above rest last)
    where
      by : (b : Bool) → (a == k) ≡ b → (list_any (λ a. a == k) above ≡ false → list_any (λ a. a == k) (above ++ i ∷ []) ≡ false) → ((a == k) || list_any (λ a. a == k) (above ++ i ∷ [])) ≡ false
      by true is more = let clash : true ≡ false = sym (ap (λ b. b || list_any (λ a. a == k) above) is) ∙ none in cc
      by false is more = ap (λ b. b || list_any (λ a. a == k) (above ++ i ∷ [])) is ∙ more (sym (ap (λ b. b || list_any (λ a. a == k) above) is) ∙ none)

  above_more : (above : List ℕ) (i : ℕ) → AllAbove above (suc i) → AllAbove (above ++ suc i ∷ []) (i / 2)
  above_more above i all k h = any_more k (suc i) above (all k (omega arith)) (grind (arith, nat_tests))

  -- the image of the one dependency: no fault comes
  next_is : (above : List ℕ) (levels made p : ℕ) (d : Dependency) → IsDependencyOn p d → p < n → list_any (λ a. a == p) above ≡ false → 1 ≤ levels → made < 256 →
      next_image images above levels made d ≡ Ok p
  next_is above levels made p d on h free some room =
      ap (unless_faulty images above levels made d.image_name) (best_is_parent p d on h)
      ∙ rw (free, no_levels levels some, no_room made room) refl
    where
      no_levels : (levels : ℕ) → 1 ≤ levels → (levels == 0) ≡ false
      no_levels levels h = grind (arith, nat_tests)

      no_room : (made : ℕ) → made < 256 → nat_le MAX_NODES made ≡ false
      no_room made h = grind (arith, nat_tests)

  pub subtree_is : (fuel levels : ℕ) (above : List ℕ) (made i : ℕ) → i < n → i ≤ fuel → AllAbove above i → length (way_within fuel i) ≤ levels → made + length (way_within fuel i) ≤ 256 →
      subtree levels images above made i ≡ Ok (nodes_within fuel made i)
  unfolding subtree
  subtree_is fuel zero above made i h f all short room = let some = some_way fuel i in absurd (omega arith)
  subtree_is zero (suc levels) above made zero h f all short room = leaf _ _ _ _ (depends zero h)
  subtree_is zero (suc levels) above made (suc i) h f all short room = absurd (omega arith)
  subtree_is (suc fuel) (suc levels) above made zero h f all short room = leaf _ _ _ _ (depends zero h)
  subtree_is (suc fuel) (suc levels) above made (suc i) h f all short room =
      let ds = depends (suc i) h in
      let some = some_way fuel (i / 2) in
      let more : AllAbove (above ++ suc i ∷ []) (i / 2) = above_more above i all in
      let half : i / 2 < n = omega arith in
      one _ _ _ _ ds.0 (nodes_within fuel (made + 1) (i / 2)) ds.1
      (ap (λ r. and_then r (subtree levels images (above ++ suc i ∷ []) (made + 1))) (next_is (above ++ suc i ∷ []) levels (made + 1) (i / 2) ds.0 ds.2 half (more (i / 2) (omega arith)) (omega arith) (omega arith))
      ∙ subtree_is fuel levels (above ++ suc i ∷ []) (made + 1) (i / 2) half (omega arith) more (omega arith) (omega arith))

  -- the tree of a demo image
  pub tree_is : (i : ℕ) → i < n → dependency_tree images i ≡ Ok (nodes_of i)
  tree_is i h = subtree_is i MAX_DEPTH [] 0 i h (omega arith) (λ k below. refl) (let short = way_short 31 i i (omega arith) in omega arith) (let short = way_short 31 i i (omega arith) in omega arith)
