-- By one state there is one refusal of some references, up to the making of their pod: of those that have a cause the one that comes first;
-- and none where they make a pod that can be made.
use Rattle.std.proofs.Common.{◌≡◌, ◌⊎◌, inl, inr, ℕ, true, false, Some, None, Ok, Result, List, [], ◌∷◌, ◌++◌, length, map, refl, sym, ap, subst, ◌∙◌}
use Rattle.std.specs.List.{AllByRecursion}
use Rattle.std.proofs.Math.Path.{fun_ext}
use Rattle.ac_types.specs.declared.image_ref.ImageRef.{ImageRef}
use Rattle.ac_types.specs.declared.store_key.StoreKey.{StoreKey}
use Rattle.dir_files.specs.AreaLocks.{IsBusyElsewhere, IsFreeElsewhere}
use Rattle.dep_match.specs.declared.dep_error.DepError.{DepError}
use Rattle.dep_match.specs.declared.dep_tree.DepNode.{DepNode}
use Rattle.dep_match.specs.declared.dep_tree.DepTree.{DepTree}
use Rattle.dep_match.specs.declared.stored.Stored.{Stored}
use Rattle.dep_match.specs.Copies.{stored_data}
use Rattle.dep_match.specs.Dependencies.{dependency_tree}
use Rattle.dep_match.specs.TreeOrder.{IsOrderedTree, node_at}
use Rattle.dir_model.specs.declared.area.Area.TheVariants.{Embryo, Images}
use Rattle.dir_model.specs.declared.pod.PodId.{PodId}
use Rattle.dir_model.specs.declared.spot.Mode.TheVariants.{Shared}
use Rattle.dir_model.specs.State.{DirState}
use Rattle.dir_model.proofs.Lists.{all_right, all_weaker}
use Rattle.image_reading.specs.Places.{IsPresent, stored_path, tree_name}
use Rattle.path_map.specs.declared.entry.Entry.{Entry}
use Rattle.path_map.specs.declared.entry.Entry.TheVariants.{Dir, File, Link}
use Rattle.path_map.specs.declared.listed.Listed.{Listed}
use Rattle.path_map.specs.Entries.{Entries}
use Rattle.pod_build.specs.declared.error.BuildError.{BuildError}
use Rattle.pod_build.specs.declared.error.BuildError.TheVariants as build
use Rattle.pod_plan.specs.declared.choice_error.ChoiceError.{ChoiceError}
use Rattle.pod_plan.specs.declared.choice_error.ChoiceError.TheVariants as choice
use Rattle.pod_plan.specs.Choices.{ArePicks, AreTrees}
use Rattle.pod_plan.specs.Choices as chosen
use Rattle.pod_manifest.specs.Wishes.{Wishes}
use Rattle.pod_plan.specs.Roots.{node_key}
use Rattle.pod_plan.proofs.Ready.{picks_within}
use Rattle.render.specs.Assembly.{IsAssembly}
use Rattle.render.specs.Plans.{IsPut}
use Rattle.render.specs.declared.rendering.Rendering.{Rendering}
use Rattle.render.specs.declared.render_error.RenderError.TheVariants as render
use Rattle.standing_images.specs.Damage.{IsFirstDamage}
use Rattle.standing_images.specs.Images.{AreStore}
use Rattle.standing_images.proofs.OneDamage.{not_whole, one_damage}
use Rattle.standing_images.proofs.OneStore.{one_store}
use Rattle.commands.specs.ImageImportTable.{HasListing}
use Rattle.commands.specs.PrepareTable.{CanCopy, CanCopyAll, CanCopyRoot, IsEmbryoFree, NothingRefuses, FailsFile, FailsRoot, HasBytes, RootHasSources, IsTaken, IsUntaken, LacksBytes, LacksCopied, LacksSourceFile, LacksName, MakesRoots, root_file, HasEntries, HasRoot, HaveEntries, IsOnly, IsPodOfReferences, IsPodWithRoots, IsReason, IsRootInStore, IsToldByState, LocksRefuse, RefusesReferences, StoreRefuses}
use Rattle.commands.proofs.Firsts.{first_bad}
use Rattle.commands.proofs.NodesStand.{tree_among}
use Rattle.commands.proofs.OneReason.{one_pick, one_reason}
use Rattle.commands.proofs.OneSource.{lacks_or_can, one_file}
use Rattle.commands.proofs.OneRoot.{TreeFails, no_root, one_failure}
use Rattle.commands.proofs.SeenImages.{same_key_at, same_picks, same_refused, same_trees, same_whitelist}

abbrev oks : List DepTree → List (Result (List DepNode) DepError)
oks trees = map (λ (t : DepTree). Ok t.nodes) trees

-- ---- the same of another list by what is seen
module _ (xs ys : List Stored) (same : map stored_data xs ≡ map stored_data ys) (s : DirState) where
  key_same : (nodes : List DepNode) (n : ℕ) → node_key xs nodes n ≡ node_key ys nodes n
  key_same nodes n = same_key_at xs ys same (node_at nodes n).image

  entries_same : (nodes : List DepNode) (own : ℕ → Entries) (n : ℕ) → HasEntries (node_key xs nodes n) (own n) s → HasEntries (node_key ys nodes n) (own n) s
  entries_same nodes own n x = subst (λ (key : StoreKey). HasEntries key (own n) s) (key_same nodes n) x

  have_same : (nodes : List DepNode) (first others : List ℕ) (own : ℕ → Entries) → HaveEntries xs nodes first others own s → HaveEntries ys nodes first others own s
  have_same nodes first others own x = record {
    order = x.order;
    each = all_weaker (λ n. HasEntries (node_key xs nodes n) (own n) s) (λ n. HasEntries (node_key ys nodes n) (own n) s) (entries_same nodes own) first x.each;
  }

  root_same : (tree : DepTree) (whole : Entries) → IsRootInStore xs tree whole s → IsRootInStore ys tree whole s
  root_same tree whole x = record {
    own = x.own;
    each = λ n inside. entries_same tree.nodes x.own n (x.each n inside);
    few = x.few;
    rendered = subst (λ (w : ℕ → List Listed). IsAssembly tree.nodes w x.own (length tree.nodes) 0 whole) (fun_ext (λ (n : ℕ). same_whitelist xs ys same (node_at tree.nodes n).image)) x.rendered;
  }

  has_same : (tree : DepTree) → HasRoot xs s tree → HasRoot ys s tree
  has_same tree x = (x.0, root_same tree x.0 x.1, x.2)

  fails_same : (tree : DepTree) (e : BuildError) → TreeFails xs s tree e → TreeFails ys s tree e
  fails_same tree (build.Damaged path) x = record {
    first = x.first;
    next = x.next;
    others = x.others;
    own = x.own;
    earlier = have_same tree.nodes x.first (x.next ∷ x.others) x.own x.earlier;
    few = x.few;
    within = x.within;
    stands = subst (λ (key : StoreKey). IsPresent key s) (key_same tree.nodes x.next) x.stands;
    is = x.is ∙ ap (λ (key : StoreKey). stored_path key tree_name) (key_same tree.nodes x.next);
    lacks = λ has. x.lacks (subst (λ (key : StoreKey). HasListing key s) (sym (key_same tree.nodes x.next)) has);
  }
  fails_same tree (build.RenderError render.TooManyEntries) x = record {
    first = x.first;
    next = x.next;
    others = x.others;
    own = x.own;
    listed = have_same tree.nodes (x.first ++ x.next ∷ []) x.others x.own x.listed;
    few = x.few;
    many = x.many;
  }
  fails_same tree (build.RenderError render.NoMemory) x = absurd x
  fails_same tree (build.ListingError error) x = record { whole = x.whole; root = root_same tree x.whole x.root; large = x.large }
  fails_same tree e x = absurd x

  put_same : (tree : DepTree) (r : Rendering) → RootHasSources xs tree r s → RootHasSources ys tree r s
  unfolding root_same
  put_same tree r x = record {
    root = root_same tree r.map x.root;
    put = subst (λ (w : ℕ → List Listed). IsPut tree.nodes w x.root.own (length tree.nodes) 0 r) (fun_ext (λ (n : ℕ). same_whitelist xs ys same (node_at tree.nodes n).image)) x.put;
  }

  can_same : (r : Rendering) (file : List ℕ) (entry : Entry) → CanCopy xs r s file entry → CanCopy ys r s file entry
  can_same r file (Dir meta) can = tt
  can_same r file (Link meta target) can = tt
  can_same r file (File meta size sha) can = (can.0, can.1, subst (λ (key : StoreKey). HasBytes key (root_file file) size sha s) (same_key_at xs ys same can.0) can.2)

  all_can_same : (r : Rendering) (m : Entries) → CanCopyAll xs r s m → CanCopyAll ys r s m
  all_can_same r m can = all_weaker (λ e. CanCopy xs r s e.0 e.1) (λ e. CanCopy ys r s e.0 e.1) (λ e. can_same r e.0 e.1) m can

  copies_same : (tree : DepTree) → CanCopyRoot xs s tree → CanCopyRoot ys s tree
  copies_same tree x = (x.0, put_same tree x.0 x.1, all_can_same x.0 x.0.map x.2)

  lacks_same : (tree : DepTree) (path : List ℕ) → LacksSourceFile xs path s tree → LacksSourceFile ys path s tree
  unfolding root_same put_same
  lacks_same tree path x = record {
    rendering = x.rendering;
    sourced = put_same tree x.rendering x.sourced;
    before = x.before;
    file = x.file;
    meta = x.meta;
    size = x.size;
    sha = x.sha;
    after = x.after;
    split = x.split;
    earlier = all_can_same x.rendering x.before x.earlier;
    wanted = x.wanted;
    node = x.node;
    within = x.within;
    stands = subst (λ (key : StoreKey). IsPresent key s) (key_same tree.nodes x.node) x.stands;
    from = x.from;
    listed = x.listed;
    is = x.is ∙ ap (λ (key : StoreKey). stored_path key (root_file x.file)) (key_same tree.nodes x.node);
    lacks = subst (λ (key : StoreKey). LacksBytes key (root_file x.file) x.size x.sha s) (key_same tree.nodes x.node) x.lacks;
  }

-- ---- lists of trees
trees_one : (ts us : List DepTree) → oks ts ≡ oks us → ts ≡ us
trees_one [] [] is = refl
trees_one [] (u ∷ us) is = cc
trees_one (t ∷ ts) [] is = cc
trees_one (t ∷ ts) (u ∷ us) is =
    let first : t.nodes ≡ u.nodes = cc in
    let rest : oks ts ≡ oks us = cc in
    ap (λ (ns : List DepNode). let tree : DepTree = record { nodes = ns } in tree ∷ ts) first ∙ ap (λ (l : List DepTree). u ∷ l) (trees_one ts us rest)

-- ---- what a list of images says
module _ (refs : List ImageRef) (wishes : Wishes) (draw : PodId) (s : DirState) (me : ℕ) where
  -- they make a pod of these trees
  record MakesOf (images : List Stored) (trees : List DepTree) : Type 0 where
    picks : List ℕ
    are : ArePicks images refs picks
    dependencies : AreTrees images picks trees
    unrefused : (reason : ChoiceError) → chosen.IsChoiceRefused images refs wishes reason → reason ≡ choice.NoMemory

  made_of : (images : List Stored) (x : IsPodOfReferences images refs wishes) → MakesOf images x.pod.trees
  made_of images x = record { picks = x.pod.picks; are = x.chosen.0; dependencies = x.chosen.1.dependencies; unrefused = x.unrefused }

  -- one of these fails
  record FailsAt (images : List Stored) (trees : List DepTree) (e : BuildError) : Type 0 where
    before : List DepTree
    tree : DepTree
    after : List DepTree
    is : trees ≡ before ++ tree ∷ after
    earlier : AllByRecursion (HasRoot images s) before
    fails : TreeFails images s tree e

  -- the refusal of a choice
  abbrev chosen_refusal : ChoiceError → BuildError
  chosen_refusal (choice.NoMatch place) = build.NoMatch place
  chosen_refusal (choice.DepError fault) = build.DepError fault
  chosen_refusal (choice.GenError refusal) = build.GenError refusal
  chosen_refusal choice.NoMemory = build.NoMemory

  record Reason (images : List Stored) (e : BuildError) : Type 0 where
    reason : ChoiceError
    is : e ≡ chosen_refusal reason
    told : reason ≡ choice.NoMemory → ⊥
    refused : chosen.IsChoiceRefused images refs wishes reason

  record RootFails (images : List Stored) (e : BuildError) : Type 0 where
    trees : List DepTree
    made : MakesOf images trees
    fault : FailsAt images trees e

  -- it comes where the store gave the pod and its roots: of the making, which begins with the lock of embryo
  abbrev ComesWithPlan : BuildError → Type 0
  ComesWithPlan (build.Busy Embryo) = IsBusyElsewhere me Embryo Shared s × MakesRoots refs wishes s
  ComesWithPlan (build.Taken pod) = (pod ≡ draw) × LacksName me draw refs wishes s
  ComesWithPlan (build.Damaged path) = LacksCopied me draw refs wishes path s
  ComesWithPlan error = ⊥

  record PodFollows (images : List Stored) (e : BuildError) : Type 0 where
    trees : List DepTree
    made : MakesOf images trees
    rooted : AllByRecursion (HasRoot images s) trees
    follows : ComesWithPlan e

  abbrev Kind : List Stored → BuildError → Type 0
  Kind images e = Reason images e ⊎ (RootFails images e ⊎ PodFollows images e)

  abbrev Verdict : BuildError → Type 0
  Verdict e = ((path : List ℕ) × (e ≡ build.Damaged path) × IsFirstDamage path s) ⊎ ((images : List Stored) × AreStore images s × Kind images e)

  fails_root : {e : BuildError} (images : List Stored) → FailsRoot images refs wishes (λ tree. TreeFails images s tree e) s → RootFails images e
  fails_root images x = record { trees = x.made.pod.trees; made = made_of images x.made; fault = record { before = x.before; tree = x.tree; after = x.after; is = x.is; earlier = x.earlier; fails = x.fails } }

  reasons : (images : List Stored) (reason : ChoiceError) → (reason ≡ choice.NoMemory → ⊥) → IsReason images refs wishes reason → Reason images (chosen_refusal reason)
  reasons images reason told x = record { reason = reason; is = refl; told = told; refused = x.refused }

  follows : (images : List Stored) (e : BuildError) → IsPodWithRoots images refs wishes s → ComesWithPlan e → PodFollows images e
  follows images e p f = record { trees = p.made.pod.trees; made = made_of images p.made; rooted = p.rooted; follows = f }

  verdict : (e : BuildError) → IsToldByState e → IsFreeElsewhere me Images Shared s → LocksRefuse me s e → StoreRefuses me draw refs wishes s e → Verdict e
  verdict (build.Busy Images) told free held x = let clash : false ≡ true = sym free ∙ held in cc
  verdict (build.Busy Embryo) told free held x = inr (x.0, x.1, inr (inr (follows x.0 (build.Busy Embryo) x.2 (held.1, x))))
  verdict (build.Busy area) told free held x = absurd held
  verdict (build.Damaged path) told free held (inl x) = inl (path, refl, x)
  verdict (build.Damaged path) told free held (inr (inl x)) = inr (x.0, x.1, inr (inl (fails_root x.0 x.2)))
  verdict (build.Damaged path) told free held (inr (inr x)) = let y = x.fails in inr (y.0, y.1, inr (inr (follows y.0 (build.Damaged path) y.2.is x)))
  verdict (build.NoMatch place) told free held x = inr (x.0, x.1, inl (reasons x.0 (choice.NoMatch place) (λ e. cc) x.2))
  verdict (build.DepError fault) told free held x = inr (x.0, x.1, inl (reasons x.0 (choice.DepError fault) (λ e. cc) x.2))
  verdict (build.GenError refusal) told free held x = inr (x.0, x.1, inl (reasons x.0 (choice.GenError refusal) (λ e. cc) x.2))
  verdict (build.RenderError error) told free held x = inr (x.0, x.1, inr (inl (fails_root x.0 x.2)))
  verdict (build.ListingError error) told free held x = inr (x.0, x.1, inr (inl (fails_root x.0 x.2)))
  verdict (build.Taken pod) told free held x = let y = x.1.makes in inr (y.0, y.1, inr (inr (follows y.0 (build.Taken pod) y.2 x)))
  verdict build.Stray told free held x = absurd told
  verdict build.DirFault told free held x = absurd told
  verdict build.NoMemory told free held x = absurd told

  -- ---- the first file that can't be copied
  record FileFails (images : List Stored) (path : List ℕ) : Type 0 where
    trees : List DepTree
    made : MakesOf images trees
    before : List DepTree
    tree : DepTree
    after : List DepTree
    split : trees ≡ before ++ tree ∷ after
    earlier : AllByRecursion (CanCopyRoot images s) before
    lacks : LacksSourceFile images path s tree

  file_fails : (images : List Stored) (path : List ℕ) → FailsFile images refs wishes path s → FileFails images path
  file_fails images path x = record { trees = x.is.made.pod.trees; made = made_of images x.is.made; before = x.before; tree = x.tree; after = x.after; split = x.split; earlier = x.earlier; lacks = x.lacks }

  -- ---- and of another list that is the store too
  module _ (xs ys : List Stored) (same : map stored_data xs ≡ map stored_data ys) where
    makes_same : (trees : List DepTree) → MakesOf xs trees → MakesOf ys trees
    makes_same trees x = record {
      picks = x.picks;
      are = same_picks xs ys same refs x.picks x.are;
      dependencies = same_trees xs ys same x.picks trees x.dependencies;
      unrefused = λ reason refused. x.unrefused reason (same_refused ys xs (sym same) refs wishes reason refused);
    }

    roots_same : (trees : List DepTree) → AllByRecursion (HasRoot xs s) trees → AllByRecursion (HasRoot ys s) trees
    roots_same trees all = all_weaker (HasRoot xs s) (HasRoot ys s) (has_same xs ys same s) trees all

    kind_same : (e : BuildError) → Kind xs e → Kind ys e
    kind_same e (inl x) = inl (record { reason = x.reason; is = x.is; told = x.told; refused = same_refused xs ys same refs wishes x.reason x.refused })
    kind_same e (inr (inl x)) = inr (inl (record {
      trees = x.trees;
      made = makes_same x.trees x.made;
      fault = record { before = x.fault.before; tree = x.fault.tree; after = x.fault.after; is = x.fault.is; earlier = roots_same x.fault.before x.fault.earlier; fails = fails_same xs ys same s x.fault.tree e x.fault.fails };
    }))
    kind_same e (inr (inr x)) = inr (inr (record { trees = x.trees; made = makes_same x.trees x.made; rooted = roots_same x.trees x.rooted; follows = x.follows }))

    file_same : (path : List ℕ) → FileFails xs path → FileFails ys path
    file_same path x = record {
      trees = x.trees;
      made = makes_same x.trees x.made;
      before = x.before;
      tree = x.tree;
      after = x.after;
      split = x.split;
      earlier = all_weaker (CanCopyRoot xs s) (CanCopyRoot ys s) (copies_same xs ys same s) x.before x.earlier;
      lacks = lacks_same xs ys same s x.tree path x.lacks;
    }

  -- ---- two refusals by one list
  module _ (images : List Stored) where
    same_made : (trees others : List DepTree) → MakesOf images trees → MakesOf images others → trees ≡ others
    same_made trees others x y =
        let picks : x.picks ≡ y.picks = one_pick images refs wishes x.picks y.picks x.are y.are in
        trees_one trees others (sym x.dependencies ∙ (ap (λ (ps : List ℕ). map (dependency_tree images) ps) picks ∙ y.dependencies))

    ordered : (trees : List DepTree) → MakesOf images trees → (before : List DepTree) (tree : DepTree) (after : List DepTree) → trees ≡ before ++ tree ∷ after → IsOrderedTree (length images) tree.nodes
    ordered trees x before tree after is =
        tree_among images x.picks before tree after (picks_within images refs x.picks x.are) (subst (λ (ts : List DepTree). AreTrees images x.picks ts) is x.dependencies)

    never_rooted : (e : BuildError) (x : RootFails images e) → HasRoot images s x.fault.tree → ⊥
    never_rooted e x root = no_root images s x.fault.tree (length images) (ordered x.trees x.made x.fault.before x.fault.tree x.fault.after x.fault.is) e x.fault.fails root

    two_fail : (e f : BuildError) → RootFails images e → RootFails images f → e ≡ f
    two_fail e f x y =
        let trees : x.trees ≡ y.trees = same_made x.trees y.trees x.made y.made in
        let tree : x.fault.tree ≡ y.fault.tree = first_bad (HasRoot images s) x.fault.before y.fault.before x.fault.tree y.fault.tree x.fault.after y.fault.after (sym x.fault.is ∙ (trees ∙ y.fault.is))
        (never_rooted e x) (never_rooted f y) x.fault.earlier y.fault.earlier in
        one_failure images s y.fault.tree (length images) (ordered y.trees y.made y.fault.before y.fault.tree y.fault.after y.fault.is) e f (subst (λ (t : DepTree). TreeFails images s t e) tree x.fault.fails) y.fault.fails

    two_files : (p q : List ℕ) → FileFails images p → FileFails images q → p ≡ q
    two_files p q x y =
        let trees : x.trees ≡ y.trees = same_made x.trees y.trees x.made y.made in
        let tree : x.tree ≡ y.tree = first_bad (CanCopyRoot images s) x.before y.before x.tree y.tree x.after y.after (sym x.split ∙ (trees ∙ y.split))
        (lacks_or_can images s x.tree (length images) (ordered x.trees x.made x.before x.tree x.after x.split) x.lacks)
        (lacks_or_can images s y.tree (length images) (ordered y.trees y.made y.before y.tree y.after y.split) y.lacks) x.earlier y.earlier in
        one_file images s y.tree (length images) (ordered y.trees y.made y.before y.tree y.after y.split) p q (subst (λ (t : DepTree). LacksSourceFile images p s t) tree x.lacks) y.lacks

    fails_or_rooted : (e : BuildError) → RootFails images e → (trees : List DepTree) → MakesOf images trees → AllByRecursion (HasRoot images s) trees → ⊥
    fails_or_rooted e x trees made rooted =
        let same : trees ≡ x.fault.before ++ x.fault.tree ∷ x.fault.after = same_made trees x.trees made x.made ∙ x.fault.is in
        let all = all_right (HasRoot images s) x.fault.before (x.fault.tree ∷ x.fault.after) (subst (λ (ts : List DepTree). AllByRecursion (HasRoot images s) ts) same rooted) in
        never_rooted e x all.0

    fails_or_follows : (e f : BuildError) → RootFails images e → PodFollows images f → ⊥
    fails_or_follows e f x y = fails_or_rooted e x y.trees y.made y.rooted

    lacks_or_copied : (path : List ℕ) → FileFails images path → (trees : List DepTree) → MakesOf images trees → AllByRecursion (CanCopyRoot images s) trees → ⊥
    lacks_or_copied path x trees made copied =
        let same : trees ≡ x.before ++ x.tree ∷ x.after = same_made trees x.trees made x.made ∙ x.split in
        let all = all_right (CanCopyRoot images s) x.before (x.tree ∷ x.after) (subst (λ (ts : List DepTree). AllByRecursion (CanCopyRoot images s) ts) same copied) in
        lacks_or_can images s x.tree (length images) (ordered x.trees x.made x.before x.tree x.after x.split) x.lacks all.0

  never_both : IsTaken draw s → IsUntaken draw s → ⊥
  never_both taken none = let clash : Some taken.0 ≡ None = sym taken.1 ∙ none in cc

  two_copied : (p q : List ℕ) → LacksCopied me draw refs wishes p s → LacksCopied me draw refs wishes q s → p ≡ q
  two_copied p q x y =
      let a = x.fails in
      let b = y.fails in
      two_files a.0 p q (file_fails a.0 p a.2) (file_same b.0 a.0 (one_store s b.0 a.0 b.1 a.1) q (file_fails b.0 q b.2))

  two_follow : (e f : BuildError) → ComesWithPlan e → ComesWithPlan f → e ≡ f
  two_follow (build.Busy Embryo) (build.Busy Embryo) x y = refl
  two_follow (build.Busy Embryo) (build.Taken pod) x y = let clash : false ≡ true = sym y.1.free ∙ x.0 in cc
  two_follow (build.Busy Embryo) (build.Damaged path) x y = let clash : false ≡ true = sym y.free ∙ x.0 in cc
  two_follow (build.Taken pod) (build.Busy Embryo) x y = let clash : false ≡ true = sym x.1.free ∙ y.0 in cc
  two_follow (build.Taken pod) (build.Taken other) x y = ap build.Taken (x.0 ∙ sym y.0)
  two_follow (build.Taken pod) (build.Damaged path) x y = absurd (never_both x.1.taken y.untaken)
  two_follow (build.Damaged path) (build.Busy Embryo) x y = let clash : false ≡ true = sym x.free ∙ y.0 in cc
  two_follow (build.Damaged path) (build.Taken pod) x y = absurd (never_both y.1.taken x.untaken)
  two_follow (build.Damaged path) (build.Damaged other) x y = ap build.Damaged (two_copied path other x y)
  two_follow (build.Busy Embryo) f x y = absurd y
  two_follow (build.Taken pod) f x y = absurd y
  two_follow (build.Damaged path) f x y = absurd y
  two_follow e f x y = absurd x

  module _ (images : List Stored) where
    two_kinds : (e f : BuildError) → Kind images e → Kind images f → e ≡ f
    two_kinds e f (inl x) (inl y) = x.is ∙ (ap chosen_refusal (one_reason images refs wishes x.reason y.reason x.refused y.refused x.told y.told) ∙ sym y.is)
    two_kinds e f (inl x) (inr (inl y)) = absurd (x.told (y.made.unrefused x.reason x.refused))
    two_kinds e f (inl x) (inr (inr y)) = absurd (x.told (y.made.unrefused x.reason x.refused))
    two_kinds e f (inr (inl x)) (inl y) = absurd (y.told (x.made.unrefused y.reason y.refused))
    two_kinds e f (inr (inr x)) (inl y) = absurd (y.told (x.made.unrefused y.reason y.refused))
    two_kinds e f (inr (inl x)) (inr (inl y)) = two_fail images e f x y
    two_kinds e f (inr (inl x)) (inr (inr y)) = absurd (fails_or_follows images e f x y)
    two_kinds e f (inr (inr x)) (inr (inl y)) = absurd (fails_or_follows images f e y x)
    two_kinds e f (inr (inr x)) (inr (inr y)) = two_follow e f x.follows y.follows

  two_verdicts : (e f : BuildError) → Verdict e → Verdict f → e ≡ f
  two_verdicts e f (inl x) (inl y) = x.1 ∙ (ap build.Damaged (one_damage s x.0 y.0 x.2 y.2) ∙ sym y.1)
  two_verdicts e f (inl x) (inr y) = absurd (not_whole s x.0 y.0 x.2 y.1)
  two_verdicts e f (inr x) (inl y) = absurd (not_whole s y.0 x.0 y.2 x.1)
  two_verdicts e f (inr x) (inr y) = two_kinds x.0 e f x.2 (kind_same y.0 x.0 (one_store s y.0 x.0 y.1 x.1) f y.2)

  -- by the lock of images
  held_or_free : (e : BuildError) → IsToldByState e → LocksRefuse me s e → ((e ≡ build.Busy Images) × IsBusyElsewhere me Images Shared s) ⊎ IsFreeElsewhere me Images Shared s
  held_or_free (build.Busy Images) told x = inl (refl, x)
  held_or_free (build.Busy Embryo) told x = inr x.0
  held_or_free (build.Busy area) told x = absurd x
  held_or_free build.DirFault told x = absurd told
  held_or_free build.NoMemory told x = absurd told
  held_or_free build.Stray told x = absurd told
  held_or_free e told x = inr x

  pub one_refusal : (e : BuildError) → RefusesReferences me draw refs wishes s e → IsOnly me draw refs wishes s e
  one_refusal e x told f other y = by (held_or_free f other y.0) (held_or_free e told x.0)
    where
      by : ((f ≡ build.Busy Images) × IsBusyElsewhere me Images Shared s) ⊎ IsFreeElsewhere me Images Shared s → ((e ≡ build.Busy Images) × IsBusyElsewhere me Images Shared s) ⊎ IsFreeElsewhere me Images Shared s →
          f ≡ e
      by (inl a) (inl b) = a.0 ∙ sym b.0
      by (inl a) (inr b) = let clash : false ≡ true = sym b ∙ a.1 in cc
      by (inr a) (inl b) = let clash : false ≡ true = sym a ∙ b.1 in cc
      by (inr a) (inr b) = two_verdicts f e (verdict f other a y.0 y.1) (verdict e told b x.0 x.1)

  -- ---- they make a pod all of whose files can be copied, and it can be begun
  pub record CanMake : Type 0 where
    pub gate : IsFreeElsewhere me Images Shared s
    pub free : IsEmbryoFree me s
    pub untaken : IsUntaken draw s
    pub images : List Stored
    pub are : AreStore images s
    pub is : IsPodWithRoots images refs wishes s
    pub copied : AllByRecursion (CanCopyRoot images s) is.made.pod.trees

  module _ (m : CanMake) where
    never_follows : (e : BuildError) → ComesWithPlan e → ⊥
    never_follows (build.Busy Embryo) x = let clash : false ≡ true = sym m.free ∙ x.0 in cc
    never_follows (build.Taken pod) x = never_both x.1.taken m.untaken
    never_follows (build.Damaged path) x =
        let a = x.fails in
        lacks_or_copied m.images path (file_same a.0 m.images (one_store s a.0 m.images a.1 m.are) path (file_fails a.0 path a.2)) m.is.made.pod.trees (made_of m.images m.is.made) m.copied
    never_follows e x = absurd x

    never_kind : (e : BuildError) → Kind m.images e → ⊥
    never_kind e (inl x) = x.told (m.is.made.unrefused x.reason x.refused)
    never_kind e (inr (inl x)) = fails_or_rooted m.images e x m.is.made.pod.trees (made_of m.images m.is.made) m.is.rooted
    never_kind e (inr (inr x)) = never_follows e x.follows

    never_verdict : (e : BuildError) → Verdict e → ⊥
    never_verdict e (inl x) = not_whole s x.0 m.images x.2 m.are
    never_verdict e (inr x) = never_kind e (kind_same x.0 m.images (one_store s x.0 m.images x.1 m.are) e x.2)

    pub none_refuses : NothingRefuses me draw refs wishes s
    none_refuses e told x = by (held_or_free e told x.0)
      where
        by : ((e ≡ build.Busy Images) × IsBusyElsewhere me Images Shared s) ⊎ IsFreeElsewhere me Images Shared s → ⊥
        by (inl held) = let clash : false ≡ true = sym m.gate ∙ held.1 in cc
        by (inr free) = never_verdict e (verdict e told free x.0 x.1)
