-- By one list of images and one state the files of a tree's root are from one image each, and one of them is the first that can't be copied.
use Rattle.std.proofs.Common.{◌≡◌, ℕ, Bool, true, false, zero, suc, ◌<◌, Some, None, List, [], ◌∷◌, length, if◌then◌else◌, refl, sym, ap, subst, ◌∙◌}
use Rattle.std.specs.List.{All, AllZip}
use Rattle.std.proofs.lemmas.List.Elements.{All-head, All-tail}
use Rattle.std.proofs.Math.Path.{fun_ext}
use Rattle.ac_types.specs.declared.store_key.StoreKey.{StoreKey}
use Rattle.dep_match.specs.declared.dep_tree.DepTree.{DepTree}
use Rattle.dep_match.specs.declared.stored.Stored.{Stored}
use Rattle.dep_match.specs.Dependencies.{key_at}
use Rattle.dep_match.specs.TreeOrder.{IsOrderedTree, node_at}
use Rattle.dir_model.specs.State.{DirState}
use Rattle.dir_model.proofs.Lists.{all_right, all_weaker}
use Rattle.image_reading.specs.Places.{stored_path}
use Rattle.path_map.specs.declared.entry.Entry.{Entry}
use Rattle.path_map.specs.declared.entry.Entry.TheVariants.{Dir, File, Link}
use Rattle.path_map.specs.declared.listed.Listed.{Listed}
use Rattle.path_map.specs.Entries.{Entries, entry_at}
use Rattle.path_map.specs.Whitelist.{whitelisted}
use Rattle.path_map.proofs.Rising.{same_from_tree}
use Rattle.pod_plan.specs.Roots.{node_key}
use Rattle.render.specs.Assembly.{empty_tree, laid, layered, own_whitelist}
use Rattle.render.specs.Layers.{is_file_at, layered_origins, maps_of, no_origins, source_at}
use Rattle.render.specs.Origins.{OriginMap, laid_origins, origin_at}
use Rattle.render.specs.Plans.{IsPut}
use Rattle.render.specs.declared.rendering.Rendering.{Rendering}
use Rattle.commands.specs.PrepareTable.{CanCopy, CanCopyAll, CanCopyRoot, HasBytes, RootHasSources, LacksSourceFile, root_file}
use Rattle.commands.proofs.OneRoot.{one_listing}
use Rattle.commands.proofs.Firsts.{first_bad}

-- two renderings with the same map, and the same image at each file
pub record Same (x y : Rendering) : Type 0 where
  pub map : x.map ≡ y.map
  pub sources : source_at x ≡ source_at y

maps_same : (xs ys : List Rendering) → AllZip Same xs ys → maps_of xs ≡ maps_of ys
maps_same [] [] all = refl
maps_same [] (y ∷ ys) all = absurd all
maps_same (x ∷ xs) [] all = absurd all
maps_same (x ∷ xs) (y ∷ ys) all = ap (λ (m : Entries). m ∷ maps_of xs) all.0.map ∙ ap (λ (ms : List Entries). y.map ∷ ms) (maps_same xs ys all.1)

origins_same : (o : OriginMap) (xs ys : List Rendering) → AllZip Same xs ys → layered_origins o xs ≡ layered_origins o ys
origins_same o [] [] all = refl
origins_same o [] (y ∷ ys) all = absurd all
origins_same o (x ∷ xs) [] all = absurd all
origins_same o (x ∷ xs) (y ∷ ys) all =
    ap (λ (m : Entries). layered_origins (laid_origins o m (source_at x)) xs) all.0.map
    ∙ (ap (λ (f : OriginMap). layered_origins (laid_origins o y.map f) xs) all.0.sources ∙ origins_same (laid_origins o y.map (source_at y)) xs ys all.1)

module _ (images : List Stored) (s : DirState) (tree : DepTree) (count : ℕ) (ordered : IsOrderedTree count tree.nodes) where
  abbrev whites : ℕ → List Listed
  whites = own_whitelist tree.nodes images

  abbrev key_of : ℕ → StoreKey
  key_of i = key_at images i

  module _ (own other : ℕ → Entries) (same : (n : ℕ) → n < length tree.nodes → own n ≡ other n) where
    abbrev Inside : ℕ → ℕ → Type 0
    Inside n c = (n < c) × (c < length tree.nodes)

    parts_same : (levels : ℕ) → ((n : ℕ) (x y : Rendering) → n < length tree.nodes → IsPut tree.nodes whites own levels n x → IsPut tree.nodes whites other levels n y → Same x y) → (n : ℕ) (cs : List ℕ) (xs ys : List Rendering) →
        All (Inside n) cs → AllZip (λ c x. IsPut tree.nodes whites own levels c x) cs xs → AllZip (λ c y. IsPut tree.nodes whites other levels c y) cs ys → AllZip Same xs ys
    parts_same levels one n [] [] [] within x y = tt
    parts_same levels one n [] [] (b ∷ ys) within x y = absurd y
    parts_same levels one n [] (a ∷ xs) ys within x y = absurd x
    parts_same levels one n (c ∷ cs) [] ys within x y = absurd x
    parts_same levels one n (c ∷ cs) (a ∷ xs) [] within x y = absurd y
    parts_same levels one n (c ∷ cs) (a ∷ xs) (b ∷ ys) within x y =
        let here = All-head (Inside n) c cs within in
        (one c a b here.1 x.0 y.0, parts_same levels one n cs xs ys (All-tail (Inside n) c cs within) x.1 y.1)

    -- where those below a node are the same, so is what they give together
    put_same : (levels n : ℕ) (x y : Rendering) → n < length tree.nodes → (a : IsPut tree.nodes whites own (suc levels) n x) (b : IsPut tree.nodes whites other (suc levels) n y) → AllZip Same a.0 b.0 → Same x y
    put_same levels n x y within a b parts = record { map = map; sources = fun_ext (λ (q : List ℕ). at q (is_file_at (entry_at x.map q)) refl) }
      where
        map : x.map ≡ y.map
        map = same_from_tree x.map y.map a.2.layer.kind.rising b.2.layer.kind.rising
            (λ q. a.2.layer.entries q
            ∙ (ap (λ (below : List Entries). whitelisted (whites n) (laid (layered empty_tree below) (own n)) q) (maps_same a.0 b.0 parts)
            ∙ (ap (λ (es : Entries). whitelisted (whites n) (laid (layered empty_tree (maps_of b.0)) es) q) (same n within)
            ∙ sym (b.2.layer.entries q))))

        given : OriginMap
        given q = Some (node_at tree.nodes n).image

        at : (q : List ℕ) (b : Bool) → is_file_at (entry_at x.map q) ≡ b → source_at x q ≡ source_at y q
        at q true is =
            a.2.sources q is
            ∙ (ap (λ (o : OriginMap). laid_origins o (own n) given q) (origins_same no_origins a.0 b.0 parts)
            ∙ (ap (λ (es : Entries). laid_origins (layered_origins no_origins b.0) es given q) (same n within)
            ∙ sym (b.2.sources q (ap (λ (m : Entries). is_file_at (entry_at m q)) (sym map) ∙ is))))
        at q false is =
            ap (λ (c : Bool). if c then origin_at x.origins q else None) is
            ∙ sym (ap (λ (c : Bool). if c then origin_at y.origins q else None) (ap (λ (m : Entries). is_file_at (entry_at m q)) (sym map) ∙ is))

    one_put : (levels n : ℕ) (x y : Rendering) → n < length tree.nodes → IsPut tree.nodes whites own levels n x → IsPut tree.nodes whites other levels n y → Same x y
    one_put zero n x y within a b = absurd a
    one_put (suc levels) n x y within a b =
        put_same levels n x y within a b (parts_same levels (one_put levels) n (node_at tree.nodes n).children a.0 b.0 (ordered.children n within) a.1 b.1)

  one_rendering : (x y : Rendering) → RootHasSources images tree x s → RootHasSources images tree y s → Same x y
  one_rendering x y a b =
      one_put a.root.own b.root.own (λ n inside. one_listing s (node_key images tree.nodes n) (a.root.own n) (b.root.own n) (a.root.each n inside) (b.root.each n inside)) (length tree.nodes) 0 x y ordered.top a.put b.put

  can_same : (x y : Rendering) → Same x y → (file : List ℕ) (entry : Entry) → CanCopy images x s file entry → CanCopy images y s file entry
  can_same x y same file (Dir meta) can = tt
  can_same x y same file (Link meta target) can = tt
  can_same x y same file (File meta size sha) can = (can.0, sym (ap (λ (f : OriginMap). f file) same.sources) ∙ can.1, can.2)

  all_can_same : (x y : Rendering) → Same x y → (m : Entries) → CanCopyAll images x s m → CanCopyAll images y s m
  all_can_same x y same m can = all_weaker (λ e. CanCopy images x s e.0 e.1) (λ e. CanCopy images y s e.0 e.1) (λ e. can_same x y same e.0 e.1) m can

  -- the file that is told can't
  never_can : {path : List ℕ} (x : LacksSourceFile images path s tree) → CanCopy images x.rendering s x.file (File x.meta x.size x.sha) → ⊥
  never_can x can =
      let both : Some can.0 ≡ Some (node_at tree.nodes x.node).image = sym can.1 ∙ x.from in
      let place : can.0 ≡ (node_at tree.nodes x.node).image = cc in
      let has = subst (λ (i : ℕ). HasBytes (key_of i) (root_file x.file) x.size x.sha s) place can.2 in
      x.lacks has.bytes has.there has.sized has.hashed

  pub lacks_or_can : {path : List ℕ} → LacksSourceFile images path s tree → CanCopyRoot images s tree → ⊥
  lacks_or_can x root =
      let same = one_rendering root.0 x.rendering root.1 x.sourced in
      let all = subst (λ (m : Entries). CanCopyAll images x.rendering s m) (same.map ∙ x.split) (all_can_same root.0 x.rendering same root.0.map root.2) in
      never_can x (all_right (λ e. CanCopy images x.rendering s e.0 e.1) x.before ((x.file, File x.meta x.size x.sha) ∷ x.after) all).0

  pub one_file : (p q : List ℕ) → LacksSourceFile images p s tree → LacksSourceFile images q s tree → p ≡ q
  one_file p q x y =
      let same = one_rendering x.rendering y.rendering x.sourced y.sourced in
      let back = one_rendering y.rendering x.rendering y.sourced x.sourced in
      let entry = first_bad (λ e. CanCopy images x.rendering s e.0 e.1) x.before y.before (x.file, File x.meta x.size x.sha) (y.file, File y.meta y.size y.sha) x.after y.after
      (sym x.split ∙ (same.map ∙ y.split)) (never_can x) (λ can. never_can y (can_same x.rendering y.rendering same y.file (File y.meta y.size y.sha) can)) x.earlier (all_can_same y.rendering x.rendering back y.before y.earlier) in
      let file : x.file ≡ y.file = ap (λ e. e.0) entry in
      let both : Some (node_at tree.nodes x.node).image ≡ Some (node_at tree.nodes y.node).image =
      sym x.from ∙ (ap (λ (f : OriginMap). f x.file) same.sources ∙ (ap (source_at y.rendering) file ∙ y.from)) in
      let image : (node_at tree.nodes x.node).image ≡ (node_at tree.nodes y.node).image = cc in
      x.is ∙ (ap (λ (i : ℕ). stored_path (key_of i) (root_file x.file)) image ∙ (ap (λ (f : List ℕ). stored_path (key_of (node_at tree.nodes y.node).image) (root_file f)) file ∙ sym y.is))
