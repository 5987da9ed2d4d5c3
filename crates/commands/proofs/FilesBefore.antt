-- While the images stay as they are, a file that couldn't be copied for a pod was the first of its plan that was lacking in the state before.
use Rattle.std.proofs.Common.{arith, ◌≡◌, ◌⊎◌, inl, inr, ◌<◌, ◌≤◌, ℕ, zero, suc, true, Option, Some, None, Ok, option_map, List, [], ◌∷◌, ◌++◌, length, map, take, codes, refl, sym, ap, subst, ◌∙◌}
use Rattle.std.specs.Prelude.{slice_index_or}
use Rattle.std.specs.List.{All, AllByRecursion, cons_option, flat_map, slice_get}
use Rattle.std.proofs.lemmas.Grind.{common_steps}
use Rattle.std.proofs.lemmas.List.Elements.{All-head, All-tail}
use Rattle.plain_laws.proofs.Lists.{head_of, tail_of, at_place}
use Rattle.plain_laws.proofs.Fronts.{not_cut}
use Rattle.sha2.specs.Sha512.{sha512}
use Rattle.ac_types.specs.declared.store_key.StoreKey.{StoreKey}
use Rattle.ac_types.specs.Ids.{id_text}
use Rattle.dep_match.specs.declared.dep_tree.DepTree.{DepTree}
use Rattle.dep_match.specs.declared.stored.Stored.{Stored}
use Rattle.dep_match.specs.Dependencies.{dependency_tree, key_at}
use Rattle.dep_match.specs.TreeOrder.{node_at}
use Rattle.dep_match.proofs.OrderedTrees.{tree_ordered}
use Rattle.dir_model.specs.declared.item.Inner.{Inner}
use Rattle.dir_model.specs.State.{DirState}
use Rattle.dir_model.specs.Trace.{state_after}
use Rattle.dir_model.specs.Trees.{app_root}
use Rattle.dir_model.proofs.Lists.{all_left, all_right}
use Rattle.dir_trait.specs.DirCalls.{DirAt}
use Rattle.dir_files.specs.Reads.{AreTold, IsPiece, IsShort, HasReadSoFar, WasMissing, file_at}
use Rattle.folder_building.specs.declared.plan.PlanEntry.{PlanEntry}
use Rattle.folder_building.specs.declared.plan.Content.TheVariants.{Copied, Directory}
use Rattle.folder_building.specs.Sources.{in_image, in_images}
use Rattle.folder_building.specs.Stored.{HadContent, LacksAt, LacksContent, ReadsLike, ReadsOther}
use Rattle.folder_building.specs.ImagePlans.{given_file}
use Rattle.gate_reading.proofs.PlainPaths.{plain_rootfs}
use Rattle.image_reading.specs.Places.{IsPresent, image_inner}
use Rattle.manifests.specs.declared.runtime_app.RuntimeApp.{RuntimeApp}
use Rattle.folder_building.specs.Materialized.{prefixed_path}
use Rattle.folder_building.specs.TreePlans.{content_of, plan_entry_at as plan_entry}
use Rattle.path_map.specs.declared.entry.Entry.{Entry}
use Rattle.path_map.specs.declared.entry.Entry.TheVariants.{Dir, File, Link}
use Rattle.path_map.specs.declared.entry.Meta.{Meta}
use Rattle.path_map.specs.Entries.{Entries, IsPathMap, entry_at}
use Rattle.path_map.proofs.EachEntries.{all_in_list}
use Rattle.pod_build.specs.Origins.{IsOriginAt, origin_path, path_in_folder}
use Rattle.pod_plan.specs.Choices.{AreTrees}
use Rattle.pod_plan.specs.declared.pod_app.PodApp.{PodApp}
use Rattle.pod_plan.specs.PodFiles.{shared_directories}
use Rattle.pod_plan.specs.PodPlans.{app_entries, pod_head_entries, image_at, image_of, pod_entries, root_entries}
use Rattle.pod_plan.specs.Plans.{app_with_root, apps_with, folders}
use Rattle.pod_plan.specs.Roots.{AreImageRoots, IsRootAsRead, node_key}
use Rattle.render.specs.Assembly.{IsAssembly, own_whitelist}
use Rattle.render.specs.Layers.{is_file_at, source_at}
use Rattle.render.specs.declared.rendering.Rendering.{Rendering}
use Rattle.standing_images.specs.Images.{AreStore, ImagesStay}
use Rattle.standing_images.proofs.Before.{told_before}
use Rattle.standing_images.proofs.Pieces.{ArePieces, IsFront, all_told, is_front}
use Rattle.tree_digest.specs.declared.line.ListingLine.{ListingLine}
use Rattle.tree_digest.specs.Listings.{lines_of}
use Rattle.commands.specs.PrepareTable.{CanCopy, CanCopyAll, CanCopyRoot, HasBytes, RootHasSources, LacksBytes, LacksSourceFile, root_file}
use Rattle.commands.proofs.NodesStand.{node_stands}
use Rattle.commands.proofs.Parts.{Part, held_wider}
use Rattle.commands.proofs.RootsBefore.{entries_before}

front_within : (bytes file : List ℕ) → bytes ≡ take (length bytes) file → length bytes ≤ length file
front_within bytes file first = let e = ap length first in grind (arith, common_steps)

whole_front : (bytes file : List ℕ) → bytes ≡ take (suc (length bytes)) file → bytes ≡ file
whole_front bytes file first =
    let e : length bytes ≡ length (take (suc (length bytes)) file) = ap length first in
    first ∙ not_cut (suc (length bytes)) file (omega (arith, e))

-- the folder of an image, by its place
folder_there : (images : List Stored) (i : ℕ) → i < length images → slice_get (folders images) i ≡ Some (id_text (key_at images i).bytes)
folder_there [] i within = absurd (omega (arith, within))
folder_there (x ∷ images) zero within = refl
folder_there (x ∷ images) (suc i) within = folder_there images i (omega (arith, within))

-- a root is a map
root_map : (tree : DepTree) (whole : Entries) (whitelists : _) (own : ℕ → Entries) → IsAssembly tree.nodes whitelists own (length tree.nodes) 0 whole → IsPathMap whole
root_map tree whole whitelists own is = by (length tree.nodes) is
  where
    by : (levels : ℕ) → IsAssembly tree.nodes whitelists own levels 0 whole → IsPathMap whole
    by zero x = absurd x
    by (suc levels) x = x.2.kind

module _ (old new : DirAt) (stay : ImagesStay old.trace new.trace) {begun ended : DirAt} (q : Part old begun ended new) where
  abbrev s : DirState
  s = state_after old.trace

  module _ (key : StoreKey) (file : List ℕ) where
    abbrev here : Inner
    here = image_inner key (root_file file)

    abbrev found : Option (List ℕ)
    found = file_at s here

    -- it has more bytes, or it is another
    too_long : (size : ℕ) (read bytes : List ℕ) → size < length read → IsFront (length read) read found → found ≡ Some bytes → length bytes ≡ size → ⊥
    too_long size read bytes more f there long =
        let one : Some bytes ≡ Some f.file = sym there ∙ f.is in
        let same : bytes ≡ f.file = cc in
        let within = front_within read f.file f.front in
        let e = ap length same in
        omega (arith, more, within, e, long)

    read_whole : (read bytes : List ℕ) → IsFront (suc (length read)) read found → found ≡ Some bytes → read ≡ bytes
    read_whole read bytes f there =
        let one : Some bytes ≡ Some f.file = sym there ∙ f.is in
        let same : bytes ≡ f.file = cc in
        whole_front read f.file f.front ∙ sym same

    -- the pieces that were read are of that file
    are_pieces : {bytes : List ℕ} (r : HasReadSoFar here begun ended bytes) → ArePieces found r.pieces
    are_pieces r =
        all_told old.process here old.trace new.trace found
        (λ at room piece step. told_before old.process old.trace new.trace stay key (root_file file) (IsPiece at room piece) (plain_rootfs file) step)
        begun.trace q.earlier q.begins r.pieces ended.trace q.later q.ends
        (subst (λ (m : ℕ). AreTold m here begun.trace r.pieces ended.trace) q.same r.told)

    has_bytes : (size : ℕ) (sha : List ℕ) → ReadsLike here size sha begun ended → HasBytes key (root_file file) size sha s
    has_bytes size sha r =
        let f = is_front (suc (length r.bytes)) r.bytes r.reads.pieces found (omega arith) r.reads.whole (omega arith) (inr r.ended) (are_pieces r.reads) in
        let same : r.bytes ≡ f.file = whole_front r.bytes f.file f.front in
        record { bytes = r.bytes; there = f.is ∙ ap Some (sym same); sized = r.sized; hashed = r.hashed }

    lacks_bytes : (size : ℕ) (sha : List ℕ) → WasMissing here begun ended ⊎ ReadsOther here size sha begun ended → LacksBytes key (root_file file) size sha s
    lacks_bytes size sha (inl missing) bytes there long digest =
        let none : found ≡ None = told_before old.process old.trace new.trace stay key (root_file file) (λ f. f ≡ None) (plain_rootfs file) (held_wider q _ missing) in
        let clash : None ≡ Some bytes = sym none ∙ there in
        cc
    lacks_bytes size sha (inr r) bytes there long digest = by r.other
      where
        by : (size < length r.bytes) ⊎ (IsShort r.reads.pieces × (length r.bytes ≡ size → sha512 r.bytes ≡ sha → ⊥)) → ⊥
        by (inl more) =
            too_long size r.bytes bytes more (is_front (length r.bytes) r.bytes r.reads.pieces found (omega (arith, more)) r.reads.whole (omega arith) (inl refl) (are_pieces r.reads)) there long
        by (inr short) =
            let read = read_whole r.bytes bytes (is_front (suc (length r.bytes)) r.bytes r.reads.pieces found (omega arith) r.reads.whole (omega arith) (inr short.0) (are_pieces r.reads)) there in
            short.1 (ap length read ∙ long) (ap sha512 read ∙ digest)

  module _ {start end : DirAt} (p : Part old start end new) (images : List Stored) (are_all : AreStore images s) (path : List ℕ) where
    abbrev fs : List (List ℕ)
    fs = folders images

    abbrev Had : PlanEntry → Type 0
    Had e = HadContent in_images e.content begun ended

    abbrev Lacks : PlanEntry → Type 0
    Lacks e = LacksContent in_images e.content begun ended

    -- the first of some entries that wasn't copied
    pub record First (es : List PlanEntry) : Type 0 where
      pub before : List PlanEntry
      pub entry : PlanEntry
      pub rest : List PlanEntry
      pub is : es ≡ before ++ entry ∷ rest
      pub earlier : AllByRecursion Had before
      pub lacks : Lacks entry
      pub from : path ≡ origin_path entry

    first_none : First [] → ⊥
    first_none f = by f.before f.is
      where
        by : (before : List PlanEntry) → [] ≡ before ++ f.entry ∷ f.rest → ⊥
        by [] is = cc
        by (x ∷ before) is = cc

    head_or : (e : PlanEntry) (es : List PlanEntry) → First (e ∷ es) → (Lacks e × (path ≡ origin_path e)) ⊎ (Had e × First es)
    head_or e es f = by f.before f.is f.earlier
      where
        by : (before : List PlanEntry) → e ∷ es ≡ before ++ f.entry ∷ f.rest → AllByRecursion Had before → (Lacks e × (path ≡ origin_path e)) ⊎ (Had e × First es)
        by [] is had =
            let same : f.entry ≡ e = cc in
            inl (subst Lacks same f.lacks, f.from ∙ ap origin_path same)
        by (x ∷ before) is had =
            let same : x ≡ e = cc in
            let others : es ≡ before ++ f.entry ∷ f.rest = cc in
            inr (subst Had same had.0, record { before = before; entry = f.entry; rest = f.rest; is = others; earlier = had.1; lacks = f.lacks; from = f.from })

    part_or : (xs ys : List PlanEntry) → First (xs ++ ys) → First xs ⊎ (AllByRecursion Had xs × First ys)
    part_or [] ys f = inr (tt, f)
    part_or (x ∷ xs) ys f = by (λ g. part_or xs ys g) (head_or x (xs ++ ys) f)
      where
        more : Had x → First xs ⊎ (AllByRecursion Had xs × First ys) → First (x ∷ xs) ⊎ (AllByRecursion Had (x ∷ xs) × First ys)
        more had (inl g) = inl (record { before = x ∷ g.before; entry = g.entry; rest = g.rest; is = ap (λ (l : List PlanEntry). x ∷ l) g.is; earlier = (had, g.earlier); lacks = g.lacks; from = g.from })
        more had (inr g) = inr ((had, g.0), g.1)

        by : (First (xs ++ ys) → First xs ⊎ (AllByRecursion Had xs × First ys)) → (Lacks x × (path ≡ origin_path x)) ⊎ (Had x × First (xs ++ ys)) → First (x ∷ xs) ⊎ (AllByRecursion Had (x ∷ xs) × First ys)
        by rest (inl l) = inl (record { before = []; entry = x; rest = xs; is = refl; earlier = tt; lacks = l.0; from = l.1 })
        by rest (inr r) = more r.0 (rest r.1)

    -- what isn't copied is passed over
    past : (e : PlanEntry) (es : List PlanEntry) → First (e ∷ es) → (Lacks e → ⊥) → First es
    past e es f never = by (head_or e es f)
      where
        by : (Lacks e × (path ≡ origin_path e)) ⊎ (Had e × First es) → First es
        by (inl l) = absurd (never l.0)
        by (inr r) = r.1

    no_directories : (paths : List (List ℕ)) → First (map (λ place. plan_entry place Directory) paths) → ⊥
    no_directories [] f = first_none f
    no_directories (place ∷ paths) f = no_directories paths (past (plan_entry place Directory) (map (λ place. plan_entry place Directory) paths) f (λ l. l))

    pub plan_first : (now : ℕ) (token text : List ℕ) (apps : List PodApp) → First (pod_entries now token text fs apps) → First (flat_map (app_entries fs) apps)
    plan_first now token text apps f = by (part_or (pod_head_entries now token) (flat_map (app_entries fs) apps ++ last ∷ []) f)
      where
        last : PlanEntry
        last = given_file (codes "pod") text

        ends : First (flat_map (app_entries fs) apps) ⊎ (AllByRecursion Had (flat_map (app_entries fs) apps) × First (last ∷ [])) → First (flat_map (app_entries fs) apps)
        ends (inl g) = g
        ends (inr g) = absurd (first_none (past last [] g.1 (λ l. l)))

        by : First (pod_head_entries now token) ⊎ (AllByRecursion Had (pod_head_entries now token) × First (flat_map (app_entries fs) apps ++ last ∷ [])) → First (flat_map (app_entries fs) apps)
        by (inl g) = absurd (no_directories shared_directories (past _ _ (past _ _ g (λ l. l)) (λ l. l)))
        by (inr g) = ends (part_or (flat_map (app_entries fs) apps) (last ∷ []) g.1)

    -- the root of an app
    module _ (tree : DepTree) (place : ℕ) (known : place < length images) (made : dependency_tree images place ≡ Ok tree.nodes)
        (root : _) (is : IsRootAsRead true images start end tree root) (named : RuntimeApp) (manifest : List ℕ) where
      abbrev app : PodApp
      app = app_with_root named manifest root

      abbrev r : Rendering
      r = root.rendering

      abbrev sourced : RootHasSources images tree r s
      sourced = record {
        root = record {
          own = is.rendered.own;
          each = λ n prefixed_path. entries_before old new stay p true refl (node_key images tree.nodes n) (is.rendered.own n) (is.rendered.read n prefixed_path);
          few = is.rendered.few;
          rendered = is.rendered.rendering;
        };
        put = is.rendered.sourced;
      }

      abbrev copied : List ℕ → ℕ → List ℕ → PlanEntry
      copied file size sha = plan_entry (prefixed_path (app_root app.name) file) (Copied (record { folder = image_of fs app file; path = root_file file }) size sha)

      abbrev Listed : List ℕ × Entry → Type 0
      Listed e = entry_at r.map e.0 ≡ Some e.1

      -- the image that a file is from
      record From (file : List ℕ) : Type 0 where
        node : ℕ
        within : node < length tree.nodes
        stands : IsPresent (node_key images tree.nodes node) s
        from : source_at r file ≡ Some (node_at tree.nodes node).image
        listed : entry_at (is.rendered.own node) file ≡ entry_at r.map file
        folder : image_of fs app file ≡ Some (id_text (node_key images tree.nodes node).bytes)

      from_image : (file : List ℕ) → is_file_at (entry_at r.map file) ≡ true → From file
      from_image file there =
          let x = is.rendered.sources file there in
          let ordered = tree_ordered images place tree.nodes known made in
          let inside = ordered.images x.0 (record { image = 0; children = [] }) x.1 in
          record {
            node = x.0;
            within = x.1;
            stands = node_stands images s are_all tree.nodes ordered x.0 x.1;
            from = x.2;
            listed = x.3;
            folder = ap (image_at fs) x.2 ∙ folder_there images (node_at tree.nodes x.0).image inside;
          }

      abbrev inner_of : ℕ → List ℕ → Inner
      inner_of node file = image_inner (node_key images tree.nodes node) (root_file file)

      can_copy : (file : List ℕ) (meta : Meta) (size : ℕ) (sha : List ℕ) → Listed (file, File meta size sha) → Had (copied file size sha) → CanCopy images r s file (File meta size sha)
      can_copy file meta size sha there had =
          let x = from_image file (ap is_file_at there) in
          ((node_at tree.nodes x.node).image, x.from, has_bytes (node_key images tree.nodes x.node) file size sha (had (inner_of x.node file) (ap (in_image (root_file file)) x.folder)))

      can_copy_all : (m : Entries) → All Listed m → AllByRecursion Had (root_entries fs app (lines_of m)) → CanCopyAll images r s m
      can_copy_all [] listed had = tt
      can_copy_all (e ∷ m) listed had = by (λ more. can_copy_all m (All-tail Listed e m listed) more) e.1 (All-head Listed e m listed) had
        where
          by : (AllByRecursion Had (root_entries fs app (lines_of m)) → CanCopyAll images r s m) → (entry : Entry) → entry_at r.map e.0 ≡ Some entry
              → AllByRecursion Had (cons_option (option_map (plan_entry (prefixed_path (app_root app.name) e.0)) (content_of (image_of fs app e.0) (prefixed_path (codes "rootfs") e.0) entry)) (root_entries fs app (lines_of m)))
              → CanCopy images r s e.0 entry × CanCopyAll images r s m
          by rest (Dir meta) there had = (tt, rest had.1)
          by rest (File meta size sha) there had = (can_copy e.0 meta size sha there had.0, rest had.1)
          by rest (Link meta target) there had = (tt, rest had)

      -- the first file of a part of the root that wasn't copied
      record LacksIn (m : Entries) : Type 0 where
        before : Entries
        file : List ℕ
        meta : Meta
        size : ℕ
        sha : List ℕ
        after : Entries
        split : m ≡ before ++ (file, File meta size sha) ∷ after
        earlier : CanCopyAll images r s before
        wanted : entry_at r.map file ≡ Some (File meta size sha)
        lacks : Lacks (copied file size sha)
        from : path ≡ origin_path (copied file size sha)

      lacks_first : (m : Entries) → All Listed m → First (root_entries fs app (lines_of m)) → LacksIn m
      lacks_first [] listed f = absurd (first_none f)
      lacks_first (e ∷ m) listed f = by (λ g. lacks_first m (All-tail Listed e m listed) g) e.1 refl (All-head Listed e m listed) f
        where
          others : List PlanEntry
          others = root_entries fs app (lines_of m)

          next : CanCopy images r s e.0 e.1 → LacksIn m → LacksIn (e ∷ m)
          next can l = record {
            before = e ∷ l.before;
            file = l.file;
            meta = l.meta;
            size = l.size;
            sha = l.sha;
            after = l.after;
            split = ap (λ (es : Entries). e ∷ es) l.split;
            earlier = (can, l.earlier);
            wanted = l.wanted;
            lacks = l.lacks;
            from = l.from;
          }

          here_or : (First others → LacksIn m) → (meta : Meta) (size : ℕ) (sha : List ℕ) → e.1 ≡ File meta size sha → entry_at r.map e.0 ≡ Some (File meta size sha)
              → (Lacks (copied e.0 size sha) × (path ≡ origin_path (copied e.0 size sha))) ⊎ (Had (copied e.0 size sha) × First others) → LacksIn (e ∷ m)
          here_or rest meta size sha kind there (inl l) = record {
            before = [];
            file = e.0;
            meta = meta;
            size = size;
            sha = sha;
            after = m;
            split = ap (λ (x : Entry). (e.0, x) ∷ m) kind;
            earlier = tt;
            wanted = there;
            lacks = l.0;
            from = l.1;
          }
          here_or rest meta size sha kind there (inr g) = next (subst (λ (x : Entry). CanCopy images r s e.0 x) (sym kind) (can_copy e.0 meta size sha there g.0)) (rest g.1)

          by : (First others → LacksIn m) → (entry : Entry) → e.1 ≡ entry → entry_at r.map e.0 ≡ Some entry
              → First (cons_option (option_map (plan_entry (prefixed_path (app_root app.name) e.0)) (content_of (image_of fs app e.0) (prefixed_path (codes "rootfs") e.0) entry)) others) → LacksIn (e ∷ m)
          by rest (Dir meta) kind there f = next (subst (λ (x : Entry). CanCopy images r s e.0 x) (sym kind) tt) (rest (past _ others f (λ l. l)))
          by rest (File meta size sha) kind there f = here_or rest meta size sha kind there (head_or (copied e.0 size sha) others f)
          by rest (Link meta target) kind there f = next (subst (λ (x : Entry). CanCopy images r s e.0 x) (sym kind) tt) (rest f)

      all_listed : All Listed r.map
      all_listed = all_in_list (λ file entry. entry_at r.map file ≡ Some entry) r.map (root_map tree r.map (own_whitelist tree.nodes images) is.rendered.own is.rendered.rendering).rising (λ file entry there. there)

      lacks_file : LacksIn r.map → LacksSourceFile images path s tree
      lacks_file l =
          let x = from_image l.file (ap is_file_at l.wanted) in
          record {
            rendering = r;
            sourced = sourced;
            before = l.before;
            file = l.file;
            meta = l.meta;
            size = l.size;
            sha = l.sha;
            after = l.after;
            split = l.split;
            earlier = l.earlier;
            wanted = l.wanted;
            node = x.node;
            within = x.within;
            stands = x.stands;
            from = x.from;
            listed = x.listed ∙ l.wanted;
            is = l.from ∙ ap (λ (o : Option (List ℕ)). path_in_folder o (root_file l.file)) x.folder;
            lacks = lacks_bytes (node_key images tree.nodes x.node) l.file l.size l.sha (l.lacks (inner_of x.node l.file) (ap (in_image (root_file l.file)) x.folder));
          }

      app_lacks : First (app_entries fs app) → LacksSourceFile images path s tree
      app_lacks f =
          lacks_file (lacks_first r.map all_listed (subst (λ (ls : List ListingLine). First (root_entries fs app ls)) is.listing
          (past _ _ (past _ _ (past _ _ (past _ _ (past _ _ f (λ l. l)) (λ l. l)) (λ l. l)) (λ l. l)) (λ l. l))))

      app_has : AllByRecursion Had (app_entries fs app) → CanCopyRoot images s tree
      app_has had = (r, sourced, can_copy_all r.map all_listed (subst (λ (ls : List ListingLine). AllByRecursion Had (root_entries fs app ls)) is.listing had.1.1.1.1.1))

    -- the first tree with such a file
    pub record FirstTree (trees : List DepTree) : Type 0 where
      pub before : List DepTree
      pub tree : DepTree
      pub after : List DepTree
      pub split : trees ≡ before ++ tree ∷ after
      pub earlier : AllByRecursion (CanCopyRoot images s) before
      pub lacks : LacksSourceFile images path s tree

    pub apps_first : (manifests : List (List ℕ)) (picks : List ℕ) (named : List RuntimeApp) (roots : _) (ts : List DepTree) → All (λ i. i < length images) picks → AreTrees images picks ts → AreImageRoots true images start end ts roots
        → First (flat_map (app_entries fs) (apps_with manifests picks named roots)) → FirstTree ts
    apps_first manifests [] named roots ts within are rooted f = absurd (first_none f)
    apps_first manifests (k ∷ picks) [] roots ts within are rooted f = absurd (first_none f)
    apps_first manifests (k ∷ picks) (a ∷ named) [] ts within are rooted f = absurd (first_none f)
    apps_first manifests (k ∷ picks) (a ∷ named) (root ∷ roots) [] within are rooted f = absurd rooted
    apps_first manifests (k ∷ picks) (a ∷ named) (root ∷ roots) (t ∷ ts) within are rooted f =
        by (λ more. apps_first manifests picks named roots ts (All-tail (λ i. i < length images) k picks within)
        (tail_of (dependency_tree images k) (Ok t.nodes) (map (dependency_tree images) picks) (map (λ (x : DepTree). Ok x.nodes) ts) are) rooted.1 more)
        (part_or (app_entries fs one) (flat_map (app_entries fs) (apps_with manifests picks named roots)) f)
      where
        manifest : List ℕ
        manifest = slice_index_or manifests k []

        one : PodApp
        one = app_with_root a manifest root

        known : k < length images
        known = All-head (λ i. i < length images) k picks within

        made : dependency_tree images k ≡ Ok t.nodes
        made = head_of (dependency_tree images k) (Ok t.nodes) (map (dependency_tree images) picks) (map (λ (x : DepTree). Ok x.nodes) ts) are

        by : (First (flat_map (app_entries fs) (apps_with manifests picks named roots)) → FirstTree ts) → First (app_entries fs one) ⊎ (AllByRecursion Had (app_entries fs one) × First (flat_map (app_entries fs) (apps_with manifests picks named roots))) → FirstTree (t ∷ ts)
        by rest (inl g) = record { before = []; tree = t; after = ts; split = refl; earlier = tt; lacks = app_lacks t k known made root rooted.0 a manifest g }
        by rest (inr g) =
            let x = rest g.1 in
            record {
              before = t ∷ x.before;
              tree = x.tree;
              after = x.after;
              split = ap (λ (l : List DepTree). t ∷ l) x.split;
              earlier = (app_has t k known made root rooted.0 a manifest g.0, x.earlier);
              lacks = x.lacks;
            }

    -- where each was copied, all of each root can be
    pub plan_copied : (now : ℕ) (token text : List ℕ) (apps : List PodApp) → AllByRecursion Had (pod_entries now token text fs apps) → AllByRecursion Had (flat_map (app_entries fs) apps)
    plan_copied now token text apps had =
        let last : PlanEntry = given_file (codes "pod") text in
        all_left Had (flat_map (app_entries fs) apps) (last ∷ []) (all_right Had (pod_head_entries now token) (flat_map (app_entries fs) apps ++ last ∷ []) had)

    pub apps_copied : (manifests : List (List ℕ)) (picks : List ℕ) (named : List RuntimeApp) (roots : _) (ts : List DepTree) → length named ≡ length picks → All (λ i. i < length images) picks → AreTrees images picks ts → AreImageRoots true images start end ts roots
        → AllByRecursion Had (flat_map (app_entries fs) (apps_with manifests picks named roots)) → AllByRecursion (CanCopyRoot images s) ts
    apps_copied manifests [] named roots [] many within are rooted had = tt
    apps_copied manifests [] named roots (t ∷ ts) many within are rooted had = cc
    apps_copied manifests (k ∷ picks) [] roots ts many within are rooted had = cc
    apps_copied manifests (k ∷ picks) (a ∷ named) roots [] many within are rooted had = cc
    apps_copied manifests (k ∷ picks) (a ∷ named) [] (t ∷ ts) many within are rooted had = absurd rooted
    apps_copied manifests (k ∷ picks) (a ∷ named) (root ∷ roots) (t ∷ ts) many within are rooted had =
        let manifest : List ℕ = slice_index_or manifests k [] in
        let first = app_entries fs (app_with_root a manifest root) in
        let others = flat_map (app_entries fs) (apps_with manifests picks named roots) in
        let known = All-head (λ i. i < length images) k picks within in
        let made = head_of (dependency_tree images k) (Ok t.nodes) (map (dependency_tree images) picks) (map (λ (x : DepTree). Ok x.nodes) ts) are in
        let fewer : length named ≡ length picks = cc in (
          app_has t k known made root rooted.0 a manifest (all_left Had first others had),
          apps_copied manifests picks named roots ts fewer (All-tail (λ i. i < length images) k picks within)
              (tail_of (dependency_tree images k) (Ok t.nodes) (map (dependency_tree images) picks) (map (λ (x : DepTree). Ok x.nodes) ts) are) rooted.1 (all_right Had first others had),
        )

    -- the entry that wasn't copied is the first
    pub copy_first : (plan : List PlanEntry) (place : ℕ) → IsOriginAt plan place path → LacksAt in_images plan place begun ended → First plan
    copy_first plan place at lacks =
        let there : slice_get plan place ≡ Some lacks.entry =
        ap (λ (l : List PlanEntry). slice_get l place) lacks.is ∙ (ap (λ n. slice_get (lacks.before ++ lacks.entry ∷ lacks.rest) n) (sym lacks.place) ∙ at_place lacks.before lacks.rest lacks.entry) in
        let both : Some at.entry ≡ Some lacks.entry = sym at.there ∙ there in
        let same : at.entry ≡ lacks.entry = cc in
        record { before = lacks.before; entry = lacks.entry; rest = lacks.rest; is = lacks.is; earlier = lacks.earlier; lacks = lacks.lacks; from = at.from ∙ ap origin_path same }
