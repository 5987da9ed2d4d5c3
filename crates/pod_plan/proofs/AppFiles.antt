-- The files of one app in a plan, and what they make.
use Rattle.std.proofs.Common.{◌≡◌, ◌≤◌, ◌+◌, ℕ, Bool, true, false, not, nat_le, bytes_eq, cond, codes, Result, Ok, Err, IfOk, List, [], ◌∷◌, ◌++◌, length, refl, sym, ap, subst, ◌∙◌, append_assoc, arith, length-append}
use Rattle.std.specs.List.{list_any, list_all, AllByRecursion}
use Rattle.std.proofs.lemmas.Bool.Decides.{nat_tests}
use Rattle.std.proofs.lemmas.Bool.{or_left}
use Rattle.plain_laws.proofs.Texts.{same_bytes}
use Rattle.dir_model.specs.Paths.{is_empty, is_path, lies_below}
use Rattle.dir_model.specs.Trees.{is_within, app_root}
use Rattle.dir_model.proofs.Lists.{and_left, and_right, and_both, or_none, or_last, not_true, any_last_not}
use Rattle.dir_rules.specs.declared.seen.Entry.{Entry}
use Rattle.dir_rules.specs.Marks.{parent}
use Rattle.dir_rules.specs.Rules.{has_dir_among}
use Rattle.ac_types.specs.Names.{IsAcName}
use Rattle.path_map.specs.declared.entry.Entry.{Entry as TreeEntry}
use Rattle.path_map.specs.declared.entry.Entry.TheVariants.{Dir, File, Link}
use Rattle.path_map.specs.Paths.{IsAbsPath}
use Rattle.dir_laws.proofs.Names.{IsAppName, app_name, plain_path, plain_behind, stage2_path, info_path}
use Rattle.tree_digest.specs.declared.line.ListingLine.{ListingLine}
use Rattle.tree_digest.specs.Listings.{listing_text, IsListing}
use Rattle.folder_building.specs.declared.plan.PlanEntry.{PlanEntry}
use Rattle.folder_building.specs.declared.plan.Content.TheVariants.{Directory, Given}
use Rattle.folder_building.specs.Plans.{planned_entries, may_follow_entries, is_plan, is_plan_after, is_in_plan, AreMade}
use Rattle.folder_building.specs.Materialized.{materializes}
use Rattle.folder_building.specs.TreePlans.{plan_entry_at, IsTreePrefix, CarriesOn, MakesTree}
use Rattle.folder_building.proofs.Among.{made_both, tree_among, absolute}
use Rattle.folder_building.proofs.FilePaths.{begins_with, parent_of, lies_there}
use Rattle.folder_building.specs.ImagePlans.{given_file}
use Rattle.pod_plan.specs.declared.pod_app.PodApp.{PodApp}
use Rattle.pod_plan.specs.AppParts.{info_entries, stage_entries, IsPlanned}
use Rattle.pod_plan.specs.PodFiles.{info_directory, app_manifest_path, stage_directory, tree_file, is_path_among, is_app_place}
use Rattle.pod_plan.specs.PodPlans.{root_entries, app_entries}
use Rattle.pod_plan.specs.Pods.{files_of, HasApp}
use Rattle.pod_plan.proofs.Under.{not_below, not_at, not_within, not_below_itself, under_behind, front_not_under, belongs, same_app, info_belongs, manifest_belongs, stage_belongs, tree_belongs, root_belongs, below_root_belongs, not_under_root, not_same}
use Rattle.pod_plan.proofs.FolderPlans.{directory_stays, directory_last, comes_next, IsIn, in_left, in_right, is_directory, AllPlanned, planned_both, planned_as, made_passes, none_made, has_given, has_directory}

-- what the call answers
module _ (images : List (List ℕ)) (app : PodApp) {T E : Type 0} (items : T → List PlanEntry) (r : Result T E) where
  pub answers_entries : (plan first second : List PlanEntry) → first ≡ plan ++ info_entries app → second ≡ first ++ stage_entries app → IfOk r (λ new. items new ≡ second ++ root_entries images app app.listing) → IfOk r (λ new. items new ≡ plan ++ app_entries images app)
  answers_entries plan first second p q h = both r h
    where
      whole : second ++ root_entries images app app.listing ≡ plan ++ app_entries images app
      whole =
          ap (λ l. l ++ root_entries images app app.listing) (q ∙ ap (λ l. l ++ stage_entries app) p)
          ∙ (append_assoc (plan ++ info_entries app) (stage_entries app) (root_entries images app app.listing) ∙ append_assoc plan (info_entries app) (stage_entries app ++ root_entries images app app.listing))

      both : (r : Result T E) → IfOk r (λ new. items new ≡ second ++ root_entries images app app.listing) → IfOk r (λ new. items new ≡ plan ++ app_entries images app)
      both (Ok new) h = h ∙ whole
      both (Err e) h = tt

  pub answers_kind : (root : List ℕ) → root ≡ app_root app.name → IsAcName app.name → IsListing app.listing → IfOk r (λ new. CarriesOn root (codes "rootfs") (root_entries images app app.listing)) → IfOk r (λ new. MakesTree root app.listing (root_entries images app app.listing)) → IfOk r (λ new. IsPlanned images app)
  answers_kind root is named listed carries makes = both r carries makes
    where
      both : (r : Result T E) → IfOk r (λ new. CarriesOn root (codes "rootfs") (root_entries images app app.listing)) → IfOk r (λ new. MakesTree root app.listing (root_entries images app app.listing)) → IfOk r (λ new. IsPlanned images app)
      both (Ok new) c m = record {
        named = named;
        listed = listed;
        carries = subst (λ (p : List ℕ). CarriesOn p (codes "rootfs") (root_entries images app app.listing)) is c;
        makes = subst (λ (p : List ℕ). MakesTree p app.listing (root_entries images app app.listing)) is m;
      }
      both (Err e) c m = tt

-- tests of paths
abbrev pub AllOutside : (List ℕ → Bool) → List PlanEntry → Type 0
AllOutside test plan = AllPlanned (λ b p. not (test p)) plan

none_planned : (test : List ℕ → Bool) (plan : List PlanEntry) → AllOutside test plan → list_any (λ e. test e.path) plan ≡ false
none_planned test [] h = refl
none_planned test (e ∷ es) h = or_none (test e.path) (list_any (λ x. test x.path) es) (not_true (test e.path) (and_left (not (test e.path)) (list_all (λ x. not (test x.path)) es) h)) (none_planned test es (and_right (not (test e.path)) (list_all (λ x. not (test x.path)) es) h))

other_path : (test : List ℕ → Bool) (path : List ℕ) → test path ≡ true → (plan : List PlanEntry) → AllOutside test plan → is_in_plan path plan ≡ false
other_path test path here [] h = refl
other_path test path here (e ∷ es) h =
    or_none (bytes_eq e.path path) (is_in_plan path es)
    (not_same e.path path (λ is. let clash : true ≡ false = sym here ∙ (ap test (sym is) ∙ not_true (test e.path) (and_left (not (test e.path)) (list_all (λ x. not (test x.path)) es) h)) in absurd cc))
    (other_path test path here es (and_right (not (test e.path)) (list_all (λ x. not (test x.path)) es) h))

one_more : (path : List ℕ) (plan : List PlanEntry) (e : PlanEntry) → is_in_plan path plan ≡ false → bytes_eq e.path path ≡ false → is_in_plan path (plan ++ e ∷ []) ≡ false
one_more path plan e none other = any_last_not (λ x. bytes_eq x.path path) plan e other ∙ none

one_outside : (test : List ℕ → Bool) (plan : List PlanEntry) (e : PlanEntry) → list_any (λ x. test x.path) plan ≡ false → test e.path ≡ false → list_any (λ x. test x.path) (plan ++ e ∷ []) ≡ false
one_outside test plan e none other = any_last_not (λ x. test x.path) plan e other ∙ none

within_room : (a b : ℕ) → a ≤ 300 → b ≤ 300 → nat_le (a + b) 8192 ≡ true
within_room a b p q = grind (arith, nat_tests)

short_path : (front rest : List ℕ) → length front ≤ 300 → length rest ≤ 300 → nat_le (length (front ++ rest)) 8192 ≡ true
short_path front rest p q = subst (λ (n : ℕ). nat_le n 8192 ≡ true) (sym (length-append front rest)) (within_room (length front) (length rest) p q)

first_of : (path : List ℕ) (others : List (List ℕ)) → is_path_among (path ∷ others) path ≡ true
first_of path others = or_left (bytes_eq path path) (is_path_among others path) (same_bytes path)

module _ (images : List (List ℕ)) (app : PodApp) (known : IsPlanned images app) where
  abbrev Name : List ℕ
  Name = app.name

  abbrev Root : List ℕ
  Root = app_root Name

  abbrev Tree : List PlanEntry
  Tree = root_entries images app app.listing

  abbrev Info : PlanEntry
  Info = plan_entry_at (info_directory Name) Directory

  abbrev Manifest : PlanEntry
  Manifest = given_file (app_manifest_path Name) app.manifest

  abbrev Stage : PlanEntry
  Stage = plan_entry_at (stage_directory Name) Directory

  abbrev Listed : PlanEntry
  Listed = given_file (tree_file Name) (listing_text app.listing)

  abbrev RootEntry : PlanEntry
  RootEntry = plan_entry_at Root Directory

  abbrev Front : List PlanEntry
  Front = Info ∷ Manifest ∷ Stage ∷ Listed ∷ RootEntry ∷ []

  named : IsAppName Name
  named = app_name Name known.named

  abs : AllByRecursion (λ l. IsAbsPath l.path) app.listing
  abs = absolute [] app.listing known.listed.follow

  -- what holds of each path below the root holds of its entries
  tree_passes : (test : Bool → List ℕ → Bool) → ((b : Bool) (rest : List ℕ) → test b (Root ++ 47 ∷ rest) ≡ true) → (lines : List ListingLine) → AllByRecursion (λ l. IsAbsPath l.path) lines → AllPlanned test (root_entries images app lines)
  tree_passes test h [] are = refl
  tree_passes test h (l ∷ lines) are = by l.entry (tree_passes test h lines are.1)
    where
      here : (b : Bool) → test b (Root ++ l.path) ≡ true
      here b = let t = begins_with l.path are.0 in subst (λ (x : List ℕ). test b (Root ++ x) ≡ true) (sym t.1) (h b t.0)

      by : (entry : TreeEntry) → AllPlanned test (root_entries images app lines) → AllPlanned test (root_entries images app (record { path = l.path; entry = entry } ∷ lines))
      by (Dir meta) rest = and_both (test true (Root ++ l.path)) (list_all (λ (e : PlanEntry). test (is_directory e.content) e.path) (root_entries images app lines)) (here true) rest
      by (File meta size sha) rest = and_both (test false (Root ++ l.path)) (list_all (λ (e : PlanEntry). test (is_directory e.content) e.path) (root_entries images app lines)) (here false) rest
      by (Link meta target) rest = rest

  pub all_pass : (test : Bool → List ℕ → Bool) → AllPlanned test Front → ((b : Bool) (rest : List ℕ) → test b (Root ++ 47 ∷ rest) ≡ true) → AllPlanned test (app_entries images app)
  all_pass test front h = planned_both test Front Tree front (tree_passes test h app.listing abs)

  -- each of its paths is the app's
  pub all_belong : AllPlanned (λ b p. belongs Name p) (app_entries images app)
  all_belong = all_pass (λ b p. belongs Name p) (rw (info_belongs Name, manifest_belongs Name, stage_belongs Name, tree_belongs Name, root_belongs Name) refl) (λ b rest. below_root_belongs Name rest)

  pub others_outside : (other : PodApp) → IsAcName other.name → bytes_eq other.name Name ≡ false → AllOutside (belongs other.name) (app_entries images app)
  others_outside other is differ = planned_as (λ b p. belongs Name p) (λ b p. not (belongs other.name p)) apart (app_entries images app) all_belong
    where
      by : (p : List ℕ) → belongs Name p ≡ true → (b : Bool) → belongs other.name p ≡ b → not b ≡ true
      by p mine false theirs = refl
      by p mine true theirs =
          let same : other.name ≡ Name = same_app other.name Name p (app_name other.name is).no_slash named.no_slash theirs mine in
          let clash : true ≡ false = sym (same_bytes Name) ∙ (ap (λ (n : List ℕ). bytes_eq n Name) (sym same) ∙ differ) in absurd cc

      apart : (b : Bool) (p : List ℕ) → belongs Name p ≡ true → not (belongs other.name p) ≡ true
      apart b p mine = by p mine (belongs other.name p) refl

  -- behind a plan that has made the two directories above, and nothing of the app
  module _ (before : List PlanEntry) (info : has_dir_among (codes "appsinfo") (planned_entries before) ≡ true) (stage : has_dir_among (codes "stage1/rootfs/opt/stage2") (planned_entries before) ≡ true) (outside : AllOutside (belongs Name) before) where
    abbrev One : List PlanEntry
    One = before ++ Info ∷ []

    abbrev Two : List PlanEntry
    Two = One ++ Manifest ∷ []

    abbrev Three : List PlanEntry
    Three = Two ++ Stage ∷ []

    abbrev Four : List PlanEntry
    Four = Three ++ Listed ∷ []

    new_info : is_in_plan (info_directory Name) before ≡ false
    new_info = other_path (belongs Name) (info_directory Name) (info_belongs Name) before outside

    new_manifest : is_in_plan (app_manifest_path Name) One ≡ false
    new_manifest = one_more (app_manifest_path Name) before Info (other_path (belongs Name) (app_manifest_path Name) (manifest_belongs Name) before outside) (not_at (info_directory Name) (app_manifest_path Name) (front_not_under Name 47 (codes "manifest")))

    new_stage : is_in_plan (stage_directory Name) Two ≡ false
    new_stage = one_more (stage_directory Name) One Manifest (one_more (stage_directory Name) before Info (other_path (belongs Name) (stage_directory Name) (stage_belongs Name) before outside) refl) refl

    new_tree : is_in_plan (tree_file Name) Three ≡ false
    new_tree =
        one_more (tree_file Name) Two Stage
        (one_more (tree_file Name) One Manifest (one_more (tree_file Name) before Info (other_path (belongs Name) (tree_file Name) (tree_belongs Name) before outside) refl) refl)
        (not_at (stage_directory Name) (tree_file Name) (front_not_under Name 47 (codes "tree")))

    within_root : List ℕ → Bool
    within_root p = is_within Root p

    nothing_there : list_any (λ e. is_within Root e.path) before ≡ false
    nothing_there =
        none_planned (is_within Root) before
        (planned_as (λ b p. not (belongs Name p)) (λ b p. not (is_within Root p)) (λ b p h. ap not (not_within p Root refl (not_under_root Name p (not_true (belongs Name p) h)))) before outside)

    free : list_any (λ e. is_within Root e.path) Four ≡ false
    free =
        one_outside (is_within Root) Three Listed
        (one_outside (is_within Root) Two Stage
        (one_outside (is_within Root) One Manifest
        (one_outside (is_within Root) before Info nothing_there (not_within (info_directory Name) Root refl refl))
        (not_within (app_manifest_path Name) Root refl refl))
        (not_within (stage_directory Name) Root refl (front_not_under Name 47 (codes "rootfs"))))
        (not_within (tree_file Name) Root refl (under_behind Name (codes "/rootfs") (codes "/tree") refl))

    stage_there : has_dir_among (codes "stage1/rootfs/opt/stage2") (planned_entries Two) ≡ true
    stage_there = directory_stays (codes "stage1/rootfs/opt/stage2") One (Manifest ∷ []) (directory_stays (codes "stage1/rootfs/opt/stage2") before (Info ∷ []) stage)

    own_info_path : is_path (info_directory Name) ≡ true
    own_info_path = plain_behind (codes "appsinfo") Name info_path refl named.some named.short named.plain

    own_stage_path : is_path (stage_directory Name) ≡ true
    own_stage_path = plain_behind (codes "stage1/rootfs/opt/stage2") Name stage2_path refl named.some named.short named.plain

    root : IsTreePrefix Root (codes "rootfs") Four
    root = record {
      path = plain_behind (stage_directory Name) (codes "rootfs") own_stage_path refl refl refl refl;
      some = refl;
      short = omega (arith, named.small, length-append Name (codes "/rootfs"));
      parent = or_last (is_empty (parent Root)) (has_dir_among (parent Root) (planned_entries Four)) (subst (λ (p : List ℕ). has_dir_among p (planned_entries Four) ≡ true) (sym (parent_of (stage_directory Name) (codes "rootfs") refl)) (directory_stays (stage_directory Name) Three (Listed ∷ []) (directory_last (stage_directory Name) Two)));
      free = free;
      source = plain_path (codes "rootfs") refl refl refl;
      given = refl;
    }

    info_next : may_follow_entries before Info ≡ true
    info_next = comes_next before (codes "appsinfo") Name Directory own_info_path named.no_slash refl (short_path (codes "appsinfo/") Name (omega arith) (omega (arith, named.small))) new_info info refl

    manifest_next : may_follow_entries One Manifest ≡ true
    manifest_next = comes_next One (info_directory Name) (codes "manifest") (Given app.manifest) (plain_behind (info_directory Name) (codes "manifest") own_info_path refl refl refl refl) refl refl (short_path (codes "appsinfo/") (Name ++ codes "/manifest") (omega arith) (omega (arith, named.small, length-append Name (codes "/manifest")))) new_manifest (directory_last (info_directory Name) before) refl

    stage_next : may_follow_entries Two Stage ≡ true
    stage_next = comes_next Two (codes "stage1/rootfs/opt/stage2") Name Directory own_stage_path named.no_slash refl (short_path (codes "stage1/rootfs/opt/stage2/") Name (omega arith) (omega (arith, named.small))) new_stage stage_there refl

    tree_next : may_follow_entries Three Listed ≡ true
    tree_next = comes_next Three (stage_directory Name) (codes "tree") (Given (listing_text app.listing)) (plain_behind (stage_directory Name) (codes "tree") own_stage_path refl refl refl refl) refl refl (short_path (codes "stage1/rootfs/opt/stage2/") (Name ++ codes "/tree") (omega arith) (omega (arith, named.small, length-append Name (codes "/tree")))) new_tree (directory_last (stage_directory Name) Two) refl

    pub app_follows : is_plan_after before (app_entries images app) ≡ true
    app_follows =
        and_both (may_follow_entries before Info) (is_plan_after One (Manifest ∷ Stage ∷ Listed ∷ RootEntry ∷ Tree)) info_next
        (and_both (may_follow_entries One Manifest) (is_plan_after Two (Stage ∷ Listed ∷ RootEntry ∷ Tree)) manifest_next
        (and_both (may_follow_entries Two Stage) (is_plan_after Three (Listed ∷ RootEntry ∷ Tree)) stage_next
        (and_both (may_follow_entries Three Listed) (is_plan_after Four (RootEntry ∷ Tree)) tree_next (known.carries Four root))))

  -- its files stand in what a plan made that has them, and nothing else of the app
  module _ (front back : List PlanEntry) (outside_front : AllOutside (belongs Name) front) (outside_back : AllOutside (belongs Name) back) (whole : is_plan (front ++ (app_entries images app ++ back)) ≡ true) (entries : List Entry) (made : AreMade (front ++ (app_entries images app ++ back)) entries) where
    abbrev Whole : List PlanEntry
    Whole = front ++ (app_entries images app ++ back)

    in_whole : (e : PlanEntry) → IsIn e (app_entries images app) → IsIn e Whole
    in_whole e i = in_right e front (app_entries images app ++ back) (in_left e (app_entries images app) back i)

    not_in_root : (plan : List PlanEntry) → AllOutside (belongs Name) plan → AllOutside (λ p. lies_below p Root) plan
    not_in_root plan h = planned_as (λ b p. not (belongs Name p)) (λ b p. not (lies_below p Root)) (λ b p k. ap not (not_below p Root refl (not_under_root Name p (not_true (belongs Name p) k)))) plan h

    front_not_in_root : AllOutside (λ p. lies_below p Root) Front
    front_not_in_root =
        rw (not_below (info_directory Name) Root refl refl, not_below (app_manifest_path Name) Root refl refl, not_below (stage_directory Name) Root refl (front_not_under Name 47 (codes "rootfs")), not_below (tree_file Name) Root refl (under_behind Name (codes "/rootfs") (codes "/tree") refl), not_below_itself Root refl) refl

    tree : materializes Root app.listing entries ≡ true
    tree =
        let m = made_both (front ++ Front) (Tree ++ back) entries (subst (λ (l : List PlanEntry). AreMade l entries) (sym (append_assoc front Front (Tree ++ back))) made) in
        let n = made_both Tree back m.back m.later in
        let before = none_made (λ b p. lies_below p Root) m.front (made_passes (λ b p. not (lies_below p Root)) (front ++ Front) m.front m.made (planned_both (λ b p. not (lies_below p Root)) front Front (not_in_root front outside_front) front_not_in_root)) in
        let after = none_made (λ b p. lies_below p Root) n.back (made_passes (λ b p. not (lies_below p Root)) back n.back n.later (not_in_root back outside_back)) in
        let is : (m.front ++ n.front) ++ n.back ≡ entries = append_assoc m.front n.front n.back ∙ (ap (λ l. m.front ++ l) (sym n.is) ∙ sym m.is) in
        subst (λ (l : List Entry). materializes Root app.listing l ≡ true) is (tree_among Root refl app.listing m.front n.front n.back known.listed before after (known.makes n.front n.made))

    pub has_app : HasApp entries (files_of app)
    has_app = record {
      manifest = has_given (app_manifest_path Name) app.manifest Whole entries whole (in_whole Manifest (record { front = Info ∷ []; back = Stage ∷ Listed ∷ RootEntry ∷ Tree; is = refl })) made;
      root = has_directory Root Whole entries (in_whole RootEntry (record { front = Info ∷ Manifest ∷ Stage ∷ Listed ∷ []; back = Tree; is = refl })) made;
      tree = tree;
      listing = has_given (tree_file Name) (listing_text app.listing) Whole entries whole (in_whole Listed (record { front = Info ∷ Manifest ∷ Stage ∷ []; back = RootEntry ∷ Tree; is = refl })) made;
    }

  -- and they are where the files of an app may be
  pub all_in_place : AllPlanned (is_app_place Name) (app_entries images app)
  all_in_place = all_pass (is_app_place Name) front (λ b rest. or_last (cond b (is_path_among (info_directory Name ∷ stage_directory Name ∷ Root ∷ []) (Root ++ 47 ∷ rest)) (is_path_among (app_manifest_path Name ∷ tree_file Name ∷ []) (Root ++ 47 ∷ rest))) (lies_below (Root ++ 47 ∷ rest) Root) (lies_there Root rest refl))
    where
      directories : List (List ℕ)
      directories = info_directory Name ∷ stage_directory Name ∷ Root ∷ []

      files : List (List ℕ)
      files = app_manifest_path Name ∷ tree_file Name ∷ []

      place : (b : Bool) (path : List ℕ) → cond b (is_path_among (info_directory Name ∷ stage_directory Name ∷ Root ∷ []) path) (is_path_among (app_manifest_path Name ∷ tree_file Name ∷ []) path) ≡ true → is_app_place Name b path ≡ true
      place b path h = or_left (cond b (is_path_among (info_directory Name ∷ stage_directory Name ∷ Root ∷ []) path) (is_path_among (app_manifest_path Name ∷ tree_file Name ∷ []) path)) (lies_below path Root) h

      front : AllPlanned (is_app_place Name) Front
      front =
          and_both (is_app_place Name true (info_directory Name)) _ (place true (info_directory Name) (first_of (info_directory Name) (stage_directory Name ∷ Root ∷ [])))
          (and_both (is_app_place Name false (app_manifest_path Name)) _ (place false (app_manifest_path Name) (first_of (app_manifest_path Name) (tree_file Name ∷ [])))
          (and_both (is_app_place Name true (stage_directory Name)) _ (place true (stage_directory Name) (or_last (bytes_eq (stage_directory Name) (info_directory Name)) (is_path_among (stage_directory Name ∷ Root ∷ []) (stage_directory Name)) (first_of (stage_directory Name) (Root ∷ []))))
          (and_both (is_app_place Name false (tree_file Name)) _ (place false (tree_file Name) (or_last (bytes_eq (tree_file Name) (app_manifest_path Name)) (is_path_among (tree_file Name ∷ []) (tree_file Name)) (first_of (tree_file Name) [])))
          (and_both (is_app_place Name true Root) true (place true Root (or_last (bytes_eq Root (info_directory Name)) (is_path_among (stage_directory Name ∷ Root ∷ []) Root) (or_last (bytes_eq Root (stage_directory Name)) (is_path_among (Root ∷ []) Root) (first_of Root [])))) refl))))
