-- The plan of a pod is a plan, it comes in turn, and what it makes is the pod.
use Rattle.std.proofs.Common.{◌≡◌, ◌==◌, ℕ, Bool, true, false, not, ◌&&◌, ◌||◌, bytes_eq, cond, codes, Option, Some, None, Result, Ok, Err, IfOk, List, [], ◌∷◌, ◌++◌, map, refl, sym, ap, subst, ◌∙◌, append_assoc}
use Rattle.std.specs.List.{list_any, list_all, flat_map, AllByRecursion, IsDistinct}
use Rattle.std.proofs.lemmas.Bool.{eqb-true}
use Rattle.std.proofs.lemmas.Slice.Eq.{bytes_eq-Decides}
use Rattle.std.proofs.lemmas.List.Folds.{list_any-append}
use Rattle.std.proofs.lemmas.List.Elements.{All-from_recursion}
use Rattle.plain_laws.proofs.Texts.{same_bytes}
use Rattle.dir_model.specs.declared.area.Area.TheVariants.{Prepare}
use Rattle.dir_model.specs.declared.intent.Intent.{Intent}
use Rattle.dir_model.specs.declared.tree.TreeNode.TheVariants.{Dir, Piece}
use Rattle.dir_model.specs.Paths.{is_empty, is_path}
use Rattle.dir_model.specs.Trees.{is_dir, mark_prefix, app_root}
use Rattle.dir_model.proofs.Lists.{and_left, and_right, and_both, or_none, or_last, not_true}
use Rattle.dir_rules.specs.declared.seen.Entry.{Entry}
use Rattle.dir_rules.specs.declared.seen.Seen.{Seen}
use Rattle.dir_rules.specs.Marks.{has_slash, begins, created_mark, status_directory, is_below_status, is_later_mark}
use Rattle.dir_rules.specs.Rules.{has_dir_among, has_file_among, is_new_path, is_all_done}
use Rattle.dir_rules.specs.Standing.{intends}
use Rattle.dir_laws.proofs.Names.{plain_path, created_is_path, created_parent, info_path, stage1_path, rootfs_path, opt_path, stage2_path, rkt_path, status_path}
use Rattle.folder_building.specs.declared.plan.PlanEntry.{PlanEntry}
use Rattle.folder_building.specs.declared.plan.Content.TheVariants.{Directory}
use Rattle.folder_building.specs.Plans.{is_file, planned_entries, may_follow_entries, is_plan, is_plan_after, is_in_plan, is_in_turn, are_in_turn, AreMade}
use Rattle.folder_building.specs.TreePlans.{plan_entry_at}
use Rattle.folder_building.specs.ImagePlans.{given_file}
use Rattle.folder_building.proofs.ImageMade.{plan_both}
use Rattle.folder_building.proofs.Carries.{path_outline}
use Rattle.pod_plan.specs.declared.pod_app.PodApp.{PodApp}
use Rattle.pod_plan.specs.AppParts.{IsPlanned}
use Rattle.pod_plan.specs.PodFiles.{token_text, shared_directories, is_shared_place, is_app_place, is_pod_path}
use Rattle.pod_plan.specs.PodPlans.{app_entries, pod_head_entries, pod_entries, ComesInTurn, MakesWhole}
use Rattle.pod_plan.specs.Pods.{files_of, names_of, HasApp, MakesPod}
use Rattle.pod_plan.proofs.Under.{belongs}
use Rattle.pod_plan.proofs.FolderPlans.{directory_stays, IsIn, in_first, in_rest, in_left, in_right, is_directory, AllPlanned, planned_both, planned_as, made_passes, none_made, has_given, has_directory}
use Rattle.pod_plan.proofs.AppFiles.{AllOutside, all_pass, others_outside, app_follows, has_app, all_in_place}

abbrev directory_of : List ℕ → PlanEntry
directory_of path = plan_entry_at path Directory

-- directories, one after the other
abbrev are_new : List PlanEntry → List (List ℕ) → Bool
are_new before [] = true
are_new before (p ∷ ps) = is_new_path p (planned_entries before) && are_new (before ++ directory_of p ∷ []) ps

directories_follow : (before : List PlanEntry) (paths : List (List ℕ)) → AllByRecursion (λ p. is_path p ≡ true) paths → are_new before paths ≡ true → is_plan_after before (map directory_of paths) ≡ true
directories_follow before [] are new = refl
directories_follow before (p ∷ ps) are new =
    and_both (may_follow_entries before (directory_of p)) (is_plan_after (before ++ directory_of p ∷ []) (map directory_of ps))
    (and_both (is_path p) (is_new_path p (planned_entries before) && true) are.0 (and_both (is_new_path p (planned_entries before)) true (and_left (is_new_path p (planned_entries before)) (are_new (before ++ directory_of p ∷ []) ps) new) refl))
    (directories_follow (before ++ directory_of p ∷ []) ps are.1 (and_right (is_new_path p (planned_entries before)) (are_new (before ++ directory_of p ∷ []) ps) new))

-- what comes before the apps
module _ (now : ℕ) (token : List ℕ) where
  abbrev Created : PlanEntry
  Created = given_file (created_mark now) []

  abbrev Token : PlanEntry
  Token = given_file (codes "token") (token_text token)

  abbrev Head : List PlanEntry
  Head = pod_head_entries now token

  created_next : may_follow_entries [] Created ≡ true
  created_next = and_both (is_path (created_mark now)) (is_new_path (created_mark now) [] && true) (created_is_path now) (and_both (is_new_path (created_mark now) []) true (ap (λ (p : List ℕ). is_empty p || has_dir_among p []) (created_parent now)) refl)

  token_next : may_follow_entries (Created ∷ []) Token ≡ true
  token_next = and_both (is_path (codes "token")) true (plain_path (codes "token") refl refl refl) refl

  head_follows : is_plan_after [] Head ≡ true
  head_follows =
      and_both (may_follow_entries [] Created) (is_plan_after (Created ∷ []) (Token ∷ map directory_of shared_directories)) created_next
      (and_both (may_follow_entries (Created ∷ []) Token) (is_plan_after (Created ∷ Token ∷ []) (map directory_of shared_directories)) token_next
      (directories_follow (Created ∷ Token ∷ []) shared_directories (info_path, (stage1_path, (rootfs_path, (opt_path, (stage2_path, (rkt_path, (status_path, tt))))))) refl))

  head_outside : (name : List ℕ) → AllOutside (belongs name) Head
  head_outside name = refl

  info_there : has_dir_among (codes "appsinfo") (planned_entries Head) ≡ true
  info_there = refl

  stage_there : has_dir_among (codes "stage1/rootfs/opt/stage2") (planned_entries Head) ≡ true
  stage_there = refl

-- the apps, one after the other
abbrev app_names : List PodApp → List (List ℕ)
app_names apps = map (λ (app : PodApp). app.name) apps

module _ (images : List (List ℕ)) where
  abbrev blocks : List PodApp → List PlanEntry
  blocks apps = flat_map (app_entries images) apps

  abbrev AreKnown : List PodApp → Type 0
  AreKnown apps = AllByRecursion (IsPlanned images) apps

  abbrev AreOutside : List PodApp → List PlanEntry → Type 0
  AreOutside apps plan = AllByRecursion (λ app. AllOutside (belongs app.name) plan) apps

  abbrev AreOthers : List ℕ → List PodApp → Type 0
  AreOthers name apps = AllByRecursion (λ n. bytes_eq name n ≡ false) (app_names apps)

  turned : (a b : List ℕ) → bytes_eq a b ≡ false → bytes_eq b a ≡ false
  turned a b h = by (bytes_eq b a) refl
    where
      by : (x : Bool) → bytes_eq b a ≡ x → bytes_eq b a ≡ false
      by false is = is
      by true is = let same : a ≡ b = sym ((bytes_eq-Decides b a).0 is) in let clash : true ≡ false = sym (same_bytes b) ∙ (ap (λ (n : List ℕ). bytes_eq n b) (sym same) ∙ h) in absurd cc

  -- other apps' files lie outside an app's directories
  blocks_outside : (app : PodApp) → IsPlanned images app → (apps : List PodApp) → AreKnown apps → AreOthers app.name apps → AllOutside (belongs app.name) (blocks apps)
  blocks_outside app own [] known others = refl
  blocks_outside app own (a ∷ apps) known others =
      planned_both (λ b p. not (belongs app.name p)) (app_entries images a) (blocks apps) (others_outside images a known.0 app own.named others.0) (blocks_outside app own apps known.1 others.1)

  still_outside : (app : PodApp) → IsPlanned images app → (before : List PlanEntry) (apps : List PodApp) → AreKnown apps → AreOthers app.name apps → AreOutside apps before → AreOutside apps (before ++ app_entries images app)
  still_outside app own before [] known others outside = tt
  still_outside app own before (a ∷ apps) known others outside =
      (planned_both (λ b p. not (belongs a.name p)) before (app_entries images app) outside.0 (others_outside images app own a known.0.named (turned app.name a.name others.0)), still_outside app own before apps known.1 others.1 outside.1)

  apps_follow : (apps : List PodApp) → AreKnown apps → IsDistinct bytes_eq (app_names apps) → (before : List PlanEntry) → has_dir_among (codes "appsinfo") (planned_entries before) ≡ true → has_dir_among (codes "stage1/rootfs/opt/stage2") (planned_entries before) ≡ true → AreOutside apps before → is_plan_after before (blocks apps) ≡ true
  unfolding IsDistinct
  apps_follow [] known distinct before info stage outside = refl
  apps_follow (a ∷ apps) known distinct before info stage outside =
      plan_both before (app_entries images a) (blocks apps) (app_follows images a known.0 before info stage outside.0)
      (apps_follow apps known.1 distinct.1 (before ++ app_entries images a) (directory_stays (codes "appsinfo") before (app_entries images a) info) (directory_stays (codes "stage1/rootfs/opt/stage2") before (app_entries images a) stage) (still_outside a known.0 before apps known.1 distinct.0 outside.1))

  -- each app's files stand in what was made
  apps_stand : (entries : List Entry) (apps : List PodApp) → AreKnown apps → IsDistinct bytes_eq (app_names apps) → (before after : List PlanEntry) → AreOutside apps before → AreOutside apps after → is_plan (before ++ (blocks apps ++ after)) ≡ true → AreMade (before ++ (blocks apps ++ after)) entries → AllByRecursion (HasApp entries) (map files_of apps)
  unfolding IsDistinct
  apps_stand entries [] known distinct before after outside beyond whole made = tt
  apps_stand entries (a ∷ apps) known distinct before after outside beyond whole made = (
    has_app images a known.0 before (blocks apps ++ after) outside.0 (planned_both (λ b p. not (belongs a.name p)) (blocks apps) after (blocks_outside a known.0 apps known.1 distinct.0) beyond.0)
        (subst (λ (l : List PlanEntry). is_plan l ≡ true) parted whole) entries (subst (λ (l : List PlanEntry). AreMade l entries) parted made),
    apps_stand entries apps known.1 distinct.1 (before ++ app_entries images a) after (still_outside a known.0 before apps known.1 distinct.0 outside.1) beyond.1
        (subst (λ (l : List PlanEntry). is_plan l ≡ true) behind whole) (subst (λ (l : List PlanEntry). AreMade l entries) behind made),
  )
    where
      parted : before ++ ((app_entries images a ++ blocks apps) ++ after) ≡ before ++ (app_entries images a ++ (blocks apps ++ after))
      parted = ap (λ l. before ++ l) (append_assoc (app_entries images a) (blocks apps) after)

      behind : before ++ ((app_entries images a ++ blocks apps) ++ after) ≡ (before ++ app_entries images a) ++ (blocks apps ++ after)
      behind = parted ∙ sym (append_assoc before (app_entries images a) (blocks apps ++ after))

  -- what passes a test whatever the app
  each_passes : (test : Bool → List ℕ → Bool) → ((app : PodApp) → IsPlanned images app → AllPlanned test (app_entries images app)) → (apps : List PodApp) → AreKnown apps → AllPlanned test (blocks apps)
  each_passes test h [] known = refl
  each_passes test h (a ∷ apps) known = planned_both test (app_entries images a) (blocks apps) (h a known.0) (each_passes test h apps known.1)

  -- each file is where a file of the pod may be
  among_all : (f : List ℕ → Bool) (front : List (List ℕ)) (name : List ℕ) (others : List (List ℕ)) → f name ≡ true → list_any f (front ++ name ∷ others) ≡ true
  among_all f front name others h = list_any-append f front (name ∷ others) ∙ or_last (list_any f front) (list_any f (name ∷ others)) (rw h refl)

  in_place : (now : ℕ) (front : List (List ℕ)) (apps : List PodApp) → AreKnown apps → AllPlanned (is_pod_path now (front ++ names_of (map files_of apps))) (blocks apps)
  in_place now front [] known = refl
  in_place now front (a ∷ apps) known =
      planned_both (is_pod_path now (front ++ a.name ∷ names_of (map files_of apps))) (app_entries images a) (blocks apps)
      (planned_as (is_app_place a.name) (is_pod_path now (front ++ a.name ∷ names_of (map files_of apps))) (λ b p h. or_last (is_shared_place now b p) (list_any (λ name. is_app_place name b p) (front ++ a.name ∷ names_of (map files_of apps))) (among_all (λ name. is_app_place name b p) front a.name (names_of (map files_of apps)) h)) (app_entries images a) (all_in_place images a known.0))
      (subst (λ (names : List (List ℕ)). AllPlanned (is_pod_path now names) (blocks apps)) (append_assoc front (a.name ∷ []) (names_of (map files_of apps))) (in_place now (front ++ a.name ∷ []) apps known.1))

-- the rules on the order
abbrev is_pod_file : Bool → List ℕ → Bool
is_pod_file directory path = not directory && bytes_eq path (codes "pod")

abbrev HasNoPod : List PlanEntry → Type 0
HasNoPod plan = AllPlanned (λ b p. not (is_pod_file b p)) plan

no_pod_made : (plan : List PlanEntry) → HasNoPod plan → has_file_among (codes "pod") (planned_entries plan) ≡ false
no_pod_made [] h = refl
no_pod_made (e ∷ es) h = by (is_file e.content) refl (and_left (not (is_pod_file (is_directory e.content) e.path)) (list_all (λ x. not (is_pod_file (is_directory x.content) x.path)) es) h) (no_pod_made es (and_right (not (is_pod_file (is_directory e.content) e.path)) (list_all (λ x. not (is_pod_file (is_directory x.content) x.path)) es) h))
  where
    by : (f : Bool) → is_file e.content ≡ f → not (is_pod_file (not f) e.path) ≡ true → has_file_among (codes "pod") (planned_entries es) ≡ false → has_file_among (codes "pod") (record { path = e.path; node = cond f (Piece []) Dir } ∷ planned_entries es) ≡ false
    by true is none rest = or_none (bytes_eq e.path (codes "pod")) (has_file_among (codes "pod") (planned_entries es)) (not_true (bytes_eq e.path (codes "pod")) none) rest
    by false is none rest = rest

module _ (s : Seen) where
  next_in_turn : (x : PlanEntry) (xs : List PlanEntry) (e : PlanEntry) → HasNoPod (x ∷ xs) → is_in_turn s Prepare (x ∷ xs) e ≡ true
  next_in_turn x xs e none = by (is_file e.content) (no_pod_made (x ∷ xs) none)
    where
      by : (f : Bool) → has_file_among (codes "pod") (planned_entries (x ∷ xs)) ≡ false → (true && not (f && has_file_among (codes "pod") (planned_entries (x ∷ xs)))) ≡ true
      by true is = ap not is
      by false is = refl

  rest_in_turn : (x : PlanEntry) (xs es : List PlanEntry) (last : PlanEntry) → HasNoPod (x ∷ xs) → HasNoPod es → are_in_turn s Prepare (x ∷ xs) (es ++ last ∷ []) ≡ true
  rest_in_turn x xs [] last before none = and_both (is_in_turn s Prepare (x ∷ xs) last) true (next_in_turn x xs last before) refl
  rest_in_turn x xs (e ∷ es) last before none =
      and_both (is_in_turn s Prepare (x ∷ xs) e) (are_in_turn s Prepare (x ∷ (xs ++ e ∷ [])) (es ++ last ∷ [])) (next_in_turn x xs e before)
      (rest_in_turn x (xs ++ e ∷ []) es last
      (planned_both (λ b p. not (is_pod_file b p)) (x ∷ xs) (e ∷ []) before (and_both (not (is_pod_file (is_directory e.content) e.path)) true (and_left (not (is_pod_file (is_directory e.content) e.path)) (list_all (λ y. not (is_pod_file (is_directory y.content) y.path)) es) none) refl))
      (and_right (not (is_pod_file (is_directory e.content) e.path)) (list_all (λ y. not (is_pod_file (is_directory y.content) y.path)) es) none))

same_moment : (now : ℕ) (intent : Option Intent) → intends (λ i. i.now == now) intent ≡ true → intends (λ i. bytes_eq (created_mark now) (created_mark i.now)) intent ≡ true
same_moment now None h = cc
same_moment now (Some i) h = subst (λ (n : ℕ). bytes_eq (created_mark now) (created_mark n) ≡ true) (sym (eqb-true i.now now h)) (same_bytes (created_mark now))

-- no name without a slash that begins otherwise is a later mark
not_later : (path : List ℕ) → cond (begins mark_prefix path) true (begins (codes "marked-") path) ≡ false → is_later_mark path ≡ false
not_later path h = by (has_slash path)
  where
    by : (b : Bool) → cond b false (cond (begins mark_prefix path) true (begins (codes "marked-") path)) ≡ false
    by true = refl
    by false = h

-- its parts
pub in_parts : (head apps plan second new : List PlanEntry) (last : PlanEntry) → plan ≡ head → second ≡ plan ++ apps → new ≡ second ++ last ∷ [] → new ≡ head ++ (apps ++ last ∷ [])
in_parts head apps plan second new last p q r = r ∙ (ap (λ l. l ++ last ∷ []) (q ∙ ap (λ l. l ++ apps) p) ∙ append_assoc head apps (last ∷ []))

-- what the call answers
pub each_ok : {T E : Type 0} (P Q : T → Type 0) → ((x : T) → P x → Q x) → (r : Result T E) → IfOk r P → IfOk r Q
each_ok P Q f (Ok x) h = f x h
each_ok P Q f (Err e) h = tt

-- the whole
module _ (now : ℕ) (token manifest : List ℕ) (images : List (List ℕ)) (apps : List PodApp) (known : AllByRecursion (IsPlanned images) apps) (distinct : IsDistinct bytes_eq (app_names apps)) where
  abbrev Blocks : List PlanEntry
  Blocks = blocks images apps

  abbrev First : List PlanEntry
  First = Head now token

  abbrev Pod : PlanEntry
  Pod = given_file (codes "pod") manifest

  abbrev Whole : List PlanEntry
  Whole = pod_entries now token manifest images apps

  first_outside : (xs : List PodApp) → AllByRecursion (λ app. AllOutside (belongs app.name) First) xs
  first_outside [] = tt
  first_outside (a ∷ xs) = (head_outside now token a.name, first_outside xs)

  last_outside : (xs : List PodApp) → AllByRecursion (λ app. AllOutside (belongs app.name) (Pod ∷ [])) xs
  last_outside [] = tt
  last_outside (a ∷ xs) = (refl, last_outside xs)

  no_pod_in_blocks : HasNoPod Blocks
  no_pod_in_blocks = each_passes images (λ b p. not (is_pod_file b p)) (λ app k. all_pass images app k (λ b p. not (is_pod_file b p)) refl (λ b rest. by b rest app.name)) apps known
    where
      by : (b : Bool) (rest name : List ℕ) → not (is_pod_file b (app_root name ++ 47 ∷ rest)) ≡ true
      by true rest name = refl
      by false rest name = refl

  no_other_pod : is_in_plan (codes "pod") (First ++ Blocks) ≡ false
  no_other_pod = list_any-append (λ e. bytes_eq e.path (codes "pod")) First Blocks ∙ in_blocks
    where
      in_blocks : list_any (λ e. bytes_eq e.path (codes "pod")) Blocks ≡ false
      in_blocks = among Blocks (each_passes images (λ b p. not (bytes_eq p (codes "pod"))) (λ app k. all_pass images app k (λ b p. not (bytes_eq p (codes "pod"))) refl (λ b rest. refl)) apps known)
        where
          among : (plan : List PlanEntry) → AllPlanned (λ b p. not (bytes_eq p (codes "pod"))) plan → is_in_plan (codes "pod") plan ≡ false
          among [] h = refl
          among (e ∷ es) h = or_none (bytes_eq e.path (codes "pod")) (is_in_plan (codes "pod") es) (not_true (bytes_eq e.path (codes "pod")) (and_left (not (bytes_eq e.path (codes "pod"))) (list_all (λ x. not (bytes_eq x.path (codes "pod"))) es) h)) (among es (and_right (not (bytes_eq e.path (codes "pod"))) (list_all (λ x. not (bytes_eq x.path (codes "pod"))) es) h))

  pod_next : may_follow_entries (First ++ Blocks) Pod ≡ true
  pod_next =
      and_both (is_path (codes "pod")) (is_new_path (codes "pod") (planned_entries (First ++ Blocks)) && true) (plain_path (codes "pod") refl refl refl)
      (and_both (is_new_path (codes "pod") (planned_entries (First ++ Blocks))) true (rw (path_outline (codes "pod") (First ++ Blocks) ∙ no_other_pod) refl) refl)

  pub pod_is_plan : is_plan Whole ≡ true
  pod_is_plan =
      plan_both [] First (Blocks ++ Pod ∷ []) (head_follows now token)
      (plan_both First Blocks (Pod ∷ []) (apps_follow images apps known distinct First (info_there now token) (stage_there now token) (first_outside apps)) (and_both (may_follow_entries (First ++ Blocks) Pod) true pod_next refl))

  pub comes_in_turn : ComesInTurn now Whole
  comes_in_turn s moment =
      and_both (is_in_turn s Prepare [] (Created now token)) (are_in_turn s Prepare (Created now token ∷ []) (others ++ (Blocks ++ Pod ∷ [])))
      (and_both (intends (λ i. bytes_eq (created_mark now) (created_mark i.now)) s.standing.intent) true (same_moment now s.standing.intent moment) refl)
      (subst (λ (l : List PlanEntry). are_in_turn s Prepare (Created now token ∷ []) l ≡ true) (append_assoc others Blocks (Pod ∷ [])) (rest_in_turn s (Created now token) [] (others ++ Blocks) Pod refl (planned_both (λ b p. not (is_pod_file b p)) others Blocks refl no_pod_in_blocks)))
    where
      others : List PlanEntry
      others = Token now token ∷ map directory_of shared_directories

  -- a test that the files which any pod has pass, and those of each app
  whole_passes : (test : Bool → List ℕ → Bool) → AllPlanned test First → AllPlanned test (Pod ∷ []) → AllPlanned test Blocks → AllPlanned test Whole
  whole_passes test first last middle = planned_both test First (Blocks ++ Pod ∷ []) first (planned_both test Blocks (Pod ∷ []) middle last)

  in_first_part : (e : PlanEntry) → IsIn e First → IsIn e Whole
  in_first_part e i = in_left e First (Blocks ++ Pod ∷ []) i

  status_there : IsIn (directory_of status_directory) Whole
  status_there = in_first_part (directory_of status_directory) (record {
    front = Created now token ∷ Token now token ∷ map directory_of (codes "appsinfo" ∷ codes "stage1" ∷ codes "stage1/rootfs" ∷ codes "stage1/rootfs/opt" ∷ codes "stage1/rootfs/opt/stage2" ∷ codes "stage1/rootfs/rkt" ∷ []);
    back = [];
    is = refl;
  })

  first_in_place : (names : List (List ℕ)) → AllPlanned (is_pod_path now names) First
  first_in_place names = rw (same_bytes (created_mark now)) refl

  pub makes_pod : MakesPod now token manifest (map files_of apps) Whole
  makes_pod entries made = record {
    created = has_given (created_mark now) [] Whole entries pod_is_plan (in_first_part (Created now token) (in_first (Created now token) (Token now token ∷ map directory_of shared_directories))) made;
    token_there = has_given (codes "token") (token_text token) Whole entries pod_is_plan (in_first_part (Token now token) (in_rest (Token now token) (Created now token) (Token now token ∷ map directory_of shared_directories) (in_first (Token now token) (map directory_of shared_directories)))) made;
    each_app = All-from_recursion (HasApp entries) (map files_of apps) (apps_stand images entries apps known distinct First (Pod ∷ []) (first_outside apps) (last_outside apps) pod_is_plan made);
    statuses = has_directory status_directory Whole entries status_there made;
    manifest_there = has_given (codes "pod") manifest Whole entries pod_is_plan (in_right Pod First (Blocks ++ Pod ∷ []) (in_right Pod Blocks (Pod ∷ []) (in_first Pod []))) made;
    others = made_passes (is_pod_path now (names_of (map files_of apps))) Whole entries made (whole_passes (is_pod_path now (names_of (map files_of apps))) (first_in_place (names_of (map files_of apps))) refl (in_place images now [] apps known));
  }

  no_status : AllPlanned (λ b p. not (is_below_status p)) Whole
  no_status = whole_passes (λ b p. not (is_below_status p)) refl refl (each_passes images (λ b p. not (is_below_status p)) (λ app k. all_pass images app k (λ b p. not (is_below_status p)) refl (λ b rest. refl)) apps known)

  no_mark : AllPlanned (λ b p. not (is_later_mark p)) Whole
  no_mark = whole_passes (λ b p. not (is_later_mark p)) (and_both (not (is_later_mark (created_mark now))) _ (ap not (not_later (created_mark now) refl)) refl) refl
      (each_passes images (λ b p. not (is_later_mark p)) (λ app k. all_pass images app k (λ b p. not (is_later_mark p)) refl (λ b rest. refl)) apps known)

  pub makes_whole : MakesWhole Whole
  makes_whole m done made =
      and_both (is_all_done m) (has_dir_among status_directory m.entries && (not (list_any (λ e. is_below_status e.path) m.entries) && not (list_any (λ e. is_later_mark e.path) m.entries))) done
      (and_both (has_dir_among status_directory m.entries) (not (list_any (λ e. is_below_status e.path) m.entries) && not (list_any (λ e. is_later_mark e.path) m.entries)) (has_directory status_directory Whole m.entries status_there made)
      (and_both (not (list_any (λ e. is_below_status e.path) m.entries)) (not (list_any (λ e. is_later_mark e.path) m.entries))
      (ap not (none_made (λ b p. is_below_status p) m.entries (made_passes (λ b p. not (is_below_status p)) Whole m.entries made no_status)))
      (ap not (none_made (λ b p. is_later_mark p) m.entries (made_passes (λ b p. not (is_later_mark p)) Whole m.entries made no_mark)))))
