-- A walk, entry by entry.
use Rattle.std.proofs.Common.{◌≡◌, ℕ, Bool, true, false, List, [], ◌∷◌, ◌++◌, map, reverse, Some, sym, refl, ap, subst, ◌∙◌, ◌⊎◌, inl, inr, ⊎_elim, append_assoc, append-nil}
use Rattle.std.specs.List.{AllByRecursion}
use Rattle.std.proofs.lemmas.Bool.{cases_Bool, both_ways}
use Rattle.dir_model.proofs.Lists.{all_push, all_weaker, all_both, all_left, all_right}
use Rattle.dir_model.specs.Names.{IsFileName}
use Rattle.dir_trait.specs.declared.bundle.BundleItem.{BundleItem}
use Rattle.dir_trait.specs.declared.bundle.BundleKind.{BundleKind}
use Rattle.dir_trait.specs.declared.bundle.BundleKind.TheVariants as kinds
use Rattle.dir_trait.specs.Bundles.{BundleTree, kind_at}
use Rattle.path_map.specs.Entries.{entry_at, is_directory, is_directory_at}
use Rattle.path_map.proofs.Ends.{parent_or_above, none_in_root}
use Rattle.tree_digest.specs.declared.line.ListingLine.{ListingLine}
use Rattle.tree_digest.specs.Listings.{entries_of, IsListable}
use Rattle.bundle_image.specs.declared.task.Task.{Task}
use Rattle.bundle_image.specs.declared.refusal.BundleRefusal.{BundleRefusal}
use Rattle.bundle_image.specs.Lines.{AreFewLines}
use Rattle.bundle_image.specs.Entries.{IsEntryOf}
use Rattle.bundle_image.specs.Tasks.{walk_task_of, is_dir_kind}
use Rattle.bundle_image.specs.Walks.{in_directory, Stands, IsAtOrBelow, IsBeside, ComesBefore, IsLinePath, AreInWalkOrder, IsLineOfBundle, FaultWith, IsFirstFault, IsWalked}
use Rattle.bundle_image.specs.Work.{AddsChildren, Turns, WalkBegins, WalkFailsAt, EndsWalk, HasDirectories, HaveDirectories, AreLaid, IsStack, MayCome, IsWalkUnderWay, IsTaskOf, IsUnder, WalkHasSeen}
use Rattle.bundle_image.proofs.Paths.{name_has_no_slash, beside_first, beside_second, before_deeper}
use Rattle.bundle_image.proofs.Look.{directory_left, at_end, walked_lines}
use Rattle.bundle_image.proofs.Ways.{some_of_kind, stands_in, stands_first, leads_below, FirstStep, step_from_root, way_ends_or_on}
use Rattle.bundle_image.proofs.Stacks.{all_children, stack_append, stack_front, stack_last, children_stack, under_left, under_right, under_parts, under_children}

order_more : (lines : List ListingLine) (line : ListingLine) → AreInWalkOrder lines → AllByRecursion (λ l. ComesBefore l.path line.path) lines → AreInWalkOrder (lines ++ line ∷ [])
order_more [] line order later = (tt, tt)
order_more (l ∷ lines) line order later =
    (all_push (λ k. ComesBefore l.path k.path) lines line order.0 later.0, order_more lines line order.1 later.1)

have_more : (before lines : List ListingLine) (line : ListingLine) → HaveDirectories before lines → HasDirectories (before ++ lines) line.path → HaveDirectories before (lines ++ line ∷ [])
have_more before [] line have has = (subst (λ b. HasDirectories b line.path) (append-nil before) has, tt)
have_more before (l ∷ lines) line have has =
    (have.0, have_more (before ++ l ∷ []) lines line have.1 (subst (λ b. HasDirectories b line.path) (sym (append_assoc before (l ∷ []) lines)) has))

-- a line more loses is_not directory
still_has : (lines : List ListingLine) (line : ListingLine) (path : List ℕ) → HasDirectories lines path → HasDirectories (lines ++ line ∷ []) path
still_has lines line path has above up = directory_left lines line above (has above up)

-- and a directory's line adds what leads to a name in it
has_child : (lines : List ListingLine) (line : ListingLine) (directory name : List ℕ) → line.path ≡ directory → is_directory line.entry ≡ true → IsFileName name
    → AllByRecursion (λ l. ComesBefore l.path line.path) lines → HasDirectories lines directory → HasDirectories (lines ++ line ∷ []) (in_directory directory name)
has_child lines line directory name is kind named later has above up =
    ⊎_elim
    (λ same. ap is_directory_at (ap (entry_at (entries_of (lines ++ line ∷ []))) (same ∙ sym is) ∙ at_end lines line later) ∙ kind)
    (λ higher. directory_left lines line above (has above higher))
    (parent_or_above above (in_directory directory name) directory name (record { text = refl; last = name_has_no_slash name named }) up)

module _ (lines : List ListingLine) (rest : List Task) (task : Task) (work : IsWalkUnderWay lines (rest ++ task ∷ [])) where
  next : MayCome lines task
  next = (all_right (MayCome lines) rest (task ∷ []) work.may).0

  others : AllByRecursion (MayCome lines) rest
  others = all_left (MayCome lines) rest (task ∷ []) work.may

  beside : AllByRecursion (λ later. IsBeside task.path later.path) rest
  beside = stack_last rest task work.stack

  module _ (line : ListingLine) (path : line.path ≡ task.path) where
    laid : IsListable line.entry → AreFewLines (lines ++ line ∷ []) → AreLaid (lines ++ line ∷ [])
    laid listable few = record {
      order = order_more lines line work.laid.order (subst (λ p. AllByRecursion (λ l. ComesBefore l.path p) lines) (sym path) next.later);
      directories = have_more [] lines line work.laid.directories (subst (HasDirectories lines) (sym path) next.directories);
      listable = all_push (λ l. IsListable l.entry) lines line work.laid.listable listable;
      few = few;
    }

    others_may : (ts : List Task) → AllByRecursion (MayCome lines) ts → AllByRecursion (λ later. IsBeside task.path later.path) ts → AllByRecursion (MayCome (lines ++ line ∷ [])) ts
    others_may [] may apart = tt
    others_may (t ∷ ts) may apart = (
      record {
        later = all_push (λ l. ComesBefore l.path t.path) lines line may.0.later (subst (λ p. ComesBefore p t.path) (sym path) (inr apart.0));
        directories = still_has lines line t.path may.0.directories;
      },
      others_may ts may.1 apart.1,
    )

    child_may : is_directory line.entry ≡ true → (item : BundleItem) → IsFileName item.name → MayCome (lines ++ line ∷ []) (walk_task_of task.path item)
    child_may kind item named = record {
      later = all_push (λ l. ComesBefore l.path (in_directory task.path item.name)) lines line
          (all_weaker (λ l. ComesBefore l.path task.path) (λ l. ComesBefore l.path (in_directory task.path item.name)) (λ l before. before_deeper l.path task.path (in_directory task.path item.name) before (inr (item.name, refl))) lines next.later)
          (inl (item.name, ap (λ p. p ++ 47 ∷ item.name) (sym path)));
      directories = has_child lines line task.path item.name path kind named (subst (λ p. AllByRecursion (λ l. ComesBefore l.path p) lines) (sym path) next.later) next.directories;
    }

  -- the others come after each name in the directory
  children_beside : (items : List BundleItem) → AllByRecursion (λ later. AllByRecursion (λ sooner. IsBeside sooner.path later.path) (reverse (map (walk_task_of task.path) items))) rest
  children_beside items =
      all_weaker (λ later. IsBeside task.path later.path) (λ later. AllByRecursion (λ sooner. IsBeside sooner.path later.path) (reverse (map (walk_task_of task.path) items)))
      (λ later apart. all_children (λ sooner. IsBeside sooner.path later.path) task.path items (each later apart items)) rest beside
    where
      each : (later : Task) → IsBeside task.path later.path → (is : List BundleItem) → AllByRecursion (λ item. IsBeside (walk_task_of task.path item).path later.path) is
      each later apart [] = tt
      each later apart (i ∷ is) = (beside_first task.path later.path (in_directory task.path i.name) apart (inr (i.name, refl)), each later apart is)

  module _ {observed : Bool} {nodes : BundleTree} {new_lines : List ListingLine} {new_tasks : List Task} (turn : Turns observed nodes task lines rest new_lines new_tasks) where
    abbrev made : List ListingLine
    made = lines ++ turn.added.line ∷ []

    by_kind : {G : Type 0} → (is_dir_kind task.kind ≡ true → AddsChildren observed nodes task.path rest new_tasks → G) → (is_dir_kind task.kind ≡ false → new_tasks ≡ rest → G) → G
    by_kind dir other = ⊎_elim (λ is_dir. dir is_dir (turn.descended.directory is_dir)) (λ is_not. other is_not (turn.descended.other is_not)) (cases_Bool (is_dir_kind task.kind))

    items_may : is_dir_kind task.kind ≡ true → (is : List BundleItem) → AllByRecursion (λ item. IsFileName item.name) is → AllByRecursion (λ item. MayCome made (walk_task_of task.path item)) is
    items_may is_dir [] named = tt
    items_may is_dir (i ∷ is) named = (child_may turn.added.line turn.added.path (turn.added.directory ∙ is_dir) i named.0, items_may is_dir is named.1)

    may_all : AllByRecursion (MayCome made) new_tasks
    may_all =
        let old = others_may turn.added.line turn.added.path rest others beside in
        by_kind
        (λ is_dir adds. subst (AllByRecursion (MayCome made)) (sym adds.tasks) (all_both (MayCome made) rest (reverse (map (walk_task_of task.path) adds.items)) old (all_children (MayCome made) task.path adds.items (items_may is_dir adds.items adds.named))))
        (λ is_not same. subst (AllByRecursion (MayCome made)) (sym same) old)

    stack_all : IsStack new_tasks
    stack_all =
        let old = stack_front rest (task ∷ []) work.stack in
        by_kind
        (λ is_dir adds. subst IsStack (sym adds.tasks) (stack_append rest (reverse (map (walk_task_of task.path) adds.items)) old (children_stack task.path adds.items adds.named adds.ordered) (children_beside adds.items)))
        (λ is_not same. subst IsStack (sym same) old)

    -- the walk is at work again
    pub turned_work : IsWalkUnderWay new_lines new_tasks
    turned_work = record {
      laid = subst AreLaid (sym turn.added.lines) (laid turn.added.line turn.added.path turn.added.listable (subst AreFewLines turn.added.lines turn.added.few));
      stack = stack_all;
      may = subst (λ ls. AllByRecursion (MayCome ls) new_tasks) (sym turn.added.lines) may_all;
    }

    module _ (seen : WalkHasSeen nodes lines (rest ++ task ∷ [])) (told : observed ≡ true) where
      is_task : IsTaskOf nodes task
      is_task = (all_right (IsTaskOf nodes) rest (task ∷ []) seen.there).0

      is_line : IsLineOfBundle nodes turn.added.line
      is_line = record {
        stands = subst (Stands nodes) (sym turn.added.path) is_task.stands;
        entry = subst (λ p. IsEntryOf (nodes p) turn.added.line.entry) (sym turn.added.path) (turn.added.entry told is_task.kind);
      }

      dir_kind : (kind : BundleKind) → is_dir_kind kind ≡ true → kind ≡ kinds.Dir
      dir_kind kinds.Dir is_dir = refl
      dir_kind kinds.File is_dir = cc
      dir_kind kinds.Link is_dir = cc
      dir_kind kinds.Other is_dir = cc

      child_tasks : is_dir_kind task.kind ≡ true → (is : List BundleItem) → AllByRecursion (λ item. IsFileName item.name) is
          → AllByRecursion (λ item. kind_at (nodes (in_directory task.path item.name)) ≡ Some item.kind) is → AllByRecursion (λ item. IsTaskOf nodes (walk_task_of task.path item)) is
      child_tasks is_dir [] named each = tt
      child_tasks is_dir (i ∷ is) named each = (
        record {
          stands = stands_in nodes task.path i.name is_task.stands (is_task.kind ∙ ap Some (dir_kind task.kind is_dir)) named.0 (some_of_kind _ _ each.0);
          kind = each.0;
        },
        child_tasks is_dir is named.1 each.1,
      )

      tasks_all : AllByRecursion (IsTaskOf nodes) new_tasks
      tasks_all =
          let old = all_left (IsTaskOf nodes) rest (task ∷ []) seen.there in
          by_kind
          (λ is_dir adds. subst (AllByRecursion (IsTaskOf nodes)) (sym adds.tasks) (all_both (IsTaskOf nodes) rest (reverse (map (walk_task_of task.path) adds.items)) old (all_children (IsTaskOf nodes) task.path adds.items (child_tasks is_dir adds.items adds.named (adds.listed told).each))))
          (λ is_not same. subst (AllByRecursion (IsTaskOf nodes)) (sym same) old)

      not_dir : is_dir_kind task.kind ≡ false → kind_at (nodes task.path) ≡ Some kinds.Dir → ⊥
      not_dir is_not dir =
          let same : Some kinds.Dir ≡ Some task.kind = sym dir ∙ is_task.kind in
          let is : kinds.Dir ≡ task.kind = cc in
          both_ways _ is_not (ap is_dir_kind (sym is))

      line_last : (path : List ℕ) → path ≡ task.path → IsLinePath made path
      line_last path is = by lines
        where
          by : (ls : List ListingLine) → IsLinePath (ls ++ turn.added.line ∷ []) path
          by [] = inl (turn.added.path ∙ sym is)
          by (l ∷ ls) = inr (by ls)

      line_still : (path : List ℕ) (ls : List ListingLine) → IsLinePath ls path → IsLinePath (ls ++ turn.added.line ∷ []) path
      line_still path [] is = absurd is
      line_still path (l ∷ ls) (inl here) = inl here
      line_still path (l ∷ ls) (inr there) = inr (line_still path ls there)

      on_way : (path : List ℕ) → FirstStep nodes task.path path → IsUnder nodes new_tasks path
      on_way path step =
          by_kind
          (λ is_dir adds. subst (λ ts. IsUnder nodes ts path) (sym adds.tasks)
          (under_right nodes rest (reverse (map (walk_task_of task.path) adds.items)) path
          (under_children nodes task.path step.name path adds.items ((adds.listed told).whole step.name step.named step.some) step.on)))
          (λ is_not same. absurd (not_dir is_not step.stands))

      still_under : (path : List ℕ) → IsUnder nodes rest path → IsUnder nodes new_tasks path
      still_under path under =
          by_kind
          (λ is_dir adds. subst (λ ts. IsUnder nodes ts path) (sym adds.tasks) (under_left nodes rest (reverse (map (walk_task_of task.path) adds.items)) path under))
          (λ is_not same. subst (λ ts. IsUnder nodes ts path) (sym same) under)

      whole_all : (path : List ℕ) → Stands nodes path → IsLinePath made path ⊎ IsUnder nodes new_tasks path
      whole_all path stands =
          ⊎_elim
          (λ line. inl (line_still path lines line))
          (λ under.
          ⊎_elim
          (λ here. ⊎_elim (λ same. inl (line_last path same)) (λ step. inr (on_way path step)) (way_ends_or_on nodes task.path path here stands.some))
          (λ there. inr (still_under path there))
          (under_parts nodes rest task path under))
          (seen.whole path stands)

      -- and has seen no less
      pub turned_seen : WalkHasSeen nodes new_lines new_tasks
      turned_seen = record {
        each = subst (AllByRecursion (IsLineOfBundle nodes)) (sym turn.added.lines) (all_push (IsLineOfBundle nodes) lines turn.added.line seen.each is_line);
        there = tasks_all;
        whole = λ path stands. ⊎_elim (λ line. inl (subst (λ ls. IsLinePath ls path) (sym turn.added.lines) line)) (λ under. inr under) (whole_all path stands);
      }

  -- a fault of the next entry is the first
  pub first_fault : (nodes : BundleTree) (refusal : BundleRefusal) → WalkHasSeen nodes lines (rest ++ task ∷ []) → FaultWith nodes lines task.path refusal → IsFirstFault nodes refusal
  first_fault nodes refusal seen fault = record {
    before = lines;
    path = task.path;
    are = record {
      each = seen.each;
      order = work.laid.order;
      stands = (all_right (IsTaskOf nodes) rest (task ∷ []) seen.there).0.stands;
      later = next.later;
      others = λ other stands.
          ⊎_elim
          (λ line. inl line)
          (λ under. inr (⊎_elim
          (λ here. at_or_after other (leads_below nodes task.path other here))
          (λ there. inr (inr (under_beside other rest beside there)))
          (under_parts nodes rest task other under)))
          (seen.whole other stands);
    };
    fault = fault;
  }
    where
      at_or_after : (other : List ℕ) → IsAtOrBelow other task.path → (other ≡ task.path) ⊎ ComesBefore task.path other
      at_or_after other (inl same) = inl same
      at_or_after other (inr below) = inr (inl below)

      under_beside : (other : List ℕ) (ts : List Task) → AllByRecursion (λ later. IsBeside task.path later.path) ts → IsUnder nodes ts other → IsBeside task.path other
      under_beside other [] apart under = absurd under
      under_beside other (t ∷ ts) apart (inl here) = beside_second task.path t.path other apart.0 (leads_below nodes t.path other here)
      under_beside other (t ∷ ts) apart (inr there) = under_beside other ts apart.1 there

  pub task_kind : (nodes : BundleTree) → WalkHasSeen nodes lines (rest ++ task ∷ []) → kind_at (nodes task.path) ≡ Some task.kind
  task_kind nodes seen = (all_right (IsTaskOf nodes) rest (task ∷ []) seen.there).0.kind

  -- so where the next entry fails the walk ends
  pub ends_walk : (nodes : BundleTree) (refusal : BundleRefusal) → WalkHasSeen nodes lines (rest ++ task ∷ []) → WalkFailsAt nodes lines task.path refusal → EndsWalk nodes refusal
  ends_walk nodes refusal seen (inl outside) = inl outside
  ends_walk nodes refusal seen (inr fault) = inr (first_fault nodes refusal seen fault)

-- where nothing is still to come, all was seen
pub ends_walked : (nodes : BundleTree) (lines : List ListingLine) (tasks : List Task) → tasks ≡ [] → WalkHasSeen nodes lines tasks → IsWalked nodes lines
ends_walked nodes lines tasks none seen =
    walked_lines nodes lines seen.each
    (λ path stands. ⊎_elim (λ line. line) (λ under. absurd (subst (λ ts. IsUnder nodes ts path) none under)) (seen.whole path stands))

-- the beginning of a walk
first_may : (is : List BundleItem) → AllByRecursion (λ item. IsFileName item.name) is → AllByRecursion (λ item. MayCome [] (walk_task_of [] item)) is
first_may [] named = tt
first_may (i ∷ is) named = (
  record {
    later = tt;
    directories = λ above up. absurd (none_in_root above (in_directory [] i.name) i.name (record { text = refl; last = name_has_no_slash i.name named.0 }) up);
  },
  first_may is named.1,
)

first_tasks : (nodes : BundleTree) → kind_at (nodes []) ≡ Some kinds.Dir → (is : List BundleItem) → AllByRecursion (λ item. IsFileName item.name) is
    → AllByRecursion (λ item. kind_at (nodes (in_directory [] item.name)) ≡ Some item.kind) is → AllByRecursion (λ item. IsTaskOf nodes (walk_task_of [] item)) is
first_tasks nodes dir [] named each = tt
first_tasks nodes dir (i ∷ is) named each =
    (record { stands = stands_first nodes i.name dir named.0 (some_of_kind _ _ each.0); kind = each.0 }, first_tasks nodes dir is named.1 each.1)

module _ {observed : Bool} {nodes : BundleTree} {tasks : List Task} where
  pub begun_work : AreFewLines [] → WalkBegins observed nodes tasks → IsWalkUnderWay [] tasks
  begun_work few (inl adds) = record {
    laid = record { order = tt; directories = tt; listable = tt; few = few };
    stack = subst IsStack (sym adds.tasks) (children_stack [] adds.items adds.named adds.ordered);
    may = subst (AllByRecursion (MayCome [])) (sym adds.tasks) (all_children (MayCome []) [] adds.items (first_may adds.items adds.named));
  }
  begun_work few (inr none) = record {
    laid = record { order = tt; directories = tt; listable = tt; few = few };
    stack = subst IsStack (sym none.0) tt;
    may = subst (AllByRecursion (MayCome [])) (sym none.0) tt;
  }

  pub begun_seen : observed ≡ true → WalkBegins observed nodes tasks → WalkHasSeen nodes [] tasks
  begun_seen told (inl adds) =
      let listed = adds.listed told in
      record {
        each = tt;
        there = subst (AllByRecursion (IsTaskOf nodes)) (sym adds.tasks) (all_children (IsTaskOf nodes) [] adds.items (first_tasks nodes listed.directory adds.items adds.named listed.each));
        whole = λ path stands.
            let step = step_from_root nodes path stands in
            inr (subst (λ ts. IsUnder nodes ts path) (sym adds.tasks) (under_children nodes [] step.name path adds.items (listed.whole step.name step.named step.some) step.on));
      }
  begun_seen told (inr none) = record {
    each = tt;
    there = subst (AllByRecursion (IsTaskOf nodes)) (sym none.0) tt;
    whole = λ path stands. absurd (none.1 told (step_from_root nodes path stands).stands);
  }
