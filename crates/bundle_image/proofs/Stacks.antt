-- The entries that are still to come, the next one last.
use Rattle.std.proofs.Common.{◌≡◌, ℕ, zero, suc, ◌<◌, List, [], ◌∷◌, ◌++◌, length, get_or, map, reverse, sym, subst, ◌⊎◌, inl, inr, ⊎_elim, arith, nat_cmp, Less}
use Rattle.std.specs.List.{AllByRecursion, Contains}
use Rattle.std.specs.Cmp.Lexicographic.{slice_cmp}
use Rattle.std.proofs.lemmas.List.{reverse-append}
use Rattle.std.proofs.lemmas.Map.Keys.{sorted_head, sorted_tail}
use Rattle.plain_laws.proofs.Lists.{all_mapped}
use Rattle.dir_model.proofs.Lists.{all_push, all_weaker, all_both}
use Rattle.dir_model.specs.Names.{IsFileName}
use Rattle.dir_trait.specs.declared.bundle.BundleItem.{BundleItem}
use Rattle.dir_trait.specs.Bundles.{BundleTree, IsBundleListing}
use Rattle.bundle_image.specs.declared.task.Task.{Task}
use Rattle.bundle_image.specs.Tasks.{walk_task_of}
use Rattle.bundle_image.specs.Walks.{in_directory, LeadsTo, IsBeside}
use Rattle.bundle_image.specs.Work.{IsStack, IsUnder}
use Rattle.bundle_image.proofs.Paths.{siblings}

turned : {X : Type 0} (x : X) (xs : List X) → reverse (x ∷ xs) ≡ reverse xs ++ x ∷ []
turned x xs = reverse-append (x ∷ []) xs

-- what holds of each holds of each in the other order
all_turned : {X : Type 0} (P : X → Type 0) (xs : List X) → AllByRecursion P xs → AllByRecursion P (reverse xs)
all_turned P [] all = tt
all_turned P (x ∷ xs) all = subst (AllByRecursion P) (sym (turned x xs)) (all_push P (reverse xs) x (all_turned P xs all.1) all.0)

-- what holds of what each item becomes
pub all_children : (P : Task → Type 0) (directory : List ℕ) (items : List BundleItem) → AllByRecursion (λ item. P (walk_task_of directory item)) items → AllByRecursion P (reverse (map (walk_task_of directory) items))
all_children P directory items all = all_turned P (map (walk_task_of directory) items) (all_mapped P (walk_task_of directory) items all)

pub stack_append : (xs ys : List Task) → IsStack xs → IsStack ys → AllByRecursion (λ later. AllByRecursion (λ sooner. IsBeside sooner.path later.path) ys) xs → IsStack (xs ++ ys)
stack_append [] ys a b between = b
stack_append (x ∷ xs) ys a b between =
    (all_both (λ sooner. IsBeside sooner.path x.path) xs ys a.0 between.0, stack_append xs ys a.1 b between.1)

-- the first of a stack that is left when its last is taken
pub stack_front : (xs ys : List Task) → IsStack (xs ++ ys) → IsStack xs
stack_front [] ys stack = tt
stack_front (x ∷ xs) ys stack = (all_front (λ sooner. IsBeside sooner.path x.path) xs stack.0, stack_front xs ys stack.1)
  where
    all_front : (P : Task → Type 0) (zs : List Task) → AllByRecursion P (zs ++ ys) → AllByRecursion P zs
    all_front P [] all = tt
    all_front P (z ∷ zs) all = (all.0, all_front P zs all.1)

-- the last of a stack comes before all others
pub stack_last : (xs : List Task) (last : Task) → IsStack (xs ++ last ∷ []) → AllByRecursion (λ later. IsBeside last.path later.path) xs
stack_last [] last stack = tt
stack_last (x ∷ xs) last stack = (here xs stack.0, stack_last xs last stack.1)
  where
    here : (zs : List Task) → AllByRecursion (λ sooner. IsBeside sooner.path x.path) (zs ++ last ∷ []) → IsBeside last.path x.path
    here [] all = all.0
    here (z ∷ zs) all = here zs all.1

before_others : (directory name : List ℕ) (items : List BundleItem) → IsFileName name → AllByRecursion (λ item. IsFileName item.name) items
    → AllByRecursion (λ key. slice_cmp nat_cmp name key ≡ Less) (map (λ item. item.name) items)
    → AllByRecursion (λ item. IsBeside (in_directory directory name) (walk_task_of directory item).path) items
before_others directory name [] is named less = tt
before_others directory name (i ∷ items) is named less =
    (siblings directory name i.name is named.0 less.0, before_others directory name items is named.1 less.1)

-- the items of a listing, the first of them last
pub children_stack : (directory : List ℕ) (items : List BundleItem) → AllByRecursion (λ item. IsFileName item.name) items → IsBundleListing items → IsStack (reverse (map (walk_task_of directory) items))
children_stack directory [] named ordered = tt
children_stack directory (i ∷ items) named ordered =
    let first = before_others directory i.name items named.0 named.1 (sorted_head (slice_cmp nat_cmp) i.name (map (λ item. item.name) items) ordered) in
    subst IsStack (sym (turned (walk_task_of directory i) (map (walk_task_of directory) items)))
    (stack_append (reverse (map (walk_task_of directory) items)) (walk_task_of directory i ∷ [])
    (children_stack directory items named.1 (sorted_tail (slice_cmp nat_cmp) i.name (map (λ item. item.name) items) ordered))
    (tt, tt)
    (all_children (λ later. AllByRecursion (λ sooner. IsBeside sooner.path later.path) (walk_task_of directory i ∷ [])) directory items
    (all_weaker (λ item. IsBeside (in_directory directory i.name) (walk_task_of directory item).path) (λ item. AllByRecursion (λ sooner. IsBeside sooner.path (walk_task_of directory item).path) (walk_task_of directory i ∷ [])) (λ item beside. (beside, tt)) items first)))

pub under_left : (nodes : BundleTree) (xs ys : List Task) (path : List ℕ) → IsUnder nodes xs path → IsUnder nodes (xs ++ ys) path
under_left nodes [] ys path under = absurd under
under_left nodes (x ∷ xs) ys path (inl here) = inl here
under_left nodes (x ∷ xs) ys path (inr there) = inr (under_left nodes xs ys path there)

pub under_right : (nodes : BundleTree) (xs ys : List Task) (path : List ℕ) → IsUnder nodes ys path → IsUnder nodes (xs ++ ys) path
under_right nodes [] ys path under = under
under_right nodes (x ∷ xs) ys path under = inr (under_right nodes xs ys path under)

-- under the last, or under one of the others
pub under_parts : (nodes : BundleTree) (xs : List Task) (last : Task) (path : List ℕ) → IsUnder nodes (xs ++ last ∷ []) path → LeadsTo nodes last.path path ⊎ IsUnder nodes xs path
under_parts nodes [] last path (inl here) = inl here
under_parts nodes [] last path (inr there) = absurd there
under_parts nodes (x ∷ xs) last path (inl here) = inr (inl here)
under_parts nodes (x ∷ xs) last path (inr there) =
    ⊎_elim (λ l. inl l) (λ r. inr (inr r)) (under_parts nodes xs last path there)

under_turned : (nodes : BundleTree) (xs : List Task) (path : List ℕ) → IsUnder nodes xs path → IsUnder nodes (reverse xs) path
under_turned nodes [] path under = under
under_turned nodes (x ∷ xs) path (inl here) =
    subst (λ ts. IsUnder nodes ts path) (sym (turned x xs)) (under_right nodes (reverse xs) (x ∷ []) path (inl here))
under_turned nodes (x ∷ xs) path (inr there) =
    subst (λ ts. IsUnder nodes ts path) (sym (turned x xs)) (under_left nodes (reverse xs) (x ∷ []) path (under_turned nodes xs path there))

under_items : (nodes : BundleTree) (directory name path : List ℕ) (items : List BundleItem) → Contains (map (λ item. item.name) items) name → LeadsTo nodes (in_directory directory name) path
    → IsUnder nodes (map (walk_task_of directory) items) path
under_items nodes directory name path items has way = by items has.0 has.1 has.2
  where
    by : (is : List BundleItem) (k : ℕ) → k < length (map (λ item. item.name) is) → get_or (map (λ item. item.name) is) k name ≡ name → IsUnder nodes (map (walk_task_of directory) is) path
    by [] k within at = absurd (omega arith)
    by (i ∷ is) zero within at = inl (subst (λ n. LeadsTo nodes (in_directory directory n) path) (sym at) way)
    by (i ∷ is) (suc k) within at = inr (by is k (omega arith) at)

-- under the item of the name with which the way goes on
pub under_children : (nodes : BundleTree) (directory name path : List ℕ) (items : List BundleItem) → Contains (map (λ item. item.name) items) name → LeadsTo nodes (in_directory directory name) path
    → IsUnder nodes (reverse (map (walk_task_of directory) items)) path
under_children nodes directory name path items has way = under_turned nodes (map (walk_task_of directory) items) path (under_items nodes directory name path items has way)
