-- Paths, and the order of the tasks.
use Rattle.std.proofs.Common.{◌≡◌, Less, Equal, ℕ, Bool, true, false, not, ◌&&◌, ◌||◌, ◌==◌, bytes_eq, List, [], ◌∷◌, ◌++◌, map, refl, sym, ap, subst, ◌∙◌, append_assoc, append-nil}
use Rattle.std.specs.List.{list_any, list_all, AllByRecursion}
use Rattle.std.specs.List.Sorted.{IsStrictlySortedBy}
use Rattle.std.specs.Ordering.{nat_cmp}
use Rattle.std.specs.Cmp.Lexicographic.{slice_cmp}
use Rattle.std.proofs.lemmas.Cmp.{nat_list_cmp_total, tied_itself}
use Rattle.std.proofs.lemmas.List.Sums.{list_all-from_AllPass}
use Rattle.std.proofs.lemmas.List.Folds.{list_any-append}
use Rattle.std.proofs.lemmas.Bool.{or_left, or_right}
use Rattle.plain_laws.proofs.Texts.{same_text, same_bytes, bytes_turned}
use Rattle.dir_model.specs.declared.item.Item.{Item}
use Rattle.dir_model.specs.Paths.{is_slash, is_empty}
use Rattle.dir_rules.specs.Marks.{path_in, parent, has_slash}
use Rattle.dir_model.specs.Names.{is_file_byte, IsFileName}
use Rattle.dir_model.specs.Listings.{item_names}
use Rattle.dir_model.proofs.Lists.{and_left, and_right, and_both, any_last, same_self, not_true, or_none, or_left_false, or_right_false}
use Rattle.dir_model.proofs.OpenHandles.{and_moves}
use Rattle.dir_model.proofs.Paths.{filled}
use Rattle.dir_laws.proofs.Paths.{parent_in as parent_later, parent_plain}
use Rattle.folder_removal.specs.declared.task.Task.{Task}
use Rattle.folder_removal.specs.Tasks.{is_plain_name, deletion_task_of, with_listed, has_plain_name, is_named, are_distinct, is_in_tasks, may_follow_tasks, are_nested}

pub false_if : (a : Bool) → (a ≡ true → ⊥) → a ≡ false
false_if true never = absurd (never refl)
false_if false never = refl

pub clash : {a : Bool} → a ≡ true → a ≡ false → ⊥
clash {a} p q = let e : true ≡ false = sym p ∙ q in cc

pub parent_in : (d n : List ℕ) → is_plain_name n ≡ true → parent (path_in d n) ≡ d
parent_in [] n h = parent_plain n (not_true (has_slash n) (and_right (not (is_empty n)) (not (has_slash n)) h))
parent_in (b ∷ bs) n h = parent_later (b ∷ bs) n (not_true (has_slash n) (and_right (not (is_empty n)) (not (has_slash n)) h))

inside : (d n : List ℕ) → is_plain_name n ≡ true → is_empty (path_in d n) ≡ false
inside [] n h = not_true (is_empty n) (and_left (not (is_empty n)) (not (has_slash n)) h)
inside (b ∷ bs) n h = refl

after_same : (d n m : List ℕ) → bytes_eq (d ++ 47 ∷ n) (d ++ 47 ∷ m) ≡ bytes_eq n m
after_same [] n m = refl
after_same (b ∷ bs) n m = rw (same_self b) (after_same bs n m)

path_same : (d n m : List ℕ) → bytes_eq (path_in d n) (path_in d m) ≡ bytes_eq n m
path_same [] n m = refl
path_same (b ∷ bs) n m = after_same (b ∷ bs) n m

-- what a file name is
no_slash : (n : List ℕ) → list_all is_file_byte n ≡ true → has_slash n ≡ false
no_slash [] h = refl
no_slash (b ∷ bs) h = or_none (is_slash b) (has_slash bs) (not_true (b == 47) (and_left (not (b == 47)) (not (b == 0)) (and_left (is_file_byte b) (list_all is_file_byte bs) h))) (no_slash bs (and_right (is_file_byte b) (list_all is_file_byte bs) h))

pub file_plain : (n : List ℕ) → IsFileName n → is_plain_name n ≡ true
file_plain n h = and_both _ _ (filled n h.0) (rw (no_slash n (list_all-from_AllPass is_file_byte n h.2)) refl)

-- each task of a list without this path has another directory
pub no_child : (before ts : List Task) (q : List ℕ) → is_empty q ≡ false → is_in_tasks q (before ++ ts) ≡ false → are_nested before ts ≡ true → list_any (λ t. bytes_eq (parent t.path) q) ts ≡ false
no_child before [] q other apart nested = refl
no_child before (t ∷ ts) q other apart nested =
    or_none _ _ (false_if _ (λ is. apart_from (same_text (parent t.path) q is)))
    (no_child (before ++ t ∷ []) ts q other (ap (is_in_tasks q) (append_assoc before (t ∷ []) ts) ∙ apart) (and_right (may_follow_tasks before t) _ nested))
  where
    before_it : is_in_tasks q before ≡ false
    before_it = or_left_false _ (is_in_tasks q (t ∷ ts)) (sym (list_any-append (λ e. bytes_eq e.path q) before (t ∷ ts)) ∙ apart)

    known : (is_empty (parent t.path) || is_in_tasks (parent t.path) before) ≡ true
    known = and_right (not (is_in_tasks t.path before)) _ (and_right (not (is_empty t.path)) _ (and_left (may_follow_tasks before t) _ nested))

    apart_from : parent t.path ≡ q → ⊥
    apart_from e = clash (subst (λ (p : List ℕ). (is_empty p || is_in_tasks p before) ≡ true) e known) (or_none (is_empty q) (is_in_tasks q before) other before_it)

-- a list in two parts
pub nested-append : (before xs ys : List Task) → are_nested before (xs ++ ys) ≡ (are_nested before xs && are_nested (before ++ xs) ys)
nested-append before [] ys = ap (λ (b : List Task). are_nested b ys) (sym (append-nil before))
nested-append before (x ∷ xs) ys =
    ap (λ (b : Bool). may_follow_tasks before x && b) (nested-append (before ++ x ∷ []) xs ys ∙ ap (λ (b : List Task). are_nested (before ++ x ∷ []) xs && are_nested b ys) (append_assoc before (x ∷ []) xs))
    ∙ sym (and_moves (may_follow_tasks before x) (are_nested (before ++ x ∷ []) xs) (are_nested (before ++ x ∷ xs) ys))

-- the last of a list
module _ (xs : List Task) (t : Task) (nested : are_nested [] (xs ++ t ∷ []) ≡ true) where
  parts : (are_nested [] xs && (may_follow_tasks xs t && true)) ≡ true
  parts = sym (nested-append [] xs (t ∷ [])) ∙ nested

  pub nested_rest : are_nested [] xs ≡ true
  nested_rest = and_left _ _ parts

  pub last_follows : may_follow_tasks xs t ≡ true
  last_follows = and_left _ true (and_right (are_nested [] xs) _ parts)

  pub last_inside : is_empty t.path ≡ false
  last_inside = not_true _ (and_left _ _ last_follows)

  pub last_new : is_in_tasks t.path xs ≡ false
  last_new = not_true _ (and_left _ _ (and_right _ _ last_follows))

  last_known : (is_empty (parent t.path) || is_in_tasks (parent t.path) xs) ≡ true
  last_known = and_right (not (is_in_tasks t.path xs)) _ (and_right (not (is_empty t.path)) _ last_follows)

  last_apart : parent t.path ≡ t.path → ⊥
  last_apart e = clash (subst (λ (p : List ℕ). (is_empty p || is_in_tasks p xs) ≡ true) e last_known) (or_none (is_empty t.path) (is_in_tasks t.path xs) last_inside last_new)

  -- no task stands in it
  pub last_childless : list_any (λ e. bytes_eq (parent e.path) t.path) (xs ++ t ∷ []) ≡ false
  last_childless = list_any-append (λ e. bytes_eq (parent e.path) t.path) xs (t ∷ []) ∙ or_none _ _ (no_child [] xs t.path last_inside last_new nested_rest) (or_none _ false (false_if _ (λ is. last_apart (same_text _ _ is))) refl)

  -- the same after its listing
  pub nested_listed : are_nested [] (xs ++ with_listed t ∷ []) ≡ true
  nested_listed = nested-append [] xs (with_listed t ∷ []) ∙ parts

-- the items of a directory that comes before
module _ (d : List ℕ) where
  abbrev IsNew : List Task → Item → Bool
  IsNew before i = not (is_in_tasks (path_in d i.name) before)

  still_new : (before : List Task) (i : Item) (items : List Item) → not (list_any (is_named i.name) items) ≡ true → list_all (IsNew before) items ≡ true → list_all (IsNew (before ++ deletion_task_of d i ∷ [])) items ≡ true
  still_new before i [] once new = refl
  still_new before i (j ∷ js) once new =
      and_both (IsNew (before ++ deletion_task_of d i ∷ []) j) (list_all (IsNew (before ++ deletion_task_of d i ∷ [])) js) (ap not (list_any-append (λ e. bytes_eq e.path (path_in d j.name)) before (deletion_task_of d i ∷ []) ∙ or_none _ _ (not_true _ (and_left _ _ new)) (or_none _ false (path_same d i.name j.name ∙ bytes_turned j.name i.name ∙ or_left_false (bytes_eq j.name i.name) (list_any (is_named i.name) js) (not_true _ once)) refl)))
      (still_new before i js (ap not (or_right_false (bytes_eq j.name i.name) (list_any (is_named i.name) js) (not_true _ once))) (and_right (IsNew before j) _ new))

  pub nested_children : (before : List Task) (items : List Item) → (is_empty d || is_in_tasks d before) ≡ true → list_all has_plain_name items ≡ true → are_distinct items ≡ true → list_all (IsNew before) items ≡ true → are_nested before (map (deletion_task_of d) items) ≡ true
  nested_children before [] known plain once new = refl
  nested_children before (i ∷ is) known plain once new =
      and_both (may_follow_tasks before (deletion_task_of d i)) (are_nested (before ++ deletion_task_of d i ∷ []) (map (deletion_task_of d) is))
      (and_both (not (is_empty (path_in d i.name))) _ (ap not (inside d i.name (and_left _ _ plain))) (and_both (not (is_in_tasks (path_in d i.name) before)) _ (and_left _ _ new) (subst (λ (p : List ℕ). (is_empty p || is_in_tasks p before) ≡ true) (sym (parent_in d i.name (and_left _ _ plain))) known)))
      (nested_children (before ++ deletion_task_of d i ∷ []) is (known_later (is_empty d) known) (and_right (has_plain_name i) _ plain) (and_right _ _ once) (still_new before i is (and_left _ _ once) (and_right (IsNew before i) _ new)))
    where
      known_later : (r : Bool) → (r || is_in_tasks d before) ≡ true → (r || is_in_tasks d (before ++ deletion_task_of d i ∷ [])) ≡ true
      known_later true h = refl
      known_later false h = list_any-append (λ e. bytes_eq e.path d) before (deletion_task_of d i ∷ []) ∙ or_left _ _ h

  -- none of them is known yet, where no task stands in the directory
  is_new : (before : List Task) (n : List ℕ) → is_plain_name n ≡ true → list_any (λ e. bytes_eq (parent e.path) d) before ≡ false → is_in_tasks (path_in d n) before ≡ false
  is_new [] n plain none = refl
  is_new (e ∷ es) n plain none =
      or_none _ _ (false_if _ (λ is. clash (ap (λ (p : List ℕ). bytes_eq (parent p) d) (same_text e.path (path_in d n) is) ∙ ap (λ (p : List ℕ). bytes_eq p d) (parent_in d n plain) ∙ same_bytes d) (or_left_false (bytes_eq (parent e.path) d) _ none)))
      (is_new es n plain (or_right_false (bytes_eq (parent e.path) d) _ none))

  pub all_new : (before : List Task) (items : List Item) → list_all has_plain_name items ≡ true → list_any (λ e. bytes_eq (parent e.path) d) before ≡ false → list_all (IsNew before) items ≡ true
  all_new before [] plain none = refl
  all_new before (i ∷ is) plain none = and_both (IsNew before i) (list_all (IsNew before) is) (rw (is_new before i.name (and_left _ _ plain) none) refl) (all_new before is (and_right (has_plain_name i) _ plain) none)

-- the items of the folder itself, and of the last task's directory
pub nested_root : (items : List Item) → list_all has_plain_name items ≡ true → are_distinct items ≡ true → are_nested [] (map (deletion_task_of []) items) ≡ true
nested_root items plain once = nested_children [] [] items refl plain once (all_new [] [] items plain refl)

module _ (xs : List Task) (t : Task) (nested : are_nested [] (xs ++ t ∷ []) ≡ true) where
  pub is_known : (is_empty t.path || is_in_tasks t.path (xs ++ with_listed t ∷ [])) ≡ true
  is_known = or_right (is_empty t.path) _ (any_last (λ e. bytes_eq e.path t.path) xs (with_listed t) (same_bytes t.path))

  pub is_childless : list_any (λ e. bytes_eq (parent e.path) t.path) (xs ++ with_listed t ∷ []) ≡ false
  is_childless = list_any-append (λ e. bytes_eq (parent e.path) t.path) xs (with_listed t ∷ []) ∙ sym (list_any-append (λ e. bytes_eq (parent e.path) t.path) xs (t ∷ [])) ∙ last_childless xs t nested

  pub nested_with_children : (items : List Item) → list_all has_plain_name items ≡ true → are_distinct items ≡ true → are_nested [] ((xs ++ with_listed t ∷ []) ++ map (deletion_task_of t.path) items) ≡ true
  nested_with_children items plain once =
      let before = xs ++ with_listed t ∷ [] in
      nested-append [] before (map (deletion_task_of t.path) items) ∙ and_both _ _ (nested_listed xs t nested) (nested_children t.path before items is_known plain once (all_new t.path before items plain is_childless))

-- names that ascend are apart
not_below : (a b : List ℕ) → b ≡ a → slice_cmp nat_cmp a b ≡ Less → ⊥
not_below a b e h = let l : Less ≡ Equal = sym h ∙ (ap (slice_cmp nat_cmp a) e ∙ tied_itself nat_list_cmp_total a) in cc

apart_from_all : (name : List ℕ) (items : List Item) → AllByRecursion (λ y. slice_cmp nat_cmp name y ≡ Less) (item_names items) → list_any (is_named name) items ≡ false
apart_from_all name [] below = refl
apart_from_all name (i ∷ is) below = or_none (bytes_eq i.name name) (list_any (is_named name) is) (false_if (bytes_eq i.name name) (λ one. not_below name i.name (same_text i.name name one) below.0)) (apart_from_all name is below.1)

pub distinct : (items : List Item) → IsStrictlySortedBy (slice_cmp nat_cmp) (item_names items) → are_distinct items ≡ true
unfolding IsStrictlySortedBy
distinct [] o = refl
distinct (i ∷ is) o = and_both (not (list_any (is_named i.name) is)) (are_distinct is) (ap not (apart_from_all i.name is o.0)) (distinct is o.1)
