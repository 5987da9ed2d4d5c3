-- A listing makes the work less.
use Rattle.std.proofs.Common.{arith, ◌≡◌, ◌≤◌, ◌<◌, ◌+◌, ◌-◌, ◌*◌, ◌^◌, zero, suc, ℕ, length, Bool, true, false, cond, List, [], ◌∷◌, ◌++◌, map, refl, ap, subst, ◌∙◌}
use Rattle.std.specs.List.{list_all}
use Rattle.std.proofs.lemmas.Bool.{leb-true}
use Rattle.dir_model.specs.declared.item.Item.{Item}
use Rattle.dir_rules.specs.Marks.{path_in}
use Rattle.dir_model.proofs.Lists.{and_left, and_right, and_false}
use Rattle.folder_removal.specs.declared.task.Task.{Task}
use Rattle.folder_removal.specs.Tasks.{is_plain_name, deletion_task_of, with_listed, is_unlisted, has_plain_name, is_short_task, is_dir_item, AreChildren}
use Rattle.folder_removal.specs.Weights.{weight, task_weight, weigh}

pub weigh-append : (xs ys : List Task) → weigh (xs ++ ys) ≡ weigh xs + weigh ys
weigh-append [] ys = omega arith
weigh-append (x ∷ xs) ys = omega (arith, weigh-append xs ys)

weight_next : (k : ℕ) → weight (suc k) ≡ 2 + 2 ^ 64 * weight k
unfolding weight
weight_next k = refl

weight_least : (k : ℕ) → 2 ≤ weight k
unfolding weight
weight_least zero = omega arith
weight_least (suc k) = omega arith

grows : (n w : ℕ) → 1 ≤ n → w ≤ 2 + n * w
grows zero w h = absurd (omega (arith, h))
grows (suc n) w h = grind (arith)

weight_more : (k : ℕ) → weight k ≤ weight (suc k)
weight_more k = rw (weight_next k) (grows (2 ^ 64) (weight k) (omega arith))

up : (j more : ℕ) → weight j ≤ weight (j + more)
up j zero = subst (λ (n : ℕ). weight j ≤ weight n) (let e : j ≡ j + 0 = omega arith in e) (omega arith)
up j (suc more) =
    let e : suc (j + more) ≡ j + suc more = omega arith in
    subst (λ (n : ℕ). weight j ≤ weight n) e (omega (arith, up j more, weight_more (j + more)))

weight_up : (j k : ℕ) → j ≤ k → weight j ≤ weight k
weight_up j k h = let e : j + (k - j) ≡ k = omega (arith, h) in subst (λ (n : ℕ). weight j ≤ weight n) e (up j (k - j))

-- a path in a directory is longer
longer_later : (d n : List ℕ) → length d < length (d ++ 47 ∷ n)
longer_later [] n = omega arith
longer_later (b ∷ bs) n = omega (arith, longer_later bs n)

longer : (d n : List ℕ) → is_plain_name n ≡ true → length d < length (path_in d n)
longer [] [] h = absurd (let e : false ≡ true = h in cc)
longer [] (b ∷ bs) h = omega arith
longer (b ∷ bs) n h = longer_later (b ∷ bs) n

-- one item of a directory
child_weight : (d : List ℕ) (k : ℕ) (i : Item) → is_plain_name i.name ≡ true → length (path_in d i.name) ≤ 8192 → 8192 - length d ≤ suc k → task_weight (deletion_task_of d i) ≤ weight k
child_weight d k i plain short room = by (is_unlisted (deletion_task_of d i))
  where
    by : (b : Bool) → cond b (weight (8192 - length (path_in d i.name))) 1 ≤ weight k
    by true = weight_up (8192 - length (path_in d i.name)) k (omega (arith, longer d i.name plain, short, room))
    by false = omega (arith, weight_least k)

children_weight : (d : List ℕ) (k : ℕ) (items : List Item) → list_all has_plain_name items ≡ true → list_all is_short_task (map (deletion_task_of d) items) ≡ true → 8192 - length d ≤ suc k → weigh (map (deletion_task_of d) items) ≤ length items * weight k
children_weight d k [] plain short room = omega arith
children_weight d k (i ∷ is) plain short room =
    let one : task_weight (deletion_task_of d i) ≤ weight k = child_weight d k i (and_left (has_plain_name i) (list_all has_plain_name is) plain) (leb-true _ _ (and_left (is_short_task (deletion_task_of d i)) (list_all is_short_task (map (deletion_task_of d) is)) short)) room in
    let more : weigh (map (deletion_task_of d) is) ≤ length is * weight k = children_weight d k is (and_right (has_plain_name i) _ plain) (and_right (is_short_task (deletion_task_of d i)) _ short) room in
    step (task_weight (deletion_task_of d i)) (weigh (map (deletion_task_of d) is)) (length is) (weight k) one more
  where
    step : (a b n w : ℕ) → a ≤ w → b ≤ n * w → a + b ≤ suc n * w
    step a b n w p q = grind (arith, p, q)

none_short : (d : List ℕ) (items : List Item) → 8192 - length d ≡ 0 → list_all has_plain_name items ≡ true → list_all is_short_task (map (deletion_task_of d) items) ≡ true → weigh (map (deletion_task_of d) items) ≡ 0
none_short d [] full plain short = refl
none_short d (i ∷ is) full plain short = absurd (omega (arith, full, longer d i.name (and_left (has_plain_name i) (list_all has_plain_name is) plain), leb-true _ _ (and_left (is_short_task (deletion_task_of d i)) (list_all is_short_task (map (deletion_task_of d) is)) short)))

times_less : (n m w : ℕ) → n ≤ m → n * w ≤ m * w
times_less n m w h = grind (arith, h)

few_enough : (n w : ℕ) → n < 2 ^ 64 → 1 + n * w < 2 + 2 ^ 64 * w
few_enough n w h = omega (arith, times_less n (2 ^ 64) w (omega (arith, h)))

-- a directory that was listed, and its items, are less work than before
module _ (before : List Task) (t : Task) (children : List Task) (items : List Item) (unlisted : is_unlisted t ≡ true) (are : AreChildren t.path items children) where
  short_items : list_all is_short_task (map (deletion_task_of t.path) items) ≡ true
  short_items = subst (λ (ts : List Task). list_all is_short_task ts ≡ true) are.are are.short

  by_room : (room : ℕ) → 8192 - length t.path ≡ room → 1 + weigh (map (deletion_task_of t.path) items) < weight room
  by_room zero is = omega (arith, weight_least 0, none_short t.path items is are.plain short_items)
  by_room (suc k) is = rw (weight_next k) (omega (arith, few_enough (length items) (weight k) are.few, children_weight t.path k items are.plain short_items (omega (arith, is))))

  before_is : weigh (before ++ t ∷ []) ≡ weigh before + weight (8192 - length t.path)
  before_is = weigh-append before (t ∷ []) ∙ rw unlisted (omega arith)

  after_is : weigh ((before ++ with_listed t ∷ []) ++ children) ≡ weigh before + (1 + weigh children)
  after_is = weigh-append (before ++ with_listed t ∷ []) children ∙ ap (λ (n : ℕ). n + weigh children) (weigh-append before (with_listed t ∷ []) ∙ ap (λ (b : Bool). weigh before + (cond b (weight (8192 - length t.path)) 1 + 0)) (and_false (is_dir_item t.kind))) ∙ omega arith

  pub listed_less : weigh ((before ++ with_listed t ∷ []) ++ children) < weigh (before ++ t ∷ [])
  listed_less = omega (arith, before_is, after_is, by_room (8192 - length t.path) refl, ap weigh are.are)

-- and so is a removal
pub removed_less : (before : List Task) (t : Task) → weigh before < weigh (before ++ t ∷ [])
removed_less before t = omega (arith, weigh-append before (t ∷ []), least (is_unlisted t))
  where
    least : (b : Bool) → 1 ≤ cond b (weight (8192 - length t.path)) 1
    least true = omega (arith, weight_least (8192 - length t.path))
    least false = omega arith
