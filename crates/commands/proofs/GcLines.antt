-- Of the lines of a sweep: those of one pass among all, in the order of their pods.
use Rattle.std.proofs.Common.{◌≡◌, ◌⊎◌, inl, inr, ℕ, Bool, true, false, ◌||◌, cond, find, map, Less, Option, Some, None, List, [], ◌∷◌, ◌++◌, refl, sym, ap, subst, ◌∙◌}
use Rattle.std.specs.List.{list_any, AllByRecursion}
use Rattle.std.specs.List.Sorted.{IsStrictlySortedBy}
use Rattle.std.specs.Ordering.{nat_cmp}
use Rattle.std.specs.Cmp.Lexicographic.{slice_cmp}
use Rattle.dir_model.specs.declared.area.Area.{Area}
use Rattle.dir_model.specs.declared.area.Area.TheVariants as area
use Rattle.dir_model.specs.declared.event.Event.{Event}
use Rattle.dir_model.specs.declared.pod.PodId.{PodId}
use Rattle.dir_model.specs.Pods.{pod_of_text}
use Rattle.dir_model.proofs.Lists.{all_right, all_weaker}
use Rattle.dir_rules.specs.Standing.{is_in}
use Rattle.pod_gc.specs.declared.ages.Times.{Times}
use Rattle.pod_gc.specs.declared.line.GcLine.{GcLine}
use Rattle.pod_gc.specs.Told.{and_pod, pods_of, IsLineOfTurn, PassedOverPods}
use Rattle.commands.specs.Gc.{subject_text}
use Rattle.commands.specs.GcLines.{HasLine}
use Rattle.pod_lookup.proofs.Names.{text_back}

-- two facts of each
pub all_zip : {X : Type 0} (P Q R : X → Type 0) (f : (x : X) → P x → Q x → R x) (xs : List X) → AllByRecursion P xs → AllByRecursion Q xs → AllByRecursion R xs
all_zip P Q R f [] p q = tt
all_zip P Q R f (x ∷ xs) p q = (f x p.0 q.0, all_zip P Q R f xs p.1 q.1)

-- the only one that passes is found
pub find_only : {X : Type 0} (t : X → Bool) (x : X) → t x ≡ true → (xs : List X) → AllByRecursion (λ y. t y ≡ true → y ≡ x) xs → list_any t xs ≡ true → find t xs ≡ Some x
find_only t x is [] only any = cc
find_only {X} t x is (y ∷ ys) only any = by (t y) refl any (λ rest. find_only t x is ys only.1 rest)
  where
    by : (b : Bool) → t y ≡ b → (b || list_any t ys) ≡ true → (list_any t ys ≡ true → find t ys ≡ Some x) → cond b (Some y) (find t ys) ≡ Some x
    by true passes found rest = ap (λ (z : X). Some z) (only.0 passes)
    by false fails found rest = rest found

-- what is found passes, and is one of them
pub found_in : {X : Type 0} (t : X → Bool) (P : X → Type 0) (xs : List X) → AllByRecursion P xs → (x : X) → find t xs ≡ Some x → (t x ≡ true) × P x
found_in t P [] all x found = cc
found_in {X} t P (y ∷ ys) all x found = by (t y) refl found (λ rest. found_in t P ys all.1 x rest)
  where
    by : (b : Bool) → t y ≡ b → cond b (Some y) (find t ys) ≡ Some x → (find t ys ≡ Some x → (t x ≡ true) × P x) → (t x ≡ true) × P x
    by true passes is rest = let same : y ≡ x = cc in (subst (λ (z : X). t z ≡ true) same passes, subst P same all.0)
    by false fails is rest = rest is

pub same_place : (a b : Area) → is_in a b ≡ true → a ≡ b
same_place area.Embryo area.Embryo is = refl
same_place area.Prepare area.Prepare is = refl
same_place area.Prepared area.Prepared is = refl
same_place area.Run area.Run is = refl
same_place area.ExitedGarbage area.ExitedGarbage is = refl
same_place area.Garbage area.Garbage is = refl
same_place area.Incoming area.Incoming is = refl
same_place area.Images area.Images is = refl
same_place area.Trees area.Trees is = refl
same_place area.Removed area.Removed is = refl
same_place a b is = cc

-- a pod's line among those of two parts is in one of them
pub line_in_part : (place : Area) (pod : PodId) (xs ys : List GcLine) → HasLine place pod (xs ++ ys) → HasLine place pod xs ⊎ HasLine place pod ys
line_in_part place pod [] ys has = inr has
line_in_part place pod (x ∷ xs) ys has = by has.before has.are (λ rest. line_in_part place pod xs ys rest)
  where
    by : (before : List GcLine) → x ∷ (xs ++ ys) ≡ before ++ has.line ∷ has.after → (HasLine place pod (xs ++ ys) → HasLine place pod xs ⊎ HasLine place pod ys) → HasLine place pod (x ∷ xs) ⊎ HasLine place pod ys
    by [] are go = let first : x ≡ has.line = cc in inl (record { before = []; line = has.line; after = xs; are = ap (λ (l : GcLine). l ∷ xs) first; place_is = has.place_is; pod_is = has.pod_is })
    by (z ∷ zs) are go =
        let rest : xs ++ ys ≡ zs ++ has.line ∷ has.after = cc in
        elim (go (record { before = zs; line = has.line; after = has.after; are = rest; place_is = has.place_is; pod_is = has.pod_is })) [
          | inl y ↦ inl (record { before = x ∷ y.before; line = y.line; after = y.after; are = ap (λ (l : List GcLine). x ∷ l) y.are; place_is = y.place_is; pod_is = y.pod_is })
          | inr y ↦ inr y
        ]

-- the line of a pod keeps what each line keeps
pub of_line : (P : GcLine → Type 0) {place : Area} {pod : PodId} {lines : List GcLine} (has : HasLine place pod lines) → AllByRecursion P lines → P has.line
of_line P has all = (all_right P has.before (has.line ∷ has.after) (subst (λ (l : List GcLine). AllByRecursion P l) has.are all)).0

-- the lines of a pass are of its place
pub passed_place : (Can : Type 0) (times : Times) (here : Area) (lines : List GcLine) (me : ℕ) (a b : List Event) → PassedOverPods Can times here lines me a b → AllByRecursion (λ (l : GcLine). l.place ≡ here) lines
passed_place Can times area.Embryo lines me a b (inl g) = all_weaker (λ l. IsLineOfTurn Can times area.Embryo g.tells.names l me g.tells.listed g.done) (λ (l : GcLine). l.place ≡ area.Embryo) (λ l x. x.place_is) lines g.tells.tells.each
passed_place Can times area.Embryo lines me a b (inr w) = subst (λ (l : List GcLine). AllByRecursion (λ (x : GcLine). x.place ≡ area.Embryo) l) (sym w.line_is) (refl, tt)
passed_place Can times here lines me a b t = all_weaker (λ l. IsLineOfTurn Can times here t.names l me t.listed b) (λ (l : GcLine). l.place ≡ here) (λ l x. x.place_is) lines t.tells.each

-- a pod whose name ascends has a line after those before it

abbrev pub subjects : List GcLine → List (List ℕ)
subjects ls = map (λ (l : GcLine). subject_text l.pod l.place) ls

subject_is : (l : GcLine) (n : List ℕ) (p : PodId) → pod_of_text n ≡ Some p → l.pod ≡ Some p → subject_text l.pod l.place ≡ n
subject_is l n p named is = ap (λ (o : Option PodId). subject_text o l.place) is ∙ text_back n p named

all_subjects : (P : List ℕ → Type 0) (ns : List (List ℕ)) (ls : List GcLine) → map (λ (l : GcLine). l.pod) ls ≡ map (λ (p : PodId). Some p) (pods_of ns) → AllByRecursion P ns → AllByRecursion P (subjects ls)
all_subjects P [] [] are all = tt
all_subjects P [] (l ∷ ls) are all = cc
all_subjects P (n ∷ ns) ls are all = by (pod_of_text n) refl ls are (λ rest is. all_subjects P ns rest is all.1)
  where
    by : (o : Option PodId) → pod_of_text n ≡ o → (ls : List GcLine) → map (λ (l : GcLine). l.pod) ls ≡ map (λ (p : PodId). Some p) (and_pod o (pods_of ns))
        → ((rest : List GcLine) → map (λ (l : GcLine). l.pod) rest ≡ map (λ (p : PodId). Some p) (pods_of ns) → AllByRecursion P (subjects rest)) → AllByRecursion P (subjects ls)
    by None named ls are go = go ls are
    by (Some p) named [] are go = cc
    by (Some p) named (l ∷ ls) are go =
        let first : l.pod ≡ Some p = cc in
        let rest : map (λ (x : GcLine). x.pod) ls ≡ map (λ (q : PodId). Some q) (pods_of ns) = cc in
        (subst P (sym (subject_is l n p named first)) all.0, go ls rest)

pub subjects_ascend : (ns : List (List ℕ)) (ls : List GcLine) → map (λ (l : GcLine). l.pod) ls ≡ map (λ (p : PodId). Some p) (pods_of ns) → IsStrictlySortedBy (slice_cmp nat_cmp) ns → IsStrictlySortedBy (slice_cmp nat_cmp) (subjects ls)
unfolding IsStrictlySortedBy
subjects_ascend [] [] are sorted = tt
subjects_ascend [] (l ∷ ls) are sorted = cc
subjects_ascend (n ∷ ns) ls are sorted = by (pod_of_text n) refl ls are (λ rest is. subjects_ascend ns rest is sorted.1)
  where
    by : (o : Option PodId) → pod_of_text n ≡ o → (ls : List GcLine) → map (λ (l : GcLine). l.pod) ls ≡ map (λ (p : PodId). Some p) (and_pod o (pods_of ns))
        → ((rest : List GcLine) → map (λ (l : GcLine). l.pod) rest ≡ map (λ (p : PodId). Some p) (pods_of ns) → IsStrictlySortedBy (slice_cmp nat_cmp) (subjects rest)) → IsStrictlySortedBy (slice_cmp nat_cmp) (subjects ls)
    by None named ls are go = go ls are
    by (Some p) named [] are go = cc
    by (Some p) named (l ∷ ls) are go =
        let first : l.pod ≡ Some p = cc in
        let rest : map (λ (x : GcLine). x.pod) ls ≡ map (λ (q : PodId). Some q) (pods_of ns) = cc in
        let is = subject_is l n p named first in (
          subst (λ (z : List ℕ). AllByRecursion (λ (y : List ℕ). slice_cmp nat_cmp z y ≡ Less) (subjects ls)) (sym is) (all_subjects (λ (y : List ℕ). slice_cmp nat_cmp n y ≡ Less) ns ls rest sorted.0),
          go ls rest,
        )
