-- The first step that is due, and the rest of a schedule.
use Rattle.std.proofs.Common.{◌≡◌, ℕ, suc, ◌+◌, Bool, true, false, not, ◌||◌, cond, List, [], ◌∷◌, ◌++◌, filter, remove, Some, slice_get, arith, refl, sym, ap, subst, ◌∙◌}
use Rattle.std.specs.List.{list_any, position_or_len}
use Rattle.dir_model.specs.declared.event.Event.{Event}
use Rattle.dir_model.specs.Trace.{state_after}
use Rattle.dir_memory.specs.declared.planned.Planned.{Planned}
use Rattle.dir_memory.specs.Schedules.{is_due, due, with_steps, step_events}
use Rattle.dir_memory.specs.Interludes.{TakesFirst}

-- a list without the first item that passes
pub record Parted {X : Type 0} (p : X → Bool) (xs rest : List X) (x : X) : Type 0 where
  pub passing : filter p xs ≡ x ∷ filter p rest
  pub others : filter (λ y. not (p y)) rest ≡ filter (λ y. not (p y)) xs

remove_next : {X : Type 0} (x : X) (xs : List X) (k : ℕ) → remove (x ∷ xs) (1 + k) ≡ x ∷ remove xs k
remove_next x xs k = let e : 1 + k ≡ suc k = omega arith in rw e refl

get_next : {X : Type 0} (x : X) (xs : List X) (k : ℕ) → slice_get (x ∷ xs) (1 + k) ≡ slice_get xs k
get_next x xs k = let e : 1 + k ≡ suc k = omega arith in rw e refl

pub first_parted : {X : Type 0} (p : X → Bool) (xs : List X) (x : X) → list_any p xs ≡ true → slice_get xs (position_or_len p xs) ≡ Some x → Parted p xs (remove xs (position_or_len p xs)) x
first_parted {X = X} p [] x any at = cc
first_parted {X = X} p (y ∷ ys) x any at = by (p y) refl any at (λ later there. first_parted p ys x later there)
  where
    by : (b : Bool) → p y ≡ b → (b || list_any p ys) ≡ true → slice_get (y ∷ ys) (cond (not b) (1 + position_or_len p ys) 0) ≡ Some x → (list_any p ys ≡ true → slice_get ys (position_or_len p ys) ≡ Some x → Parted p ys (remove ys (position_or_len p ys)) x) → Parted p (y ∷ ys) (remove (y ∷ ys) (cond (not b) (1 + position_or_len p ys) 0)) x
    by true is any at more =
        let same : y ≡ x = cc in
        record { passing = rw (is, same) refl; others = rw is refl }
    by false is any at more =
        let rest = more any (sym (get_next y ys (position_or_len p ys)) ∙ at) in
        subst (λ (l : List X). Parted p (y ∷ ys) l x) (sym (remove_next y ys (position_or_len p ys)))
        (record { passing = rw is rest.passing; others = rw is (ap (λ l. y ∷ l) rest.others) })

-- the first step that was due came
pub takes_first : (me number : ℕ) (listing : Bool) (old new : List Event) (steps rest : List Planned) (first : Planned) → list_any (is_due number listing) steps ≡ true → slice_get steps (position_or_len (is_due number listing) steps) ≡ Some first → rest ≡ remove steps (position_or_len (is_due number listing) steps) → new ≡ old ++ step_events me (state_after old) first → TakesFirst me number listing old steps new rest
takes_first me number listing old new steps rest first any at is came =
    let parted = subst (λ (l : List Planned). Parted (is_due number listing) steps l first) (sym is) (first_parted (is_due number listing) steps first any at) in
    record { first = first; parted = parted.passing; later = parted.others; came = came }

-- a step that was taken leaves what is due
pub due_same : (me number : ℕ) (listing : Bool) (old new : List Event) (steps rest : List Planned) → TakesFirst me number listing old steps new rest → with_steps me new (due number listing rest) ≡ with_steps me old (due number listing steps)
due_same me number listing old new steps rest t = rw (t.parted, t.came) refl

-- where nothing is due
pub none_due : {X : Type 0} (p : X → Bool) (xs : List X) → list_any p xs ≡ false → filter p xs ≡ []
none_due p [] none = refl
none_due p (x ∷ xs) none = by (p x) none (λ rest. none_due p xs rest)
  where
    by : (b : Bool) → (b || list_any p xs) ≡ false → (list_any p xs ≡ false → filter p xs ≡ []) → cond b (x ∷ filter p xs) (filter p xs) ≡ []
    by true none rest = cc
    by false none rest = rest none
