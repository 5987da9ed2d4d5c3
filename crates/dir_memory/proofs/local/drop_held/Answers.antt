use Rattle.std.proofs.Common.{◌≡◌, ◌+◌, ◌≤◌, Bool, true, false, not, ◌||◌, cond, List, [], ◌∷◌, length, filter, subst, sym, ◌∙◌, rules, arith}
use Rattle.std.specs.List.{list_any}
use Rattle.std.proofs.lemmas.Fn.{filter_same}
use Rattle.dir_model.specs.declared.opening.Holding.{Holding}
use Rattle.dir_model.specs.Local.{is_handle_of}
use Rattle.dir_memory.proofs.local.drop_held.Goals as goal

least : {X : Type 0} (p : X → Bool) (xs : List X) → length (filter (λ x. not (p x)) xs) ≤ length xs
least p [] = omega arith
least p (x ∷ xs) = by (p x) (least p xs)
  where
    by : (b : Bool) → length (filter (λ y. not (p y)) xs) ≤ length xs → length (cond (not b) (x ∷ filter (λ y. not (p y)) xs) (filter (λ y. not (p y)) xs)) ≤ length (x ∷ xs)
    by true rest = omega (arith, rest)
    by false rest = omega (arith, rest)

fewer : {X : Type 0} (p : X → Bool) (xs : List X) → list_any p xs ≡ true → length (filter (λ x. not (p x)) xs) + 1 ≤ length xs
fewer p [] any = cc
fewer p (x ∷ xs) any = by (p x) any (least p xs) (λ more. fewer p xs more)
  where
    by : (b : Bool) → (b || list_any p xs) ≡ true → length (filter (λ y. not (p y)) xs) ≤ length xs → (list_any p xs ≡ true → length (filter (λ y. not (p y)) xs) + 1 ≤ length xs) → length (cond (not b) (x ∷ filter (λ y. not (p y)) xs) (filter (λ y. not (p y)) xs)) + 1 ≤ length (x ∷ xs)
    by true any most rest = omega (arith, most)
    by false any most rest = omega (arith, rest any)

items : goal.returns-clause-items
items c = filter_same _ _ _ (λ x b f' k. search rules) _ _ c.retain.ensures.filtered

pub returns-clause-items : goal.returns-clause-items
returns-clause-items c = items c

pub returns-clause-open : goal.returns-clause-open
returns-clause-open c any =
    let before : c.as_slice-before.result.now ≡ c.args.held.now.items = c.as_slice-before.ensures.value in
    let after : c.as_slice-after.result.now ≡ filter (λ h. not (is_handle_of c.args.handle h)) c.args.held.now.items = c.as_slice-after.ensures.value ∙ items c in
    let less = fewer (is_handle_of c.args.handle) c.args.held.now.items any in
    let fact : length c.as_slice-after.result.now + 1 ≤ length c.as_slice-before.result.now = subst (λ (l : List Holding). length l + 1 ≤ length c.as_slice-before.result.now) (sym after) (subst (λ (l : List Holding). length (filter (λ h. not (is_handle_of c.args.handle h)) c.args.held.now.items) + 1 ≤ length l) (sym before) less) in
    omega (arith, c.as_slice-before.ensures.len, c.as_slice-after.ensures.len, fact)
