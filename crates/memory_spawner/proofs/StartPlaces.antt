-- The Ok starts among calls.
use Rattle.std.proofs.Common.{◌≡◌, ◌≢◌, ℕ, zero, suc, ◌+◌, ◌<◌, Bool, true, false, cond, Some, None, List, [], ◌∷◌, length, take, filter, refl, ap, ◌∙◌, arith}
use Rattle.std.specs.List.{slice_get}
use Rattle.std.proofs.lemmas.Option.{slice_get_past}
use Rattle.spawner.specs.declared.call.SpawnCall.{SpawnCall}
use Rattle.memory_spawner.specs.SpawnerMemories.{is_start, ok_starts_of, start_at}

same_item : {X : Type 0} (x y : X) → Some y ≡ Some x → y ≡ x
same_item x y e = cc

-- what passes stands behind those that pass before it
pub passes_at : {X : Type 0} (p : X → Bool) (xs : List X) (i : ℕ) (x : X) → slice_get xs i ≡ Some x → p x ≡ true → slice_get (filter p xs) (length (filter p (take i xs))) ≡ Some x
passes_at p [] i x at passes = cc
passes_at p (y ∷ ys) zero x at passes = by (p y) (ap p (same_item x y at) ∙ passes)
  where
    by : (b : Bool) → b ≡ true → slice_get (cond b (y ∷ filter p ys) (filter p ys)) 0 ≡ Some x
    by true h = at
    by false h = cc
passes_at p (y ∷ ys) (suc i) x at passes = by (p y) (passes_at p ys i x at passes)
  where
    by : (b : Bool) → slice_get (filter p ys) (length (filter p (take i ys))) ≡ Some x → slice_get (cond b (y ∷ filter p ys) (filter p ys)) (length (cond b (y ∷ filter p (take i ys)) (filter p (take i ys)))) ≡ Some x
    by true rest = rest
    by false rest = rest

-- the next start is the one after those before it
pub start_here : (calls : List SpawnCall) (i start count : ℕ) (c : SpawnCall) → slice_get calls i ≡ Some c → is_start c ≡ true → count ≡ length (ok_starts_of (take i calls)) → start ≡ count + 1 → start_at calls start ≡ Some c
start_here calls i zero count c at passes counted is = absurd (lacks count is)
  where
    lacks : (n : ℕ) → 0 ≡ n + 1 → ⊥
    lacks n e = omega (arith, e)
start_here calls i (suc before) count c at passes counted is =
    let same : before ≡ length (ok_starts_of (take i calls)) = omega (arith, is, counted) in
    ap (slice_get (ok_starts_of calls)) same ∙ passes_at is_start calls i c at passes

-- there are no more
pub start_past : (calls : List SpawnCall) (start : ℕ) → (start ≢ 0 → length (ok_starts_of calls) < start) → start_at calls start ≡ None
start_past calls zero few = refl
start_past calls (suc before) few = slice_get_past (ok_starts_of calls) before (omega (arith, few (λ e. cc)))
