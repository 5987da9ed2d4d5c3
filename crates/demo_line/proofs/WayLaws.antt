-- The ways of the demo's images: they fall, and are short.
use Rattle.std.proofs.Common.{◌≡◌, ℕ, zero, suc, ◌+◌, ◌-◌, ◌/◌, ◌^◌, ◌<◌, ◌≤◌, List, ◌∷◌, length, refl, sym, ap, arith}
use Rattle.std.specs.List.{AllByRecursion}
use Rattle.demo_line.specs.Ways.{way_within, dependency_way, rendering_size}

-- every image on a way has at most its number
pub way_falls : (n i bound : ℕ) → i < bound → AllByRecursion (λ j. j < bound) (way_within n i)
way_falls zero i bound h = (h, tt)
way_falls (suc n) zero bound h = (h, tt)
way_falls (suc n) (suc i) bound h = (h, way_falls n (i / 2) bound (omega arith))

pub some_way : (n i : ℕ) → 1 ≤ length (way_within n i)
some_way zero i = omega arith
some_way (suc n) zero = omega arith
some_way (suc n) (suc i) = omega arith

-- an image below 2 to the k has at most k steps to go
pub way_short : (k n i : ℕ) → i < 2 ^ k → length (way_within n i) ≤ k + 1
way_short k zero i h = omega arith
way_short k (suc n) zero h = omega arith
way_short zero (suc n) (suc i) h = absurd (omega arith)
way_short (suc k) (suc n) (suc i) h = let more = way_short k n (i / 2) (halved k i h) in omega arith
  where
    halved : (k i : ℕ) → suc i < 2 ^ suc k → i / 2 < 2 ^ k
    halved k i h = omega arith

-- so many steps as the number says are enough
pub enough : (n m i : ℕ) → i ≤ n → i ≤ m → way_within n i ≡ way_within m i
enough zero zero i h k = refl
enough zero (suc m) zero h k = refl
enough (suc n) zero zero h k = refl
enough (suc n) (suc m) zero h k = refl
enough zero (suc m) (suc i) h k = absurd (omega arith)
enough (suc n) zero (suc i) h k = absurd (omega arith)
enough (suc n) (suc m) (suc i) h k = ap (λ (l : List ℕ). suc i ∷ l) (enough n m (i / 2) (omega arith) (omega arith))

-- one step of the way
pub way_down : (i : ℕ) → 0 < i → length (dependency_way i) ≡ length (dependency_way ((i - 1) / 2)) + 1
way_down zero h = absurd (omega arith)
way_down (suc i) h =
    let same : i ≡ suc i - 1 = omega arith in
    let more : way_within i (i / 2) ≡ way_within (i / 2) (i / 2) = enough i (i / 2) (i / 2) (omega arith) (omega arith) in
    let long : length (way_within i (i / 2)) ≡ length (way_within (i / 2) (i / 2)) = ap length more in
    let here : length (dependency_way ((suc i - 1) / 2)) ≡ length (dependency_way (i / 2)) = ap (λ j. length (dependency_way (j / 2))) (sym same) in
    omega arith

-- so few entries each rendering has
pub few_entries : (i : ℕ) → i < 2 ^ 31 → rendering_size i ≤ 33
few_entries i h = let short = way_short 31 i i h in omega arith
