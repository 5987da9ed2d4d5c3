-- A child that is written back to its place.
use Rattle.std.proofs.Common.{◌≡◌, ◌≢◌, ℕ, zero, suc, ◌<◌, List, [], ◌∷◌, length, Some, slice_set, refl, arith}
use Rattle.std.specs.List.{slice_get}

-- it stands there
pub there : {C : Type 0} (xs : List C) (i : ℕ) (x : C) → i < length xs → slice_get (slice_set xs i x) i ≡ Some x
there [] i x within = absurd (omega arith)
there (y ∷ ys) zero x within = refl
there (y ∷ ys) (suc i) x within = there ys i x (omega arith)

-- the others stand where they stood
pub elsewhere : {C : Type 0} (xs : List C) (at : ℕ) (x : C) (i : ℕ) → i ≢ at → slice_get (slice_set xs at x) i ≡ slice_get xs i
elsewhere [] at x i other = refl
elsewhere (y ∷ ys) zero x zero other = absurd (other refl)
elsewhere (y ∷ ys) zero x (suc i) other = refl
elsewhere (y ∷ ys) (suc at) x zero other = refl
elsewhere (y ∷ ys) (suc at) x (suc i) other = elsewhere ys at x i (λ same. other (let next : suc i ≡ suc at = cc in next))
