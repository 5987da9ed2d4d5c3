-- Bytes that are written over the front of an array of zeros.
use Rattle.std.specs.Prelude.{◌≡◌, ℕ, List, ◌++◌, length, take, drop}
use Rattle.std.proofs.Common.{sym, ap, subst}
use Rattle.std.proofs.Math.Path.{ap₂}
use Rattle.std.proofs.Math.Seq.{take-append_seam}
use Rattle.std.proofs.lemmas.List.{drop-replicate}
use Rattle.dir_model.specs.Names.{IsZeroPadded, zeros}

-- an array of zeros that bytes were written over
pub filled_front : (size : ℕ) (bs : List ℕ) → take (length bs) (bs ++ drop (length bs) (zeros size)) ≡ bs
filled_front size bs = take-append_seam bs (drop (length bs) (zeros size))

pub filled : (size : ℕ) (bs : List ℕ) → IsZeroPadded size (bs ++ drop (length bs) (zeros size)) (length bs)
filled size bs =
    let front = filled_front size bs in
    (ap length front, ap₂ (λ (f r : List ℕ). f ++ r) (sym front) (drop-replicate (length bs) size 0))

-- so what holds of the bytes holds of the front, and nothing else is in the array
pub filled_room : (K : List ℕ → Type 0) (size : ℕ) (bs room : List ℕ) → room ≡ bs ++ drop (length bs) (zeros size) → K bs
    → IsZeroPadded size room (length bs) × K (take (length bs) room)
filled_room K size bs room is_room holds =
    let P : List ℕ → Type 0 = λ r. IsZeroPadded size r (length bs) × K (take (length bs) r) in
    subst P (sym is_room) (filled size bs, subst K (sym (filled_front size bs)) holds)
