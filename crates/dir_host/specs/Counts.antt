-- How failures are counted.
use Rattle.std.specs.Prelude.{◌≡◌, ◌≢◌, ℕ, ◌+◌, ◌-◌, ◌^◌, min, Result, Ok, Err}

-- the count rose by one, up to the greatest number of a u64, where the refusal is one of these, and else it stayed
pub record CountsRefusal {E : Type 0} (counted refusal : E) (old new : ℕ) : Type 0 where
  pub once : refusal ≡ counted → new ≡ min (old + 1) (2 ^ 64 - 1)
  pub calm : refusal ≢ counted → new ≡ old

-- an answer that is no refusal leaves the count
abbrev pub Counts : {T E : Type 0} → E → Result T E → ℕ → ℕ → Type 0
Counts counted (Ok value) old new = new ≡ old
Counts counted (Err refusal) old new = CountsRefusal counted refusal old new
