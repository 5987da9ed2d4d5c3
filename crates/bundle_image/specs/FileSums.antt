-- The size and the SHA-512 of a file.
use Rattle.std.specs.Prelude.{◌≡◌, ℕ, ◌<◌, ◌≤◌, Bool, true, List, ◌++◌, length, Option, Some, None, IsSomeAnd}
use Rattle.sha2.specs.Hashers.{Holds512}
use Rattle.sha2.specs.Sha512.{sha512}
use Rattle.tree_digest.specs.declared.refusals.TheConstants.{MAX_FILE}
use Rattle.bundle_image.specs.Fronts.{IsFrontOrNothing, IsFront}
use Rattle.bundle_image.specs.declared.file_sum.FileSum.{FileSum}
use Rattle.bundle_image.specs.declared.file_sum.Hashing.{Hashing}

-- the sum of these bytes; none where they are more than 1 GiB
abbrev pub IsSumOf : List ℕ → Option FileSum → Type 0
IsSumOf bytes None = MAX_FILE < length bytes
IsSumOf bytes (Some sum) = (length bytes ≤ MAX_FILE) × (sum.size ≡ length bytes) × (sum.sha ≡ sha512 bytes)

-- these bytes were taken
pub record HashingHasTaken (hashing : Hashing) (message : List ℕ) : Type 0 where
  pub hashed : Holds512 hashing.hasher message
  pub size : hashing.size ≡ length message

-- more bytes were taken: where the file is observed, what follows in it
pub record TakesBytes (observed : Bool) (file : Option (List ℕ)) (before : List ℕ) (ended : Bool) (hashing : Hashing) : Type 0 where
  pub more : List ℕ
  pub taken : HashingHasTaken hashing (before ++ more)
  pub front : observed ≡ true → IsFrontOrNothing file before → IsSomeAnd file (IsFront ended (before ++ more))
