-- What a check of a file's bytes has taken.
use Rattle.std.specs.Prelude.{◌≡◌, ℕ, ◌+◌, ◌-◌, ◌<◌, nat_le, List, length, Option, None, Some, MatchOption, if◌then◌else◌}
use Rattle.sha2.specs.Hashers.{Holds512}
use Rattle.tree_digest.specs.declared.file_check.FileCheck.{FileCheck}

-- how much is left after n more, or none where it was less
abbrev pub less_by : Option ℕ → ℕ → Option ℕ
less_by None n = None
less_by (Some left) n = if nat_le n left then Some (left - n) else None

-- the check is for this size and SHA-512, and has taken these bytes
pub record HasTaken (check : FileCheck) (size : ℕ) (sha message : List ℕ) : Type 0 where
  pub wanted : check.sha ≡ sha
  pub hashed : Holds512 check.hasher message
  pub left : MatchOption check.left (size < length message) (λ left. left + length message ≡ size)
