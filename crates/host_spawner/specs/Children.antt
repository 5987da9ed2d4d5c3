-- The programs that were started, and how they ended.
use Rattle.std.specs.Prelude.{◌≡◌, ◌≢◌, ℕ, ◌==◌, ◌/◌, ◌%◌, if◌then◌else◌, Some, List, [], ◌∷◌, ◌++◌, length}
use Rattle.std.specs.List.{slice_get}
use Rattle.std.specs.Process.{status_bits, child_status}
use Rattle.std.specs.declared.process.child.Child.{Child}
use Rattle.std.specs.declared.process.status.ExitStatus.{ExitStatus}

-- 255 where it ended without a code
abbrev pub code_of : ExitStatus → ℕ
code_of status = if status_bits status % 128 == 0 then status_bits status / 256 % 256 else 255

-- one child more, behind all others, whose number is its place
pub record IsAdded {C : Type 0} (old : List C) (number : ℕ) (new : List C) : Type 0 where
  pub place : number ≡ length old
  pub child : C
  pub behind : new ≡ old ++ child ∷ []

-- the child with this number was waited for, and ended with this code
pub record ChildHasEnded {P I O E : Type 0} (children : List (Child P I O E)) (number code : ℕ) : Type 0 where
  pub child : Child P I O E
  pub at : slice_get children number ≡ Some child
  pub status : ExitStatus
  pub ended : child_status child ≡ Some status
  pub tells : code ≡ code_of status

-- the other children are as before
abbrev pub AreOthersSame : {C : Type 0} → ℕ → List C → List C → Type 0
AreOthersSame number old new = (i : ℕ) → i ≢ number → slice_get new i ≡ slice_get old i
