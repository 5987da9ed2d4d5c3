-- What the reading of a JSON value comes to: a value, or the first fault.
use Rattle.std.specs.Prelude.{◌≡◌, ℕ, List, Result, Ok, Err}
use Rattle.ac_types.specs.declared.fault.FaultKind.{FaultKind}
use Rattle.ac_types.specs.declared.fault.ReadError.{ReadError}
use Rattle.ac_types.specs.declared.fault.ReadError.TheVariants.{Bad, NoMemory}

-- a value, or the path of a fault and its kind
pub data Outcome (A : Type 0) : Type 0 where
  reads : A → Outcome A
  fails : List ℕ → FaultKind → Outcome A

-- one reading and then another: the first fault of both
infixl 10 ◌>>=◌
abbrev pub ◌>>=◌ : {A B : Type 0} → Outcome A → (A → Outcome B) → Outcome B
reads a >>= next = next a
fails path kind >>= next = fails path kind

infixl 10 ◌>>◌
abbrev pub ◌>>◌ : {A B : Type 0} → Outcome A → Outcome B → Outcome B
reads a >> next = next
fails path kind >> next = fails path kind

-- the error is the fault of this kind at this path, or memory ran out
abbrev pub IsFault : List ℕ → FaultKind → ReadError → Type 0
IsFault path kind (Bad fault) = (fault.path ≡ path) × (fault.kind ≡ kind)
IsFault path kind NoMemory = Unit {0}

-- the error is the fault of the reading, or memory ran out
abbrev pub IsFaultOf : {A : Type 0} → Outcome A → ReadError → Type 0
IsFaultOf outcome (Bad fault) = outcome ≡ fails fault.path fault.kind
IsFaultOf outcome NoMemory = Unit {0}

-- a call answers what the reading comes to: its value, as the call shows it, or its fault
abbrev pub Answers : {A B : Type 0} → (B → A) → Outcome A → Result B ReadError → Type 0
Answers shown outcome (Ok value) = outcome ≡ reads (shown value)
Answers shown outcome (Err error) = IsFaultOf outcome error

-- the same, where the call shows the value as it is
abbrev pub Gives : {A : Type 0} → Outcome A → Result A ReadError → Type 0
Gives outcome result = Answers (λ value. value) outcome result
