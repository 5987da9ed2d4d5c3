-- What a network answered: facts of where it listens, whom it took, and what was received and sent.
use Rattle.std.specs.Prelude.{◌≡◌, ℕ, List, [], ◌∷◌, ◌++◌, Option, Some, None, Result, Ok, Err}

-- a connection is named by its number
pub data LinkFact : Type 0 where
  -- it listens at the address
  listens : List ℕ → LinkFact
  -- the connection was taken
  accepts : ℕ → LinkFact
  -- a read of it, and a write, wait so many seconds at most
  limits_reads : ℕ → ℕ → LinkFact
  limits_writes : ℕ → ℕ → LinkFact
  -- these bytes came from it, and these went to it
  receives : ℕ → List ℕ → LinkFact
  sends : ℕ → List ℕ → LinkFact

-- a success tells one fact more, a failure none
abbrev pub TellsLinkFact : {A E : Type 0} → List LinkFact → (A → LinkFact) → Result A E → List LinkFact → Type 0
TellsLinkFact old fact (Ok value) new = new ≡ old ++ fact value ∷ []
TellsLinkFact old fact (Err error) new = new ≡ old

-- how many seconds a read and a write wait
abbrev pub patience : ℕ
patience = 10

-- the connection was taken, and neither a read nor a write of it waits longer than so many seconds
abbrev pub taken_for : ℕ → ℕ → List LinkFact
taken_for seconds number = accepts number ∷ limits_reads number seconds ∷ limits_writes number seconds ∷ []

-- what is told of a connection, and of none nothing
abbrev pub told_of_connection : Option ℕ → (ℕ → List LinkFact) → List LinkFact
told_of_connection None facts = []
told_of_connection (Some number) facts = facts number
