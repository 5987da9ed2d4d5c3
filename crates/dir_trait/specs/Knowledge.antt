-- What a process knows by its own answers, beside what its directory shows at a moment.
use Rattle.std.specs.Prelude.{◌≡◌, Bool, List}
use Rattle.std.specs.List.{list_any}
use Rattle.dir_model.specs.declared.opening.Holding.{Holding}
use Rattle.dir_rules.specs.declared.standing.Held.{Held}
use Rattle.dir_rules.specs.declared.seen.Seen.{Seen}
use Rattle.dir_rules.specs.Conforms.{Looked, IsTied}
use Rattle.dir_trait.specs.DirCalls.{DirAt}

-- an open handle without what the rules ask of it
abbrev pub holding_of_held : Held → Holding
holding_of_held h = record { handle = h.handle; target = h.target; lock = h.lock }

-- no test of handles tells the one list from the other
abbrev pub SameHandles : List Held → List Holding → Type 0
SameHandles held holdings = (test : Holding → Bool) → list_any (λ h. test (holding_of_held h)) held ≡ list_any test holdings

-- this is what a process knows: while it lives its events say so, but for requests that left none, and it has these handles
-- open by its own answers
pub record Knows (d : DirAt) (s : Seen) : Type 0 where
  pub tied : IsTied d.process d.trace s
  pub handles : SameHandles s.standing.holdings d.local.holdings

-- what a process knew before, and what it looked at since
pub record LookedInto (s : Seen) (new : DirAt) : Type 0 where
  pub known : Seen
  pub looked : Looked s known
  pub knows : Knows new known

-- whatever a process knew, it knows that and what it looked at
abbrev pub OnlyLooks : DirAt → DirAt → Type 0
OnlyLooks old new = (s : Seen) → Knows old s → LookedInto s new
