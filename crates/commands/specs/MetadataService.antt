-- The command `metadata-service`.
use Rattle.std.specs.Prelude.{◌≡◌, ℕ, Bool, true, List, [], Ok, Err, IfOk}
use Rattle.dir_trait.specs.DirCalls.{DirAt}
use Rattle.listener.specs.Connections.{ListenerAt}
use Rattle.metadata.specs.declared.error.MetaError.{MetaError}
use Rattle.metadata.specs.declared.error.MetaError.TheVariants as service
use Rattle.metadata.specs.Service.{Served, ServesAt}
use Rattle.command_outcomes.specs.declared.refusal.Refusal.{Refusal}
use Rattle.command_outcomes.specs.declared.refusal.Refusal.TheVariants.{DirFault, LinkFault, NoMemory}
use Rattle.command_outcomes.specs.Ends.{is_common}
use Rattle.command_outcomes.specs.Moments.{CommandOutcome}

-- the refusals that it may have
abbrev pub service_refusals : Refusal → Bool
service_refusals LinkFault = true
service_refusals refusal = is_common refusal

-- what is said of the fault that ended the service, or of the first of a connection
abbrev pub service_refusal : MetaError → Refusal
service_refusal service.LinkFault = LinkFault
service_refusal service.DirFault = DirFault
service_refusal service.NoMemory = NoMemory

-- it prints nothing
abbrev pub service_outcome : Served → CommandOutcome
service_outcome (Ok done) = Ok []
service_outcome (Err error) = Err (service_refusal error)

abbrev pub PrintsNothing : CommandOutcome → Type 0
PrintsNothing o = IfOk o (λ text. text ≡ [])

-- it listened at the address and served so many connections, or fewer, and this is what came of it
abbrev pub ServesAs : List ℕ → List ℕ → ℕ → CommandOutcome → ListenerAt → ListenerAt → DirAt → DirAt → Type 0
ServesAs key address count o old new from upto = (served : Served) × (o ≡ service_outcome served) × ServesAt key address count served old new from upto
