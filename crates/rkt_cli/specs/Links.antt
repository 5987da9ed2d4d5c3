-- What a run does with the listener: `metadata-service` serves its connections, and no other command asks anything of it.
use Rattle.std.specs.Prelude.{◌≡◌, ◌⊎◌, ℕ, true, List, [], Option, Some, None, Ok, Err}
use Rattle.dir_model.specs.declared.intent.Draw.{Draw}
use Rattle.dir_model.specs.declared.intent.Kind.TheVariants as kind
use Rattle.dir_model.specs.declared.request.Request.TheVariants.{Begin, Finish}
use Rattle.dir_model.specs.declared.request.Reply.TheVariants.{Done}
use Rattle.dir_model.specs.Calls.{CallStep}
use Rattle.dir_trait.specs.DirCalls.{DirAt}
use Rattle.listener.specs.Connections.{ListenerAt}
use Rattle.metadata.specs.Service.{Served, ServesAt}
use Rattle.command_outcomes.specs.declared.refusal.Refusal.TheVariants.{NoMemory}
use Rattle.command_outcomes.specs.Texts.{exit_status_of}
use Rattle.command_outcomes.specs.Moments.{Answer}
use Rattle.commands.specs.Command.{intent_for}
use Rattle.commands.specs.MetadataService.{service_refusal}
use Rattle.rkt_cli.specs.declared.line.Line.{Line}
use Rattle.rkt_cli.specs.declared.line.Line.TheVariants.{Metadata}

-- what the service answers, and its exit status
abbrev pub service_answer : Served → Answer
service_answer (Ok done) = Ok (record { text = []; well = true })
service_answer (Err error) = Err (service_refusal error)

abbrev pub service_status : Served → ℕ
service_status (Ok done) = 0
service_status (Err error) = exit_status_of (service_refusal error)

-- what a command does between the begin and the finish of its process, with its answer
abbrev pub LinksBetween : Line → Draw → Answer → ListenerAt → ListenerAt → DirAt → DirAt → Type 0
LinksBetween (Metadata address count) draw answer old new from upto = (served : Served) × (answer ≡ service_answer served) × ServesAt draw.key address count served old new from upto
LinksBetween line draw answer old new from upto = new ≡ old

-- a process began, listened at the address and served so many connections with the key that was drawn for it, or fewer, and finished
pub record ServesInProcess (address : List ℕ) (count now : ℕ) (draw : Draw) (served : Served) (old new : ListenerAt) (from upto : DirAt) : Type 0 where
  pub begun : DirAt
  pub ended : DirAt
  pub me : begun.process ≡ from.process
  pub begins : CallStep from.process from.trace (Begin (intent_for kind.Metadata [] now draw)) Done begun.trace
  pub serves : ServesAt draw.key address count served old new begun ended
  pub finishes : CallStep from.process ended.trace Finish Done upto.trace

-- what the whole process does, with its answer; one that couldn't begin, for want of memory, asked nothing of the listener
abbrev pub LinksOf : Line → ℕ → Draw → Answer → ListenerAt → ListenerAt → DirAt → DirAt → Type 0
LinksOf (Metadata address count) now draw answer old new from upto =
    ((served : Served) × (answer ≡ service_answer served) × ServesInProcess address count now draw served old new from upto) ⊎ ((answer ≡ Err NoMemory) × (new ≡ old))
LinksOf line now draw answer old new from upto = new ≡ old

-- the same of a run, with its status
abbrev pub LinksIn : Option Line → ℕ → Draw → ℕ → ListenerAt → ListenerAt → DirAt → DirAt → Type 0
LinksIn None now draw status old new from upto = new ≡ old
LinksIn (Some (Metadata address count)) now draw status old new from upto =
    ((served : Served) × (status ≡ service_status served) × ServesInProcess address count now draw served old new from upto) ⊎ ((status ≡ 14) × (new ≡ old))
LinksIn (Some line) now draw status old new from upto = new ≡ old
