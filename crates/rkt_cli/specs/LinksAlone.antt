-- What the metadata service does with the listener where nobody else steps.
use Rattle.std.specs.Prelude.{◌≡◌, ◌⊎◌, ◌≤◌, ℕ, List, Option, Some, Ok}
use Rattle.dir_model.specs.declared.intent.Draw.{Draw}
use Rattle.dir_model.specs.Quiet.{Quiet}
use Rattle.dir_model.specs.State.{DirState}
use Rattle.dir_model.specs.Trace.{state_after}
use Rattle.dir_trait.specs.DirCalls.{DirAt}
use Rattle.lifecycle.specs.Executions.{IsConforming}
use Rattle.listener.specs.Connections.{ListenerAt, Binds}
use Rattle.metadata.specs.Service.{Served, EndsWith, ListenerRefuses}
use Rattle.running_views.specs.Replies.{ServesIn}
use Rattle.rkt_cli.specs.declared.line.Line.{Line}
use Rattle.rkt_cli.specs.declared.line.Line.TheVariants.{Metadata}
use Rattle.rkt_cli.specs.Links.{service_status}

-- it listened at the address, and each of so many connections, or of fewer, got what it is owed by this one state
pub record ListensAndServesIn (s : DirState) (key address : List ℕ) (count : ℕ) (served : Served) (old new : ListenerAt) : Type 0 where
  pub bound : ListenerAt
  pub binds : Binds old address (Ok tt) bound
  pub kept : old.faults ≤ bound.faults
  pub results : List Served
  pub last : ListenerAt
  pub these : ServesIn s key results bound last
  pub ends : EndsWith count results served last new

-- or the address was refused
abbrev pub ServesAtIn : DirState → List ℕ → List ℕ → ℕ → Served → ListenerAt → ListenerAt → Type 0
ServesAtIn s key address count served old new = ListensAndServesIn s key address count served old new ⊎ ListenerRefuses served old new

-- so of a run of the service, by its words and its status; or it didn't begin, for want of memory
abbrev pub LinksByState : Option Line → Draw → ℕ → ListenerAt → ListenerAt → DirState → Type 0
LinksByState (Some (Metadata address count)) draw status old new s =
    ((served : Served) × (status ≡ service_status served) × ServesAtIn s draw.key address count served old new) ⊎ ((status ≡ 14) × (new ≡ old))
LinksByState line draw status old new s = new ≡ old

-- where nobody else steps and every process keeps the local rules it is so by the state before
abbrev pub LinksAlone : Option Line → Draw → ℕ → ListenerAt → ListenerAt → DirAt → DirAt → Type 0
LinksAlone line draw status old new from upto =
    Quiet from.process from.trace upto.trace → IsConforming upto.trace → LinksByState line draw status old new (state_after from.trace)
