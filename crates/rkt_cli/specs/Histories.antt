-- What a run is in the history of the directory, whatever the command is.
use Rattle.std.specs.Prelude.{◌≡◌, ◌≢◌, ℕ, List, Some}
use Rattle.dir_model.specs.declared.event.Event.{Event}
use Rattle.dir_model.specs.declared.intent.Draw.{Draw}
use Rattle.dir_model.specs.declared.intent.Intent.{Intent}
use Rattle.dir_model.specs.Calls.{IsRun}
use Rattle.dir_model.specs.Pods.{pod_text}
use Rattle.dir_model.specs.Quiet.{Quiet}
use Rattle.dir_rules.specs.Standing.{standing_of}
use Rattle.dir_trait.specs.DirCalls.{DirAt}
use Rattle.dir_trait.specs.Knowledge.{Knows}
use Rattle.pod_build.specs.FaithfulBuild.{HandsOverFaithfully}
use Rattle.lifecycle.specs.Executions.{IsConforming}
use Rattle.command_outcomes.specs.Conforming.{seen_at_begin}
use Rattle.rkt_cli.specs.Tasks.{Task}
use Rattle.rkt_cli.specs.Commands.{intent_of}

-- in every run: whatever pod the process handed over meanwhile, to prepared or to run, it had made faithfully
abbrev pub HandsOverFaithfulPods : DirAt → DirAt → Type 0
HandsOverFaithfulPods old new = IsRun new.trace → HandsOverFaithfully old.process old.trace new.trace

-- it is so where the process has just begun with the intent of its task
abbrev pub WhereKnown : Task → ℕ → Draw → DirAt → Type 0 → Type 0
WhereKnown task now draw old P = (intent : Intent) → intent_of task now draw ≡ Some intent → Knows old (seen_at_begin intent) → P

-- no process before had this draw: neither its identity nor its token
pub record IsNewDraw (draw : Draw) (trace : List Event) : Type 0 where
  pub identity : (p : ℕ) (intent : Intent) → (standing_of p trace).intent ≡ Some intent → pod_text intent.draw.bytes ≢ pod_text draw.uuid.bytes
  pub token : (p : ℕ) (intent : Intent) → (standing_of p trace).intent ≡ Some intent → intent.token ≢ draw.token

-- where nobody else steps and the draw is new, an execution in which every process kept the local rules stays one
abbrev pub StaysLawful : Draw → DirAt → DirAt → Type 0
StaysLawful draw old new = Quiet old.process old.trace new.trace → IsConforming old.trace → IsNewDraw draw old.trace → IsConforming new.trace
