-- Executions in which every process keeps the local rules.
use Rattle.std.specs.Prelude.{◌≡◌, ℕ, Some, List}
use Rattle.dir_model.specs.declared.intent.Intent.{Intent}
use Rattle.dir_model.specs.declared.event.Event.{Event}
use Rattle.dir_model.specs.Pods.{pod_text}
use Rattle.dir_model.specs.Calls.{IsRun}
use Rattle.dir_rules.specs.Standing.{standing_of}
use Rattle.dir_rules.specs.Conforms.{Conforms}

-- no two processes that began drew the same
abbrev pub IsDrawnOnce : (Intent → List ℕ) → List Event → Type 0
IsDrawnOnce drawn trace =
    (p q : ℕ) (a b : Intent) → (standing_of p trace).intent ≡ Some a → (standing_of q trace).intent ≡ Some b →
    drawn a ≡ drawn b → p ≡ q

-- a run in which every process keeps the local rules, and no identity and no token was drawn twice
pub record IsConforming (trace : List Event) : Type 0 where
  pub run : IsRun trace
  pub rules : (p : ℕ) → Conforms p trace
  pub identities : IsDrawnOnce (λ i. pod_text i.draw.bytes) trace
  pub tokens : IsDrawnOnce (λ i. i.token) trace
