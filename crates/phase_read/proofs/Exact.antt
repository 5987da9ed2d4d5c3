-- In an execution in which every process keeps the local rules, what was read was so at one own event.
use Rattle.std.proofs.Common.{◌≡◌, ◌≤◌, ℕ, true, is_some, List, [], ◌∷◌, ◌++◌, sym, ap, subst, ◌∙◌, append_assoc, arith}
use Rattle.std.proofs.lemmas.Bool.Decides.{nat_tests}
use Rattle.dir_model.specs.declared.area.Area.{Area}
use Rattle.dir_model.specs.declared.area.Phase.{Phase}
use Rattle.dir_model.specs.declared.event.Event.{Event}
use Rattle.dir_model.specs.declared.pod.PodId.{PodId}
use Rattle.dir_model.specs.Areas.{rank, is_stage}
use Rattle.dir_model.specs.Pods.{pod_text}
use Rattle.dir_model.specs.State.{DirState}
use Rattle.dir_model.specs.Calls.{AtOwnStep}
use Rattle.lifecycle.specs.Executions.{IsConforming}
use Rattle.lifecycle.proofs.Draws.{conforming_left}
use Rattle.lifecycle.proofs.Stays.{owned_phase}
use Rattle.lifecycle.proofs.Looking.{misses_tell_gone}
use Rattle.dir_model.specs.Spots.{pod_spot}
use Rattle.phase_read.specs.Read.{HasPhase, LeftOut, stages}
use Rattle.phase_read.specs.declared.found.Found.{Found}
use Rattle.phase_read.specs.declared.found.Found.TheVariants.{At, Gone}
use Rattle.phase_read.specs.Exact.{AtOwnEvent, IsInPhase, IsNowhere, WasAsFound}

-- the trace that ends with the moment's event
abbrev moment : {me : ℕ} {old new : List Event} {P : DirState → Type 0} → AtOwnStep me old new P → List Event
moment at = at.before ++ at.step ∷ []

at_event : {me : ℕ} {old new : List Event} {P : DirState → Type 0} (Q : List Event → Type 0) (at : AtOwnStep me old new P) → Q (moment at) → AtOwnEvent me old new Q
at_event Q at holds = record { before = at.before; step = at.step; later = at.later; rest = at.rest; begins = at.begins; ends = at.ends; own = at.own; holds = holds }

-- an event of a part is one of the whole
pub event_within : {me : ℕ} {a b c d : List Event} {P : List Event → Type 0} (more rest : List Event) → b ≡ a ++ more → d ≡ c ++ rest → AtOwnEvent me b c P → AtOwnEvent me a d P
event_within {me} {a} {b} {c} {d} {P} more rest ab cd at = record {
  before = at.before;
  step = at.step;
  later = more ++ at.later;
  rest = at.rest ++ rest;
  begins = at.begins ∙ ap (λ h. h ++ at.later) ab ∙ append_assoc a more at.later;
  ends = cd ∙ ap (λ h. h ++ rest) at.ends ∙ append_assoc (at.before ++ at.step ∷ []) at.rest rest;
  own = at.own;
  holds = at.holds;
}

conforms_at : {me : ℕ} {old new : List Event} {P : DirState → Type 0} (at : AtOwnStep me old new P) → IsConforming new → IsConforming (moment at)
conforms_at at conforming = conforming_left (moment at) at.rest (subst IsConforming at.ends conforming)

pub stage_of : (area : Area) → rank area ≤ 5 → is_stage area ≡ true
stage_of area within = grind (arith, nat_tests)

pub found_exactly : (pod : PodId) (phase : Phase) (area : Area) {me : ℕ} {old new : List Event} → rank area ≤ 5 → IsConforming new → AtOwnStep me old new (HasPhase (pod_spot pod area) phase) → AtOwnEvent me old new (IsInPhase pod phase area)
found_exactly pod phase area within conforming at =
    at_event (IsInPhase pod phase area) at (record {
      there = ap is_some at.holds.here.there;
      is = sym (owned_phase (moment at) (pod_spot pod area) at.holds.owned (conforms_at at conforming) (stage_of area within) at.holds.here) ∙ at.holds.is;
    })

-- missed in all six areas, one after the other
pub gone_exactly : (pod : PodId) (me : ℕ) (old new : List Event) → IsConforming new → LeftOut me old new pod stages → AtOwnEvent me old new (IsNowhere pod)
gone_exactly pod me old new conforming missed =
    let was = misses_tell_gone new conforming me old (pod_text pod.bytes) missed in
    record { before = was.before; step = was.step; later = was.later; rest = was.rest; begins = was.begins; ends = was.ends; own = was.own; holds = was.is }

-- what was so at an own event of a part was so at one of the whole
pub was_within : (me : ℕ) (a b c d : List Event) (pod : PodId) (found : Found) (more rest : List Event) → b ≡ a ++ more → d ≡ c ++ rest → WasAsFound me b c pod found → WasAsFound me a d pod found
was_within me a b c d pod (At phase area) more rest ab cd so = event_within more rest ab cd so
was_within me a b c d pod Gone more rest ab cd so = event_within more rest ab cd so
