-- What was seen of a status at one place, call by call.
use Rattle.std.proofs.Common.{◌≡◌, Bool, true, false, ℕ, Option, None, List, sym, subst, ◌∙◌}
use Rattle.dir_model.specs.declared.area.Area.{Area}
use Rattle.dir_model.specs.declared.area.Phase.{Phase}
use Rattle.dir_model.specs.declared.pod.PodId.{PodId}
use Rattle.dir_model.specs.declared.request.Request.{Request}
use Rattle.dir_model.specs.Calls.{AtOwnStep}
use Rattle.dir_model.specs.State.{stands}
use Rattle.dir_model.proofs.Moments.{at_after}
use Rattle.dir_trait.specs.DirCalls.{DirAt, HeldBetween}
use Rattle.dir_model.specs.Spots.{pod_spot}
use Rattle.pod_report.specs.declared.ends.AppEndText.{AppEndText}
use Rattle.pod_report.specs.Inspections.{TellsMarks, TellsEnds, SeesStatus, SeesAt}
use Rattle.pod_report.specs.Requests.{OnlyAsksFor}
use Rattle.pod_report.proofs.Asking.{asks_more}

module _ {observed : Bool} {asks : Request → Bool} (pod : PodId) (area : Area) (old a b new : DirAt) (t : observed ≡ true) (first : OnlyAsksFor observed asks old a) (then : OnlyAsksFor observed asks a b) (last : OnlyAsksFor observed asks b new) where
  pub status_seen : (phase : Phase) (created : Option ℕ) (ends told : List AppEndText) (here : Bool) → told ≡ ends → here ≡ true → TellsMarks pod area created old.process old.trace a.trace → TellsEnds pod area ends a.process a.trace b.trace → HeldBetween b new (λ s. stands s.namespace (pod_spot pod area) ≡ here)
      → SeesStatus pod area (record { phase = phase; created = created; ends = told }) old.process old.trace new.trace
  status_seen phase created ends told here same yes_there marks end at =
      let rest = (asks_more then last).extends t in
      let there = subst (λ (h : Bool). HeldBetween b new (λ s. stands s.namespace (pod_spot pod area) ≡ h)) yes_there at in
      record {
        marked = a.trace;
        ended = b.trace;
        after_marks = record { first = (first.extends t).more; last = rest.more; begins = (first.extends t).grown; ends = rest.grown };
        after_ends = record { first = (then.extends t).more; last = (last.extends t).more; begins = (then.extends t).grown; ends = (last.extends t).grown };
        marks = marks;
        ends = subst (λ (l : List AppEndText). TellsEnds pod area l old.process a.trace b.trace) (sym same) (subst (λ (me : ℕ). TellsEnds pod area ends me a.trace b.trace) first.same end);
        there = subst (λ (me : ℕ). AtOwnStep me b.trace new.trace (λ s. stands s.namespace (pod_spot pod area) ≡ true)) (then.same ∙ first.same) there;
      }

  pub moved_seen : (phase : Phase) (here : Bool) → here ≡ false → HeldBetween b new (λ s. stands s.namespace (pod_spot pod area) ≡ here) → SeesAt pod area phase None old.process old.trace new.trace
  moved_seen phase here off at = at_after ((asks_more first then).extends t) (then.same ∙ first.same) (subst (λ (h : Bool). HeldBetween b new (λ s. stands s.namespace (pod_spot pod area) ≡ h)) off at)
