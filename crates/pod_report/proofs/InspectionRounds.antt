-- Rounds of a status, one after the other.
use Rattle.std.proofs.Common.{◌≡◌, ◌≤◌, ℕ, Bool, true, false, Some, None, List, [], ◌++◌, sym, ap, subst, ◌∙◌, append_assoc, append-nil}
use Rattle.dir_model.specs.declared.area.Area.{Area}
use Rattle.dir_model.specs.declared.area.Area.TheVariants as area
use Rattle.dir_model.specs.declared.area.Phase.{Phase}
use Rattle.dir_model.specs.declared.event.Event.{Event}
use Rattle.dir_model.specs.declared.pod.PodId.{PodId}
use Rattle.dir_model.specs.declared.request.Request.{Request}
use Rattle.dir_model.specs.Areas.{rank}
use Rattle.dir_model.specs.Calls.{AtOwnStep}
use Rattle.dir_model.specs.State.{DirState, stands}
use Rattle.dir_model.proofs.Lists.{all_weaker}
use Rattle.dir_trait.specs.DirCalls.{DirAt}
use Rattle.lifecycle.specs.Executions.{IsConforming}
use Rattle.phase_read.specs.Exact.{AtOwnEvent, IsInPhase}
use Rattle.dir_model.specs.Spots.{pod_spot}
use Rattle.phase_read.proofs.Exact.{event_within}
use Rattle.pod_report.specs.declared.ends.AppEndText.{AppEndText}
use Rattle.pod_report.specs.declared.status.PodStatus.{PodStatus}
use Rattle.pod_report.specs.Ends.{HasEndedAnywhere}
use Rattle.pod_report.specs.Inspections.{moved_on, SeesAt, InspectionTells}
use Rattle.pod_report.specs.Moments.{IsMoment, AtSomeState}
use Rattle.pod_report.specs.Requests.{OnlyAsksFor}
use Rattle.pod_report.specs.Rounds.{moved_from, RoundTells}
use Rattle.pod_report.specs.Status.{IsPodStatus}
use Rattle.pod_report.proofs.Meeting.{met_moved}
use Rattle.pod_report.proofs.StatusMeeting.{status_met}

-- who isn't there any more has moved on
moved_tells : (pod : PodId) (old new : DirAt) (place : Area) → RoundTells pod (moved_from place) old new → InspectionTells pod (moved_on place) old new
moved_tells pod old new area.Garbage h = h
moved_tells pod old new _ h = h

-- what a round tells
module _ (pod : PodId) (phase : Phase) (old mid new : DirAt) (same : mid.process ≡ old.process) (rest : List Event) (grown : new.trace ≡ mid.trace ++ rest) (conforming : IsConforming new.trace) (place : Area) (within : rank place ≤ 5) (found : AtOwnEvent old.process old.trace mid.trace (IsInPhase pod phase place)) where
  pub inspection_moved : SeesAt pod place phase None mid.process mid.trace new.trace → InspectionTells pod (moved_on place) old new
  inspection_moved y = moved_tells pod old new place (met_moved pod phase old mid new same rest grown conforming place within found (subst (λ (me : ℕ). AtOwnStep me mid.trace new.trace (λ s. stands s.namespace (pod_spot pod place) ≡ false)) same y))

  pub inspection_met : (status : PodStatus) → SeesAt pod place phase (Some status) mid.process mid.trace new.trace → IsPodStatus pod status old.process old.trace new.trace
  inspection_met status y = let z = subst (λ (me : ℕ). SeesAt pod place phase (Some status) me mid.trace new.trace) same y in status_met pod place within phase conforming found status z.1 z.0

-- said of a longer time
module _ {observed : Bool} {asks : Request → Bool} (pod : PodId) (old mid new : DirAt) (t : observed ≡ true) (ab : OnlyAsksFor observed asks old mid) where
  abbrev earlier : List Event
  earlier = (ab.extends t).more

  moment_after : {h : List Event} → IsMoment mid.trace h new.trace → IsMoment old.trace h new.trace
  moment_after m = record { first = earlier ++ m.first; last = m.last; begins = m.begins ∙ (ap (λ l. l ++ m.first) (ab.extends t).grown ∙ append_assoc old.trace earlier m.first); ends = m.ends }

  some_after : {P : DirState → Type 0} → AtSomeState mid.trace new.trace P → AtSomeState old.trace new.trace P
  some_after x = record { trace = x.trace; moment = moment_after x.moment; holds = x.holds }

  pub status_after : (status : PodStatus) → IsPodStatus pod status mid.process mid.trace new.trace → IsPodStatus pod status old.process old.trace new.trace
  status_after status y =
      let x = subst (λ (me : ℕ). IsPodStatus pod status me mid.trace new.trace) ab.same y in
      record {
        area = x.area;
        stage = x.stage;
        phase = event_within earlier [] (ab.extends t).grown (sym (append-nil new.trace)) x.phase;
        created = λ m is. some_after (x.created m is);
        latest = λ m each. x.latest m (λ h at. each h (moment_after at));
        ends = all_weaker (λ (e : AppEndText). AtSomeState mid.trace new.trace (HasEndedAnywhere pod e.app e.status)) (λ (e : AppEndText). AtSomeState old.trace new.trace (HasEndedAnywhere pod e.app e.status)) (λ e at. some_after at) status.ends x.ends;
        rise = x.rise;
        named = x.named;
        whole = λ app n name each. x.whole app n name (λ h at. each h (moment_after at));
      }
