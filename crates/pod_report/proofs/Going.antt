-- Rounds and visits, one after the other.
use Rattle.std.proofs.Common.{arith, ◌≡◌, ℕ, Bool, true, ◌&&◌, bytes_eq, Option, Some, None, [], ◌++◌, refl, sym, subst, append-nil}
use Rattle.plain_laws.proofs.Booleans.{or_nothing}
use Rattle.dir_model.specs.declared.pod.PodId.{PodId}
use Rattle.dir_model.specs.declared.request.Request.{Request}
use Rattle.dir_model.specs.declared.request.Request.TheVariants.{Open, TryLock, Close, ListArea, ReadIn}
use Rattle.dir_model.specs.declared.spot.Mode.TheVariants.{Shared, Exclusive}
use Rattle.dir_model.specs.Areas.{is_stage}
use Rattle.dir_model.specs.Pods.{pod_text}
use Rattle.dir_model.proofs.Lists.{and_left}
use Rattle.dir_model.proofs.Moments.{at_within}
use Rattle.dir_trait.specs.DirCalls.{DirAt}
use Rattle.manifests.specs.declared.pod_manifest.PodManifest.{PodManifest}
use Rattle.lifecycle.specs.Executions.{IsConforming}
use Rattle.phase_read.specs.Exact.{AtOwnEvent, IsNowhere}
use Rattle.phase_read.proofs.Exact.{event_within}
use Rattle.pod_lookup.specs.Looks.{lists_stages}
use Rattle.pod_lookup.proofs.Shown.{conforms, ages_on}
use Rattle.pod_report.specs.declared.visit.Visit.{Visit}
use Rattle.pod_report.specs.Requests.{OnlyAsksFor, visits, surveys}
use Rattle.pod_report.specs.Rounds.{HasLeft}
use Rattle.pod_report.specs.Visits.{IsVisit, ToldManifest}

-- an execution that conforms to its end did so before
pub conforming_before : {observed : Bool} {asks : Request → Bool} (mid new : DirAt) → observed ≡ true → OnlyAsksFor observed asks mid new → IsConforming new.trace → IsConforming mid.trace
conforming_before mid new t bc conforming = conforms mid.trace new.trace (bc.extends t).more (bc.extends t).grown conforming

-- what was left behind before
pub left_after : {observed : Bool} {asks : Request → Bool} (pod : PodId) (n : ℕ) (mid new : DirAt) → observed ≡ true → OnlyAsksFor observed asks mid new → HasLeft pod n mid → HasLeft pod n new
left_after pod n mid new t bc left =
    let up = ages_on (pod_text pod.bytes) mid.trace new.trace (bc.extends t).more (bc.extends t).grown in
    omega (arith, left, up)

-- said of longer times
module _ {observed : Bool} {asks : Request → Bool} (pod : PodId) (old mid new : DirAt) (t : observed ≡ true) (ab : OnlyAsksFor observed asks old mid) where
  same_end : new.trace ≡ new.trace ++ []
  same_end = sym (append-nil new.trace)

  pub gone_after : AtOwnEvent mid.process mid.trace new.trace (IsNowhere pod) → AtOwnEvent old.process old.trace new.trace (IsNowhere pod)
  gone_after at = event_within (ab.extends t).more [] (ab.extends t).grown same_end (subst (λ (me : ℕ). AtOwnEvent me mid.trace new.trace (IsNowhere pod)) ab.same at)

  told_after : (m : Option PodManifest) → ToldManifest pod m old.process mid.trace new.trace → ToldManifest pod m old.process old.trace new.trace
  told_after None at = at_within (ab.extends t).more [] (ab.extends t).grown same_end at
  told_after (Some m) at = at_within (ab.extends t).more [] (ab.extends t).grown same_end at

  pub visit_after : (visit : Visit) → IsVisit pod visit mid.process mid.trace new.trace → IsVisit pod visit old.process old.trace new.trace
  visit_after visit at =
      let v = subst (λ (me : ℕ). IsVisit pod visit me mid.trace new.trace) ab.same at in
      record { phase = event_within (ab.extends t).more [] (ab.extends t).grown same_end v.phase; manifest = told_after visit.manifest v.manifest }

pub visits_survey : (pod : PodId) (r : Request) → visits pod r ≡ true → surveys r ≡ true
visits_survey pod (Open spot which) is = and_left (is_stage spot.area) (bytes_eq spot.name (pod_text pod.bytes)) (or_nothing (is_stage spot.area && bytes_eq spot.name (pod_text pod.bytes)) is)
visits_survey pod (TryLock handle Shared) is = refl
visits_survey pod (TryLock handle Exclusive) is = is
visits_survey pod (Close handle) is = refl
visits_survey pod (ReadIn inner at room) is = and_left (is_stage inner.spot.area) (bytes_eq inner.spot.name (pod_text pod.bytes)) is
visits_survey pod r is = cc

pub lists_survey : (r : Request) → lists_stages r ≡ true → surveys r ≡ true
lists_survey (ListArea area) is = is
lists_survey r is = cc
