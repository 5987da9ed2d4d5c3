-- What a process saw itself, over longer times.
use Rattle.std.proofs.Common.{◌≡◌, inl, inr, ℕ, Bool, true, false, Option, Some, None, List, ◌++◌, refl, sym, ap, subst, ◌∙◌, append_assoc}
use Rattle.manifests.specs.declared.pod_manifest.PodManifest.{PodManifest}
use Rattle.dir_model.specs.declared.area.Area.{Area}
use Rattle.dir_model.specs.declared.area.Area.TheVariants as area
use Rattle.dir_model.specs.declared.area.Phase.{Phase}
use Rattle.dir_model.specs.declared.event.Event.{Event}
use Rattle.dir_model.specs.declared.pod.PodId.{PodId}
use Rattle.dir_model.specs.declared.request.Request.{Request}
use Rattle.dir_model.specs.Calls.{AtOwnStep}
use Rattle.dir_model.specs.State.{stands}
use Rattle.dir_trait.specs.DirCalls.{DirAt}
use Rattle.phase_read.specs.declared.found.Found.{Found}
use Rattle.phase_read.specs.declared.found.Found.TheVariants.{At, Gone}
use Rattle.dir_model.specs.Spots.{pod_spot}
use Rattle.phase_read.specs.Read.{IsPhaseReading, stages, stages_before}
use Rattle.phase_read.proofs.InTurn.{left_out_after}
use Rattle.pod_report.specs.declared.sight.Sight.{Sight}
use Rattle.pod_report.specs.declared.sight.Sight.TheVariants.{Moved, Lacking, Manifest}
use Rattle.pod_report.specs.declared.status.PodStatus.{PodStatus}
use Rattle.pod_report.specs.Inspections.{SeesAt, SeesStatus, moved_on}
use Rattle.pod_report.specs.Moments.{IsMoment}
use Rattle.pod_report.specs.OwnReadings.{FindsPod, IsSeen, HasGone, IsMissed, InspectionSees}
use Rattle.pod_report.specs.SeenManifests.{SeesManifest, IsVisited, RoundSees}
use Rattle.pod_report.specs.Requests.{OnlyAsksFor}
use Rattle.pod_report.specs.Rounds.{moved_from, report_round_of}
use Rattle.pod_report.specs.Sights.{Sees}

-- a reading, and then more calls
module _ {observed : Bool} {asks : Request → Bool} (pod : PodId) (old mid new : DirAt) (t : observed ≡ true) (more : List Event) (begins : mid.trace ≡ old.trace ++ more) (same : mid.process ≡ old.process) (last : OnlyAsksFor observed asks mid new) where
  found_then : (phase : Phase) (a : Area) → IsPhaseReading old.process old.trace mid.trace pod (At phase a) → FindsPod pod phase a old.process old.trace mid.trace new.trace
  found_then phase a reading = record { moment = record { first = more; last = (last.extends t).more; begins = begins; ends = (last.extends t).grown }; reading = reading }

  -- the pod's status was seen
  pub seen_here : (phase : Phase) (a : Area) (status : PodStatus) → IsPhaseReading old.process old.trace mid.trace pod (At phase a) → SeesAt pod a phase (Some status) mid.process mid.trace new.trace → IsSeen pod status old.process old.trace new.trace
  seen_here phase a status reading sees = record {
    area = a;
    found = mid.trace;
    finds = subst (λ (p : Phase). FindsPod pod p a old.process old.trace mid.trace new.trace) (sym sees.0) (found_then phase a reading);
    sees = subst (λ (me : ℕ). SeesStatus pod a status me mid.trace new.trace) same sees.1;
  }

  gone_there : (phase : Phase) → IsPhaseReading old.process old.trace mid.trace pod (At phase area.Garbage) → AtOwnStep mid.process mid.trace new.trace (λ s. stands s.namespace (pod_spot pod area.Garbage) ≡ false) → HasGone pod old.process old.trace new.trace
  gone_there phase reading off = record {
    phase = phase;
    found = mid.trace;
    finds = found_then phase area.Garbage reading;
    off = subst (λ (me : ℕ). AtOwnStep me mid.trace new.trace (λ s. stands s.namespace (pod_spot pod area.Garbage) ≡ false)) same off;
  }

  -- or it wasn't there any more
  pub moved_here : (phase : Phase) (a : Area) → IsPhaseReading old.process old.trace mid.trace pod (At phase a) → AtOwnStep mid.process mid.trace new.trace (λ s. stands s.namespace (pod_spot pod a) ≡ false) → InspectionSees pod (moved_on a) old new
  moved_here phase area.Garbage reading off = inr (gone_there phase reading off)
  moved_here phase _ reading off = tt

  -- its manifest was read, or it wasn't there any more
  visited : (phase : Phase) (a : Area) (manifest : Option PodManifest) → IsPhaseReading old.process old.trace mid.trace pod (At phase a) → SeesManifest pod a manifest mid.process mid.trace new.trace → IsVisited pod phase manifest old.process old.trace new.trace
  visited phase a manifest reading sees = record { area = a; found = mid.trace; finds = found_then phase a reading; sees = subst (λ (me : ℕ). SeesManifest pod a manifest me mid.trace new.trace) same sees }

  moved_round : (phase : Phase) (a : Area) → IsPhaseReading old.process old.trace mid.trace pod (At phase a) → AtOwnStep mid.process mid.trace new.trace (λ s. stands s.namespace (pod_spot pod a) ≡ false) → RoundSees pod (moved_from a) old new
  moved_round phase area.Garbage reading off = inr (gone_there phase reading off)
  moved_round phase _ reading off = tt

  pub round_seen : (phase : Phase) (a : Area) (sight : Sight) → IsPhaseReading old.process old.trace mid.trace pod (At phase a) → Sees pod a sight mid new → RoundSees pod (report_round_of phase a sight) old new
  round_seen phase a (Manifest m) reading sees = visited phase a (Some m) reading sees
  round_seen phase a Lacking reading sees = visited phase a None reading sees
  round_seen phase a Moved reading sees = moved_round phase a reading sees

-- said of a longer time
module _ {observed : Bool} {asks : Request → Bool} (pod : PodId) (old mid new : DirAt) (t : observed ≡ true) (ab : OnlyAsksFor observed asks old mid) where
  reading_after : (b : List Event) (found : Found) → IsPhaseReading mid.process mid.trace b pod found → IsPhaseReading old.process old.trace b pod found
  reading_after b (At phase a) r =
      let x = subst (λ (me : ℕ). IsPhaseReading me mid.trace b pod (At phase a)) ab.same r in
      record { stage = x.stage; between = x.between; earlier = left_out_after pod old.process old.process old.trace mid.trace x.between (stages_before a) (ab.extends t) refl x.earlier; found = x.found }
  reading_after b Gone r = left_out_after pod old.process mid.process old.trace mid.trace b stages (ab.extends t) ab.same r

  moment_after : {h : List Event} → IsMoment mid.trace h new.trace → IsMoment old.trace h new.trace
  moment_after m = record { first = (ab.extends t).more ++ m.first; last = m.last; begins = m.begins ∙ (ap (λ l. l ++ m.first) (ab.extends t).grown ∙ append_assoc old.trace (ab.extends t).more m.first); ends = m.ends }

  finds_after : (phase : Phase) (a : Area) (found : List Event) → FindsPod pod phase a mid.process mid.trace found new.trace → FindsPod pod phase a old.process old.trace found new.trace
  finds_after phase a found f = record { moment = moment_after f.moment; reading = reading_after found (At phase a) f.reading }

  pub seen_after : (status : PodStatus) → IsSeen pod status mid.process mid.trace new.trace → IsSeen pod status old.process old.trace new.trace
  seen_after status x = record {
    area = x.area;
    found = x.found;
    finds = finds_after status.phase x.area x.found x.finds;
    sees = subst (λ (me : ℕ). SeesStatus pod x.area status me x.found new.trace) ab.same x.sees;
  }

  pub visited_after : (phase : Phase) (manifest : Option PodManifest) → IsVisited pod phase manifest mid.process mid.trace new.trace → IsVisited pod phase manifest old.process old.trace new.trace
  visited_after phase manifest x = record {
    area = x.area;
    found = x.found;
    finds = finds_after phase x.area x.found x.finds;
    sees = subst (λ (me : ℕ). SeesManifest pod x.area manifest me x.found new.trace) ab.same x.sees;
  }

  pub missed_after : IsMissed pod mid.process mid.trace new.trace → IsMissed pod old.process old.trace new.trace
  missed_after (inl r) = inl (reading_after new.trace Gone r)
  missed_after (inr x) = inr (record {
    phase = x.phase;
    found = x.found;
    finds = finds_after x.phase area.Garbage x.found x.finds;
    off = subst (λ (me : ℕ). AtOwnStep me x.found new.trace (λ s. stands s.namespace (pod_spot pod area.Garbage) ≡ false)) ab.same x.off;
  })
