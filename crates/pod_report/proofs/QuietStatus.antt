-- Where nobody else steps, a status is that of the state before.
use Rattle.std.proofs.Common.{◌≡◌, ◌≤◌, ℕ, true, is_some, Option, Some, IsSomeAnd, List, [], ◌∷◌, ◌++◌, sym, ap, subst, ◌∙◌, append_assoc}
use Rattle.std.specs.List.{list_any, AllByRecursion}
use Rattle.dir_model.specs.declared.area.Area.{Area}
use Rattle.dir_model.specs.declared.event.Event.{Event}
use Rattle.dir_model.specs.declared.pod.PodId.{PodId}
use Rattle.dir_model.specs.declared.tree.TreeEntry.{TreeEntry}
use Rattle.dir_model.specs.Areas.{is_stage, phase_in}
use Rattle.dir_model.specs.Calls.{Extends}
use Rattle.dir_model.specs.Listings.{has_name, is_named}
use Rattle.dir_model.specs.Paths.{is_file_name}
use Rattle.dir_model.specs.Quiet.{Quiet, OwnsNothing}
use Rattle.dir_model.specs.State.{DirState, stands, is_owned_at}
use Rattle.dir_model.specs.Trace.{state_after}
use Rattle.dir_model.specs.Trees.{items_in}
use Rattle.dir_model.proofs.Lists.{all_weaker}
use Rattle.lifecycle.specs.Executions.{IsConforming}
use Rattle.phase_read.specs.Exact.{AtOwnEvent}
use Rattle.dir_model.specs.Spots.{pod_spot}
use Rattle.pod_lookup.proofs.InOrder.{Rising}
use Rattle.pod_report.specs.declared.ends.AppEndText.{AppEndText}
use Rattle.pod_report.specs.declared.status.PodStatus.{PodStatus}
use Rattle.pod_report.specs.Created.{HasCreatedMark}
use Rattle.pod_report.specs.Ends.{status_file, HasEndedAnywhere, ended_apps}
use Rattle.pod_report.specs.Moments.{IsMoment, AtSomeState, AtEachState}
use Rattle.pod_report.specs.Status.{IsPodStatus}
use Rattle.pod_report.specs.Visits.{IsPhase}
use Rattle.pod_report.proofs.QuietLines.{same_folder, same_file, phase_before}
use Rattle.pod_report.proofs.QuietSurvey.{is_calm, SameWorld, same_world}

-- what is told of a pod is so of one state: the phase by the area and the lock, the greatest created- mark, and each end
pub record IsStatusOf (s : DirState) (pod : PodId) (status : PodStatus) : Type 0 where
  pub area : Area
  pub stage : is_stage area ≡ true
  pub there : stands s.namespace (pod_spot pod area) ≡ true
  pub phase : phase_in area (is_owned_at s.namespace (pod_spot pod area)) ≡ Some status.phase
  pub created : (moment : ℕ) → status.created ≡ Some moment → HasCreatedMark pod moment s
  pub latest : (moment : ℕ) → HasCreatedMark pod moment s → IsSomeAnd status.created (λ c. moment ≤ c)
  pub ends : AllByRecursion (λ (e : AppEndText). HasEndedAnywhere pod e.app e.status s) status.ends
  pub rise : Rising (ended_apps status.ends)
  pub named : AllByRecursion (λ (e : AppEndText). is_file_name e.app ≡ true) status.ends
  pub whole : (app : List ℕ) (n : ℕ) → is_file_name app ≡ true → HasEndedAnywhere pod app n s → has_name (ended_apps status.ends) app ≡ true

module _ {me : ℕ} {s t : DirState} (w : SameWorld me s t) where
  mark_before : (pod : PodId) (m : ℕ) → HasCreatedMark pod m t → HasCreatedMark pod m s
  mark_before pod m (name, is, x) = (
    name,
    is,
    record {
      area = x.area;
      stage = x.stage;
      folder = x.folder;
      there = sym (same_folder w (pod_spot pod x.area)) ∙ x.there;
      named = ap (λ (es : List TreeEntry). list_any (is_named name) (items_in x.folder [] es)) (sym w.entries) ∙ x.named;
    },
  )

  mark_after : (pod : PodId) (m : ℕ) → HasCreatedMark pod m s → HasCreatedMark pod m t
  mark_after pod m (name, is, x) = (
    name,
    is,
    record {
      area = x.area;
      stage = x.stage;
      folder = x.folder;
      there = same_folder w (pod_spot pod x.area) ∙ x.there;
      named = ap (λ (es : List TreeEntry). list_any (is_named name) (items_in x.folder [] es)) w.entries ∙ x.named;
    },
  )

  end_before : (pod : PodId) (app : List ℕ) (n : ℕ) → HasEndedAnywhere pod app n t → HasEndedAnywhere pod app n s
  end_before pod app n (a, stage, has) = (a, stage, record { bytes = has.bytes; file = sym (same_file w (status_file pod a app)) ∙ has.file; is = has.is })

  end_after : (pod : PodId) (app : List ℕ) (n : ℕ) → HasEndedAnywhere pod app n s → HasEndedAnywhere pod app n t
  end_after pod app n (a, stage, has) = (a, stage, record { bytes = has.bytes; file = same_file w (status_file pod a app) ∙ has.file; is = has.is })

module _ {me : ℕ} {old new : List Event} (conforming : IsConforming new) (ext : Extends is_calm me old new) (quiet : Quiet me old new) (idle : OwnsNothing me (state_after old).namespace) where
  abbrev before : DirState
  before = state_after old

  world_at : (trace : List Event) → IsMoment old trace new → SameWorld me before (state_after trace)
  world_at trace m =
      subst (λ (h : List Event). SameWorld me before (state_after h)) (sym m.begins) (same_world ext quiet idle m.first m.last (m.ends ∙ ap (λ h. h ++ m.last) m.begins))

  once : (P : DirState → Type 0) → ((t : DirState) → SameWorld me before t → P t → P before) → AtSomeState old new P → P before
  once P back x = back (state_after x.trace) (world_at x.trace x.moment) x.holds

  always : (P : DirState → Type 0) → ((t : DirState) → SameWorld me before t → P before → P t) → P before → AtEachState old new P
  always P on p trace m = on (state_after trace) (world_at trace m) p

  pub status_before : (pod : PodId) (status : PodStatus) → IsPodStatus pod status me old new → IsStatusOf before pod status
  status_before pod status x =
      let y = x.phase in
      let h : List Event = y.before ++ y.step ∷ [] in
      let w = world_at h (record { first = y.later ++ y.step ∷ []; last = y.rest; begins = ap (λ l. l ++ y.step ∷ []) y.begins ∙ append_assoc old y.later (y.step ∷ []); ends = y.ends }) in
      let there = ap (λ (o : Option ℕ). is_some o) (sym (same_folder w (pod_spot pod x.area))) ∙ y.holds.there in
      let phase : AtOwnEvent me old new (IsPhase pod status.phase) = record { before = y.before; step = y.step; later = y.later; rest = y.rest; begins = y.begins; ends = y.ends; own = y.own; holds = y.holds.is } in
      record {
        area = x.area;
        stage = x.stage;
        there = there;
        phase = phase_before conforming ext quiet idle pod x.area x.stage there phase;
        created = λ m is. once (HasCreatedMark pod m) (λ t w p. mark_before w pod m p) (x.created m is);
        latest = λ m has. x.latest m (always (HasCreatedMark pod m) (λ t w p. mark_after w pod m p) has);
        ends = all_weaker (λ (e : AppEndText). AtSomeState old new (HasEndedAnywhere pod e.app e.status)) (λ (e : AppEndText). HasEndedAnywhere pod e.app e.status before) (λ e at. once (HasEndedAnywhere pod e.app e.status) (λ t w p. end_before w pod e.app e.status p) at) status.ends x.ends;
        rise = x.rise;
        named = x.named;
        whole = λ app n name has. x.whole app n name (always (HasEndedAnywhere pod app n) (λ t w p. end_after w pod app n p) has);
      }
