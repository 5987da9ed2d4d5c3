-- Where nobody else steps, each line is that of the state before.
use Rattle.std.proofs.Common.{◌≡◌, inl, inr, ℕ, Bool, true, false, bytes_eq, is_some, Option, Some, None, List, [], ◌∷◌, ◌++◌, refl, sym, ap, subst, ◌∙◌, append_assoc}
use Rattle.std.specs.Prelude.{position}
use Rattle.std.specs.List.{list_any, AllByRecursion}
use Rattle.ac_types.specs.Outcomes.{Outcome, reads, fails}
use Rattle.manifests.specs.PodData.{PodData}
use Rattle.manifests.specs.PodForm.{pod_manifest}
use Rattle.dir_model.specs.declared.area.Area.{Area}
use Rattle.dir_model.specs.declared.area.Phase.{Phase}
use Rattle.dir_model.specs.declared.event.Event.{Event}
use Rattle.dir_model.specs.declared.item.Inner.{Inner}
use Rattle.dir_model.specs.declared.pod.PodId.{PodId}
use Rattle.dir_model.specs.declared.spot.Spot.{Spot}
use Rattle.dir_model.specs.declared.tree.TreeEntry.{TreeEntry}
use Rattle.dir_model.specs.Areas.{is_stage, phase_in}
use Rattle.dir_model.specs.Calls.{Extends, AtOwnStep}
use Rattle.dir_model.specs.Listings.{has_name}
use Rattle.dir_model.specs.Pods.{pod_text}
use Rattle.dir_model.specs.Quiet.{Quiet, OwnsNothing}
use Rattle.dir_model.specs.State.{DirState, is_at, stands, folder_at, is_owned_at, is_owned_in}
use Rattle.dir_model.specs.Trace.{state_after}
use Rattle.dir_model.proofs.Lists.{or_last}
use Rattle.dir_model.proofs.Moments.{some_number}
use Rattle.dir_rules.specs.Standing.{is_spot_of_pod}
use Rattle.dir_files.specs.Reads.{bytes_in, file_at}
use Rattle.lifecycle.specs.Executions.{IsConforming}
use Rattle.lifecycle.specs.Ownership.{place_in}
use Rattle.lifecycle.specs.PodMachine.{pod_state}
use Rattle.lifecycle.proofs.Phases.{stands_exists, phase_of_place}
use Rattle.phase_read.specs.Exact.{AtOwnEvent, IsNowhere}
use Rattle.dir_model.specs.Spots.{pod_spot}
use Rattle.phase_read.specs.Read.{stages}
use Rattle.pod_lookup.proofs.InOrder.{head_named}
use Rattle.pod_lookup.proofs.Shown.{conforms}
use Rattle.pod_lookup.proofs.Existed.{has_phase}
use Rattle.pod_report.specs.declared.line.PodLine.{PodLine}
use Rattle.pod_report.specs.Before.{names_read, names_in_file, IsLineOfPod}
use Rattle.pod_report.specs.Manifests.{PodHasManifest, PodLacksManifest, manifest_in_area}
use Rattle.pod_report.specs.Snapshot.{lined, HasApps, AreAppsOf, IsPodLine}
use Rattle.pod_report.specs.Visits.{IsPhase}
use Rattle.pod_report.proofs.Alone.{any_with, all_stages}
use Rattle.pod_report.proofs.OnePlace.{place_of, one_area}
use Rattle.pod_report.proofs.QuietSurvey.{is_calm, SameWorld, same_world}

-- a file is in a folder that stands
pub file_stands : (s : DirState) (inner : Inner) (bytes : List ℕ) → file_at s inner ≡ Some bytes → stands s.namespace inner.spot ≡ true
file_stands s inner bytes is = by (folder_at s.namespace inner.spot) is
  where
    by : (o : Option ℕ) → bytes_in s.entries inner.path o ≡ Some bytes → is_some o ≡ true
    by (Some folder) h = refl
    by None h = cc

unread : (o : Outcome PodData) → ((m : PodData) → o ≡ reads m → ⊥) → names_read o ≡ None
unread (reads m) none = absurd (none m refl)
unread (fails path kind) none = refl

module _ {me : ℕ} {s t : DirState} (w : SameWorld me s t) where
  pub same_folder : (spot : Spot) → folder_at t.namespace spot ≡ folder_at s.namespace spot
  same_folder spot = ap (λ (folders : List (Option Spot)). position (is_at spot) folders) w.names.folders

  pub same_file : (inner : Inner) → file_at t inner ≡ file_at s inner
  same_file inner =
      ap (λ (es : List TreeEntry). bytes_in es inner.path (folder_at t.namespace inner.spot)) w.entries
      ∙ ap (bytes_in s.entries inner.path) (same_folder inner.spot)

module _ {me : ℕ} {old new : List Event} (conforming : IsConforming new) (ext : Extends is_calm me old new) (quiet : Quiet me old new) (idle : OwnsNothing me (state_after old).namespace) where
  abbrev before : DirState
  before = state_after old

  world_at : (front : List Event) (step : Event) (later rest : List Event) → front ≡ old ++ later → new ≡ (front ++ step ∷ []) ++ rest → SameWorld me before (state_after (front ++ step ∷ []))
  world_at front step later rest begins ends =
      let here : front ++ step ∷ [] ≡ old ++ (later ++ step ∷ []) = ap (λ h. h ++ step ∷ []) begins ∙ append_assoc old later (step ∷ []) in
      subst (λ (h : List Event). SameWorld me before (state_after h)) (sym here) (same_world ext quiet idle (later ++ step ∷ []) rest (ends ∙ ap (λ h. h ++ rest) here))

  module _ (pod : PodId) (a : Area) (stage : is_stage a ≡ true) (there : stands before.namespace (pod_spot pod a) ≡ true) where
    abbrev u : List ℕ
    u = pod_text pod.bytes

    named : (b : Area) → is_stage b ≡ true → is_spot_of_pod u (pod_spot pod b) ≡ true
    named b is = place_of pod b is

    -- the pod stood there at each moment, and nowhere else
    stood : (h : List Event) → SameWorld me before (state_after h) → stands (state_after h).namespace (pod_spot pod a) ≡ true
    stood h w = ap (λ (o : Option ℕ). is_some o) (same_folder w (pod_spot pod a)) ∙ there

    same_area : (h : List Event) → IsConforming h → SameWorld me before (state_after h) → (b : Area) → is_stage b ≡ true → stands (state_after h).namespace (pod_spot pod b) ≡ true → b ≡ a
    same_area h good w b is at = one_area pod h good a b stage is (stood h w) at

    pub phase_before : {phase : Phase} → AtOwnEvent me old new (IsPhase pod phase) → phase_in a (is_owned_at before.namespace (pod_spot pod a)) ≡ Some phase
    phase_before {phase} at =
        let h : List Event = at.before ++ at.step ∷ [] in
        let w : SameWorld me before (state_after h) = world_at at.before at.step at.later at.rest at.begins at.ends in
        let k = some_number (folder_at before.namespace (pod_spot pod a)) there in
        let table = phase_of_place u h (pod_spot pod a) k.0 (conforms h new at.rest at.ends conforming) (named a stage) (same_folder w (pod_spot pod a) ∙ k.1) in
        ap (λ (o : Option ℕ). phase_in a (is_owned_in before.namespace o)) k.1 ∙ (ap (phase_in a) (sym (w.names.owned k.0)) ∙ (table ∙ at.holds))

    -- what was so of a file of the pod is so of the one in that area
    file_before : (h : List Event) → IsConforming h → SameWorld me before (state_after h) → (b : Area) → is_stage b ≡ true → stands (state_after h).namespace (pod_spot pod b) ≡ true → file_at before (manifest_in_area pod a) ≡ file_at (state_after h) (manifest_in_area pod b)
    file_before h good w b is at =
        subst (λ (c : Area). file_at before (manifest_in_area pod c) ≡ file_at (state_after h) (manifest_in_area pod b)) (same_area h good w b is at) (sym (same_file w (manifest_in_area pod b)))

    never_there : AtOwnEvent me old new (IsNowhere pod) → ⊥
    never_there at =
        let h : List Event = at.before ++ at.step ∷ [] in
        let w : SameWorld me before (state_after h) = world_at at.before at.step at.later at.rest at.begins at.ends in
        let x = stands_exists u h (pod_spot pod a) (conforms h new at.rest at.ends conforming) (named a stage) (stood h w) in
        has_phase (pod_state u h) x.0 at.holds

    apps_before : (o : Option (List (List ℕ))) → AreAppsOf pod o me old new → o ≡ names_in_file (file_at before (manifest_in_area pod a))
    apps_before (Some names) at =
        let h : List Event = at.before ++ at.step ∷ [] in
        let w : SameWorld me before (state_after h) = world_at at.before at.step at.later at.rest at.begins at.ends in
        let good = conforms h new at.rest at.ends conforming in
        by h w good at.holds
      where
        by : (h : List Event) → SameWorld me before (state_after h) → IsConforming h → HasApps pod names (state_after h) → Some names ≡ names_in_file (file_at before (manifest_in_area pod a))
        by h w good (m, (b, stage_b, has), are) =
            let same = file_before h good w b stage_b (file_stands (state_after h) (manifest_in_area pod b) has.bytes has.file) in
            ap Some are ∙ sym (ap names_in_file (same ∙ has.file) ∙ ap names_read has.is)
    apps_before None (inl at) =
        let h : List Event = at.before ++ at.step ∷ [] in
        let w : SameWorld me before (state_after h) = world_at at.before at.step at.later at.rest at.begins at.ends in
        let good = conforms h new at.rest at.ends conforming in
        by h w good at.holds
      where
        by : (h : List Event) → SameWorld me before (state_after h) → IsConforming h → PodLacksManifest pod (state_after h) → None ≡ names_in_file (file_at before (manifest_in_area pod a))
        by h w good (b, stage_b, inl bad) =
            let same = file_before h good w b stage_b (file_stands (state_after h) (manifest_in_area pod b) bad.bytes bad.file) in
            sym (ap names_in_file (same ∙ bad.file) ∙ unread (pod_manifest bad.bytes) bad.none)
        by h w good (b, stage_b, inr bare) = sym (ap names_in_file (file_before h good w b stage_b bare.there ∙ bare.missing))
    apps_before None (inr at) = absurd (never_there at)

  -- the same of one pod's manifest
  module _ (pod : PodId) where
    pub manifest_before : (manifest : PodData) → AtOwnStep me old new (PodHasManifest pod manifest) → PodHasManifest pod manifest before
    manifest_before manifest at = by (world_at at.before at.step at.later at.rest at.begins at.ends) at.holds
      where
        by : {t : DirState} → SameWorld me before t → PodHasManifest pod manifest t → PodHasManifest pod manifest before
        by w (b, stage_b, has) = (b, stage_b, record { bytes = has.bytes; file = sym (same_file w (manifest_in_area pod b)) ∙ has.file; is = has.is })

    pub lack_before : AtOwnStep me old new (PodLacksManifest pod) → PodLacksManifest pod before
    lack_before at = by (world_at at.before at.step at.later at.rest at.begins at.ends) at.holds
      where
        by : {t : DirState} → SameWorld me before t → PodLacksManifest pod t → PodLacksManifest pod before
        by w (b, stage_b, inl bad) = (b, stage_b, inl (record { bytes = bad.bytes; file = sym (same_file w (manifest_in_area pod b)) ∙ bad.file; none = bad.none }))
        by w (b, stage_b, inr bare) = (b, stage_b, inr (record { there = ap (λ (o : Option ℕ). is_some o) (sym (same_folder w (pod_spot pod b))) ∙ bare.there; missing = sym (same_file w (manifest_in_area pod b)) ∙ bare.missing }))

    pub nowhere_before : AtOwnEvent me old new (IsNowhere pod) → (a : Area) → is_stage a ≡ true → stands before.namespace (pod_spot pod a) ≡ false
    nowhere_before at a stage = by (stands before.namespace (pod_spot pod a)) refl
      where
        by : (b : Bool) → stands before.namespace (pod_spot pod a) ≡ b → b ≡ false
        by false there = refl
        by true there = absurd (never_there pod a stage there at)

  line_before : (line : PodLine) → list_any (λ area. stands before.namespace (place_in (pod_text line.pod.bytes) area)) stages ≡ true → IsPodLine me old new line → IsLineOfPod before line
  line_before line somewhere l =
      let a = any_with (λ a. is_stage a ≡ true) (λ area. stands before.namespace (place_in (pod_text line.pod.bytes) area)) stages all_stages somewhere in
      record { area = a.0; stage = a.1; there = a.2; phase = phase_before line.pod a.0 a.1 a.2 l.phase; apps = apps_before line.pod a.0 a.1 a.2 line.apps l.apps }

  pub lines_before : (lines : List PodLine) → ((name : List ℕ) → has_name (lined lines) name ≡ true → list_any (λ area. stands before.namespace (place_in name area)) stages ≡ true) → AllByRecursion (IsPodLine me old new) lines → AllByRecursion (IsLineOfPod before) lines
  lines_before [] stand all = tt
  lines_before (l ∷ lines) stand all = (
    line_before l (stand (pod_text l.pod.bytes) (head_named (pod_text l.pod.bytes) (lined lines))) all.0,
    lines_before lines (λ name h. stand name (or_last (bytes_eq (pod_text l.pod.bytes) name) (has_name (lined lines) name) h)) all.1,
  )
