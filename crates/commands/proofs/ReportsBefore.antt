-- In a state of a conforming history a pod stands in one area at most, so its lines and its manifest are one function of the state.
use Rattle.std.proofs.Common.{◌≡◌, inl, inr, ℕ, Bool, true, false, cond, codes, List, [], ◌∷◌, Option, Some, Ok, Err, refl, sym, ap, subst, ◌∙◌}
use Rattle.std.specs.List.{AllByRecursion, flat_map}
use Rattle.ac_types.specs.Outcomes.{reads, fails}
use Rattle.ac_types.specs.Outcomes as reading
use Rattle.manifests.specs.PodData.{PodData}
use Rattle.manifests.specs.PodForm.{pod_manifest}
use Rattle.dir_model.specs.declared.area.Area.{Area}
use Rattle.dir_model.specs.declared.area.Area.TheVariants as area
use Rattle.dir_model.specs.declared.area.Phase.{Phase}
use Rattle.dir_model.specs.declared.event.Event.{Event}
use Rattle.dir_model.specs.declared.pod.PodId.{PodId}
use Rattle.dir_model.specs.declared.spot.Spot.{Spot}
use Rattle.dir_model.specs.Areas.{is_stage, phase_in}
use Rattle.dir_model.specs.Pods.{pod_text}
use Rattle.dir_model.specs.Quiet.{Quiet}
use Rattle.dir_model.specs.State.{DirState, is_owned_at, stands}
use Rattle.dir_model.specs.Trace.{state_after}
use Rattle.dir_files.specs.Reads.{file_at, inner_at}
use Rattle.lifecycle.specs.Executions.{IsConforming}
use Rattle.lifecycle.proofs.Draws.{conforming_left}
use Rattle.phase_read.specs.declared.found.Found.{Found}
use Rattle.phase_read.specs.declared.found.Found.TheVariants.{At, Gone}
use Rattle.dir_model.specs.Spots.{pod_spot}
use Rattle.phase_read.specs.Sequential.{found_in, or_in, sequential_read}
use Rattle.pod_lookup.specs.Pods.{pod_names, pods_standing}
use Rattle.pod_report.specs.declared.line.PodLine.{PodLine}
use Rattle.pod_report.specs.Before.{AreThePodLines, IsLineOfPod, names_in_file}
use Rattle.pod_report.specs.Manifests.{PodHasManifest, PodLacksManifest, manifest_in_area}
use Rattle.pod_report.specs.Snapshot.{lined}
use Rattle.pod_report.proofs.QuietLines.{file_stands}
use Rattle.command_outcomes.specs.declared.refusal.Refusal.TheVariants.{NoManifest, NoPod}
use Rattle.command_outcomes.specs.Moments.{CommandOutcome}
use Rattle.commands.specs.CatManifest.{file_said, manifest_in, manifest_line, manifest_said}
use Rattle.commands.specs.PodList.{pod_line_in, pod_line_text, list_text, sequential_list}
use Rattle.commands.specs.RemovalQuiet.{StandsNowhere}
use Rattle.commands.proofs.RmBefore.{lone, reads as found_there}

pub conforming_before : {me : ℕ} {old new : List Event} → Quiet me old new → IsConforming new → IsConforming old
conforming_before {me} {old} {new} quiet conforming = conforming_left old quiet.more (subst IsConforming quiet.grown conforming)

-- whoever stands in the area of a pod has a phase there
some_phase : (a : Area) (owned : Bool) → is_stage a ≡ true → (phase : Phase) × (phase_in a owned ≡ Some phase)
some_phase area.Embryo owned stage = (_, refl)
some_phase area.Prepare true stage = (_, refl)
some_phase area.Prepare false stage = (_, refl)
some_phase area.Prepared owned stage = (_, refl)
some_phase area.Run true stage = (_, refl)
some_phase area.Run false stage = (_, refl)
some_phase area.ExitedGarbage true stage = (_, refl)
some_phase area.ExitedGarbage false stage = (_, refl)
some_phase area.Garbage true stage = (_, refl)
some_phase area.Garbage false stage = (_, refl)
some_phase a owned stage = cc

-- a line is printed by the uuid, the phase and the names
line_same : (l : PodLine) (pod : PodId) (names others : Option (List (List ℕ))) → pod_text l.pod.bytes ≡ pod_text pod.bytes → names ≡ others → pod_line_text (record l { apps = names }) ≡ pod_line_text (record { pod = pod; phase = l.phase; apps = others })
line_same l pod names others same apps = rw (same, apps) refl

-- bytes without a reading
unread : (pod : PodId) (o : reading.Outcome PodData) → ((manifest : PodData) → o ≡ reads manifest → ⊥) → manifest_said pod o ≡ Err (NoManifest pod)
unread pod (reads manifest) none = absurd (none manifest refl)
unread pod (fails path kind) none = refl

first_name : {x y : List ℕ} {xs ys : List (List ℕ)} → x ∷ xs ≡ y ∷ ys → x ≡ y
first_name is = cc

other_names : {x y : List ℕ} {xs ys : List (List ℕ)} → x ∷ xs ≡ y ∷ ys → xs ≡ ys
other_names is = cc

module _ (h : List Event) (conforming : IsConforming h) where
  abbrev now : DirState
  now = state_after h

  -- a pod is read where it stands
  read_there : (pod : PodId) (a : Area) (phase : Phase) → is_stage a ≡ true → stands now.namespace (pod_spot pod a) ≡ true → phase_in a (is_owned_at now.namespace (pod_spot pod a)) ≡ Some phase → sequential_read now pod ≡ At phase a
  read_there pod a phase stage there is = found_there pod h conforming phase a stage there is (λ b q apart. lone pod h conforming a b stage q there apart)

  -- ---- the lines

  abbrev at_place : Area → List ℕ → Spot
  at_place a name = record { area = a; name = name }

  line_is : (l : PodLine) (pod : PodId) → pod_text l.pod.bytes ≡ pod_text pod.bytes → IsLineOfPod now l → pod_line_text l ≡ pod_line_in now pod (sequential_read now pod)
  line_is l pod same x =
      let there : stands now.namespace (pod_spot pod x.area) ≡ true = subst (λ (name : List ℕ). stands now.namespace (at_place x.area name) ≡ true) same x.there in
      let phase : phase_in x.area (is_owned_at now.namespace (pod_spot pod x.area)) ≡ Some l.phase = subst (λ (name : List ℕ). phase_in x.area (is_owned_at now.namespace (at_place x.area name)) ≡ Some l.phase) same x.phase in
      let apps : l.apps ≡ names_in_file (file_at now (manifest_in_area pod x.area)) = subst (λ (name : List ℕ). l.apps ≡ names_in_file (file_at now (inner_at (at_place x.area name) (codes "pod")))) same x.apps in
      line_same l pod l.apps _ same apps ∙ sym (ap (pod_line_in now pod) (read_there pod x.area l.phase x.stage there phase))

  lines_are : (lines : List PodLine) (pods : List PodId) → lined lines ≡ pod_names pods → AllByRecursion (IsLineOfPod now) lines → list_text lines ≡ flat_map (λ pod. pod_line_in now pod (sequential_read now pod)) pods
  lines_are [] [] same all = refl
  lines_are [] (pod ∷ pods) same all = cc
  lines_are (l ∷ lines) [] same all = cc
  lines_are (l ∷ lines) (pod ∷ pods) same all = rw (line_is l pod (first_name same) all.0, lines_are lines pods (other_names same) all.1) refl

  pub list_is : (lines : List PodLine) → AreThePodLines now lines → list_text lines ≡ sequential_list now
  list_is lines a = lines_are lines (pods_standing now.namespace) a.pods a.each

  -- ---- the manifest of a pod

  pub manifest_is : (pod : PodId) (manifest : PodData) → PodHasManifest pod manifest now → Ok (manifest_line manifest) ≡ manifest_in now pod (sequential_read now pod)
  manifest_is pod manifest (a, stage, has) =
      let phase = some_phase a (is_owned_at now.namespace (pod_spot pod a)) stage in
      let read = read_there pod a phase.0 stage (file_stands now (manifest_in_area pod a) has.bytes has.file) phase.1 in
      sym (ap (manifest_in now pod) read ∙ (ap (file_said pod) has.file ∙ ap (manifest_said pod) has.is))

  pub lacking_is : (pod : PodId) → PodLacksManifest pod now → ◌≡◌ {A = CommandOutcome} (Err (NoManifest pod)) (manifest_in now pod (sequential_read now pod))
  lacking_is pod (a, stage, inl bad) =
      let phase = some_phase a (is_owned_at now.namespace (pod_spot pod a)) stage in
      let read = read_there pod a phase.0 stage (file_stands now (manifest_in_area pod a) bad.bytes bad.file) phase.1 in
      sym (ap (manifest_in now pod) read ∙ (ap (file_said pod) bad.file ∙ unread pod (pod_manifest bad.bytes) bad.none))
  lacking_is pod (a, stage, inr bare) =
      let phase = some_phase a (is_owned_at now.namespace (pod_spot pod a)) stage in
      let read = read_there pod a phase.0 stage bare.there phase.1 in
      sym (ap (manifest_in now pod) read ∙ ap (file_said pod) bare.missing)

-- who stands nowhere isn't read
not_in : (s : DirState) (pod : PodId) (a : Area) (later : Found) → stands s.namespace (pod_spot pod a) ≡ false → or_in s pod a later ≡ later
not_in s pod a later none = ap (λ b. cond b (found_in a (phase_in a (is_owned_at s.namespace (pod_spot pod a)))) later) none

pub nowhere_is : (pod : PodId) (h : List Event) → StandsNowhere pod (state_after h) → ◌≡◌ {A = CommandOutcome} (Err NoPod) (manifest_in (state_after h) pod (sequential_read (state_after h) pod))
nowhere_is pod h none =
    let s = state_after h in
    let gone : sequential_read s pod ≡ Gone =
    not_in s pod area.Embryo _ (none area.Embryo refl) ∙ (not_in s pod area.Prepare _ (none area.Prepare refl) ∙ (not_in s pod area.Prepared _ (none area.Prepared refl)
    ∙ (not_in s pod area.Run _ (none area.Run refl) ∙ (not_in s pod area.ExitedGarbage _ (none area.ExitedGarbage refl) ∙ not_in s pod area.Garbage _ (none area.Garbage refl))))) in
    sym (ap (manifest_in s pod) gone)
