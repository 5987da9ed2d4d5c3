-- What a report told of a part of a time is so of the whole; and what it comes to by a state, by any with the same folders, owners and files.
use Rattle.std.proofs.Common.{◌≡◌, inl, inr, ℕ, Bool, true, false, position, List, [], ◌∷◌, ◌++◌, Option, Some, None, Ok, Err, refl, ap, ◌∙◌, append_assoc}
use Rattle.std.specs.List.{flat_map}
use Rattle.dir_model.specs.declared.event.Event.{Event}
use Rattle.dir_model.specs.declared.item.Inner.{Inner}
use Rattle.dir_model.specs.declared.pod.PodId.{PodId}
use Rattle.dir_model.specs.declared.request.Request.{Request}
use Rattle.dir_model.specs.declared.request.Request.TheVariants.{MoveFolder, RemoveFolder, MakeDirIn, MakeFileIn, AppendIn, RemoveFileIn, RemoveDirIn}
use Rattle.dir_model.specs.declared.spot.Spot.{Spot}
use Rattle.dir_model.specs.declared.tree.TreeEntry.{TreeEntry}
use Rattle.dir_model.specs.State.{DirState, is_at, folder_at}
use Rattle.dir_model.specs.Trees.{names_in}
use Rattle.dir_model.proofs.Lists.{all_weaker}
use Rattle.dir_model.proofs.Moments.{at_within}
use Rattle.dir_files.specs.Reads.{bytes_in, file_at}
use Rattle.metadata.specs.Looks.{looks_in_run}
use Rattle.metadata.proofs.Calm.{looks_calm}
use Rattle.phase_read.specs.declared.found.Found.{Found}
use Rattle.phase_read.specs.declared.found.Found.TheVariants.{At, Gone}
use Rattle.phase_read.specs.Read.{stages}
use Rattle.phase_read.specs.Sequential.{sequential_read}
use Rattle.phase_read.proofs.Exact.{event_within}
use Rattle.pod_lookup.specs.Pods.{pods_named, pods_standing}
use Rattle.pod_report.specs.declared.line.PodLine.{PodLine}
use Rattle.pod_report.specs.Before.{names_in_file}
use Rattle.pod_report.specs.declared.ends.AppEndText.{AppEndText}
use Rattle.pod_report.specs.declared.status.PodStatus.{PodStatus}
use Rattle.pod_report.specs.Created.{HasCreatedMark}
use Rattle.pod_report.specs.Ends.{HasEndedAnywhere}
use Rattle.pod_report.specs.Manifests.{manifest_in_area}
use Rattle.pod_report.specs.Moments.{AtEachState, AtSomeState, IsMoment}
use Rattle.pod_report.specs.Status.{IsPodStatus}
use Rattle.pod_report.specs.Requests.{inspects, surveys, visits}
use Rattle.pod_report.specs.Snapshot.{AreAppsOf, ExistsThroughout, IsPodLine, IsWeakSnapshot}
use Rattle.pod_report.proofs.Going.{visits_survey}
use Rattle.pod_report.proofs.SameStatus.{same_status}
use Rattle.pod_report.proofs.QuietSurvey.{SameWorld, inspect_calm, is_calm, survey_calm}
use Rattle.command_outcomes.specs.declared.refusal.Refusal.TheVariants.{NoManifest, NoPod}
use Rattle.command_outcomes.specs.Moments.{CommandOutcome}
use Rattle.commands.specs.CatManifest.{IsManifestIn, TellsManifest, file_said, manifest_in}
use Rattle.commands.specs.NextState.{is_nowhere}
use Rattle.commands.specs.PodList.{IsListOf, TellsLines, pod_line_in, pod_line_text, sequential_list}
use Rattle.commands.specs.Report.{Report}
use Rattle.commands.proofs.RemovalQuiet.{ChangesAt, changed_in}
use Rattle.commands.specs.Status.{IsStatusIn, TellsStatus, status_said}
use Rattle.commands.proofs.SameReads.{sequential_same}

-- of a longer time
abbrev pub IsWider : Report → Type 0
IsWider r = (me : ℕ) (a b c d earlier later : List Event) → b ≡ a ++ earlier → d ≡ c ++ later → (o : CommandOutcome) → r.tells me b c o → r.tells me a d o

-- by a state with the same folders, owners and files
abbrev pub IsStable : Report → Type 0
IsStable r = (me : ℕ) (s t : DirState) → SameWorld me s t → (o : CommandOutcome) → r.quiet t o → r.quiet s o

module _ (me : ℕ) (a b c d earlier later : List Event) (begins : b ≡ a ++ earlier) (ends : d ≡ c ++ later) where
  exists_within : (name : List ℕ) → ExistsThroughout me a d name → ExistsThroughout me b c name
  exists_within name all before step on rest is whole own =
      all before step (earlier ++ on) (rest ++ later) (is ∙ (ap (λ h. h ++ on) begins ∙ append_assoc a earlier on))
      (ends ∙ (ap (λ h. h ++ later) whole ∙ append_assoc (before ++ step ∷ []) rest later)) own

  apps_wider : (pod : PodId) (names : Option (List (List ℕ))) → AreAppsOf pod names me b c → AreAppsOf pod names me a d
  apps_wider pod (Some names) at = at_within earlier later begins ends at
  apps_wider pod None (inl at) = inl (at_within earlier later begins ends at)
  apps_wider pod None (inr at) = inr (event_within earlier later begins ends at)

  line_wider : (line : PodLine) → IsPodLine me b c line → IsPodLine me a d line
  line_wider line l = record { phase = event_within earlier later begins ends l.phase; apps = apps_wider line.pod line.apps l.apps }

  snapshot_wider : (lines : List PodLine) → IsWeakSnapshot me b c lines → IsWeakSnapshot me a d lines
  snapshot_wider lines s = record {
    rise = s.rise;
    each = all_weaker (IsPodLine me b c) (IsPodLine me a d) line_wider lines s.each;
    whole = λ name is all. s.whole name is (exists_within name all);
  }

  pub lines_wider : (o : CommandOutcome) → TellsLines me b c o → TellsLines me a d o
  lines_wider (Ok text) p = record { lines = p.lines; so = snapshot_wider p.lines p.so; is = p.is }
  lines_wider (Err r) p = p

  pub manifest_wider : (pod : PodId) (o : CommandOutcome) → TellsManifest pod me b c o → TellsManifest pod me a d o
  manifest_wider pod (Ok text) p = record { manifest = p.manifest; so = at_within earlier later begins ends p.so; is = p.is }
  manifest_wider pod (Err NoPod) at = event_within earlier later begins ends at
  manifest_wider pod (Err (NoManifest other)) p = (p.0, at_within earlier later begins ends p.1)
  manifest_wider pod (Err r) p = p

  -- the moments of the part are moments of the whole
  moment_wider : (trace : List Event) → IsMoment b trace c → IsMoment a trace d
  moment_wider trace m = record {
    first = earlier ++ m.first;
    last = m.last ++ later;
    begins = m.begins ∙ (ap (λ h. h ++ m.first) begins ∙ append_assoc a earlier m.first);
    ends = ends ∙ (ap (λ h. h ++ later) m.ends ∙ append_assoc trace m.last later);
  }

  some_wider : {P : DirState → Type 0} → AtSomeState b c P → AtSomeState a d P
  some_wider x = record { trace = x.trace; moment = moment_wider x.trace x.moment; holds = x.holds }

  each_within : (P : DirState → Type 0) → AtEachState a d P → AtEachState b c P
  each_within P all trace m = all trace (moment_wider trace m)

  whole_wider : (pod : PodId) (status : PodStatus) → IsPodStatus pod status me b c → IsPodStatus pod status me a d
  whole_wider pod status x = record {
    area = x.area;
    stage = x.stage;
    phase = event_within earlier later begins ends x.phase;
    created = λ moment is. some_wider (x.created moment is);
    latest = λ moment all. x.latest moment (each_within (HasCreatedMark pod moment) all);
    ends = all_weaker (λ (e : AppEndText). AtSomeState b c (HasEndedAnywhere pod e.app e.status)) (λ (e : AppEndText). AtSomeState a d (HasEndedAnywhere pod e.app e.status)) (λ e at. some_wider at) status.ends x.ends;
    rise = x.rise;
    named = x.named;
    whole = λ app n named all. x.whole app n named (each_within (HasEndedAnywhere pod app n) all);
  }

  pub status_wider : (pod : PodId) (o : CommandOutcome) → TellsStatus pod me b c o → TellsStatus pod me a d o
  status_wider pod (Ok text) p = record { status = p.status; so = whole_wider pod p.status p.so; is = p.is }
  status_wider pod (Err NoPod) at = event_within earlier later begins ends at
  status_wider pod (Err r) p = p

module _ (me : ℕ) (s t : DirState) (w : SameWorld me s t) where
  same_file : (inner : Inner) → file_at t inner ≡ file_at s inner
  same_file inner =
      ap (λ (es : List TreeEntry). bytes_in es inner.path (folder_at t.namespace inner.spot)) w.entries
      ∙ ap (λ (folders : List (Option Spot)). bytes_in s.entries inner.path (position (is_at inner.spot) folders)) w.names.folders

  pub status_stable : (pod : PodId) (o : CommandOutcome) → IsStatusIn pod t o → IsStatusIn pod s o
  status_stable pod o is = is ∙ ap status_said (same_status w pod)

  line_stable : (pod : PodId) (f : Found) → pod_line_in t pod f ≡ pod_line_in s pod f
  line_stable pod (At phase area) = ap (λ (file : Option (List ℕ)). pod_line_text (record { pod = pod; phase = phase; apps = names_in_file file })) (same_file (manifest_in_area pod area))
  line_stable pod Gone = refl

  pod_stable : (pod : PodId) → pod_line_in t pod (sequential_read t pod) ≡ pod_line_in s pod (sequential_read s pod)
  pod_stable pod = line_stable pod (sequential_read t pod) ∙ ap (pod_line_in s pod) (sequential_same me s t w.names pod)

  lines_same : (pods : List PodId) → flat_map (λ pod. pod_line_in t pod (sequential_read t pod)) pods ≡ flat_map (λ pod. pod_line_in s pod (sequential_read s pod)) pods
  lines_same [] = refl
  lines_same (pod ∷ pods) = rw (pod_stable pod, lines_same pods) refl

  list_same : sequential_list t ≡ sequential_list s
  list_same = lines_same (pods_standing t.namespace) ∙ ap (λ (folders : List (Option Spot)). flat_map (λ pod. pod_line_in s pod (sequential_read s pod)) (pods_named (flat_map (λ area. names_in area folders) stages))) w.names.folders

  pub lines_stable : (o : CommandOutcome) → IsListOf t o → IsListOf s o
  lines_stable o is = is ∙ ap Ok list_same

  manifest_same : (pod : PodId) (f : Found) → manifest_in t pod f ≡ manifest_in s pod f
  manifest_same pod (At phase area) = ap (file_said pod) (same_file (manifest_in_area pod area))
  manifest_same pod Gone = refl

  pub manifest_stable : (pod : PodId) (o : CommandOutcome) → IsManifestIn pod t o → IsManifestIn pod s o
  manifest_stable pod o is = is ∙ (manifest_same pod (sequential_read t pod) ∙ ap (manifest_in s pod) (sequential_same me s t w.names pod))

-- a report changes nothing
changes_nothing : (asks : Request → Bool) → ((request : Request) → asks request ≡ true → is_calm request ≡ true) → ChangesAt is_nowhere asks
changes_nothing asks wider = record { moves = λ from to h. let clash : false ≡ true = wider (MoveFolder from to) h in cc; removes = λ spot h. let clash : false ≡ true = wider (RemoveFolder spot) h in cc; fills = filled }
  where
    filled : (request : Request) (spot : Spot) → changed_in request ≡ Some spot → asks request ≡ true → is_nowhere spot ≡ true
    filled (MakeDirIn i) spot is h = let clash : false ≡ true = wider (MakeDirIn i) h in cc
    filled (MakeFileIn i) spot is h = let clash : false ≡ true = wider (MakeFileIn i) h in cc
    filled (AppendIn i piece) spot is h = let clash : false ≡ true = wider (AppendIn i piece) h in cc
    filled (RemoveFileIn i) spot is h = let clash : false ≡ true = wider (RemoveFileIn i) h in cc
    filled (RemoveDirIn i) spot is h = let clash : false ≡ true = wider (RemoveDirIn i) h in cc
    filled request spot is h = cc

pub surveys_change : ChangesAt is_nowhere surveys
surveys_change = changes_nothing surveys survey_calm

pub visits_change : (pod : PodId) → ChangesAt is_nowhere (visits pod)
visits_change pod = changes_nothing (visits pod) (λ r h. survey_calm r (visits_survey pod r h))

pub inspects_change : (pod : PodId) → ChangesAt is_nowhere (inspects pod)
inspects_change pod = changes_nothing (inspects pod) (inspect_calm pod)

pub service_changes : ChangesAt is_nowhere looks_in_run
service_changes = changes_nothing looks_in_run looks_calm
