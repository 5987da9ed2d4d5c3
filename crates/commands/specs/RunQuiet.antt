-- What `run-prepared` and `run` come to, and leave, where nobody else steps.
use Rattle.std.specs.Prelude.{◌≡◌, ℕ, true, false, Some, None, List, ◌++◌, Bool}
use Rattle.std.specs.List.{AllByRecursion, list_any}
use Rattle.ac_types.specs.declared.image_ref.ImageRef.{ImageRef}
use Rattle.dir_model.specs.declared.area.Area.{Area}
use Rattle.dir_model.specs.declared.area.Area.TheVariants as area
use Rattle.dir_model.specs.declared.area.Phase.{Phase}
use Rattle.dir_model.specs.declared.area.Phase.TheVariants as phase
use Rattle.dir_model.specs.declared.event.Event.{Event}
use Rattle.dir_model.specs.declared.intent.Draw.{Draw}
use Rattle.dir_model.specs.declared.pod.PodId.{PodId}
use Rattle.dir_model.specs.declared.spot.Mode.TheVariants.{Shared}
use Rattle.dir_model.specs.declared.spot.Which.{Which}
use Rattle.dir_model.specs.Trees.{content, has_file}
use Rattle.dir_rules.specs.declared.seen.Entry.{Entry}
use Rattle.dir_trait.specs.State.{DirState, folder_at, is_owned}
use Rattle.dir_trait.specs.Trace.{state_after}
use Rattle.folder_contents.specs.Entries.{entries_in}
use Rattle.lifecycle.specs.Executions.{IsConforming}
use Rattle.phase_read.specs.declared.found.Found.TheVariants.{At}
use Rattle.phase_read.specs.Exact.{IsInPhase}
use Rattle.phase_read.specs.Sequential.{sequential_read}
use Rattle.dir_files.specs.AreaLocks.{IsBusyElsewhere, IsFreeElsewhere}
use Rattle.dir_trait.specs.DirCalls.{DirAt}
use Rattle.command_outcomes.specs.declared.refusal.Refusal.{Refusal}
use Rattle.command_outcomes.specs.declared.refusal.Refusal.TheVariants.{Busy, Stray}
use Rattle.pod_build.specs.Preparations.{IsPrepared}
use Rattle.pod_manifest.specs.Wishes.{Wishes}
use Rattle.pod_locks.specs.declared.claim_error.ClaimError.{ClaimError}
use Rattle.pod_locks.specs.declared.claim_error.ClaimError.TheVariants as claim
use Rattle.pod_locks.specs.ClaimCauses.{IsPreparedWithoutManifest, is_held_elsewhere}
use Rattle.pod_locks.specs.ClaimRequests.{in_prepared, in_run}
use Rattle.commands.specs.ClaimTable.{claim_error, IsWhy}
use Rattle.commands.specs.References.{OfReferences}
use Rattle.commands.specs.Prepare.{RefusesPod, HasKeptFolder}
use Rattle.commands.specs.PrepareTable.{NothingRefuses, RefusesByState}
use Rattle.commands.specs.Wants.{Wants}
use Rattle.commands.specs.RemovalQuiet.{StandsNowhere, HasPhaseNow}
use Rattle.spawner.specs.Conditions.{start_mark}
use Rattle.stage1.specs.declared.end.AppEnd.{AppEnd}
use Rattle.standing_images.specs.Images.{AreStore}
use Rattle.stage1.specs.Notes.{status_path, status_text}
use Rattle.commands.specs.AppEnds.{app_lines}
use Rattle.commands.specs.Strays.{NeverComes}

-- the pod stands in this area and has this phase: by its history, and by the first area in which it stands and its lock there
pub record IsPhaseAt (pod : PodId) (phase : Phase) (area : Area) (trace : List Event) : Type 0 where
  pub is : IsInPhase pod phase area trace
  pub reads : sequential_read (state_after trace) pod ≡ At phase area

-- the pod's folder stands in run. In a conforming execution nobody owns it
pub record IsLeftInRun (pod : PodId) (folder : ℕ) (trace : List Event) : Type 0 where
  pub there : folder_at (state_after trace).namespace (in_run pod) ≡ Some folder
  pub exited : IsConforming trace → IsPhaseAt pod phase.Exited area.Run trace
  pub unowned : IsConforming trace → is_owned (state_after trace).namespace folder ≡ false

-- a pod that was claimed waited in prepared before, nothing stood against its claim, and its folder is left in run
pub record HasPassed (pod : PodId) (me : ℕ) (old new : List Event) : Type 0 where
  pub folder : ℕ
  pub stood : folder_at (state_after old).namespace (in_prepared pod) ≡ Some folder
  pub waited : IsConforming old → IsPhaseAt pod phase.Prepared area.Prepared old
  pub free : IsConforming old → claim_error me pod (state_after old) ≡ None
  pub left : IsLeftInRun pod folder new

-- a folder of the pod stands in prepared, and another process holds this lock of it
pub record IsClaimHeld (pod : PodId) (which : Which) (me : ℕ) (s : DirState) : Type 0 where
  pub folder : ℕ
  pub there : folder_at s.namespace (in_prepared pod) ≡ Some folder
  pub held : list_any (is_held_elsewhere me which folder) s.namespace.openings ≡ true

-- a pod that was made for this process was made faithfully, of the images that are the store of the state before, whose lock nobody else
-- held exclusively then, and its folder is left in run; and nothing refused the references
abbrev pub HasMadeAndLeft : Wants → ℕ → PodId → List Event → List Event → Type 0
HasMadeAndLeft wants me draw old new =
    OfReferences wants.images (λ refs. (x : IsPrepared refs wants.wishes me draw area.Run old new) × IsLeftInRun draw x.folder new × AreStore x.faithful.images (state_after old)
    × IsFreeElsewhere me area.Images Shared (state_after old) × NothingRefuses me draw refs wants.wishes (state_after old))

-- what the folder of a claimed pod held in the state before, and what the maker of a pod made in its folder
abbrev pub held_before : {pod : PodId} {me : ℕ} {old new : List Event} → HasPassed pod me old new → List Entry
held_before {old = old} x = entries_in x.folder (state_after old).entries

abbrev pub entries_made : {refs : List ImageRef} {wishes : Wishes} {me : ℕ} {draw : PodId} {to : Area} {old new : List Event} → IsPrepared refs wishes me draw to old new → List Entry
entries_made x = x.faithful.built.making.entries

-- the mark of an app stands in the folder with this number, and the file of its status with that alone
pub record FolderShowsEnd (folder : ℕ) (s : DirState) (end : AppEnd) : Type 0 where
  pub marked : has_file s.entries folder (start_mark end.app) ≡ true
  pub noted : has_file s.entries folder (status_path end.app) ≡ true
  pub status : content s.entries folder (status_path end.app) ≡ status_text end.status

-- the pod's folder in run has those of each app
pub record HasItsEnds (pod : PodId) (ends : List AppEnd) (trace : List Event) : Type 0 where
  pub folder : ℕ
  pub there : folder_at (state_after trace).namespace (in_run pod) ≡ Some folder
  pub each : AllByRecursion (FolderShowsEnd folder (state_after trace)) ends

-- each app's line is told after this text, and the pod has them
pub record TellsItsEnds (pod : PodId) (front : List ℕ) (trace : List Event) (text : List ℕ) : Type 0 where
  pub ends : List AppEnd
  pub is : text ≡ front ++ app_lines ends
  pub stand : HasItsEnds pod ends trace

-- why a pod isn't claimed, by the state before, which asks for this and for nothing else. No stray answer comes
abbrev pub UnclaimedFor : PodId → ClaimError → ℕ → List Event → List Event → Type 0
UnclaimedFor pod claim.NoPod me old new = IsConforming new → StandsNowhere pod (state_after old) × IsWhy pod claim.NoPod me (state_after old)
UnclaimedFor pod (claim.WrongPhase phase) me old new = IsConforming new → HasPhaseNow pod phase old × IsWhy pod (claim.WrongPhase phase) me (state_after old)
UnclaimedFor pod claim.NoManifest me old new = IsConforming new → IsPreparedWithoutManifest pod (state_after old) × IsWhy pod claim.NoManifest me (state_after old)
UnclaimedFor pod (claim.Busy other which) me old new = (other ≡ pod) × IsClaimHeld pod which me (state_after old) × (IsConforming new → IsWhy pod (claim.Busy pod which) me (state_after old))
UnclaimedFor pod claim.Stray me old new = NeverComes new
UnclaimedFor pod error me old new = Unit {0}

-- a pod wasn't made for its run, for this cause, by the reads of its process and the locks and the store of the state before; where a lock
-- was refused, another process held it before. By its own answers the process left at most its own folder, in embryo or in prepare, without a lock
pub record IsUnmadeFor (observed : Bool) (wants : Wants) (now : ℕ) (draw : Draw) (old new : DirAt) (refusal : Refusal) : Type 0 where
  pub why : RefusesPod observed wants now draw old new refusal
  pub state : RefusesByState wants draw.uuid refusal old.process (state_after old.trace)
  pub held : (area : Area) → refusal ≡ Busy area → IsBusyElsewhere old.process area Shared (state_after old.trace)
  pub lawful : refusal ≡ Stray → NeverComes new.trace
  pub left : HasKeptFolder draw.uuid old new
