-- What comes of a pod that is run.
use Rattle.std.specs.Prelude.{◌≡◌, ◌≤◌, ◌⊎◌, ℕ, ◌==◌, Bool, true, false, List, [], ◌∷◌, ◌++◌, map}
use Rattle.dir_model.specs.declared.pod.PodId.{PodId}
use Rattle.dir_model.specs.declared.request.Request.{Request}
use Rattle.dir_model.specs.declared.request.Request.TheVariants.{Close, ReadIn}
use Rattle.dir_model.specs.declared.request.Reply.TheVariants.{Done}
use Rattle.dir_model.specs.Causes.{Rose}
use Rattle.dir_model.specs.declared.spot.Handle.{Handle}
use Rattle.dir_model.specs.Local.{Local}
use Rattle.dir_trait.specs.DirCalls.{DirAt, DirCall, ExtendsBy}
use Rattle.spawner.specs.declared.call.RootPlace.{RootPlace}
use Rattle.spawner.specs.Calls.{SpawnerAt}
use Rattle.stage1.specs.declared.start.AppStart.{AppStart}
use Rattle.pod_files.specs.Looks.{reads_pod}
use Rattle.pod_files.specs.Places.{run_spot}
use Rattle.stage1.specs.Starts.{ReadsStarts}
use Rattle.stage1.specs.declared.load_error.LoadError.TheVariants as load
use Rattle.stage1.specs.LoadRefusals.{LoadCause}
use Rattle.folder_building.specs.Work.{either}
use Rattle.stage1.specs.declared.end.AppEnd.{AppEnd}
use Rattle.stage1.specs.declared.error.RunError.{RunError}
use Rattle.stage1.specs.declared.error.RunError.TheVariants.{NoManifest, Damaged, NoProgram, SpawnFault, DirFault, Stray, NoMemory}
use Rattle.stage1.specs.Refusals.{WasStrayRunBetween}
use Rattle.stage1.specs.Sequences.{Ending, launch_sequence, app_status_of}
use Rattle.stage1.specs.Asking.{Asks}
use Rattle.stage1.specs.Cutting.{IsCutShort}
use Rattle.stage1.specs.Beginnings.{AreMarked}
use Rattle.stage1.specs.Keeping.{AppendsOnce}
use Rattle.stage1.specs.Notes.{anything, notes_at, WroteStatus}

-- reads, notes, and the close of the handle
abbrev pub closes : Handle → Request → Bool
closes own (Close handle) = handle.number == own.number
closes own _ = false

-- what a run asks for: reads of the pod's files, and notes in it
abbrev pub runs_pod : PodId → Request → Bool
runs_pod pod = either (reads_pod pod) (notes_at (run_spot pod))

-- and the close of the handle by which it holds the pod
abbrev pub runs_and_closes : PodId → Handle → Request → Bool
runs_and_closes pod own = either (closes own) (runs_pod pod)

-- all apps have begun and ended, with these statuses
pub record HaveRun (observed : Bool) (starts : List AppStart) (statuses : List ℕ) (old new : SpawnerAt) : Type 0 where
  pub endings : List Ending
  pub apps : map (λ e. e.begun.app) endings ≡ starts
  pub statuses_are : map app_status_of endings ≡ statuses
  pub asked : Asks observed old (launch_sequence endings) new

-- the status of each was written
abbrev pub AreWrittenAll : DirAt → List AppStart → List ℕ → Type 0
AreWrittenAll d (app ∷ starts) (status ∷ statuses) = WroteStatus app.root status d × AreWrittenAll d starts statuses
AreWrittenAll d [] [] = Unit {0}
AreWrittenAll d _ _ = ⊥

-- one status more, and it was written
pub record AddsWritten (root : RootPlace) (before after : List ℕ) (d : DirAt) : Type 0 where
  pub status : ℕ
  pub added : after ≡ before ++ status ∷ []
  pub wrote : WroteStatus root status d

-- each app's name with its status
abbrev pub end_of : AppStart → ℕ → AppEnd
end_of app status = record { app = app.name; status = status }

-- each app with its status
abbrev pub AreEnds : List AppStart → List ℕ → List AppEnd → Type 0
AreEnds (app ∷ starts) (status ∷ statuses) (end ∷ ends) = (end ≡ end_of app status) × AreEnds starts statuses ends
AreEnds [] [] [] = Unit {0}
AreEnds _ _ _ = ⊥

-- apps were run so, their marks were made and their statuses written
pub record HasRunStarts (seen observed : Bool) (starts : List AppStart) (ends : List AppEnd) (d : DirAt) (old new : SpawnerAt) : Type 0 where
  pub statuses : List ℕ
  pub are : AreEnds starts statuses ends
  pub run : HaveRun observed starts statuses old new
  pub marked : seen ≡ true → AreMarked d starts
  pub wrote : seen ≡ true → AreWrittenAll d starts statuses

-- the apps of a pod start so by what was read of it, before anything else was asked for
pub record LoadsStarts (pod : PodId) (address : List ℕ) (starts : List AppStart) (d d' : DirAt) : Type 0 where
  pub loaded : DirAt
  pub same : loaded.process ≡ d.process
  pub reads : ExtendsBy (reads_pod pod) d loaded
  pub found : ReadsStarts pod address starts d loaded
  pub then : ExtendsBy anything loaded d'

-- the apps of a pod were run by what was read of it; to each file at most one append was asked for
pub record HasRunHeld (seen observed : Bool) (pod : PodId) (address : List ℕ) (ends : List AppEnd) (d d' : DirAt) (s s' : SpawnerAt) : Type 0 where
  pub starts : List AppStart
  pub loads : seen ≡ true → LoadsStarts pod address starts d d'
  pub ran : HasRunStarts seen observed starts ends d' s s'
  pub once : seen ≡ true → AppendsOnce d d'

-- the pod was run, and its own lock was given up once the statuses stood written
pub record HasRun (seen observed : Bool) (pod : PodId) (own : Handle) (address : List ℕ) (ends : List AppEnd) (d d' : DirAt) (s s' : SpawnerAt) : Type 0 where
  pub before : DirAt
  pub ran : HasRunHeld seen observed pod address ends d before s s'
  pub closed : DirCall seen before (Close own) Done d'

-- why the run of apps stopped whose programs were found
abbrev pub StopCause : Bool → RunError → DirAt → DirAt → SpawnerAt → SpawnerAt → Type 0
StopCause seen SpawnFault d d' s s' = Rose s.faults s'.faults
StopCause seen DirFault d d' s s' = Rose d.faults d'.faults
StopCause seen Stray d d' s s' = seen ≡ true → WasStrayRunBetween d d'
StopCause seen NoMemory d d' s s' = Unit {0}
StopCause seen error d d' s s' = ⊥

-- what a refusal rests on
abbrev pub RunRefusedFor : Bool → PodId → RunError → DirAt → DirAt → SpawnerAt → SpawnerAt → Type 0
RunRefusedFor seen pod NoManifest d d' s s' = seen ≡ true → LoadCause pod load.NoManifest d d'
RunRefusedFor seen pod (Damaged path) d d' s s' = seen ≡ true → LoadCause pod (load.Damaged path) d d'
RunRefusedFor seen pod (NoProgram app word) d d' s s' = seen ≡ true → LoadCause pod (load.NoProgram app word) d d'
RunRefusedFor seen pod error d d' s s' = StopCause seen error d d' s s'

-- nothing was started before every program was found
abbrev pub is_early : RunError → Bool
is_early NoManifest = true
is_early (Damaged path) = true
is_early (NoProgram app word) = true
is_early error = false

-- reads, and closes of handles
abbrev pub reads_or_closes : Request → Bool
reads_or_closes (ReadIn inner at room) = true
reads_or_closes (Close handle) = true
reads_or_closes _ = false

-- the pod wasn't run to its end: whatever was started was waited for. What was refused so early was refused by reads
pub record IsRefusedRun (seen observed : Bool) (pod : PodId) (address : List ℕ) (error : RunError) (d d' : DirAt) (s s' : SpawnerAt) : Type 0 where
  pub cause : RunRefusedFor seen pod error d d' s s'
  pub early : is_early error ≡ true → Asks observed s [] s'
  pub unchanged : is_early error ≡ true → seen ≡ true → ExtendsBy reads_or_closes d d'
  pub starts : List AppStart
  pub loads : seen ≡ true → (starts ≡ []) ⊎ LoadsStarts pod address starts d d'
  pub cut : IsCutShort observed starts s s'
