-- A pod that was read and then run.
use Rattle.std.proofs.Common.{◌≡◌, inl, inr, ℕ, Bool, true, List, [], refl, sym, ap, subst}
use Rattle.std.specs.List.{AllByRecursion}
use Rattle.ac_types.specs.Names.{IsAcName}
use Rattle.dir_model.specs.declared.pod.PodId.{PodId}
use Rattle.dir_model.specs.Causes.{Rose}
use Rattle.dir_model.specs.Local.{IsActive}
use Rattle.dir_model.specs.Pods.{pod_text}
use Rattle.dir_model.proofs.Lists.{all_weaker}
use Rattle.dir_laws.proofs.Rose.{rose_later}
use Rattle.dir_trait.specs.DirCalls.{DirAt, ExtendsBy}
use Rattle.dir_trait.specs.Effects.{OnlyAsks}
use Rattle.folder_building.proofs.Working.{worked_more, worked_wider, in_first, in_second}
use Rattle.pod_locks.specs.Running.{RunsPod}
use Rattle.spawner.specs.declared.call.RootPlace.{RootPlace}
use Rattle.spawner.specs.Calls.{SpawnerAt}
use Rattle.spawner.specs.Conditions.{StillRuns}
use Rattle.stage1.specs.declared.load_error.LoadError.{LoadError}
use Rattle.stage1.specs.declared.load_error.LoadError.TheVariants as load
use Rattle.stage1.specs.declared.start.AppStart.{AppStart}
use Rattle.pod_files.specs.Looks.{reads_pod, OnlyReadsPod}
use Rattle.pod_files.specs.Places.{run_spot}
use Rattle.stage1.specs.Starts.{IsPlacedIn, ReadsStarts}
use Rattle.stage1.specs.LoadRefusals.{LoadCause}
use Rattle.stage1.specs.declared.error.RunError.{RunError}
use Rattle.stage1.specs.declared.error.RunError.TheVariants.{NoManifest, Damaged, NoProgram, SpawnFault, DirFault, Stray, NoMemory}
use Rattle.stage1.specs.Cutting.{IsCutShort}
use Rattle.stage1.specs.Notes.{anything, notes_at}
use Rattle.stage1.specs.Beginnings.{IsInRun, AreAt, RunsEach}
use Rattle.stage1.specs.Refusals.{load_refusal, WasStrayIn}
use Rattle.stage1.specs.Runs.{runs_pod, StopCause, RunRefusedFor, is_early, IsRefusedRun}
use Rattle.stage1.proofs.Asked.{asks_none}
use Rattle.stage1.proofs.Causes.{stray_after}
use Rattle.stage1.proofs.Starting.{loads, only_reads}
use Rattle.stage1.proofs.Whole.{cut_nothing}

module _ (pod : PodId) (starts : List AppStart) (placed : AllByRecursion (IsPlacedIn pod) starts) where
  pub in_run : AllByRecursion IsInRun starts
  in_run = all_weaker (IsPlacedIn pod) IsInRun (λ app p. record { area = ap (λ (r : RootPlace). r.spot.area) p.place; named = subst IsAcName (sym (ap (λ (r : RootPlace). r.app) p.place)) p.named }) starts placed

  pub at_run : AreAt (run_spot pod) starts
  at_run = all_weaker (IsPlacedIn pod) (λ app. app.root.spot ≡ run_spot pod) (λ app p. ap (λ (r : RootPlace). r.spot) p.place) starts placed

  pub runs_each : (d : DirAt) → StillRuns d (pod_text pod.bytes) → RunsEach d starts
  runs_each d r = all_weaker (IsPlacedIn pod) (λ app. StillRuns d app.root.spot.name) (λ app p. subst (λ (n : List ℕ). StillRuns d n) (sym (ap (λ (x : RootPlace). x.spot.name) p.place)) r) starts placed

pub still_runs : {observed : Bool} {old new : DirAt} (pod : PodId) → observed ≡ true → IsActive old.local → OnlyReadsPod observed pod old new → RunsPod pod old → StillRuns new (pod_text pod.bytes)
still_runs pod t active o r = record { active = subst IsActive (sym o.local) active; seen = r.seen; knows = o.known t r.seen refl r.knows; runs = r.runs }

pub worked_reads : {observed : Bool} {old new : DirAt} (pod : PodId) → OnlyReadsPod observed pod old new → OnlyAsks observed (runs_pod pod) old new
worked_reads {observed} {old} {new} pod o =
    let w : OnlyAsks observed (reads_pod pod) old new = record { same = o.same; faults = o.faults; local = o.local; extends = o.extends } in
    worked_wider (in_first (reads_pod pod) (notes_at (run_spot pod))) w

pub worked_runs : {observed : Bool} {a b c : DirAt} (pod : PodId) → OnlyReadsPod observed pod a b → OnlyAsks observed (notes_at (run_spot pod)) b c → OnlyAsks observed (runs_pod pod) a c
worked_runs pod o w = worked_more (worked_reads pod o) (worked_wider (in_second (reads_pod pod) (notes_at (run_spot pod))) w)

-- the run of apps that were read stopped
stop_wider : {seen : Bool} (pod : PodId) (e : RunError) (d mid new : DirAt) (s s' : SpawnerAt) → OnlyReadsPod seen pod d mid → StopCause seen e mid new s s' → RunRefusedFor seen pod e d new s s'
stop_wider pod NoManifest d mid new s s' o is = absurd is
stop_wider pod (Damaged path) d mid new s s' o is = absurd is
stop_wider pod (NoProgram app word) d mid new s s' o is = absurd is
stop_wider pod SpawnFault d mid new s s' o is = is
stop_wider pod DirFault d mid new s s' o is = rose_later d.faults mid.faults new.faults o.faults is
stop_wider pod Stray d mid new s s' o is = λ t. subst (λ (p : ℕ). WasStrayIn p d.trace new.trace) o.same (stray_after mid.process d.trace mid.trace new.trace (o.extends t).more (o.extends t).grown (is t))
stop_wider pod NoMemory d mid new s s' o is = tt

not_early : (seen : Bool) (e : RunError) (mid new : DirAt) (s s' : SpawnerAt) → StopCause seen e mid new s s' → is_early e ≡ true → ⊥
not_early seen NoManifest mid new s s' is early = is
not_early seen (Damaged path) mid new s s' is early = is
not_early seen (NoProgram app word) mid new s s' is early = is
not_early seen e mid new s s' is early = cc

pub refused_run : {seen observed : Bool} (pod : PodId) (address : List ℕ) (starts : List AppStart) (e : RunError) (d mid new : DirAt) (s s' : SpawnerAt) → OnlyReadsPod seen pod d mid → (seen ≡ true → ExtendsBy anything mid new) → (seen ≡ true → ReadsStarts pod address starts d mid) → StopCause seen e mid new s s' → IsCutShort observed starts s s' → IsRefusedRun seen observed pod address e d new s s'
refused_run {seen} {observed} pod address starts e d mid new s s' o more read is cut = record {
  cause = stop_wider pod e d mid new s s' o is;
  early = λ early. absurd (not_early seen e mid new s s' is early);
  unchanged = λ early t. absurd (not_early seen e mid new s s' is early);
  starts = starts;
  loads = λ t. inr (loads pod address starts d mid new t o (read t) (more t));
  cut = cut;
}

-- nothing was started
load_cause : {seen : Bool} (pod : PodId) (e : LoadError) (d new : DirAt) (s : SpawnerAt) → (e ≡ load.DirFault → Rose d.faults new.faults) → (seen ≡ true → LoadCause pod e d new) → RunRefusedFor seen pod (load_refusal e) d new s s
load_cause pod load.NoManifest d new s rose lacks = lacks
load_cause pod (load.Damaged path) d new s rose lacks = lacks
load_cause pod (load.NoProgram app word) d new s rose lacks = lacks
load_cause pod load.DirFault d new s rose lacks = rose refl
load_cause pod load.NoMemory d new s rose lacks = tt

pub refused_load : {seen observed : Bool} (pod : PodId) (address : List ℕ) (e : LoadError) (d new : DirAt) (s : SpawnerAt) → OnlyReadsPod seen pod d new → (e ≡ load.DirFault → Rose d.faults new.faults) → (seen ≡ true → LoadCause pod e d new) → IsRefusedRun seen observed pod address (load_refusal e) d new s s
refused_load pod address e d new s o rose lacks = record {
  cause = load_cause pod e d new s rose lacks;
  early = λ t. asks_none;
  unchanged = λ early. only_reads pod o;
  starts = [];
  loads = λ t. inl refl;
  cut = cut_nothing [];
}
