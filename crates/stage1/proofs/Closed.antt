-- A run, and then the close of the pod's own lock.
use Rattle.std.proofs.Common.{◌≡◌, ◌≤◌, ℕ, Bool, true, ◌&&◌, List, refl, ap, ◌∙◌}
use Rattle.dir_model.specs.declared.pod.PodId.{PodId}
use Rattle.dir_model.specs.declared.request.Request.{Request}
use Rattle.dir_model.specs.declared.request.Request.TheVariants.{Close}
use Rattle.dir_model.specs.declared.request.Reply.TheVariants.{Done}
use Rattle.dir_model.specs.declared.spot.Handle.{Handle}
use Rattle.dir_model.proofs.Chains.{and_more, extends_wider}
use Rattle.dir_model.proofs.Lists.{and_both}
use Rattle.dir_rules.specs.declared.standing.Standing.{Standing}
use Rattle.dir_rules.specs.Conforms.{seen_replied}
use Rattle.dir_rules.specs.LockRules.{may_close}
use Rattle.dir_rules.specs.Rules.{allows}
use Rattle.dir_rules.specs.Standing.{standing_replied}
use Rattle.dir_laws.proofs.Rose.{rose_still}
use Rattle.dir_trait.proofs.Knowing.{knows_call}
use Rattle.dir_trait.specs.DirCalls.{DirAt, DirCall, ExtendsBy}
use Rattle.spawner.specs.Calls.{SpawnerAt}
use Rattle.stage1.specs.declared.load_error.LoadError.TheVariants as load
use Rattle.stage1.proofs.Later.{load_later}
use Rattle.stage1.specs.declared.error.RunError.{RunError}
use Rattle.stage1.specs.declared.error.RunError.TheVariants.{NoManifest, Damaged, NoProgram, SpawnFault, DirFault, Stray, NoMemory}
use Rattle.stage1.specs.Runs.{reads_or_closes, RunRefusedFor, IsRefusedRun}
use Rattle.stage1.proofs.Causes.{stray_before}
use Rattle.stage1.proofs.Starting.{any_later}
use Rattle.stage1.specs.Keeping.{RunnerKeepsRules, KeepsToEnd}

module _ {seen : Bool} {asks : Request → Bool} (a b c : DirAt) (pod : PodId) (same : b.process ≡ a.process) (faults : b.faults ≤ c.faults) (more : seen ≡ true → ExtendsBy asks b c) (reads : (r : Request) → asks r ≡ true → reads_or_closes r ≡ true) where
  cause_later : (e : RunError) (s s' : SpawnerAt) → RunRefusedFor seen pod e a b s s' → RunRefusedFor seen pod e a c s s'
  cause_later NoManifest s s' is = λ t. load_later b c (more t) a same pod load.NoManifest (is t)
  cause_later (Damaged path) s s' is = λ t. load_later b c (more t) a same pod (load.Damaged path) (is t)
  cause_later (NoProgram app word) s s' is = λ t. load_later b c (more t) a same pod (load.NoProgram app word) (is t)
  cause_later SpawnFault s s' is = is
  cause_later DirFault s s' is = rose_still a.faults b.faults c.faults is faults
  cause_later Stray s s' is = λ t. stray_before a.process a.trace b.trace c.trace (more t).more (more t).grown (is t)
  cause_later NoMemory s s' is = tt

  pub refused_closed : {observed : Bool} {address : List ℕ} (e : RunError) (s s' : SpawnerAt) → IsRefusedRun seen observed pod address e a b s s' → IsRefusedRun seen observed pod address e a c s s'
  refused_closed {observed} {address} e s s' r = record { cause = cause_later e s s' r.cause; early = r.early; unchanged = λ early t. and_more (r.unchanged early t) same (extends_wider {asks = asks} {asks' = reads_or_closes} reads (more t)); starts = r.starts; loads = λ t. any_later a b c same (more t) pod address r.starts (r.loads t); cut = r.cut }

-- the close keeps the rules too
pub keeps_closed : {observed : Bool} {a b c : DirAt} (pod : PodId) (own : Handle) → observed ≡ true → RunnerKeepsRules pod a b → DirCall observed b (Close own) Done c → KeepsToEnd pod own a c
keeps_closed pod own t keeps call s k fresh closes =
    let one = keeps s k fresh in
    let may : allows one.known (Close own) ≡ true = and_both (may_close one.known.standing own) true (ap (λ (x : Standing). may_close x own) one.stands ∙ closes) refl in
    record {
      known = seen_replied one.known (Close own) Done;
      stands = ap (λ (x : Standing). standing_replied x (Close own) Done) one.stands;
      kept = ap (λ (b : Bool). b && one.known.kept) may ∙ one.kept;
      knows = knows_call t one.knows refl refl call;
    }
