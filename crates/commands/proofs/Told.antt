-- What is told of the run of a pod that the process owns.
use Rattle.std.proofs.Common.{◌≡◌, ◌⊎◌, inl, inr, ℕ, Bool, true, List, Ok, Err, IsErrOf, IfErr, refl, sym, subst, ◌∙◌}
use Rattle.dir_model.specs.declared.pod.PodId.{PodId}
use Rattle.dir_model.specs.Causes.{Rose}
use Rattle.dir_trait.specs.DirCalls.{DirAt}
use Rattle.spawner.specs.Calls.{SpawnerAt}
use Rattle.pod_locks.specs.declared.owned.Owned.{Owned}
use Rattle.stage1.specs.declared.end.AppEnd.{AppEnd}
use Rattle.stage1.specs.declared.error.RunError.{RunError}
use Rattle.stage1.specs.declared.error.RunError.TheVariants as run
use Rattle.stage1.specs.Runs.{HasRun, IsRefusedRun, RunRefusedFor}
use Rattle.command_outcomes.specs.declared.refusal.Refusal.{Refusal}
use Rattle.command_outcomes.specs.declared.refusal.Refusal.TheVariants.{DirFault, SpawnFault, NoMemory}
use Rattle.command_outcomes.specs.declared.told.Told.{Told}
use Rattle.command_outcomes.specs.Moments.{Answer}
use Rattle.commands.specs.AppEnds.{told_of_ends}
use Rattle.commands.specs.RunRefusals.{run_refusal, IsRunSaid, apps_refusal}
use Rattle.commands.specs.AppRuns.{RunSays}
use Rattle.stage1.specs.declared.error.RunError.TheVariants.{Stray}
use Rattle.commands.specs.Strays.{NeverComes}

-- of what a refusal was said
run_fault : (pod : PodId) (e : RunError) → run_refusal pod e ≡ DirFault → e ≡ run.DirFault
run_fault pod run.DirFault is = refl
run_fault pod e is = cc

run_spawn : (pod : PodId) (e : RunError) → run_refusal pod e ≡ SpawnFault → e ≡ run.SpawnFault
run_spawn pod run.SpawnFault is = refl
run_spawn pod e is = cc

said_fault : (pod : PodId) (e : RunError) (r : Refusal) → IsRunSaid pod e r → r ≡ DirFault → e ≡ run.DirFault
said_fault pod e r (inl said) is = run_fault pod e (sym said ∙ is)
said_fault pod e r (inr said) is = let clash : NoMemory ≡ DirFault = sym said ∙ is in cc

said_spawn : (pod : PodId) (e : RunError) (r : Refusal) → IsRunSaid pod e r → r ≡ SpawnFault → e ≡ run.SpawnFault
said_spawn pod e r (inl said) is = run_spawn pod e (sym said ∙ is)
said_spawn pod e r (inr said) is = let clash : NoMemory ≡ SpawnFault = sym said ∙ is in cc

run_allowed : (pod : PodId) (e : RunError) → apps_refusal (run_refusal pod e) ≡ true
run_allowed pod run.NoManifest = refl
run_allowed pod e = refl

pub said_allowed : (pod : PodId) (e : RunError) (r : Refusal) → IsRunSaid pod e r → apps_refusal r ≡ true
said_allowed pod e r (inl said) = subst (λ (x : Refusal). apps_refusal x ≡ true) (sym said) (run_allowed pod e)
said_allowed pod e r (inr said) = subst (λ (x : Refusal). apps_refusal x ≡ true) (sym said) refl

abbrev pub telling : Told → Answer
telling t = Ok t

abbrev refusing : Refusal → Answer
refusing r = Err r

abbrev pub IsTelling : Told → Answer → Type 0
IsTelling t a = (a ≡ telling t) ⊎ (a ≡ refusing NoMemory)

-- what was told isn't a refusal but for want of memory
pub telling_allowed : (t : Told) (a : Answer) → IsTelling t a → IfErr a (λ r. apps_refusal r ≡ true)
telling_allowed t a (inl is) = subst (λ (x : Answer). IfErr x (λ r. apps_refusal r ≡ true)) (sym is) tt
telling_allowed t a (inr is) = subst (λ (x : Answer). IfErr x (λ r. apps_refusal r ≡ true)) (sym is) refl

pub telling_no_fault : (t : Told) (a : Answer) {X : Type 0} → IsTelling t a → IsErrOf a DirFault → X
telling_no_fault t a (inl is) e = let f : IsErrOf (telling t) DirFault = subst (λ (x : Answer). IsErrOf x DirFault) is e in cc
telling_no_fault t a (inr is) e = let f : IsErrOf (refusing NoMemory) DirFault = subst (λ (x : Answer). IsErrOf x DirFault) is e in cc

pub telling_no_spawn : (t : Told) (a : Answer) {X : Type 0} → IsTelling t a → IsErrOf a SpawnFault → X
telling_no_spawn t a (inl is) e = let f : IsErrOf (telling t) SpawnFault = subst (λ (x : Answer). IsErrOf x SpawnFault) is e in cc
telling_no_spawn t a (inr is) e = let f : IsErrOf (refusing NoMemory) SpawnFault = subst (λ (x : Answer). IsErrOf x SpawnFault) is e in cc

module _ (seen observed : Bool) (owned : Owned) (address : List ℕ) (d d' : DirAt) (s s' : SpawnerAt) where
  -- the faults
  pub run_cause : (e : RunError) (r : Refusal) → IsRunSaid owned.pod e r → r ≡ DirFault → IsRefusedRun seen observed owned.pod address e d d' s s' → Rose d.faults d'.faults
  run_cause e r said is x = subst (λ (e : RunError). RunRefusedFor seen owned.pod e d d' s s') (said_fault owned.pod e r said is) x.cause

  pub spawn_cause : (e : RunError) (r : Refusal) → IsRunSaid owned.pod e r → r ≡ SpawnFault → IsRefusedRun seen observed owned.pod address e d d' s s' → Rose s.faults s'.faults
  spawn_cause e r said is x = subst (λ (e : RunError). RunRefusedFor seen owned.pod e d d' s s') (said_spawn owned.pod e r said is) x.cause

  -- what was told
  pub ran_says : (front : List ℕ) (ends : List AppEnd) (a : Answer) → IsTelling (told_of_ends front ends) a → HasRun seen observed owned.pod owned.own address ends d d' s s' → RunSays seen observed owned address front d d' s s' a
  ran_says front ends a (inl is) ran = subst (λ (x : Answer). RunSays seen observed owned address front d d' s s' x) (sym is) (record { ends = ends; is = refl; ran = ran })
  ran_says front ends a (inr is) ran = subst (λ (x : Answer). RunSays seen observed owned address front d d' s s' x) (sym is) (inr (record { is = refl; ends = ends; ran = ran }))

  pub stopped_says : (front : List ℕ) (e : RunError) (r : Refusal) → IsRunSaid owned.pod e r → IsRefusedRun seen observed owned.pod address e d d' s s' → (e ≡ Stray → seen ≡ true → NeverComes d'.trace) → RunSays seen observed owned address front d d' s s' (refusing r)
  stopped_says front e r said x lawful = inl (record { error = e; is = (r, refl, said); refused = x; lawful = lawful })
