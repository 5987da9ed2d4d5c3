-- The command `run-prepared`: from the claim and the run to what is told.
use Rattle.std.proofs.Common.{◌≡◌, ◌⊎◌, inl, inr, ℕ, Bool, true, List, [], Ok, Err, IfErr, refl}
use Rattle.dir_model.specs.declared.pod.PodId.{PodId}
use Rattle.dir_trait.specs.DirCalls.{DirAt, ExtendsBy}
use Rattle.spawner.specs.Calls.{SpawnerAt}
use Rattle.pod_locks.specs.declared.owned.Owned.{Owned}
use Rattle.pod_locks.specs.Running.{IsOwned}
use Rattle.pod_locks.specs.declared.claim_error.ClaimError.{ClaimError}
use Rattle.pod_locks.specs.declared.claim_error.ClaimError.TheVariants as claim
use Rattle.pod_locks.specs.ClaimCauses.{ClaimCause, HadBothAlone}
use Rattle.lifecycle.specs.Executions.{IsConforming}
use Rattle.pod_locks.specs.Claims.{ClaimRefusedByAnother, IsFreeThroughout, IsClaimFailure}
use Rattle.pod_locks.specs.Elsewhere.{MetOwner}
use Rattle.pod_locks.specs.ClaimHolding.{MayClaim}
use Rattle.pod_locks.specs.ClaimRequests.{claims}
use Rattle.pod_locks.specs.Work.{Grew, WhereObservedKnew, MovedNothing, TookBoth}
use Rattle.command_outcomes.specs.declared.refusal.Refusal.{Refusal}
use Rattle.command_outcomes.specs.declared.refusal.Refusal.TheVariants.{NoPod, WrongPhase, PodBusy, DirFault, SpawnFault}
use Rattle.command_outcomes.specs.Moments.{Answer}
use Rattle.commands.specs.RunRefusals.{claim_refusal, apps_refusal, run_prepared_refusal}
use Rattle.commands.specs.AppRuns.{RunSays}
use Rattle.commands.specs.RunPrepared.{ClaimsAndRuns, IsUnclaimed}

pub claim_fault : (pod : PodId) (e : ClaimError) → claim_refusal pod e ≡ DirFault → e ≡ claim.DirFault
claim_fault pod claim.DirFault is = refl
claim_fault pod e is = cc

pub claim_no_spawn : (pod : PodId) (e : ClaimError) {X : Type 0} → claim_refusal pod e ≡ SpawnFault → X
claim_no_spawn pod claim.NoPod is = cc
claim_no_spawn pod e is = cc

pub claim_allowed : (pod : PodId) (e : ClaimError) → run_prepared_refusal (claim_refusal pod e) ≡ true
claim_allowed pod claim.NoPod = refl
claim_allowed pod e = refl

-- a refusal of a run is one of the command
apps_in : (r : Refusal) → apps_refusal r ≡ true → run_prepared_refusal r ≡ true
apps_in NoPod is = refl
apps_in (WrongPhase phase) is = refl
apps_in (PodBusy pod which) is = refl
apps_in r is = is

pub run_in : (a : Answer) → IfErr a (λ r. apps_refusal r ≡ true) → IfErr a (λ r. run_prepared_refusal r ≡ true)
run_in (Ok told) h = tt
run_in (Err r) h = apps_in r h

-- what is told
module _ (seen observed : Bool) (pod : PodId) (address : List ℕ) (a c : DirAt) (s s' : SpawnerAt) (answer : Answer) where
  abbrev Says : Type 0
  Says = ClaimsAndRuns seen observed pod address a c s s' answer ⊎ IsUnclaimed seen pod a c s s' answer

  pub claimed_says : (b : DirAt) (owned : Owned) → IsOwned pod a.local owned → b.process ≡ a.process → (seen ≡ true → ExtendsBy (claims pod) a b) → (seen ≡ true → TookBoth pod owned.own a.process a.trace b.trace) → (seen ≡ true → HadBothAlone pod a.process a.trace b.trace) → (seen ≡ true → Grew b.trace c.trace) → RunSays seen observed owned address [] b c s s' answer → Says
  claimed_says b owned is same asked took alone then says = inl (record { claimed = b; owned = owned; is_owned = is; same = same; asked = asked; took = took; alone = alone; then = then; says = says })

  pub unclaimed_says : (e : ClaimError) → answer ≡ Err (claim_refusal pod e) → ClaimCause seen pod e a c → (seen ≡ true → MovedNothing a.process a.trace c.trace) → WhereObservedKnew seen MayClaim a (λ known. ClaimRefusedByAnother pod e a c) → WhereObservedKnew seen MayClaim a (λ known. MetOwner pod e a c) →
      WhereObservedKnew seen MayClaim a (λ known. IsConforming c.trace → IsFreeThroughout pod a c → IsClaimFailure e) → s' ≡ s → Says
  unclaimed_says e is cause still another owner complete unasked =
      inr (record { error = e; is = is; cause = cause; still = still; another = another; owner = owner; complete = complete; unasked = unasked })
