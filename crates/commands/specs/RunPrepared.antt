-- The command `run-prepared`.
use Rattle.std.specs.Prelude.{◌≡◌, ◌⊎◌, ℕ, Bool, true, List, [], Err}
use Rattle.dir_model.specs.declared.pod.PodId.{PodId}
use Rattle.dir_model.specs.declared.request.Request.{Request}
use Rattle.dir_rules.specs.declared.seen.Seen.{Seen}
use Rattle.dir_trait.specs.DirCalls.{DirAt, ExtendsBy}
use Rattle.dir_trait.specs.Knowledge.{Knows}
use Rattle.spawner.specs.Calls.{SpawnerAt}
use Rattle.folder_building.specs.Work.{either}
use Rattle.pod_locks.specs.declared.owned.Owned.{Owned}
use Rattle.pod_locks.specs.Running.{IsOwned}
use Rattle.pod_locks.specs.declared.claim_error.ClaimError.{ClaimError}
use Rattle.pod_locks.specs.ClaimRequests.{claims}
use Rattle.pod_locks.specs.ClaimCauses.{ClaimCause, HadBothAlone}
use Rattle.lifecycle.specs.Executions.{IsConforming}
use Rattle.pod_locks.specs.Claims.{ClaimRefusedByAnother, IsFreeThroughout, IsClaimFailure}
use Rattle.pod_locks.specs.Elsewhere.{MetOwner}
use Rattle.pod_locks.specs.ClaimHolding.{MayClaim}
use Rattle.pod_locks.specs.Work.{Grew, WhereObservedKnew, MovedNothing, TookBoth}
use Rattle.stage1.specs.Runs.{runs_pod}
use Rattle.command_outcomes.specs.Moments.{Answer, Inside}
use Rattle.commands.specs.RunRefusals.{claim_refusal}
use Rattle.commands.specs.AppRuns.{RunSays}

-- what it asks of the directory: what a claim asks for, and what a run of the pod does
abbrev pub runs_prepared : PodId → Request → Bool
runs_prepared pod = either (claims pod) (runs_pod pod)

-- by what it knows, the process may claim a prepared pod
abbrev pub CanClaim : DirAt → Type 0
CanClaim d = (s : Seen) × Knows d s × MayClaim s

-- the pod was claimed: both locks were taken, which no other process held then, and the pod was moved to run, all answered Ok; and then it
-- was run, of which this is told
pub record ClaimsAndRuns (seen observed : Bool) (pod : PodId) (address : List ℕ) (d d' : DirAt) (s s' : SpawnerAt) (answer : Answer) : Type 0 where
  pub claimed : DirAt
  pub owned : Owned
  pub is_owned : IsOwned pod d.local owned
  pub same : claimed.process ≡ d.process
  pub asked : seen ≡ true → ExtendsBy (claims pod) d claimed
  pub took : seen ≡ true → TookBoth pod owned.own d.process d.trace claimed.trace
  pub alone : seen ≡ true → HadBothAlone pod d.process d.trace claimed.trace
  pub then : seen ≡ true → Grew claimed.trace d'.trace
  pub says : RunSays seen observed owned address [] claimed d' s s' answer

-- the claim was refused for this cause, which is a failure where the pod was free throughout: this process moved nothing, and nothing was
-- asked of the spawner
pub record IsUnclaimed (seen : Bool) (pod : PodId) (d d' : DirAt) (s s' : SpawnerAt) (answer : Answer) : Type 0 where
  pub error : ClaimError
  pub is : answer ≡ Err (claim_refusal pod error)
  pub cause : ClaimCause seen pod error d d'
  pub still : seen ≡ true → MovedNothing d.process d.trace d'.trace
  pub another : WhereObservedKnew seen MayClaim d (λ known. ClaimRefusedByAnother pod error d d')
  pub owner : WhereObservedKnew seen MayClaim d (λ known. MetOwner pod error d d')
  pub complete : WhereObservedKnew seen MayClaim d (λ known. IsConforming d'.trace → IsFreeThroughout pod d d' → IsClaimFailure error)
  pub unasked : s' ≡ s

-- what was told of the pod
abbrev pub RunPreparedSays : PodId → List ℕ → Inside → Inside → Answer → Type 0
RunPreparedSays pod address old new answer =
    ClaimsAndRuns old.observed old.spawner.observed pod address old.dir new.dir old.spawner.shown new.spawner.shown answer
    ⊎ IsUnclaimed old.observed pod old.dir new.dir old.spawner.shown new.spawner.shown answer
