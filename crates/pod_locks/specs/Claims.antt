-- What the claim of a pod comes to.
use Rattle.std.specs.Prelude.{◌≡◌, ◌⊎◌, ℕ, true, false, Some, List, [], ◌∷◌, ◌++◌, codes, Result, Ok, Err}
use Rattle.std.specs.List.{list_any}
use Rattle.dir_model.specs.declared.area.Phase.TheVariants as phase
use Rattle.dir_model.specs.declared.event.Event.{Event}
use Rattle.dir_model.specs.declared.pod.PodId.{PodId}
use Rattle.dir_model.specs.declared.spot.Handle.{Handle}
use Rattle.dir_model.specs.declared.spot.Which.{Which}
use Rattle.dir_model.specs.declared.spot.Which.TheVariants.{Own}
use Rattle.dir_model.specs.Calls.{is_foreign}
use Rattle.dir_model.specs.Local.{Local}
use Rattle.dir_model.specs.Pods.{pod_text}
use Rattle.dir_model.specs.State.{folder_at}
use Rattle.dir_model.specs.Trace.{state_after}
use Rattle.dir_model.specs.Trees.{has_file}
use Rattle.dir_rules.specs.declared.seen.Seen.{Seen}
use Rattle.dir_rules.specs.Conforms.{Looked}
use Rattle.dir_trait.specs.DirCalls.{DirAt}
use Rattle.dir_trait.specs.Knowledge.{Knows}
use Rattle.lifecycle.specs.PodMachine.{pod_phase}
use Rattle.pod_locks.specs.declared.owned.Owned.{Owned}
use Rattle.pod_locks.specs.declared.claim_error.ClaimError.{ClaimError}
use Rattle.pod_locks.specs.declared.claim_error.ClaimError.TheVariants.{Busy, DirFault, NoMemory}
use Rattle.pod_locks.specs.ClaimRequests.{in_prepared}
use Rattle.pod_locks.specs.ClaimHolding.{and_prepared_lock, with_pod}
use Rattle.pod_locks.specs.ClaimCauses.{is_held_elsewhere, PreparedHeldByAnother, HadClaimBefore}

-- what is open after a claim
abbrev pub and_owned : Local → PodId → Result Owned ClaimError → Local
and_owned m pod (Ok owned) = and_prepared_lock m pod Own owned.own
and_owned m pod (Err error) = m

-- it looked for the pod, moved it to run, and holds its Own: that is all that it knows beside what it knew
pub record HasPod (pod : PodId) (own : Handle) (s : Seen) (new : DirAt) : Type 0 where
  pub known : Seen
  pub looked : Looked s known
  pub knows : Knows new (with_pod pod own known)

-- where a lock was refused, another process held it, and the locks were asked for in their order
abbrev pub ClaimRefusedByAnother : PodId → ClaimError → DirAt → DirAt → Type 0
ClaimRefusedByAnother pod error old new = (which : Which) → error ≡ Busy pod which → PreparedHeldByAnother pod which old.process old.trace new.trace × HadClaimBefore pod which old.process old.trace new.trace

-- the pod waits to be run with its manifest, and no other process holds a lock of it
pub record IsFree (pod : PodId) (me : ℕ) (trace : List Event) : Type 0 where
  pub waits : pod_phase (pod_text pod.bytes) trace ≡ Some phase.Prepared
  pub manifest : (folder : ℕ) → folder_at (state_after trace).namespace (in_prepared pod) ≡ Some folder → has_file (state_after trace).entries folder (codes "pod") ≡ true
  pub unheld : (folder : ℕ) (which : Which) → folder_at (state_after trace).namespace (in_prepared pod) ≡ Some folder
      → list_any (is_held_elsewhere me which folder) (state_after trace).namespace.openings ≡ false

-- and so after each own step between these two moments
abbrev pub IsFreeThroughout : PodId → DirAt → DirAt → Type 0
IsFreeThroughout pod old new = (before later rest : List Event) (step : Event) → before ≡ old.trace ++ later → new.trace ≡ (before ++ step ∷ []) ++ rest
    → is_foreign old.process step ≡ false → IsFree pod old.process (before ++ step ∷ [])

-- the directory failed, or memory ran out
abbrev pub IsClaimFailure : ClaimError → Type 0
IsClaimFailure error = (error ≡ DirFault) ⊎ (error ≡ NoMemory)
