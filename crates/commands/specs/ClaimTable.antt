-- Why a pod isn't claimed, by one state of the directory.
use Rattle.std.specs.Prelude.{◌≡◌, ℕ, cond, Option, Some, None}
use Rattle.dir_model.specs.declared.area.Area.TheVariants.{Prepared}
use Rattle.dir_model.specs.declared.pod.PodId.{PodId}
use Rattle.dir_model.specs.declared.spot.Mode.TheVariants.{Exclusive}
use Rattle.dir_model.specs.declared.spot.Which.TheVariants.{Own, Claim}
use Rattle.dir_trait.specs.State.{DirState, folder_at}
use Rattle.phase_read.specs.declared.found.Found.{Found}
use Rattle.phase_read.specs.declared.found.Found.TheVariants.{At, Gone}
use Rattle.phase_read.specs.Sequential.{sequential_read}
use Rattle.pod_locks.specs.declared.claim_error.ClaimError.{ClaimError}
use Rattle.pod_locks.specs.declared.claim_error.ClaimError.TheVariants.{NoPod, WrongPhase, NoManifest, Busy}
use Rattle.pod_locks.specs.ClaimCauses.{is_prepared}
use Rattle.pod_locks.specs.ClaimRequests.{in_prepared}
use Rattle.commands.specs.RemovalTable.{is_held_at, has_manifest}

-- of a prepared pod: it has no manifest, or another process holds its activation lock, or its own
abbrev pub waiting_error : ℕ → PodId → DirState → Option ClaimError
waiting_error me pod s =
    cond (has_manifest (folder_at s.namespace (in_prepared pod)) s)
    (cond (is_held_at me Claim Exclusive pod Prepared s) (Some (Busy pod Claim)) (cond (is_held_at me Own Exclusive pod Prepared s) (Some (Busy pod Own)) None))
    (Some NoManifest)

abbrev pub found_error : ℕ → PodId → DirState → Found → Option ClaimError
found_error me pod s Gone = Some NoPod
found_error me pod s (At phase place) = cond (is_prepared phase) (waiting_error me pod s) (Some (WrongPhase phase))

-- there is no such pod, or it has another phase, or one of these
abbrev pub claim_error : ℕ → PodId → DirState → Option ClaimError
claim_error me pod s = found_error me pod s (sequential_read s pod)

abbrev pub IsWhy : PodId → ClaimError → ℕ → DirState → Type 0
IsWhy pod error me s = claim_error me pod s ≡ Some error
