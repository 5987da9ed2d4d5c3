-- What is said of a pod that isn't run.
use Rattle.std.specs.Prelude.{◌≡◌, ◌⊎◌, Bool, true}
use Rattle.dir_model.specs.declared.pod.PodId.{PodId}
use Rattle.pod_locks.specs.declared.claim_error.ClaimError.{ClaimError}
use Rattle.pod_locks.specs.declared.claim_error.ClaimError.TheVariants as claim
use Rattle.stage1.specs.declared.error.RunError.{RunError}
use Rattle.stage1.specs.declared.error.RunError.TheVariants as run
use Rattle.command_outcomes.specs.declared.refusal.Refusal.{Refusal}
use Rattle.command_outcomes.specs.declared.refusal.Refusal.TheVariants.{NoPod, WrongPhase, NoManifest, PodBusy, Damaged, NoProgram, SpawnFault, DirFault, Stray, NoMemory}
use Rattle.command_outcomes.specs.Ends.{is_common}
use Rattle.commands.specs.PrepareRefusals.{prepare_refusal}

-- of a pod that isn't claimed
abbrev pub claim_refusal : PodId → ClaimError → Refusal
claim_refusal pod claim.NoPod = NoPod
claim_refusal pod (claim.WrongPhase phase) = WrongPhase phase
claim_refusal pod claim.NoManifest = NoManifest pod
claim_refusal pod (claim.Busy other which) = PodBusy other which
claim_refusal pod claim.DirFault = DirFault
claim_refusal pod claim.Stray = Stray
claim_refusal pod claim.NoMemory = NoMemory

-- of a claimed pod that isn't run to its end
abbrev pub run_refusal : PodId → RunError → Refusal
run_refusal pod run.NoManifest = NoManifest pod
run_refusal pod (run.Damaged path) = Damaged path
run_refusal pod (run.NoProgram app word) = NoProgram app word
run_refusal pod run.SpawnFault = SpawnFault
run_refusal pod run.DirFault = DirFault
run_refusal pod run.Stray = Stray
run_refusal pod run.NoMemory = NoMemory

-- that is said, or that memory ran out
abbrev pub IsRunSaid : PodId → RunError → Refusal → Type 0
IsRunSaid pod error refusal = (refusal ≡ run_refusal pod error) ⊎ (refusal ≡ NoMemory)

-- the refusals that a run of apps may have
abbrev pub apps_refusal : Refusal → Bool
apps_refusal (NoManifest pod) = true
apps_refusal (Damaged path) = true
apps_refusal (NoProgram app word) = true
apps_refusal SpawnFault = true
apps_refusal Stray = true
apps_refusal refusal = is_common refusal

-- those of a claim and a run of apps
abbrev pub run_prepared_refusal : Refusal → Bool
run_prepared_refusal NoPod = true
run_prepared_refusal (WrongPhase phase) = true
run_prepared_refusal (PodBusy pod which) = true
run_prepared_refusal refusal = apps_refusal refusal

-- those of a prepare and a run of apps
abbrev pub new_run_refusal : Refusal → Bool
new_run_refusal (NoManifest pod) = true
new_run_refusal (NoProgram app word) = true
new_run_refusal SpawnFault = true
new_run_refusal refusal = prepare_refusal refusal
