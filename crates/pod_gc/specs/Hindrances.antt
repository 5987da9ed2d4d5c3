-- What may stand in the way of a removal, and where nothing does.
use Rattle.std.specs.Prelude.{◌≡◌, ◌⊎◌, ℕ, true, false, Some, List, [], ◌∷◌, ◌++◌, codes}
use Rattle.std.specs.List.{list_any}
use Rattle.dir_model.specs.declared.area.Area.{Area}
use Rattle.dir_model.specs.declared.area.Area.TheVariants.{Prepared}
use Rattle.dir_model.specs.declared.area.Phase.{Phase}
use Rattle.dir_model.specs.declared.area.Phase.TheVariants as kind
use Rattle.dir_model.specs.declared.event.Event.{Event}
use Rattle.dir_model.specs.declared.pod.PodId.{PodId}
use Rattle.dir_model.specs.declared.spot.Which.{Which}
use Rattle.dir_model.specs.Calls.{is_foreign, AtOwnStep}
use Rattle.dir_model.specs.Pods.{pod_text}
use Rattle.dir_model.specs.State.{folder_at}
use Rattle.dir_model.specs.Trace.{state_after}
use Rattle.dir_model.specs.Trees.{has_file}
use Rattle.lifecycle.specs.PodMachine.{pod_phase, pod_owner}
use Rattle.dir_model.specs.Spots.{pod_spot}
use Rattle.pod_locks.specs.ClaimCauses.{is_held_elsewhere}
use Rattle.pod_locks.specs.Causes.{WasStrayStep}
use Rattle.pod_gc.specs.declared.remove_error.RemoveError.{RemoveError}
use Rattle.pod_gc.specs.declared.remove_error.RemoveError.TheVariants.{DirFault, Stray, NoMemory}
use Rattle.pod_gc.specs.RemovalRequests.{is_removable}

-- the pod exists in a phase that its removal takes
pub record IsRemovable (pod : PodId) (trace : List Event) : Type 0 where
  pub phase : Phase
  pub is : pod_phase (pod_text pod.bytes) trace ≡ Some phase
  pub removable : is_removable phase ≡ true

-- or this process deletes it
pub record IsDeletedBy (pod : PodId) (me : ℕ) (trace : List Event) : Type 0 where
  pub is : pod_phase (pod_text pod.bytes) trace ≡ Some kind.Deleting
  pub owner : pod_owner (pod_text pod.bytes) trace ≡ Some me

-- the folder stood at one of the pod's places, at an own step between these moments
abbrev pub WasItsFolder : PodId → ℕ → ℕ → List Event → List Event → Type 0
WasItsFolder pod folder me old new = (area : Area) × AtOwnStep me old new (λ s. folder_at s.namespace (pod_spot pod area) ≡ Some folder)

-- nothing hinders the pod's removal: it exists so, in prepared it has its manifest, and no other process holds a lock of its folder
pub record IsUnhindered (pod : PodId) (me : ℕ) (old trace : List Event) : Type 0 where
  pub exists : IsRemovable pod trace ⊎ IsDeletedBy pod me trace
  pub manifest : (folder : ℕ) → folder_at (state_after trace).namespace (pod_spot pod Prepared) ≡ Some folder → has_file (state_after trace).entries folder (codes "pod") ≡ true
  pub unheld : (folder : ℕ) (which : Which) → WasItsFolder pod folder me old trace → list_any (is_held_elsewhere me which folder) (state_after trace).namespace.openings ≡ false

-- and so after each own step between these two moments
abbrev pub IsUnhinderedThroughout : PodId → ℕ → List Event → List Event → Type 0
IsUnhinderedThroughout pod me old new = (before later rest : List Event) (step : Event) → before ≡ old ++ later → new ≡ (before ++ step ∷ []) ++ rest
    → is_foreign me step ≡ false → IsUnhindered pod me old (before ++ step ∷ [])

-- the directory failed, memory ran out, or an own answer was one that what the locks keep doesn't explain
abbrev pub IsRemovalFailure : RemoveError → ℕ → List Event → List Event → Type 0
IsRemovalFailure error me old new = (error ≡ DirFault) ⊎ ((error ≡ NoMemory) ⊎ ((error ≡ Stray) × WasStrayStep me old new))
