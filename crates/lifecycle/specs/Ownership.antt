-- What a trace shows of pods: their folders, their phases, their owners, and what is done to them by whom.
use Rattle.std.specs.Prelude.{slice_get, ◌≡◌, ◌↔◌, ◌≤◌, ℕ, Bool, true, false, ◌&&◌, Some, List, ◌∷◌, ◌++◌}
use Rattle.dir_model.specs.declared.area.Area.{Area}
use Rattle.dir_model.specs.declared.area.Area.TheVariants as area
use Rattle.dir_model.specs.declared.spot.Spot.{Spot}
use Rattle.dir_model.specs.declared.event.Event.{Event}
use Rattle.dir_model.specs.declared.request.Request.{Request}
use Rattle.dir_model.specs.declared.request.Request.TheVariants.{MoveFolder, RemoveFileIn, RemoveDirIn, RemoveFolder}
use Rattle.dir_model.specs.declared.request.Reply.TheVariants.{Done}
use Rattle.dir_model.specs.Areas.{rank, is_stage, phase_in}
use Rattle.dir_model.specs.State.{Namespace, folder_at, stands, is_owned, lives}
use Rattle.dir_model.specs.Trace.{state_after}
use Rattle.dir_model.specs.Calls.{event}
use Rattle.dir_rules.specs.declared.seen.Seen.{Seen}
use Rattle.dir_rules.specs.Standing.{is_spot_of_pod}
use Rattle.dir_rules.specs.Rules.{owns_pod, has_asked_for_removal}
use Rattle.dir_rules.specs.Conforms.{seen_of}
use Rattle.lifecycle.specs.declared.machine.PodState.{PodState}
use Rattle.lifecycle.specs.declared.machine.PodState.TheVariants.{Prepared}
use Rattle.lifecycle.specs.declared.machine.Transition.{Transition}
use Rattle.lifecycle.specs.declared.machine.Transition.TheVariants.{Sweep}
use Rattle.lifecycle.specs.PodMachine.{enabled, transition, exists, is_area_of_state, is_owner, is_being_deleted, phase_of_state, owner_of, pod_state}

-- a prepared pod is swept only where the process asks for it
abbrev pub is_requested_if_discarded : Transition → PodState → Seen → List ℕ → Bool
is_requested_if_discarded Sweep Prepared seen name = has_asked_for_removal seen name
is_requested_if_discarded t s seen name = true

-- an event that is a transition of the pod is one that the pod's state has and its process wants
abbrev pub TransitionsAreEnabled : List ℕ → List Event → Type 0
TransitionsAreEnabled name trace =
    (before : List Event) (e : Event) (later : List Event) (t : Transition) → trace ≡ before ++ e ∷ later →
    transition name (state_after before).namespace (pod_state name before) e.process e.request e.reply ≡ Some t →
    (enabled t e.process (pod_state name before) && is_requested_if_discarded t (pod_state name before) (seen_of e.process before) name) ≡ true

-- where the pod of this name would stand in an area
abbrev pub place_in : List ℕ → Area → Spot
place_in name area = record { area = area; name = name }

-- the pod's folder stands exactly where the pod exists, and in the area of its state
pub record StandsWhereItExists (name : List ℕ) (n : Namespace) (s : PodState) : Type 0 where
  pub somewhere : exists s ≡ true → (area : Area) × (is_stage area ≡ true) × (stands n (place_in name area) ≡ true)
  pub only : (spot : Spot) → is_spot_of_pod name spot ≡ true → stands n spot ≡ true → (exists s && is_area_of_state spot.area s) ≡ true

-- the phase that follows from the folder's area and lock is that of the state
abbrev pub PlaceTellsPhase : List ℕ → Namespace → PodState → Type 0
PlaceTellsPhase name n s =
    (spot : Spot) (folder : ℕ) → is_spot_of_pod name spot ≡ true → folder_at n spot ≡ Some folder →
    phase_in spot.area (is_owned n folder) ≡ phase_of_state s

-- the process lives, and by what it knows it holds the pod
abbrev pub holds : ℕ → List ℕ → List Event → Bool
holds p name trace = lives (state_after trace).namespace p && owns_pod (seen_of p trace) name

-- of a pod that exists, a process holds it exactly where the process is its owner
abbrev pub IsHeldByItsOwner : List ℕ → List Event → PodState → Type 0
IsHeldByItsOwner name trace s = (p : ℕ) → exists s ≡ true → (holds p name trace ≡ true) ↔ (owner_of s ≡ Some p)

-- folders that stand at stages of a pod's life under one name are one folder
abbrev pub NamesOneFolder : Namespace → Type 0
NamesOneFolder n =
    (f g : ℕ) (a b : Spot) → slice_get n.folders f ≡ Some (Some a) → slice_get n.folders g ≡ Some (Some b) →
    is_stage a.area ≡ true → is_stage b.area ≡ true → a.name ≡ b.name → f ≡ g

-- a pod goes through the stages of its life forward
abbrev pub GoesForward : List Event → Type 0
GoesForward trace =
    (before more later : List Event) (a b : Spot) → trace ≡ (before ++ more) ++ later →
    is_stage a.area ≡ true → is_stage b.area ≡ true → a.name ≡ b.name →
    stands (state_after before).namespace a ≡ true → stands (state_after (before ++ more)).namespace b ≡ true →
    rank a.area ≤ rank b.area

-- the request removes something in the pod's folder, or that folder
abbrev pub is_removal_of : List ℕ → Request → Bool
is_removal_of name (RemoveFileIn inner) = is_spot_of_pod name inner.spot
is_removal_of name (RemoveDirIn inner) = is_spot_of_pod name inner.spot
is_removal_of name (RemoveFolder spot) = is_spot_of_pod name spot
is_removal_of name request = false

-- what is removed of a pod, its owner removes, who deletes the pod
abbrev pub IsRemovedByItsOwner : List ℕ → List Event → Type 0
IsRemovedByItsOwner name trace =
    (before : List Event) (e : Event) (later : List Event) → trace ≡ before ++ e ∷ later →
    is_removal_of name e.request ≡ true → e.reply ≡ Done →
    (is_being_deleted (pod_state name before) && is_owner e.process (pod_state name before)) ≡ true

-- each prepared pod that is moved to garbage is asked for
abbrev pub SweepsAreAsked : List Event → Type 0
SweepsAreAsked trace =
    (before : List Event) (p : ℕ) (from to : Spot) (later : List Event) → trace ≡ before ++ event p (MoveFolder from to) Done ∷ later →
    from.area ≡ area.Prepared → to.area ≡ area.Garbage → has_asked_for_removal (seen_of p before) from.name ≡ true

-- the state is what the trace shows of the pod: where its folder stands, its phase, and who holds it
pub record ShowsPod (name : List ℕ) (trace : List Event) (s : PodState) : Type 0 where
  pub folder : StandsWhereItExists name (state_after trace).namespace s
  pub phase : PlaceTellsPhase name (state_after trace).namespace s
  pub owner : IsHeldByItsOwner name trace s
