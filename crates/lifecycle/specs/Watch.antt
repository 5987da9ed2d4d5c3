-- What events alone tell of pods: the state of each, and the open handles on its lock.
use Rattle.std.specs.Prelude.{◌≡◌, ℕ, Bool, true, false, not, ◌&&◌, ◌==◌, cond, bytes_eq, Option, Some, None, List, [], ◌∷◌, ◌++◌, map, filter, find}
use Rattle.dir_model.specs.declared.spot.Mode.{Mode}
use Rattle.dir_model.specs.declared.spot.Mode.TheVariants.{Shared, Exclusive}
use Rattle.dir_model.specs.declared.spot.Handle.{Handle}
use Rattle.dir_model.specs.declared.spot.Which.TheVariants as which
use Rattle.dir_model.specs.declared.event.Event.{Event}
use Rattle.dir_model.specs.declared.request.Request.{Request}
use Rattle.dir_model.specs.declared.request.Request.TheVariants.{MakeFolder, MoveFolder, Open, TryLock, Close, RemoveFolder, Finish, Kill}
use Rattle.dir_model.specs.declared.request.Reply.{Reply}
use Rattle.dir_model.specs.declared.request.Reply.TheVariants.{Done, Opened}
use Rattle.lifecycle.specs.declared.machine.PodState.{PodState}
use Rattle.lifecycle.specs.declared.machine.PodState.TheVariants.{Absent}
use Rattle.lifecycle.specs.declared.grip.Grip.{Grip}
use Rattle.lifecycle.specs.declared.pods.PodEntry.{PodEntry}
use Rattle.lifecycle.specs.declared.machine.Transition.{Transition}
use Rattle.lifecycle.specs.declared.machine.Transition.TheVariants as turn
use Rattle.lifecycle.specs.PodMachine.{after_transition, is_owner, is_gone, arrival, transition_if, pod_state}
use Rattle.lifecycle.specs.Ownership.{ShowsPod}
use Rattle.dir_model.specs.Areas.{is_stage}
use Rattle.dir_rules.specs.Standing.{is_garbage, is_spot_of_pod}

-- a pod's state, and the open handles on its lock
pub record Watch : Type 0 where
  pub state : PodState
  pub grips : List Grip

-- this handle of this process
abbrev pub is_this : ℕ → Handle → Grip → Bool
is_this p handle g = (g.process == p) && (g.handle.number == handle.number)

-- there is such a handle, and it passes the test
abbrev pub on_grip : (Grip → Bool) → Option Grip → Bool
on_grip test None = false
on_grip test (Some g) = test g

-- this handle holds the lock, exclusively or not
abbrev pub gripped : ℕ → Handle → Bool → Grip → Grip
gripped p handle exclusive g = cond (is_this p handle g) (record { process = g.process; handle = g.handle; in_garbage = g.in_garbage; exclusive = exclusive }) g

-- the mode is exclusive
abbrev pub is_exclusive_mode : Mode → Bool
is_exclusive_mode Shared = false
is_exclusive_mode Exclusive = true

-- an exclusive lock by a handle that was opened in a garbage area begins a deletion
abbrev pub begun_delete : PodState → List Grip → ℕ → Handle → Mode → Option Transition
begun_delete s gs p handle Exclusive = transition_if (not (is_gone s) && on_grip (λ g. g.in_garbage) (find (is_this p handle) gs)) turn.BeginDelete
begun_delete s gs p handle Shared = None

-- the transition that a request is which was answered Ok
abbrev pub watched_done : List ℕ → PodState → List Grip → ℕ → Request → Option Transition
watched_done name s gs p (MakeFolder spot) = transition_if (is_spot_of_pod name spot) turn.Make
watched_done name s gs p (MoveFolder from to) = cond (is_spot_of_pod name to) (arrival to.area) None
watched_done name s gs p (TryLock handle mode) = begun_delete s gs p handle mode
watched_done name s gs p (Close handle) = transition_if (is_owner p s && on_grip (λ g. g.exclusive) (find (is_this p handle) gs)) turn.End
watched_done name s gs p (RemoveFolder spot) = transition_if (is_spot_of_pod name spot) turn.Remove
watched_done name s gs p Finish = transition_if (is_owner p s) turn.End
watched_done name s gs p Kill = transition_if (is_owner p s) turn.End
watched_done name s gs p request = None

-- the transition that an event is, if it is one: only Ok answers count
abbrev pub watched : List ℕ → PodState → List Grip → ℕ → Request → Reply → Option Transition
watched name s gs p request Done = watched_done name s gs p request
watched name s gs p request _ = None

-- the handles after a request that was answered Ok
abbrev pub grips_done : List Grip → ℕ → Request → List Grip
grips_done gs p (TryLock handle mode) = map (gripped p handle (is_exclusive_mode mode)) gs
grips_done gs p (Close handle) = filter (λ g. not (is_this p handle g)) gs
grips_done gs p Finish = filter (λ g. not (g.process == p)) gs
grips_done gs p Kill = filter (λ g. not (g.process == p)) gs
grips_done gs p request = gs

-- after one that was answered with a handle
abbrev pub grips_opened : List ℕ → List Grip → ℕ → Request → Handle → List Grip
grips_opened name gs p (Open spot which.Own) handle = cond (is_spot_of_pod name spot) (gs ++ record { process = p; handle = handle; in_garbage = is_garbage spot.area; exclusive = false } ∷ []) gs
grips_opened name gs p request handle = gs

-- after a reply; a refusal changes nothing
abbrev pub grips_replied : List ℕ → List Grip → ℕ → Request → Reply → List Grip
grips_replied name gs p request Done = grips_done gs p request
grips_replied name gs p request (Opened handle) = grips_opened name gs p request handle
grips_replied name gs p request _ = gs

-- after one event
abbrev pub watch_next : List ℕ → Watch → Event → Watch
watch_next name w e = record { state = after_transition (watched name w.state w.grips e.process e.request e.reply) e.process w.state; grips = grips_replied name w.grips e.process e.request e.reply }

-- after several, the oldest first
abbrev pub watch_from : List ℕ → Watch → List Event → Watch
watch_from name w [] = w
watch_from name w (e ∷ es) = watch_from name (watch_next name w e) es

-- what a trace tells of the pod of this name
abbrev pub watch : List ℕ → List Event → Watch
watch name trace = watch_from name (record { state = Absent; grips = [] }) trace

-- the name of the pod that was made, if one was
abbrev pub pod_made_by : Request → Reply → Option (List ℕ)
pod_made_by (MakeFolder spot) Done = cond (is_stage spot.area) (Some spot.name) None
pod_made_by request reply = None

-- a pod with its state after the trace
abbrev pub pod_entry_of : List Event → List ℕ → PodEntry
pod_entry_of trace name = record { name = name; state = (watch name trace).state }

-- that pod with its state, if one was made
abbrev pub entry_for : List Event → Option (List ℕ) → List PodEntry
entry_for trace None = []
entry_for trace (Some name) = pod_entry_of trace name ∷ []

-- the pods that some events made, with their states after the trace
abbrev pub made_pod_entries : List Event → List Event → List PodEntry
made_pod_entries trace [] = []
made_pod_entries trace (e ∷ es) = entry_for trace (pod_made_by e.request e.reply) ++ made_pod_entries trace es

-- it is the pod of this name
abbrev pub is_pod_entry : List ℕ → PodEntry → Bool
is_pod_entry name entry = bytes_eq entry.name name

-- the state of a pod that is among them, and absent for any other
abbrev pub state_of_entry : Option PodEntry → PodState
state_of_entry None = Absent
state_of_entry (Some entry) = entry.state

-- the state of the pod of this name among them
abbrev pub state_in : List ℕ → List PodEntry → PodState
state_in name entries = state_of_entry (find (is_pod_entry name) entries)

-- each pod's state among them is the one that the trace brings it to
abbrev pub TellsStates : List PodEntry → List Event → Type 0
TellsStates entries trace = (name : List ℕ) → state_in name entries ≡ pod_state name trace

-- and what the trace shows of the pod
abbrev pub ShowsPods : List PodEntry → List Event → Type 0
ShowsPods entries trace = (name : List ℕ) → ShowsPod name trace (state_in name entries)
