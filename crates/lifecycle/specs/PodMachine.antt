-- The pod machine: its transitions, and the state that a trace brings a pod to.
use Rattle.std.specs.Prelude.{ℕ, Bool, true, false, not, ◌&&◌, ◌==◌, cond, Option, Some, None, List, [], ◌∷◌, find}
use Rattle.dir_model.specs.declared.area.Area.{Area}
use Rattle.dir_model.specs.declared.area.Area.TheVariants as area
use Rattle.dir_model.specs.declared.area.Phase.{Phase}
use Rattle.dir_model.specs.declared.area.Phase.TheVariants as phase
use Rattle.dir_model.specs.declared.spot.Mode.TheVariants.{Exclusive}
use Rattle.dir_model.specs.declared.spot.Handle.{Handle}
use Rattle.dir_model.specs.declared.opening.Opening.{Opening}
use Rattle.dir_model.specs.declared.event.Event.{Event}
use Rattle.dir_model.specs.declared.request.Request.{Request}
use Rattle.dir_model.specs.declared.request.Request.TheVariants.{MakeFolder, MoveFolder, TryLock, Close, RemoveFolder, Finish, Kill}
use Rattle.dir_model.specs.declared.request.Reply.{Reply}
use Rattle.dir_model.specs.declared.request.Reply.TheVariants.{Done}
use Rattle.dir_model.specs.Locks.{is_handle, is_exclusive}
use Rattle.dir_model.specs.State.{Namespace, DirState, empty_state}
use Rattle.dir_model.specs.Trace.{state_next}
use Rattle.dir_rules.specs.Standing.{is_spot_of_pod, is_garbage, area_of}
use Rattle.dir_model.specs.Local.{is_own_of}
use Rattle.lifecycle.specs.declared.machine.PodState.{PodState}
use Rattle.lifecycle.specs.declared.machine.PodState.TheVariants.{Absent, Embryo, Preparing, AbortedPrepare, Prepared, Running, Exited, ExitedGarbage, Garbage, Deleting, Gone}
use Rattle.lifecycle.specs.declared.machine.Transition.{Transition}
use Rattle.lifecycle.specs.declared.machine.Transition.TheVariants as turn

-- the states that have the transition, by a process
abbrev pub enabled : Transition → ℕ → PodState → Bool
enabled turn.Make p Absent = true
enabled turn.BeginPrepare p (Embryo maker) = p == maker
enabled turn.Finish p (Preparing owner) = p == owner
enabled turn.Start p (Preparing owner) = p == owner
enabled turn.Start p Prepared = true
enabled turn.End p (Preparing owner) = p == owner
enabled turn.End p (Running owner) = p == owner
enabled turn.End p (Deleting owner from) = p == owner
enabled turn.Mark p Exited = true
enabled turn.Sweep p (Embryo maker) = true
enabled turn.Sweep p AbortedPrepare = true
enabled turn.Sweep p Prepared = true
enabled turn.BeginDelete p ExitedGarbage = true
enabled turn.BeginDelete p Garbage = true
enabled turn.Remove p (Deleting owner from) = p == owner
enabled t p s = false

-- where a deletion stops that its owner gives up
abbrev pub undeleted : Area → PodState
undeleted area.ExitedGarbage = ExitedGarbage
undeleted _ = Garbage

-- the state without its owner
abbrev pub without_owner : PodState → PodState
without_owner (Preparing owner) = AbortedPrepare
without_owner (Running owner) = Exited
without_owner (Deleting owner from) = undeleted from
without_owner s = s

-- the area that a deletion begins in
abbrev pub deleted_from : PodState → Area
deleted_from ExitedGarbage = area.ExitedGarbage
deleted_from _ = area.Garbage

-- the state that a transition leads to
abbrev pub leads : Transition → ℕ → PodState → PodState
leads turn.Make p s = Embryo p
leads turn.BeginPrepare p s = Preparing p
leads turn.Finish p s = Prepared
leads turn.Start p s = Running p
leads turn.End p s = without_owner s
leads turn.Mark p s = ExitedGarbage
leads turn.Sweep p s = Garbage
leads turn.BeginDelete p s = Deleting p (deleted_from s)
leads turn.Remove p s = Gone

-- after a transition, if there is one; one that the state doesn't have changes nothing
abbrev pub after_transition : Option Transition → ℕ → PodState → PodState
after_transition None p s = s
after_transition (Some t) p s = cond (enabled t p s) (leads t p s) s

-- the pod's owner
abbrev pub owner_of : PodState → Option ℕ
owner_of (Preparing owner) = Some owner
owner_of (Running owner) = Some owner
owner_of (Deleting owner from) = Some owner
owner_of _ = None

-- the process is the pod's owner
abbrev pub is_owner : ℕ → PodState → Bool
is_owner p (Preparing owner) = p == owner
is_owner p (Running owner) = p == owner
is_owner p (Deleting owner from) = p == owner
is_owner p _ = false

-- the pod's folder was removed
abbrev pub is_gone : PodState → Bool
is_gone Gone = true
is_gone _ = false

-- the pod's owner deletes it
abbrev pub is_being_deleted : PodState → Bool
is_being_deleted (Deleting owner from) = true
is_being_deleted s = false

-- the pod was made, and isn't gone
abbrev pub exists : PodState → Bool
exists Absent = false
exists Gone = false
exists s = true

-- the pod's phase
abbrev pub phase_of_state : PodState → Option Phase
phase_of_state Absent = None
phase_of_state (Embryo maker) = Some phase.Embryo
phase_of_state (Preparing owner) = Some phase.Preparing
phase_of_state AbortedPrepare = Some phase.AbortedPrepare
phase_of_state Prepared = Some phase.Prepared
phase_of_state (Running owner) = Some phase.Running
phase_of_state Exited = Some phase.Exited
phase_of_state ExitedGarbage = Some phase.ExitedGarbage
phase_of_state Garbage = Some phase.Garbage
phase_of_state (Deleting owner from) = Some phase.Deleting
phase_of_state Gone = None

-- the transition of a pod that is moved to this area
abbrev pub arrival : Area → Option Transition
arrival area.Prepare = Some turn.BeginPrepare
arrival area.Prepared = Some turn.Finish
arrival area.Run = Some turn.Start
arrival area.ExitedGarbage = Some turn.Mark
arrival area.Garbage = Some turn.Sweep
arrival _ = None

-- the transition, where the test passes
abbrev pub transition_if : Bool → Transition → Option Transition
transition_if true t = Some t
transition_if false t = None

-- there is an open handle, and it passes the test
abbrev pub on_opening : (Opening → Bool) → Option Opening → Bool
on_opening test None = false
on_opening test (Some o) = test o

-- the open handle that the process means
abbrev pub find_opening : Namespace → ℕ → Handle → Option Opening
find_opening n p handle = find (is_handle p handle) n.openings

-- the handle was opened on the pod's lock, in a garbage area
abbrev pub is_deleter : List ℕ → Opening → Bool
is_deleter name o = is_own_of name o.target && is_garbage (area_of o.target)

-- the handle holds the pod's lock exclusively
abbrev pub is_exclusive_own : List ℕ → Opening → Bool
is_exclusive_own name o = is_own_of name o.target && is_exclusive o.lock

-- the transition of the pod that an event is, if it is one: only Ok answers count
abbrev pub transition : List ℕ → Namespace → PodState → ℕ → Request → Reply → Option Transition
transition name n s p (MakeFolder spot) Done = transition_if (is_spot_of_pod name spot) turn.Make
transition name n s p (MoveFolder from to) Done = cond (is_spot_of_pod name to) (arrival to.area) None
transition name n s p (TryLock handle Exclusive) Done = transition_if (not (is_gone s) && on_opening (is_deleter name) (find_opening n p handle)) turn.BeginDelete
transition name n s p (Close handle) Done = transition_if (is_owner p s && on_opening (is_exclusive_own name) (find_opening n p handle)) turn.End
transition name n s p (RemoveFolder spot) Done = transition_if (is_spot_of_pod name spot) turn.Remove
transition name n s p Finish Done = transition_if (is_owner p s) turn.End
transition name n s p Kill Done = transition_if (is_owner p s) turn.End
transition name n s p request reply = None

-- the pod's state after one event
abbrev pub pod_state_next : List ℕ → Namespace → PodState → Event → PodState
pod_state_next name n s e = after_transition (transition name n s e.process e.request e.reply) e.process s

-- after several, the oldest first
abbrev pub pod_state_from : List ℕ → DirState → PodState → List Event → PodState
pod_state_from name n s [] = s
pod_state_from name n s (e ∷ es) = pod_state_from name (state_next n e) (pod_state_next name n.namespace s e) es

-- the state that a trace brings the pod of this name to
abbrev pub pod_state : List ℕ → List Event → PodState
pod_state name trace = pod_state_from name empty_state Absent trace

-- the phase that it has then
abbrev pub pod_phase : List ℕ → List Event → Option Phase
pod_phase name trace = phase_of_state (pod_state name trace)

-- the owner that it has then
abbrev pub pod_owner : List ℕ → List Event → Option ℕ
pod_owner name trace = owner_of (pod_state name trace)

-- a pod in this state stands in this area
abbrev pub is_area_of_state : Area → PodState → Bool
is_area_of_state area.Embryo (Embryo maker) = true
is_area_of_state area.Prepare (Preparing owner) = true
is_area_of_state area.Prepare AbortedPrepare = true
is_area_of_state area.Prepared Prepared = true
is_area_of_state area.Run (Running owner) = true
is_area_of_state area.Run Exited = true
is_area_of_state area.ExitedGarbage ExitedGarbage = true
is_area_of_state area.Garbage Garbage = true
is_area_of_state area.ExitedGarbage (Deleting owner area.ExitedGarbage) = true
is_area_of_state area.Garbage (Deleting owner area.ExitedGarbage) = false
is_area_of_state area.Garbage (Deleting owner from) = true
is_area_of_state area s = false

-- how far along its life the pod is. No transition lowers it
abbrev pub pod_progress : PodState → ℕ
pod_progress Absent = 0
pod_progress (Embryo maker) = 1
pod_progress (Preparing owner) = 2
pod_progress AbortedPrepare = 3
pod_progress Prepared = 4
pod_progress (Running owner) = 5
pod_progress Exited = 6
pod_progress ExitedGarbage = 7
pod_progress (Deleting owner area.ExitedGarbage) = 7
pod_progress (Deleting owner _) = 8
pod_progress Garbage = 8
pod_progress Gone = 9

-- how far along a pod is at least that was found in this area
abbrev pub age_in : Area → ℕ
age_in area.Embryo = 1
age_in area.Prepare = 2
age_in area.Prepared = 4
age_in area.Run = 5
age_in area.ExitedGarbage = 7
age_in area.Garbage = 8
age_in _ = 0

-- the same where its lock could be had shared there
abbrev pub age_free : Area → ℕ
age_free area.Prepare = 3
age_free area.Run = 6
age_free area = age_in area
