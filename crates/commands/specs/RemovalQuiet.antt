-- What `rm` and `gc` come to, and leave, where nobody else steps.
use Rattle.std.specs.Prelude.{◌≡◌, ◌⊎◌, ℕ, Bool, true, false, ◌&&◌, codes, Some, None, List, Ok, Err, slice_get}
use Rattle.std.specs.List.{list_any, AllByRecursion}
use Rattle.dir_model.specs.declared.area.Area.{Area}
use Rattle.dir_model.specs.declared.area.Area.TheVariants.{Embryo}
use Rattle.dir_model.specs.declared.area.Area.TheVariants as area
use Rattle.dir_model.specs.declared.area.Phase.{Phase}
use Rattle.dir_model.specs.declared.area.Phase.TheVariants as kind
use Rattle.dir_model.specs.declared.area.Phase.TheVariants.{Preparing, Prepared, Running}
use Rattle.dir_model.specs.declared.event.Event.{Event}
use Rattle.dir_model.specs.declared.pod.PodId.{PodId}
use Rattle.dir_model.specs.declared.spot.Mode.{Mode}
use Rattle.dir_model.specs.declared.spot.Mode.TheVariants.{Exclusive}
use Rattle.dir_model.specs.declared.spot.Spot.{Spot}
use Rattle.dir_model.specs.declared.spot.Which.{Which}
use Rattle.dir_model.specs.Areas.{is_stage}
use Rattle.dir_model.specs.Pods.{pod_text, pod_of_text}
use Rattle.dir_trait.specs.State.{DirState, stands, folder_at}
use Rattle.dir_trait.specs.Trace.{state_after}
use Rattle.dir_rules.specs.Standing.{is_in}
use Rattle.dir_files.specs.AreaLocks.{IsBusyElsewhere}
use Rattle.lifecycle.specs.declared.machine.PodState.TheVariants.{Gone}
use Rattle.lifecycle.specs.PodMachine.{pod_state}
use Rattle.lifecycle.specs.Executions.{IsConforming}
use Rattle.phase_read.specs.declared.found.Found.TheVariants.{At}
use Rattle.phase_read.specs.Exact.{IsInPhase}
use Rattle.dir_model.specs.Spots.{pod_spot}
use Rattle.dir_trait.specs.DirCalls.{DirAt}
use Rattle.phase_read.specs.Read.{is_pod_spot}
use Rattle.phase_read.specs.Sequential.{sequential_read}
use Rattle.pod_locks.specs.ClaimCauses.{IsPreparedWithoutManifest}
use Rattle.pod_locks.specs.Causes.{is_held_against}
use Rattle.pod_gc.specs.RemovalRequests.{is_removable, is_garbage_place}
use Rattle.pod_gc.specs.declared.ages.Times.{Times}
use Rattle.pod_gc.specs.declared.line.Deed.{Deed}
use Rattle.pod_gc.specs.declared.line.Deed.TheVariants.{Moved, Deleted, Kept, Busy, BusyGate, Left}
use Rattle.pod_gc.specs.declared.line.GcLine.{GcLine}
use Rattle.pod_gc.specs.Deeds.{refused_lock}
use Rattle.pod_gc.specs.Ages.{is_young, is_ripe}
use Rattle.pod_gc.specs.Requests.{goes_to, moves_pods, lets_be, may_be_busy}
use Rattle.command_outcomes.specs.declared.refusal.Refusal.TheVariants.{NoPod, WrongPhase, NoManifest, PodBusy, Stray}
use Rattle.command_outcomes.specs.Meanwhile.{Meanwhile}
use Rattle.command_outcomes.specs.Moments.{CommandOutcome}
use Rattle.commands.specs.Rm.{removed_pod_text, HasRemovedPod, HasFoundNoPod, HasFoundWrong, HasFoundNoManifest, HasFoundBusy, HasMetStrayAtPod}
use Rattle.commands.specs.Gc.{HasSweptPods, HasMetStrayInPods}
use Rattle.commands.specs.RemovalTable.{mark_moment_at, deed_when_moved, removal_refusal, ByTable}
use Rattle.commands.specs.GcLines.{HasLine, AreTheGcLines}
use Rattle.commands.specs.Opening.{OnceFound}
use Rattle.commands.specs.Strays.{ComesOfApp}

-- no folder of the pod stands at any of its six places
abbrev pub StandsNowhere : PodId → DirState → Type 0
StandsNowhere pod s = (a : Area) → is_stage a ≡ true → stands s.namespace (pod_spot pod a) ≡ false

-- the pod is gone, and so for good
pub record IsGoneForGood (pod : PodId) (trace : List Event) : Type 0 where
  pub is : pod_state (pod_text pod.bytes) trace ≡ Gone
  pub nowhere : StandsNowhere pod (state_after trace)

-- the pod has this phase, by its history, by the first area in which it stands, and by its lock there
pub record HasPhaseNow (pod : PodId) (phase : Phase) (trace : List Event) : Type 0 where
  pub area : Area
  pub is : IsInPhase pod phase area trace
  pub reads : sequential_read (state_after trace) pod ≡ At phase area

-- or one that its removal takes
pub record IsRemovableNow (pod : PodId) (trace : List Event) : Type 0 where
  pub phase : Phase
  pub removable : is_removable phase ≡ true
  pub has : HasPhaseNow pod phase trace

-- a folder stands at one of these places, and another process holds this lock of it
pub record IsHeldNow (its_place : Spot → Bool) (which : Which) (me : ℕ) (s : DirState) : Type 0 where
  pub folder : ℕ
  pub place : Spot
  pub there : slice_get s.namespace.folders folder ≡ Some (Some place)
  pub its : its_place place ≡ true
  pub mode : Mode
  pub held : list_any (is_held_against me which mode folder) s.namespace.openings ≡ true

-- of `rm`: the pod is gone, which could be removed before; or by the state before there was none, or it had that phase, or no manifest, or its lock was held; or by
-- its own answers. Whether it is refused, and why, is what the state before asks for
abbrev pub RemovesPodQuietly : PodId → DirAt → DirAt → CommandOutcome → Type 0
RemovesPodQuietly pod old new (Ok text) =
    (text ≡ removed_pod_text pod) × HasRemovedPod pod old new × (IsConforming new.trace → IsGoneForGood pod new.trace × IsRemovableNow pod old.trace × (removal_refusal old.process pod (state_after old.trace) ≡ None))
RemovesPodQuietly pod old new (Err NoPod) = HasFoundNoPod pod old new × StandsNowhere pod (state_after old.trace) × (removal_refusal old.process pod (state_after old.trace) ≡ Some NoPod)
RemovesPodQuietly pod old new (Err (WrongPhase phase)) =
    HasFoundWrong pod phase old new × (IsConforming new.trace → HasPhaseNow pod phase old.trace × (removal_refusal old.process pod (state_after old.trace) ≡ Some (WrongPhase phase)))
RemovesPodQuietly pod old new (Err (NoManifest other)) =
    (other ≡ pod) × HasFoundNoManifest pod old new × (IsConforming new.trace → IsPreparedWithoutManifest pod (state_after old.trace) × (removal_refusal old.process pod (state_after old.trace) ≡ Some (NoManifest pod)))
RemovesPodQuietly pod old new (Err (PodBusy other which)) =
    (other ≡ pod) × HasFoundBusy pod which old new × IsHeldNow (is_pod_spot pod) which old.process (state_after old.trace)
    × (IsConforming new.trace → removal_refusal old.process pod (state_after old.trace) ≡ Some (PodBusy pod which))
RemovesPodQuietly pod old new (Err Stray) = HasMetStrayAtPod pod old new × OnceFound ComesOfApp old.process old.trace new.trace
RemovesPodQuietly pod old new (Err refusal) = ⊥

-- where a sweep moves and removes folders. A removal does so at the pod's places (`is_pod_spot`)
abbrev pub is_pods_place : Spot → Bool
is_pods_place place = is_stage place.area

-- no folder of a pod stands in embryo, unless another process held that area's lock before
abbrev pub LeavesNoEmbryo : DirAt → DirAt → Type 0
LeavesNoEmbryo old new =
    ((name : List ℕ) (pod : PodId) → pod_of_text name ≡ Some pod → folder_at (state_after new.trace).namespace (record { area = Embryo; name = name }) ≡ None)
    ⊎ IsBusyElsewhere old.process Embryo Exclusive (state_after old.trace)

-- a pod in this phase is being made, waits or runs: no step of a sweep brings it there
abbrev pub is_lasting_phase : Phase → Bool
is_lasting_phase Preparing = true
is_lasting_phase Prepared = true
is_lasting_phase Running = true
is_lasting_phase _ = false

-- a pod that is kept for such a phase had it before
abbrev pub KeptAsBefore : List Event → GcLine → Type 0
KeptAsBefore old line = (pod : PodId) (phase : Phase) → line.pod ≡ Some pod → line.deed ≡ Kept phase → is_lasting_phase phase ≡ true → HasPhaseNow pod phase old

-- a pod that is kept as one that rests in exited-garbage rested there before, if it stood there before
abbrev pub RestedAsBefore : List Event → GcLine → Type 0
RestedAsBefore old line = (pod : PodId) → line.pod ≡ Some pod → line.deed ≡ Kept kind.ExitedGarbage → stands (state_after old).namespace (pod_spot pod area.ExitedGarbage) ≡ true → HasPhaseNow pod kind.ExitedGarbage old

-- the phase of a pod that the pass over this place moves
abbrev pub swept_phase : Area → Phase
swept_phase Embryo = kind.Embryo
swept_phase area.Prepare = kind.AbortedPrepare
swept_phase area.Prepared = Prepared
swept_phase place = kind.Exited

-- a pod that was moved had that phase before
abbrev pub SweptAsBefore : List Event → GcLine → Type 0
SweptAsBefore old line = (pod : PodId) (to : Area) → line.pod ≡ Some pod → line.deed ≡ Moved to → HasPhaseNow pod (swept_phase line.place) old

-- a pod that was moved stood at that place before
abbrev pub MovedAsBefore : List Event → GcLine → Type 0
MovedAsBefore old line = (pod : PodId) (to : Area) → line.pod ≡ Some pod → line.deed ≡ Moved to → stands (state_after old).namespace (pod_spot pod line.place) ≡ true

-- each line of a place from which pods are moved is of one that stood there before
abbrev pub StoodAsBefore : List Event → GcLine → Type 0
StoodAsBefore old line = (pod : PodId) → line.pod ≡ Some pod → moves_pods line.place ≡ true → stands (state_after old).namespace (pod_spot pod line.place) ≡ true

-- the pod is neither moved nor deleted
abbrev pub leaves_there : Deed → Bool
leaves_there (Kept phase) = true
leaves_there (Busy which) = true
leaves_there Left = true
leaves_there _ = false

-- such a pod stands at that place at the end
abbrev pub StandsAfter : List Event → GcLine → Type 0
StandsAfter new line = (pod : PodId) → line.pod ≡ Some pod → leaves_there line.deed ≡ true → stands (state_after new).namespace (pod_spot pod line.place) ≡ true

-- a pod that was deleted is gone at the end
abbrev pub GoneAfter : List Event → GcLine → Type 0
GoneAfter new line = (pod : PodId) → line.pod ≡ Some pod → line.deed ≡ Deleted → IsGoneForGood pod new

-- each pod that stood in an area before has a line of that place, but those in embryo where another process held that area's lock
abbrev pub TellsOfEach : List GcLine → DirAt → Type 0
TellsOfEach lines old =
    (name : List ℕ) (pod : PodId) (place : Area) → pod_of_text name ≡ Some pod → is_stage place ≡ true → stands (state_after old.trace).namespace (pod_spot pod place) ≡ true →
    HasLine place pod lines ⊎ ((place ≡ Embryo) × IsBusyElsewhere old.process Embryo Exclusive (state_after old.trace))

-- a line of this pod says that it was moved from the one place to the other
pub record MovedFrom (from to : Area) (pod : PodId) (lines : List GcLine) : Type 0 where
  pub has : HasLine from pod lines
  pub moved : has.line.deed ≡ Moved to

-- that from some place
abbrev pub SaysMoved : PodId → Area → List GcLine → Type 0
SaysMoved pod to lines = (from : Area) × MovedFrom from to pod lines

-- each line of a garbage place is of a pod that stood there before, or of which a line says that it was moved there
abbrev pub StoodOrWasMoved : List GcLine → List Event → GcLine → Type 0
StoodOrWasMoved lines old line = (pod : PodId) → line.pod ≡ Some pod → is_garbage_place line.place ≡ true → (stands (state_after old).namespace (pod_spot pod line.place) ≡ true) ⊎ SaysMoved pod line.place lines

-- a pod that was moved has a line of the place where it was moved to
abbrev pub HasLineWhereMoved : List GcLine → GcLine → Type 0
HasLineWhereMoved lines line = (pod : PodId) (to : Area) → line.pod ≡ Some pod → line.deed ≡ Moved to → HasLine to pod lines

-- of a pod that is called busy, or is kept for a phase that has an owner, another process held that lock before, of a folder at one of
-- the pod's places
abbrev pub BusyAsBefore : ℕ → List Event → GcLine → Type 0
BusyAsBefore me old line = (pod : PodId) (which : Which) → line.pod ≡ Some pod → refused_lock line.deed ≡ Some which → IsHeldNow (is_pod_spot pod) which me (state_after old)

-- of no pod it is said that it had left, but of one in prepared whose folder stood there before without its manifest
abbrev pub LeftAsBefore : List Event → GcLine → Type 0
LeftAsBefore old line = (pod : PodId) → line.pod ≡ Some pod → line.deed ≡ Left → (line.place ≡ area.Prepared) × IsPreparedWithoutManifest pod (state_after old)

-- by the `created-` marks that stood in its folder before, a pod that is kept in prepared wasn't ripe, and one that was moved from there was
pub record WaitedAsBefore (times : Times) (old : List Event) (line : GcLine) : Type 0 where
  pub waits : (pod : PodId) (phase : Phase) → line.pod ≡ Some pod → line.place ≡ area.Prepared → line.deed ≡ Kept phase → is_ripe times.now times.expire (mark_moment_at (codes "created-") pod area.Prepared (state_after old)) ≡ false
  pub ripe : (pod : PodId) (to : Area) → line.pod ≡ Some pod → line.place ≡ area.Prepared → line.deed ≡ Moved to → is_ripe times.now times.expire (mark_moment_at (codes "created-") pod area.Prepared (state_after old)) ≡ true

-- by the `marked-` marks that stood in its folder before, a pod that stood in exited-garbage and is kept there was young, and one that was
-- deleted there wasn't
pub record AgedAsBefore (times : Times) (old : List Event) (line : GcLine) : Type 0 where
  pub rests : (pod : PodId) (phase : Phase) → line.pod ≡ Some pod → line.place ≡ area.ExitedGarbage → stands (state_after old).namespace (pod_spot pod area.ExitedGarbage) ≡ true → line.deed ≡ Kept phase →
      is_young times.now times.grace (mark_moment_at (codes "marked-") pod area.ExitedGarbage (state_after old)) ≡ true
  pub over : (pod : PodId) → line.pod ≡ Some pod → line.place ≡ area.ExitedGarbage → stands (state_after old).namespace (pod_spot pod area.ExitedGarbage) ≡ true → line.deed ≡ Deleted →
      is_young times.now times.grace (mark_moment_at (codes "marked-") pod area.ExitedGarbage (state_after old)) ≡ false

-- of a pod that was moved to its line's place, the line says what the state before asks for at the place from which it was moved
abbrev pub ByTableMoved : Times → ℕ → List GcLine → List Event → GcLine → Type 0
ByTableMoved times me lines old line = (pod : PodId) (from : Area) → line.pod ≡ Some pod → MovedFrom from line.place pod lines → line.deed ≡ deed_when_moved times me pod from line.place (state_after old)

-- what a line says of a pod at this place: in garbage only that it was deleted or is busy
abbrev pub may_say : Area → Deed → Bool
may_say place (Moved to) = moves_pods place && is_in to (goes_to place)
may_say place Deleted = is_garbage_place place
may_say place (Kept phase) = lets_be place phase
may_say place (Busy which) = may_be_busy place
may_say place Left = is_in area.Prepared place
may_say place BusyGate = false

abbrev pub SaysFitting : GcLine → Type 0
SaysFitting line = (pod : PodId) → line.pod ≡ Some pod → may_say line.place line.deed ≡ true

-- of `gc`: its lines by its own steps, one of each pod that stood before, one more where a pod was moved to, and none of others; those of
-- kept, moved, busy and left pods agree with the state before, and so do the ages; the deleted ones are gone, those neither moved nor
-- deleted stand where they were, and no embryo is left
pub record SweepsByOwnSteps (times : Times) (old new : DirAt) (text : List ℕ) : Type 0 where
  pub swept : HasSweptPods times old new text
  pub tells : IsConforming new.trace → TellsOfEach swept.lines old
  pub kept : IsConforming new.trace → AllByRecursion (KeptAsBefore old.trace) swept.lines
  pub rested : IsConforming new.trace → AllByRecursion (RestedAsBefore old.trace) swept.lines
  pub moved : AllByRecursion (MovedAsBefore old.trace) swept.lines
  pub had : IsConforming new.trace → AllByRecursion (SweptAsBefore old.trace) swept.lines
  pub stood : AllByRecursion (StoodAsBefore old.trace) swept.lines
  pub came : IsConforming new.trace → AllByRecursion (StoodOrWasMoved swept.lines old.trace) swept.lines
  pub goes_on : IsConforming new.trace → AllByRecursion (HasLineWhereMoved swept.lines) swept.lines
  pub stays : IsConforming new.trace → AllByRecursion (StandsAfter new.trace) swept.lines
  pub gone : IsConforming new.trace → AllByRecursion (GoneAfter new.trace) swept.lines
  pub busy : AllByRecursion (BusyAsBefore old.process old.trace) swept.lines
  pub left : AllByRecursion (LeftAsBefore old.trace) swept.lines
  pub fits : AllByRecursion SaysFitting swept.lines
  pub waited : AllByRecursion (WaitedAsBefore times old.trace) swept.lines
  pub aged : IsConforming new.trace → AllByRecursion (AgedAsBefore times old.trace) swept.lines
  pub embryos : LeavesNoEmbryo old new
  pub table : IsConforming new.trace → AllByRecursion (ByTable times old.process old.trace) swept.lines
  pub moved_on : IsConforming new.trace → AllByRecursion (ByTableMoved times old.process swept.lines old.trace) swept.lines
  pub whole : IsConforming new.trace → AreTheGcLines times old.process (state_after old.trace) swept.lines

abbrev pub SweepsPodsQuietly : Times → DirAt → DirAt → CommandOutcome → Type 0
SweepsPodsQuietly times old new (Ok text) = SweepsByOwnSteps times old new text
SweepsPodsQuietly times old new (Err Stray) = HasMetStrayInPods old new × Meanwhile ComesOfApp old.process old.trace new.trace
SweepsPodsQuietly times old new (Err refusal) = ⊥
