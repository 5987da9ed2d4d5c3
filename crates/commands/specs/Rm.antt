-- The command `rm`.
use Rattle.std.specs.Prelude.{◌≡◌, ◌⊎◌, ℕ, Bool, true, List, codes, Ok, Err}
use Rattle.dir_model.specs.declared.area.Area.{Area}
use Rattle.dir_model.specs.declared.area.Phase.{Phase}
use Rattle.dir_model.specs.declared.event.Event.{Event}
use Rattle.dir_model.specs.declared.pod.PodId.{PodId}
use Rattle.dir_model.specs.declared.spot.Which.{Which}
use Rattle.dir_model.specs.Calls.{AtOwnStep}
use Rattle.dir_model.specs.Pods.{pod_text}
use Rattle.dir_rules.specs.declared.seen.Seen.{Seen}
use Rattle.dir_trait.specs.Knowledge.{Knows}
use Rattle.dir_trait.specs.DirCalls.{DirAt}
use Rattle.lifecycle.specs.Executions.{IsConforming}
use Rattle.phase_read.specs.Exact.{AtOwnEvent}
use Rattle.pod_locks.specs.ClaimCauses.{IsPreparedWithoutManifest}
use Rattle.pod_locks.specs.Elsewhere.{is_owned_phase, IsOwnedElsewhere}
use Rattle.pod_locks.specs.Causes.{WasStrayStep}
use Rattle.pod_gc.specs.declared.remove_error.RemoveError.{RemoveError}
use Rattle.pod_gc.specs.declared.remove_error.RemoveError.TheVariants as error
use Rattle.pod_gc.specs.RemovalCauses.{IsBusyAt, HasDeletedPod}
use Rattle.pod_gc.specs.RemovalHolding.{MayRemovePod}
use Rattle.pod_gc.specs.Hindrances.{IsUnhinderedThroughout}
use Rattle.pod_gc.specs.Removals.{FoundNoPod, FoundThenEnded, MissedTimes, WasWrongToRemove}
use Rattle.pod_gc.specs.Found.{TakenAway, LockWasRefused, FirstOrMissed}
use Rattle.command_outcomes.specs.declared.refusal.Refusal.{Refusal}
use Rattle.command_outcomes.specs.declared.refusal.Refusal.TheVariants.{NoPod, WrongPhase, NoManifest, PodBusy, DirFault, Stray, NoMemory}
use Rattle.command_outcomes.specs.Texts.{named_line}
use Rattle.command_outcomes.specs.Moments.{CommandOutcome}
use Rattle.command_outcomes.specs.Ends.{is_common}
use Rattle.commands.specs.Opening.{OnceFound}
use Rattle.impossible_replies.specs.Replies.{AppWroteOn}
use Rattle.commands.specs.Strays.{ComesOfApp}

-- the line that it prints
abbrev pub removed_pod_text : PodId → List ℕ
removed_pod_text pod = named_line (codes "removed ") (pod_text pod.bytes)

-- the refusals that it may have
abbrev pub rm_refusal : Refusal → Bool
rm_refusal NoPod = true
rm_refusal (WrongPhase phase) = true
rm_refusal (NoManifest pod) = true
rm_refusal (PodBusy pod which) = true
rm_refusal Stray = true
rm_refusal refusal = is_common refusal

-- what is said of a removal that was refused
abbrev pub remove_refusal : PodId → RemoveError → Refusal
remove_refusal pod error.NoPod = NoPod
remove_refusal pod (error.WrongPhase phase) = WrongPhase phase
remove_refusal pod error.NoManifest = NoManifest pod
remove_refusal pod (error.Busy other which) = PodBusy other which
remove_refusal pod error.DirFault = DirFault
remove_refusal pod error.Stray = Stray
remove_refusal pod error.NoMemory = NoMemory

-- its own removal of the pod was answered Ok, or the pod was there at its first read and gone at a later one; in its first round it took the
-- pod away, or missed it
pub record RemovesPod (pod : PodId) (me : ℕ) (old new : List Event) : Type 0 where
  pub did : HasDeletedPod pod me old new ⊎ FoundThenEnded pod me old new
  pub first : FirstOrMissed pod (TakenAway pod) me old new

-- another process held this lock of the pod; in its first round that lock was refused, or the pod missed
pub record FindsPodBusy (pod : PodId) (which : Which) (me : ℕ) (old new : List Event) : Type 0 where
  pub busy : IsBusyAt pod which me old new
  pub first : FirstOrMissed pod (LockWasRefused pod which) me old new

-- it is so where the process has begun to remove this pod at this moment
abbrev pub WhereRemovingPod : Bool → PodId → ℕ → DirAt → Type 0 → Type 0
WhereRemovingPod observed pod now old P = observed ≡ true → (s : Seen) → Knows old s → MayRemovePod pod now s → P

-- in a conforming execution the pod had a phase at an own event in which another process owned it
abbrev pub IsOwnedIn : PodId → Phase → ℕ → List Event → List Event → Type 0
IsOwnedIn pod phase me old new = is_owned_phase phase ≡ true → (area : Area) × AtOwnEvent me old new (IsOwnedElsewhere me pod phase area)

-- in a conforming execution the pod had this phase at an own event, which doesn't allow its removal
abbrev pub ConformingHadPhase : PodId → Phase → ℕ → List Event → List Event → Type 0
ConformingHadPhase pod phase me old new = IsConforming new → WasWrongToRemove pod phase me old new

-- and where that is of a pod with an owner, another process was that
abbrev pub WasOwned : PodId → Phase → ℕ → List Event → List Event → Type 0
WasOwned pod phase me old new = IsConforming new → IsOwnedIn pod phase me old new

pub record FindsWrong (observed : Bool) (pod : PodId) (now : ℕ) (phase : Phase) (old new : DirAt) : Type 0 where
  pub was : observed ≡ true → ConformingHadPhase pod phase old.process old.trace new.trace
  pub owner : WhereRemovingPod observed pod now old (WasOwned pod phase old.process old.trace new.trace)

-- in a conforming execution the pod stood in prepared without its manifest, at an own step
abbrev pub HadNoManifest : PodId → ℕ → List Event → List Event → Type 0
HadNoManifest pod me old new = IsConforming new → AtOwnStep me old new (IsPreparedWithoutManifest pod)

-- an answer that what the locks keep doesn't explain; or six times, one after the other, it was found and then missed
abbrev pub MeetsStray : PodId → ℕ → List Event → List Event → Type 0
MeetsStray pod me old new = WasStrayStep me old new ⊎ MissedTimes 6 pod me old new

-- what was told of the pod
abbrev pub RmSays : Bool → PodId → ℕ → DirAt → DirAt → CommandOutcome → Type 0
RmSays observed pod now old new (Ok text) = (text ≡ removed_pod_text pod) × (observed ≡ true → RemovesPod pod old.process old.trace new.trace)
RmSays observed pod now old new (Err NoPod) = observed ≡ true → FoundNoPod pod old.process old.trace new.trace
RmSays observed pod now old new (Err (WrongPhase phase)) = FindsWrong observed pod now phase old new
RmSays observed pod now old new (Err (NoManifest other)) = (other ≡ pod) × (observed ≡ true → HadNoManifest pod old.process old.trace new.trace)
RmSays observed pod now old new (Err (PodBusy other which)) = (other ≡ pod) × WhereRemovingPod observed pod now old (FindsPodBusy pod which old.process old.trace new.trace)
RmSays observed pod now old new (Err Stray) = (observed ≡ true → MeetsStray pod old.process old.trace new.trace) × WhereRemovingPod observed pod now old (ComesOfApp old.process old.trace new.trace)
RmSays observed pod now old new (Err refusal) = Unit {0}

-- the directory failed, memory ran out, or a started app wrote on that had outlived its owner
abbrev pub FailsFor : Refusal → ℕ → List Event → List Event → Type 0
FailsFor DirFault me old new = Unit {0}
FailsFor NoMemory me old new = Unit {0}
FailsFor Stray me old new = AppWroteOn me old new
FailsFor refusal me old new = ⊥

-- in a conforming execution in which nothing hinders the pod's removal, only a failure refuses it
abbrev pub FailsAlone : PodId → DirAt → DirAt → Refusal → Type 0
FailsAlone pod old new refusal = IsConforming new.trace → IsUnhinderedThroughout pod old.process old.trace new.trace → FailsFor refusal old.process old.trace new.trace

-- of a whole process: that it removed the pod, that it found none, that it found it in such a phase or without its manifest, that
-- another process held its lock, that it met an answer which the locks don't explain
abbrev pub HasRemovedPod : PodId → DirAt → DirAt → Type 0
HasRemovedPod pod old new = OnceFound (RemovesPod pod) old.process old.trace new.trace

abbrev pub HasFoundNoPod : PodId → DirAt → DirAt → Type 0
HasFoundNoPod pod old new = OnceFound (FoundNoPod pod) old.process old.trace new.trace

pub record HasFoundWrong (pod : PodId) (phase : Phase) (old new : DirAt) : Type 0 where
  pub was : OnceFound (ConformingHadPhase pod phase) old.process old.trace new.trace
  pub owner : OnceFound (WasOwned pod phase) old.process old.trace new.trace

abbrev pub HasFoundNoManifest : PodId → DirAt → DirAt → Type 0
HasFoundNoManifest pod old new = OnceFound (HadNoManifest pod) old.process old.trace new.trace

abbrev pub HasFoundBusy : PodId → Which → DirAt → DirAt → Type 0
HasFoundBusy pod which old new = OnceFound (FindsPodBusy pod which) old.process old.trace new.trace

abbrev pub HasMetStrayAtPod : PodId → DirAt → DirAt → Type 0
HasMetStrayAtPod pod old new = OnceFound (MeetsStray pod) old.process old.trace new.trace
