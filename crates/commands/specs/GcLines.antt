-- The lines of a whole sweep, by one state of the directory.
use Rattle.std.specs.Prelude.{◌≡◌, ℕ, Bool, true, false, not, ◌&&◌, cond, Option, Some, None, List, [], ◌∷◌, ◌++◌, find, map}
use Rattle.std.specs.List.{AllByRecursion}
use Rattle.std.specs.List.Sorted.{IsStrictlySortedBy}
use Rattle.std.specs.Ordering.{nat_cmp}
use Rattle.std.specs.Cmp.Lexicographic.{slice_cmp}
use Rattle.dir_model.specs.declared.area.Area.{Area}
use Rattle.dir_model.specs.declared.area.Area.TheVariants.{Embryo}
use Rattle.dir_model.specs.declared.pod.PodId.{PodId}
use Rattle.dir_model.specs.declared.spot.Mode.TheVariants.{Exclusive}
use Rattle.dir_model.specs.Pods.{pod_of_text}
use Rattle.dir_trait.specs.State.{DirState, stands}
use Rattle.dir_rules.specs.Standing.{is_in}
use Rattle.dir_files.specs.AreaLocks.{is_busy_elsewhere}
use Rattle.dir_model.specs.Spots.{pod_spot}
use Rattle.pod_gc.specs.declared.ages.Times.{Times}
use Rattle.pod_gc.specs.declared.line.Deed.{Deed}
use Rattle.pod_gc.specs.declared.line.Deed.TheVariants.{Moved, BusyGate}
use Rattle.pod_gc.specs.declared.line.GcLine.{GcLine}
use Rattle.pod_gc.specs.Told.{places}
use Rattle.commands.specs.Gc.{subject_text}
use Rattle.commands.specs.RemovalTable.{deed_at, deed_when_moved}

-- a line of this pod at this place is among them
pub record HasLine (place : Area) (pod : PodId) (lines : List GcLine) : Type 0 where
  pub before : List GcLine
  pub line : GcLine
  pub after : List GcLine
  pub are : lines ≡ before ++ line ∷ after
  pub place_is : line.place ≡ place
  pub pod_is : line.pod ≡ Some pod

-- another process holds the lock of embryo
abbrev pub is_embryo_held : ℕ → DirState → Bool
is_embryo_held me s = is_busy_elsewhere me Embryo Exclusive s

abbrev pub is_move_to : Area → Deed → Bool
is_move_to to (Moved there) = is_in to there
is_move_to to deed = false

-- the sweep moves the pod from this place to that: it stands there, and the move is its deed; from embryo only under that area's lock
abbrev pub moves_there : Times → ℕ → PodId → Area → DirState → Area → Bool
moves_there times me pod to s from = stands s.namespace (pod_spot pod from) && (is_move_to to (deed_at times me pod from s) && not (is_in Embryo from && is_embryo_held me s))

abbrev pub deed_after_move : Times → ℕ → PodId → Area → DirState → Option Area → Option Deed
deed_after_move times me pod to s None = None
deed_after_move times me pod to s (Some from) = Some (deed_when_moved times me pod from to s)

-- what the pass over this place does with a pod: with one that stands there, and with one that the sweep moves there
abbrev pub deed_in_pass : Times → ℕ → Area → DirState → PodId → Option Deed
deed_in_pass times me place s pod =
    cond (stands s.namespace (pod_spot pod place)) (Some (deed_at times me pod place s)) (deed_after_move times me pod place s (find (moves_there times me pod place s) places))

-- a line of the pass over this place, of a pod for which there is a deed
pub record IsPassLine (place : Area) (deeds : PodId → Option Deed) (line : GcLine) : Type 0 where
  pub name : List ℕ
  pub pod : PodId
  pub name_is : pod_of_text name ≡ Some pod
  pub pod_is : line.pod ≡ Some pod
  pub place_is : line.place ≡ place
  pub deed_is : deeds pod ≡ Some line.deed

-- its lines: one of each pod for which there is a deed, in byte order of their uuids
pub record AreGcPassLines (place : Area) (deeds : PodId → Option Deed) (lines : List GcLine) : Type 0 where
  pub each : AllByRecursion (IsPassLine place deeds) lines
  pub all : (name : List ℕ) (pod : PodId) (deed : Deed) → pod_of_text name ≡ Some pod → deeds pod ≡ Some deed → HasLine place pod lines
  pub ordered : IsStrictlySortedBy (slice_cmp nat_cmp) (map (λ (l : GcLine). subject_text l.pod l.place) lines)

-- of embryo, where another process holds its lock, the one line that says so
abbrev pub GatedOr : Bool → List GcLine → Type 0 → Type 0
GatedOr true lines Passed = lines ≡ record { place = Embryo; pod = None; deed = BusyGate } ∷ []
GatedOr false lines Passed = Passed

abbrev pub IsGcPassOf : Times → ℕ → DirState → Area → List GcLine → Type 0
IsGcPassOf times me s Embryo lines = GatedOr (is_embryo_held me s) lines (AreGcPassLines Embryo (deed_in_pass times me Embryo s) lines)
IsGcPassOf times me s place lines = AreGcPassLines place (deed_in_pass times me place s) lines

-- the lines of passes over these places, one after the other
abbrev pub ArePassesOf : Times → ℕ → DirState → List Area → List GcLine → Type 0
ArePassesOf times me s [] lines = lines ≡ []
ArePassesOf times me s (place ∷ rest) lines = (own : List GcLine) × (others : List GcLine) × (lines ≡ own ++ others) × IsGcPassOf times me s place own × ArePassesOf times me s rest others

-- a sweep's lines, by the state before it
abbrev pub IsSweepOf : Times → ℕ → DirState → List GcLine → Type 0
IsSweepOf times me s lines = ArePassesOf times me s places lines

-- these are they, and there are no others
pub record AreTheGcLines (times : Times) (me : ℕ) (s : DirState) (lines : List GcLine) : Type 0 where
  pub are : IsSweepOf times me s lines
  pub only : (others : List GcLine) → IsSweepOf times me s others → others ≡ lines
