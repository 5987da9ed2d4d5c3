-- What the lines of a sweep say.
use Rattle.std.specs.Prelude.{◌≡◌, ◌⊎◌, ℕ, Bool, Option, Some, None, List, [], ◌∷◌, ◌++◌, map}
use Rattle.std.specs.List.{list_any, AllByRecursion}
use Rattle.std.specs.List.Sorted.{IsStrictlySortedBy}
use Rattle.std.specs.Ordering.{nat_cmp}
use Rattle.std.specs.Cmp.Lexicographic.{slice_cmp}
use Rattle.dir_model.specs.declared.area.Area.{Area}
use Rattle.dir_model.specs.declared.area.Area.TheVariants.{Embryo, Prepare, Prepared, Run, ExitedGarbage, Garbage}
use Rattle.dir_model.specs.declared.event.Event.{Event}
use Rattle.dir_model.specs.declared.pod.PodId.{PodId}
use Rattle.dir_model.specs.declared.request.Request.{Request}
use Rattle.dir_model.specs.declared.spot.Handle.{Handle}
use Rattle.dir_model.specs.declared.spot.Mode.TheVariants.{Exclusive}
use Rattle.dir_model.specs.Calls.{Extends, AtOwnStep}
use Rattle.dir_model.specs.Pods.{pod_of_text}
use Rattle.dir_rules.specs.declared.seen.Seen.{Seen}
use Rattle.dir_trait.specs.DirCalls.{DirAt}
use Rattle.dir_trait.specs.Knowledge.{Knows}
use Rattle.dir_files.specs.Listed.{ShowsArea}
use Rattle.dir_files.specs.AreaLocks.{is_taking_area, closes, IsBusy, IsBusyElsewhere, IsFreeElsewhere}
use Rattle.pod_gc.specs.declared.ages.Times.{Times}
use Rattle.pod_gc.specs.declared.line.Deed.TheVariants.{BusyGate}
use Rattle.pod_gc.specs.declared.line.GcLine.{GcLine}
use Rattle.pod_gc.specs.Requests.{lists_pod_area, deals_with_pod}
use Rattle.pod_gc.specs.Deeds.{Dealt, LeftToAnother}
use Rattle.pod_gc.specs.Sweeping.{MayPassPods, MaySweepAll}

-- the pods among these names of folders, in that order
abbrev pub and_pod : Option PodId → List PodId → List PodId
and_pod None pods = pods
and_pod (Some pod) pods = pod ∷ pods

abbrev pub pods_of : List (List ℕ) → List PodId
pods_of [] = []
pods_of (name ∷ names) = and_pod (pod_of_text name) (pods_of names)

-- one of them is dealt with
abbrev pub deals_with_pods : ℕ → Area → List (List ℕ) → Request → Bool
deals_with_pods now place names request = list_any (λ (pod : PodId). deals_with_pod pod now place request) (pods_of names)

-- some process knew this of itself
abbrev pub Knew : (Seen → Type 0) → DirAt → Type 0
Knew May d = (s : Seen) × Knows d s × May s

-- the line is of this pod at this place, with what was done in its turn, one stretch of the pass, and why: before its turn the pods that
-- stand before it among the names were dealt with, and after it those after it. Where the process may do that, another one held each
-- lock that was refused in its turn, or owned the pod
pub record IsLineOfTurn (Can : Type 0) (times : Times) (here : Area) (names : List (List ℕ)) (line : GcLine) (me : ℕ) (old new : List Event) : Type 0 where
  pub shown : PodId
  pub pod_is : line.pod ≡ Some shown
  pub place_is : line.place ≡ here
  pub earlier : List (List ℕ)
  pub name : List ℕ
  pub later : List (List ℕ)
  pub names_are : names ≡ earlier ++ name ∷ later
  pub name_is : pod_of_text name ≡ Some shown
  pub from : List Event
  pub upto : List Event
  pub first : Extends (deals_with_pods times.now here earlier) me old from
  pub dealt : Dealt times shown here line.deed me from upto
  pub last : Extends (deals_with_pods times.now here later) me upto new
  pub another : Can → LeftToAnother shown here line.deed me from upto

-- the lines are one for each pod among the names, in that order, and nothing was asked for but what deals with these
pub record TellsEachPod (Can : Type 0) (times : Times) (here : Area) (names : List (List ℕ)) (lines : List GcLine) (me : ℕ) (old new : List Event) : Type 0 where
  pub pods_are : map (λ (l : GcLine). l.pod) lines ≡ map (λ (p : PodId). Some p) (pods_of names)
  pub each : AllByRecursion (λ (l : GcLine). IsLineOfTurn Can times here names l me old new) lines
  pub only : Extends (deals_with_pods times.now here names) me old new

-- the area was listed, each name once and in byte order, and then each pod that this showed was dealt with and has its line
pub record TellsShown (Can : Type 0) (times : Times) (here : Area) (lines : List GcLine) (me : ℕ) (old new : List Event) : Type 0 where
  pub names : List (List ℕ)
  pub listed : List Event
  pub only_lists : Extends (lists_pod_area here) me old listed
  pub ordered : IsStrictlySortedBy (slice_cmp nat_cmp) names
  pub shows : ShowsArea me old listed here names
  pub tells : TellsEachPod Can times here names lines me listed new

-- that in embryo, with its lock taken before, when no other process held it, and given up after
pub record UnderGate (Can : Type 0) (times : Times) (lines : List GcLine) (me : ℕ) (old new : List Event) : Type 0 where
  pub gate : Handle
  pub locked : List Event
  pub done : List Event
  pub takes_gate : Extends (is_taking_area Embryo Exclusive) me old locked
  pub free : AtOwnStep me old locked (IsFreeElsewhere me Embryo Exclusive)
  pub tells : TellsShown Can times Embryo lines me locked done
  pub gives_back : Extends (closes gate) me done new

-- or that lock was busy, which is the one line
pub record WasGated (Can : Type 0) (lines : List GcLine) (me : ℕ) (old new : List Event) : Type 0 where
  pub busy : AtOwnStep me old new (IsBusy Embryo Exclusive)
  pub another : Can → AtOwnStep me old new (IsBusyElsewhere me Embryo Exclusive)
  pub only : Extends (is_taking_area Embryo Exclusive) me old new
  pub line_is : lines ≡ record { place = Embryo; pod = None; deed = BusyGate } ∷ []

-- one pass
abbrev pub PassedOverPods : Type 0 → Times → Area → List GcLine → ℕ → List Event → List Event → Type 0
PassedOverPods Can times Embryo lines me old new = UnderGate Can times lines me old new ⊎ WasGated Can lines me old new
PassedOverPods Can times here lines me old new = TellsShown Can times here lines me old new

-- one thing, and then the rest, with the lines of both
pub record OneAndRest (First Rest : List GcLine → List Event → Type 0) (lines : List GcLine) : Type 0 where
  pub between : List Event
  pub own : List GcLine
  pub others : List GcLine
  pub lines_are : lines ≡ own ++ others
  pub first : First own between
  pub rest : Rest others between

-- a pass over each of these places, one after the other
abbrev pub ArePassed : Type 0 → Times → List Area → List GcLine → ℕ → List Event → List Event → Type 0
ArePassed Can times [] lines me old new = (lines ≡ []) × (new ≡ old)
ArePassed Can times (here ∷ places) lines me old new =
    OneAndRest (λ own between. PassedOverPods Can times here own me old between) (λ others between. ArePassed Can times places others me between new) lines

-- the places of pods, in the order in which a pod goes through them
abbrev pub places : List Area
places = Embryo ∷ Prepare ∷ Prepared ∷ Run ∷ ExitedGarbage ∷ Garbage ∷ []

-- these lines were added, of which this holds
abbrev pub AddsGcLines : (List GcLine → Type 0) → List GcLine → List GcLine → Type 0
AddsGcLines P before after = (added : List GcLine) × (after ≡ before ++ added) × P added

abbrev pub AddsTold : Times → Area → List (List ℕ) → DirAt → DirAt → List GcLine → List GcLine → Type 0
AddsTold times here names old new before after = AddsGcLines (λ lines. TellsEachPod (Knew (MayPassPods here times.now times.expire) old) times here names lines old.process old.trace new.trace) before after

abbrev pub AddsShown : Times → Area → DirAt → DirAt → List GcLine → List GcLine → Type 0
AddsShown times here old new before after = AddsGcLines (λ lines. TellsShown (Knew (MayPassPods here times.now times.expire) old) times here lines old.process old.trace new.trace) before after

abbrev pub AddsPassed : Times → Area → DirAt → DirAt → List GcLine → List GcLine → Type 0
AddsPassed times here old new before after = AddsGcLines (λ lines. PassedOverPods (Knew (MaySweepAll times.now times.expire) old) times here lines old.process old.trace new.trace) before after

abbrev pub AddsSwept : Times → List Area → DirAt → DirAt → List GcLine → List GcLine → Type 0
AddsSwept times here old new before after = AddsGcLines (λ lines. ArePassed (Knew (MaySweepAll times.now times.expire) old) times here lines old.process old.trace new.trace) before after

-- a sweep: the six passes, and the lines of each
abbrev pub IsSweptBetween : Times → DirAt → DirAt → List GcLine → Type 0
IsSweptBetween times old new lines = ArePassed (Knew (MaySweepAll times.now times.expire) old) times places lines old.process old.trace new.trace
