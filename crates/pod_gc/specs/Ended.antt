-- What a sweep did that ended early.
use Rattle.std.specs.Prelude.{◌≡◌, ◌⊎◌, ℕ, Some, List, ◌∷◌, ◌++◌}
use Rattle.std.specs.List.Sorted.{IsStrictlySortedBy}
use Rattle.std.specs.Ordering.{nat_cmp}
use Rattle.std.specs.Cmp.Lexicographic.{slice_cmp}
use Rattle.dir_model.specs.declared.area.Area.{Area}
use Rattle.dir_model.specs.declared.area.Area.TheVariants.{Embryo}
use Rattle.dir_model.specs.declared.event.Event.{Event}
use Rattle.dir_model.specs.declared.pod.PodId.{PodId}
use Rattle.dir_model.specs.declared.spot.Handle.{Handle}
use Rattle.dir_model.specs.declared.spot.Mode.TheVariants.{Exclusive}
use Rattle.dir_model.specs.Calls.{Extends, AtOwnStep}
use Rattle.dir_model.specs.Pods.{pod_of_text}
use Rattle.dir_trait.specs.DirCalls.{DirAt}
use Rattle.dir_files.specs.Listed.{ShowsArea}
use Rattle.dir_files.specs.AreaLocks.{is_taking_area, closes, IsFreeElsewhere}
use Rattle.pod_gc.specs.declared.ages.Times.{Times}
use Rattle.pod_gc.specs.declared.line.GcLine.{GcLine}
use Rattle.pod_gc.specs.Requests.{lists_pod_area, deals_with_pod}
use Rattle.pod_gc.specs.Sweeping.{MayPassPods, MaySweepAll}
use Rattle.pod_gc.specs.Told.{Knew, TellsEachPod, ArePassed, places}

-- it ended in the turn of this folder's pod: nothing was asked for but what deals with it
pub record EndsAtPod (now : ℕ) (here : Area) (name : List ℕ) (me : ℕ) (old new : List Event) : Type 0 where
  pub pod : PodId
  pub name_is : pod_of_text name ≡ Some pod
  pub turn : Extends (deals_with_pod pod now here) me old new

-- of the names that were listed, the pods of some were dealt with, as their lines would have said, and it ended in the turn of the next
pub record EndsAmong (Can : Type 0) (times : Times) (here : Area) (names : List (List ℕ)) (me : ℕ) (old new : List Event) : Type 0 where
  pub earlier : List (List ℕ)
  pub name : List ℕ
  pub later : List (List ℕ)
  pub names_are : names ≡ earlier ++ name ∷ later
  pub lines : List GcLine
  pub from : List Event
  pub tells : TellsEachPod Can times here earlier lines me old from
  pub ends : EndsAtPod times.now here name me from new

-- after the area was listed, each name once and in byte order
pub record EndsShown (Can : Type 0) (times : Times) (here : Area) (me : ℕ) (old new : List Event) : Type 0 where
  pub names : List (List ℕ)
  pub listed : List Event
  pub only_lists : Extends (lists_pod_area here) me old listed
  pub ordered : IsStrictlySortedBy (slice_cmp nat_cmp) names
  pub shows : ShowsArea me old listed here names
  pub ends : EndsAmong Can times here names me listed new

-- or in the listing
abbrev pub EndsListing : Type 0 → Times → Area → ℕ → List Event → List Event → Type 0
EndsListing Can times here me old new = EndsShown Can times here me old new ⊎ Extends (lists_pod_area here) me old new

-- that in embryo, with its lock taken before, when no other process held it, and given up after
pub record EndsUnderGate (Can : Type 0) (times : Times) (me : ℕ) (old new : List Event) : Type 0 where
  pub gate : Handle
  pub locked : List Event
  pub done : List Event
  pub takes_gate : Extends (is_taking_area Embryo Exclusive) me old locked
  pub free : AtOwnStep me old locked (IsFreeElsewhere me Embryo Exclusive)
  pub ends : EndsListing Can times Embryo me locked done
  pub gives_back : Extends (closes gate) me done new

-- a pass that ended early. In embryo it may have ended when it asked for that area's lock
abbrev pub EndsPass : Type 0 → Times → Area → ℕ → List Event → List Event → Type 0
EndsPass Can times Embryo me old new = EndsUnderGate Can times me old new ⊎ Extends (is_taking_area Embryo Exclusive) me old new
EndsPass Can times here me old new = EndsListing Can times here me old new

-- a sweep that ended early: the passes before, each with the lines that it would have had, and then one that ended
pub record EndsSweep (Can : Type 0) (times : Times) (me : ℕ) (old new : List Event) : Type 0 where
  pub earlier : List Area
  pub here : Area
  pub later : List Area
  pub places_are : places ≡ earlier ++ here ∷ later
  pub lines : List GcLine
  pub from : List Event
  pub passed : ArePassed Can times earlier lines me old from
  pub ends : EndsPass Can times here me from new

abbrev pub EndsAmongBetween : Times → Area → List (List ℕ) → DirAt → DirAt → Type 0
EndsAmongBetween times here names old new = EndsAmong (Knew (MayPassPods here times.now times.expire) old) times here names old.process old.trace new.trace

abbrev pub EndsListingBetween : Times → Area → DirAt → DirAt → Type 0
EndsListingBetween times here old new = EndsListing (Knew (MayPassPods here times.now times.expire) old) times here old.process old.trace new.trace

abbrev pub EndsPassBetween : Times → Area → DirAt → DirAt → Type 0
EndsPassBetween times here old new = EndsPass (Knew (MaySweepAll times.now times.expire) old) times here old.process old.trace new.trace

abbrev pub EndsSweepBetween : Times → DirAt → DirAt → Type 0
EndsSweepBetween times old new = EndsSweep (Knew (MaySweepAll times.now times.expire) old) times old.process old.trace new.trace
