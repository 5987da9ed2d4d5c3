-- What a sweep comes to.
use Rattle.std.specs.Prelude.{◌≡◌, ◌⊎◌, ℕ, Bool, true, false, List, [], ◌∷◌, ◌++◌, map}
use Rattle.std.specs.List.{AllByRecursion}
use Rattle.std.specs.List.Sorted.{IsStrictlySortedBy}
use Rattle.std.specs.Ordering.{nat_cmp}
use Rattle.std.specs.Cmp.Lexicographic.{slice_cmp}
use Rattle.dir_model.specs.declared.area.Area.{Area}
use Rattle.dir_model.specs.declared.event.Event.{Event}
use Rattle.dir_model.specs.declared.request.Reply.TheVariants.{Done, Names}
use Rattle.dir_model.specs.declared.request.Request.TheVariants.{ListArea}
use Rattle.dir_model.specs.declared.spot.Mode.TheVariants.{Exclusive}
use Rattle.dir_model.specs.Calls.{ListStep, Extends, AtOwnStep}
use Rattle.dir_model.specs.Listings.{has_name}
use Rattle.dir_model.specs.State.{DirState}
use Rattle.dir_trait.specs.DirCalls.{DirAt}
use Rattle.dir_files.specs.Listed.{ShowsArea}
use Rattle.dir_files.specs.AreaLocks.{is_taking_area, IsBusy, IsBusyElsewhere, IsFreeElsewhere}
use Rattle.image_removal.specs.declared.pass.Pass.{Pass}
use Rattle.image_removal.specs.declared.pass.Pass.TheVariants.{PutAway, Delete}
use Rattle.image_removal.specs.declared.pass.SweepLine.{SweepLine}
use Rattle.image_removal.specs.declared.pass.SweepLine.TheVariants.{BusyGate}
use Rattle.image_removal.specs.Requests.{lists_store_area}
use Rattle.image_removal.specs.Passes.{area_of_pass, line_of, pass_request_of, uuids, deals_with_folders, is_close}
use Rattle.image_removal.specs.Calls.{WasCalled}

-- the area was listed, and then there was nothing but work at folders with names that it showed
pub record WorksAtShown (pass : Pass) (names : List (List ℕ)) (me : ℕ) (old new : List Event) : Type 0 where
  pub listed : List Event
  pub only_lists : Extends (lists_store_area (area_of_pass pass)) me old listed
  pub shows : ShowsArea me old listed (area_of_pass pass) names
  pub only : Extends (deals_with_folders pass names) me listed new

-- each uuid that was shown, in byte order, was dealt with by its own request, and has its line, in that order
pub record SweepsUnder (pass : Pass) (lines : List SweepLine) (me : ℕ) (old new : List Event) : Type 0 where
  pub names : List (List ℕ)
  pub rise : IsStrictlySortedBy (slice_cmp nat_cmp) names
  pub works : WorksAtShown pass names me old new
  pub each : AllByRecursion (λ name. WasCalled (pass_request_of pass name) Done me works.listed new) (uuids names)
  pub lines_are : lines ≡ map (line_of pass) (uuids names)

-- what ended early: nothing was done but to list, or there was work at what was shown
abbrev pub PassEndsEarly : Pass → ℕ → List Event → List Event → Type 0
PassEndsEarly pass me old new = Extends (lists_store_area (area_of_pass pass)) me old new ⊎ ((names : List (List ℕ)) × WorksAtShown pass names me old new)

-- it took the lock of an area, against which no other process had one then, did this and gave the lock up
pub record UnderLock (area : Area) (P : ℕ → List Event → List Event → Type 0) (me : ℕ) (old new : List Event) : Type 0 where
  pub locked : List Event
  pub done : List Event
  pub takes_lock : Extends (is_taking_area area Exclusive) me old locked
  pub free : AtOwnStep me old locked (IsFreeElsewhere me area Exclusive)
  pub under : P me locked done
  pub gives_back : Extends is_close me done new

-- the lock was busy at an own step, which is the one line, and nothing but the lock was asked for
pub record WasLocked (Busy : DirState → Type 0) (area : Area) (lines : List SweepLine) (me : ℕ) (old new : List Event) : Type 0 where
  pub busy : AtOwnStep me old new Busy
  pub only : Extends (is_taking_area area Exclusive) me old new
  pub line_is : lines ≡ BusyGate area ∷ []

-- one pass
abbrev pub PassedOverStore : (Area → DirState → Type 0) → Pass → List SweepLine → ℕ → List Event → List Event → Type 0
PassedOverStore Busy pass lines me old new = UnderLock (area_of_pass pass) (SweepsUnder pass lines) me old new ⊎ WasLocked (Busy (area_of_pass pass)) (area_of_pass pass) lines me old new

-- first the folders of incoming were put away, then those of removed deleted
pub record IsSwept (Busy : Area → DirState → Type 0) (lines : List SweepLine) (me : ℕ) (old new : List Event) : Type 0 where
  pub between : List Event
  pub moved : List SweepLine
  pub deleted : List SweepLine
  pub puts_away : PassedOverStore Busy PutAway moved me old between
  pub deletes : PassedOverStore Busy Delete deleted me between new
  pub lines_are : lines ≡ moved ++ deleted

-- a pass that ended early: each of its requests was about what its own listing showed
abbrev pub Tried : Pass → ℕ → List Event → List Event → Type 0
Tried pass me old new = Extends (is_taking_area (area_of_pass pass) Exclusive) me old new ⊎ UnderLock (area_of_pass pass) (PassEndsEarly pass) me old new

-- and so of a sweep
pub record HasTried (me : ℕ) (old new : List Event) : Type 0 where
  pub between : List Event
  pub puts_away : Tried PutAway me old between
  pub deletes : Tried Delete me between new

-- these lines were added, of which this holds
abbrev pub AddsSweepLines : (List SweepLine → Type 0) → List SweepLine → List SweepLine → Type 0
AddsSweepLines P before after = (added : List SweepLine) × (after ≡ before ++ added) × P added

-- the folders with these names were dealt with, and their lines added
pub record AddsLines (observed : Bool) (pass : Pass) (names : List (List ℕ)) (before after : List SweepLine) (old new : DirAt) : Type 0 where
  pub lines : after ≡ before ++ map (line_of pass) (uuids names)
  pub each : observed ≡ true → AllByRecursion (λ name. WasCalled (pass_request_of pass name) Done old.process old.trace new.trace) (uuids names)

-- the process has just listed the pass's area, which showed these names
pub record HasListed (pass : Pass) (names : List (List ℕ)) (me : ℕ) (now : List Event) : Type 0 where
  pub before : List Event
  pub listing : ListStep me before (ListArea (area_of_pass pass)) (Names names) now
  pub shows : ShowsArea me before now (area_of_pass pass) names
  pub rise : IsStrictlySortedBy (slice_cmp nat_cmp) names

-- such a listing showed this name, and since then the process dealt with others alone
pub record WasListed (pass : Pass) (name : List ℕ) (me : ℕ) (now : List Event) : Type 0 where
  pub names : List (List ℕ)
  pub others : List (List ℕ)
  pub then : List Event
  pub listed : HasListed pass names me then
  pub shown : has_name names name ≡ true
  pub apart : has_name others name ≡ false
  pub since : Extends (deals_with_folders pass others) me then now

-- between two moments
abbrev pub SweepsBetween : Pass → DirAt → DirAt → List SweepLine → Type 0
SweepsBetween pass old new lines = SweepsUnder pass lines old.process old.trace new.trace

abbrev pub TriesBetween : Pass → DirAt → DirAt → Type 0
TriesBetween pass old new = PassEndsEarly pass old.process old.trace new.trace

abbrev pub PassedBetween : (Area → DirState → Type 0) → Pass → DirAt → DirAt → List SweepLine → Type 0
PassedBetween Busy pass old new lines = PassedOverStore Busy pass lines old.process old.trace new.trace

abbrev pub TriedBetween : Pass → DirAt → DirAt → Type 0
TriedBetween pass old new = Tried pass old.process old.trace new.trace

abbrev pub IsStoreSweptBetween : (Area → DirState → Type 0) → DirAt → DirAt → List SweepLine → Type 0
IsStoreSweptBetween Busy old new lines = IsSwept Busy lines old.process old.trace new.trace

abbrev pub HasTriedBetween : DirAt → DirAt → Type 0
HasTriedBetween old new = HasTried old.process old.trace new.trace

-- a lock that some handle holds, or one of another process
abbrev pub BusyNow : Area → DirState → Type 0
BusyNow area s = IsBusy area Exclusive s

abbrev pub BusyApart : ℕ → Area → DirState → Type 0
BusyApart me area s = IsBusyElsewhere me area Exclusive s
