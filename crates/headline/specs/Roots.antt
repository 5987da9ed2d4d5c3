-- What pods hold and in what their apps start, as their makers made it.
use Rattle.std.specs.Prelude.{◌≡◌, ℕ, true, false, Some, List, [], ◌∷◌, ◌++◌, take, drop}
use Rattle.dir_model.specs.declared.area.Area.TheVariants.{Run}
use Rattle.dir_model.specs.declared.event.Event.{Event}
use Rattle.dir_model.specs.declared.item.Inner.{Inner}
use Rattle.dir_model.specs.declared.spot.Spot.{Spot}
use Rattle.dir_model.specs.declared.request.Request.TheVariants.{MakeFileIn, ReadIn}
use Rattle.dir_model.specs.declared.request.Reply.TheVariants.{Done, Read}
use Rattle.dir_model.specs.Calls.{event}
use Rattle.dir_model.specs.Replies.{is_apps_request}
use Rattle.dir_model.specs.State.{folder_at}
use Rattle.dir_model.specs.Trace.{state_after}
use Rattle.dir_rules.specs.Marks.{is_started_mark}
use Rattle.dir_rules.specs.Standing.{is_in}
use Rattle.folder_contents.specs.Entries.{file_bytes}
use Rattle.folder_contents.specs.Filled.{is_after_handover, is_note, lasting_after, KeepsMadeContents}
use Rattle.pod_build.specs.FaithfulBuild.{IsFaithfulBuild}

-- its maker made the pod faithfully and handed it over, and the folder holds exactly that, but for what is noted while it runs
pub record IsFaithfullyFilled (trace : List Event) (folder : ℕ) : Type 0 where
  pub filled : KeepsMadeContents trace folder
  pub made : IsFaithfulBuild filled.process filled.before
  pub holds : lasting_after folder trace ≡ made.built.making.entries

-- the pod's folder stands there so
pub record StandsFaithfully (trace : List Event) (spot : Spot) : Type 0 where
  pub folder : ℕ
  pub there : folder_at (state_after trace).namespace spot ≡ Some folder
  pub filled : IsFaithfullyFilled trace folder

-- each pod in prepared or in run does
abbrev pub PodsStandFaithfully : List Event → Type 0
PodsStandFaithfully trace =
    (spot : Spot) (folder : ℕ) → is_after_handover spot.area ≡ true → folder_at (state_after trace).namespace spot ≡ Some folder →
    IsFaithfullyFilled trace folder

-- the trace up to the making of an app's mark in a pod in run, and that
abbrev pub then_marked : List Event → ℕ → Inner → List Event
then_marked before p inner = before ++ event p (MakeFileIn inner) Done ∷ []

-- and just after an app's mark is made, its pod does
abbrev pub AppsStartFaithfully : List Event → Type 0
AppsStartFaithfully trace =
    (before later : List Event) (p : ℕ) (inner : Inner) → trace ≡ before ++ event p (MakeFileIn inner) Done ∷ later →
    is_in Run inner.spot.area ≡ true → is_started_mark inner.path ≡ true → StandsFaithfully (then_marked before p inner) inner.spot

-- the bytes are that part of the file which the maker of this pod made
pub record IsAsMade (trace : List Event) (inner : Inner) (at room : ℕ) (bytes : List ℕ) : Type 0 where
  pub pod : StandsFaithfully trace inner.spot
  pub part : bytes ≡ take room (drop at (file_bytes inner.path pod.filled.made.built.making.entries))

-- whoever reads a file of a pod in prepared or in run gets what its maker made, but of what is noted while it runs, and at and below
-- the root of a started app
abbrev pub PodsReadAsMade : List Event → Type 0
PodsReadAsMade trace =
    (before later : List Event) (p : ℕ) (inner : Inner) (at room : ℕ) (bytes : List ℕ) → trace ≡ before ++ event p (ReadIn inner at room) (Read bytes) ∷ later →
    is_after_handover inner.spot.area ≡ true → is_note inner.path ≡ false → is_apps_request (state_after before) (ReadIn inner at room) ≡ false →
    IsAsMade before inner at room bytes
