-- What the removal of an image comes to.
use Rattle.std.specs.Prelude.{◌≡◌, ◌⊎◌, ℕ, false, List}
use Rattle.ac_types.specs.declared.store_key.StoreKey.{StoreKey}
use Rattle.dir_model.specs.declared.event.Event.{Event}
use Rattle.dir_model.specs.declared.pod.PodId.{PodId}
use Rattle.dir_model.specs.declared.spot.Spot.{Spot}
use Rattle.dir_model.specs.declared.request.Request.TheVariants.{RemoveFolder}
use Rattle.dir_model.specs.declared.request.Reply.TheVariants.{Done}
use Rattle.dir_model.specs.Calls.{AtOwnStep}
use Rattle.dir_model.specs.State.{DirState, stands}
use Rattle.dir_trait.specs.DirCalls.{DirAt}
use Rattle.image_removal.specs.Requests.{away_spot, puts_away}
use Rattle.image_removal.specs.Calls.{WasCalled}

-- its own removal of the folder there was answered Ok, or no folder stood there at an own step
abbrev pub IsGone : Spot → ℕ → List Event → List Event → Type 0
IsGone spot me old new = WasCalled (RemoveFolder spot) Done me old new ⊎ AtOwnStep me old new (λ s. stands s.namespace spot ≡ false)

-- it is gone, or the lock of removed was busy at an own step
abbrev pub IsGoneUnless : (DirState → Type 0) → Spot → ℕ → List Event → List Event → Type 0
IsGoneUnless Busy spot me old new = IsGone spot me old new ⊎ AtOwnStep me old new Busy

-- its own move of the image to removed was answered Ok, and then the folder is gone from there, unless that lock was busy
pub record IsRemoved (Busy : DirState → Type 0) (key : StoreKey) (draw : PodId) (me : ℕ) (old new : List Event) : Type 0 where
  pub between : List Event
  pub moved : WasCalled (puts_away key draw) Done me old between
  pub gone : IsGoneUnless Busy (away_spot draw) me between new

abbrev pub IsRemovedBetween : (DirState → Type 0) → StoreKey → PodId → DirAt → DirAt → Type 0
IsRemovedBetween Busy key draw old new = IsRemoved Busy key draw old.process old.trace new.trace
