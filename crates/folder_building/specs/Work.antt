-- What calls that only work at one thing leave of a directory.
use Rattle.std.specs.Prelude.{◌≡◌, ◌≤◌, ℕ, Bool, true, false, ◌||◌, List}
use Rattle.dir_model.specs.declared.event.Event.{Event}
use Rattle.dir_model.specs.declared.spot.Spot.{Spot}
use Rattle.dir_model.specs.declared.request.Request.{Request}
use Rattle.dir_model.specs.declared.request.Request.TheVariants.{MakeDirIn, MakeFileIn, AppendIn, SyncIn}
use Rattle.dir_model.specs.declared.request.DirError.TheVariants.{Missing, Exists}
use Rattle.dir_model.specs.declared.request.Reply.{Reply}
use Rattle.dir_model.specs.declared.request.Reply.TheVariants.{Refused}
use Rattle.dir_model.specs.State.{spot_eq}
use Rattle.dir_model.specs.Calls.{CallStep, Extends}
use Rattle.dir_trait.specs.DirCalls.{DirAt, ExtendsBy}

-- the changes inside the folder at this spot
abbrev pub builds_at : Spot → Request → Bool
builds_at spot (MakeDirIn inner) = spot_eq inner.spot spot
builds_at spot (MakeFileIn inner) = spot_eq inner.spot spot
builds_at spot (AppendIn inner piece) = spot_eq inner.spot spot
builds_at spot (SyncIn inner) = spot_eq inner.spot spot
builds_at spot _ = false

abbrev pub either : (Request → Bool) → (Request → Bool) → Request → Bool
either asks more request = asks request || more request

-- an answer that a folder which this process makes doesn't explain
abbrev pub is_stray_building : Request → Reply → Bool
is_stray_building (MakeDirIn inner) (Refused Missing left) = true
is_stray_building (MakeDirIn inner) (Refused Exists left) = true
is_stray_building (MakeFileIn inner) (Refused Missing left) = true
is_stray_building (MakeFileIn inner) (Refused Exists left) = true
is_stray_building (AppendIn inner piece) (Refused Missing left) = true
is_stray_building (SyncIn inner) (Refused Missing left) = true
is_stray_building _ _ = false

-- the last step was answered so
pub record WasStrayBuilding (asks : Request → Bool) (me : ℕ) (old new : List Event) : Type 0 where
  pub before : List Event
  pub request : Request
  pub reply : Reply
  pub first : Extends asks me old before
  pub asked : asks request ≡ true
  pub stray : is_stray_building request reply ≡ true
  pub last : CallStep me before request reply new

abbrev pub EndsWithStrayBuilding : (Request → Bool) → DirAt → DirAt → Type 0
EndsWithStrayBuilding asks old new = WasStrayBuilding asks old.process old.trace new.trace
