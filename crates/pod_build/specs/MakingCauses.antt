-- Why a pod isn't made.
use Rattle.std.specs.Prelude.{◌≡◌, ◌⊎◌, ℕ, Bool, true, false, List, ◌∷◌, ◌++◌, length}
use Rattle.dir_model.specs.declared.area.Area.TheVariants.{Embryo}
use Rattle.dir_model.specs.declared.event.Event.{Event}
use Rattle.dir_model.specs.declared.pod.PodId.{PodId}
use Rattle.dir_model.specs.declared.spot.Mode.TheVariants.{Shared}
use Rattle.dir_model.specs.declared.request.Reply.{Reply}
use Rattle.dir_model.specs.declared.request.DirError.TheVariants.{Exists}
use Rattle.dir_model.specs.declared.request.Reply.TheVariants.{Done, Opened, Refused}
use Rattle.dir_model.specs.declared.request.Request.{Request}
use Rattle.dir_model.specs.declared.request.Request.TheVariants.{MakeFolder, Open, TryLock}
use Rattle.dir_model.specs.declared.spot.Which.TheVariants.{Own}
use Rattle.dir_model.specs.Calls.{CallStep, Extends}
use Rattle.dir_model.specs.Causes.{Rose}
use Rattle.dir_trait.specs.DirCalls.{DirAt, HeldBetween}
use Rattle.dir_files.specs.AreaLocks.{IsBusy, IsBusyElsewhere, IsFreeElsewhere, is_taking_area}
use Rattle.folder_building.specs.declared.plan.PlanEntry.{PlanEntry}
use Rattle.folder_building.specs.declared.plan.Content.{Content}
use Rattle.folder_building.specs.declared.plan.Content.TheVariants.{Copied}
use Rattle.pod_build.specs.declared.make_error.MakeError.{MakeError}
use Rattle.pod_build.specs.declared.make_error.MakeError.TheVariants.{Busy, Taken, Unlike, DirFault, Stray}
use Rattle.folder_building.specs.Sources.{in_images}
use Rattle.folder_building.specs.Stored.{LacksAt}
use Rattle.dir_model.specs.Spots.{pod_spot}
use Rattle.pod_build.specs.MakingRequests.{locks_own, shows_taken, is_move_to_prepare, shows_changed}

-- an own step was answered in this manner
pub record WasAnswered (answers : Request → Reply → Bool) (me : ℕ) (old new : List Event) : Type 0 where
  pub before : List Event
  pub after : List Event
  pub earlier : List Event
  pub later : List Event
  pub request : Request
  pub reply : Reply
  pub answered : answers request reply ≡ true
  pub begins : before ≡ old ++ earlier
  pub step : CallStep me before request reply after
  pub ends : new ≡ after ++ later

-- its own making of the folder was answered Ok
abbrev pub MakesEmbryo : PodId → DirAt → DirAt → Type 0
MakesEmbryo draw old new = CallStep old.process old.trace (MakeFolder (pod_spot draw Embryo)) Done new.trace

-- where a lock was asked for, the call just before opened it: the folder's own, in embryo
abbrev pub WasOpenedThere : PodId → ℕ → List Event → Request → Type 0
WasOpenedThere draw me before (TryLock handle mode) = (earlier : List Event) × CallStep me earlier (Open (pod_spot draw Embryo) Own) (Opened handle) before
WasOpenedThere draw me before request = Unit {0}

-- nothing but its own lock was asked for, and then an answer showed that another took the folder in embryo
pub record ShowsTaken (draw : PodId) (me : ℕ) (old new : List Event) : Type 0 where
  pub before : List Event
  pub after : List Event
  pub later : List Event
  pub request : Request
  pub reply : Reply
  pub since : Extends (locks_own draw) me old before
  pub lock : WasOpenedThere draw me before request
  pub shows : shows_taken draw request reply ≡ true
  pub step : CallStep me before request reply after
  pub ends : new ≡ after ++ later

abbrev pub LosesEmbryo : PodId → DirAt → DirAt → Type 0
LosesEmbryo draw old new = ShowsTaken draw old.process old.trace new.trace

-- the folder was made, and another took it in embryo
pub record WasTakenMade (draw : PodId) (me : ℕ) (old new : List Event) : Type 0 where
  pub before : List Event
  pub made : List Event
  pub earlier : List Event
  pub begins : before ≡ old ++ earlier
  pub makes : CallStep me before (MakeFolder (pod_spot draw Embryo)) Done made
  pub loses : ShowsTaken draw me made new

-- an own step was answered so, and a later one in that manner
pub record WasThenAnswered (first then : Request → Reply → Bool) (me : ℕ) (old new : List Event) : Type 0 where
  pub between : List Event
  pub earlier : WasAnswered first me old between
  pub later : WasAnswered then me between new

-- the folder was brought to prepare
abbrev pub BringsToPrepare : PodId → DirAt → DirAt → Type 0
BringsToPrepare draw old new = WasAnswered (is_move_to_prepare draw) old.process old.trace new.trace

-- another changed what stands in prepare, or moved it
abbrev pub LosesPod : PodId → DirAt → DirAt → Type 0
LosesPod draw old new = WasAnswered (shows_changed draw) old.process old.trace new.trace

-- the process made the folder, and another took it in embryo or changed it in prepare
abbrev pub LosesOwn : PodId → DirAt → DirAt → Type 0
LosesOwn draw old new = WasTakenMade draw old.process old.trace new.trace ⊎ WasThenAnswered (is_move_to_prepare draw) (shows_changed draw) old.process old.trace new.trace

-- nothing was asked for but the lock of embryo
abbrev pub AsksLockAlone : DirAt → DirAt → Type 0
AsksLockAlone old new = Extends (is_taking_area Embryo Shared) old.process old.trace new.trace

-- its first own call, the making of the folder in embryo, was answered so
pub record AsksFirst (draw : PodId) (reply : Reply) (me : ℕ) (old new : List Event) : Type 0 where
  pub after : List Event
  pub later : List Event
  pub asks : CallStep me old (MakeFolder (pod_spot draw Embryo)) reply after
  pub ends : new ≡ after ++ later

abbrev pub MakesFirst : PodId → DirAt → DirAt → Type 0
MakesFirst draw old new = AsksFirst draw Done old.process old.trace new.trace

abbrev pub MeetsFirst : PodId → DirAt → DirAt → Type 0
MeetsFirst draw old new = AsksFirst draw (Refused Exists 0) old.process old.trace new.trace

-- at an own step no other process held the lock of embryo exclusively. Nothing was asked for but that lock, and then the making of the
-- folder was answered so
pub record AsksFolder (draw : PodId) (reply : Reply) (old new : DirAt) : Type 0 where
  pub free : HeldBetween old new (IsFreeElsewhere old.process Embryo Shared)
  pub locked : List Event
  pub locks : Extends (is_taking_area Embryo Shared) old.process old.trace locked
  pub first : AsksFirst draw reply old.process locked new.trace

-- it was answered Ok, or refused since a folder stood there
abbrev pub HasMadeFolder : PodId → DirAt → DirAt → Type 0
HasMadeFolder draw old new = AsksFolder draw Done old new

abbrev pub DrawWasTaken : PodId → DirAt → DirAt → Type 0
DrawWasTaken draw old new = AsksFolder draw (Refused Exists 0) old new

abbrev pub is_copied : Content → Bool
is_copied (Copied origin size sha) = true
is_copied content = false

-- the entry with this number, counted from 0, is a file that is copied
pub record IsCopiedAt (plan : List PlanEntry) (place : ℕ) : Type 0 where
  pub before : List PlanEntry
  pub entry : PlanEntry
  pub rest : List PlanEntry
  pub is : plan ≡ before ++ entry ∷ rest
  pub counted : length before ≡ place
  pub copied : is_copied entry.content ≡ true

-- a part of the making that neither takes the lock of embryo nor makes the folder ends for one of these causes
pub record MakingWorkCause (observed : Bool) (plan : List PlanEntry) (error : MakeError) (old new : DirAt) : Type 0 where
  pub calm : error ≡ Busy → ⊥
  pub untaken : error ≡ Taken → ⊥
  pub fault : error ≡ DirFault → Rose old.faults new.faults
  pub unlike : (place : ℕ) → error ≡ Unlike place → IsCopiedAt plan place
  pub lacks : (place : ℕ) → error ≡ Unlike place → observed ≡ true → LacksAt in_images plan place old new

-- the folder isn't made in embryo, or not brought to prepare, for one of these causes
pub record EmbryoCause (observed : Bool) (draw : PodId) (error : MakeError) (old new : DirAt) : Type 0 where
  pub calm : error ≡ Busy → ⊥
  pub fault : error ≡ DirFault → Rose old.faults new.faults
  pub taken : error ≡ Taken → observed ≡ true → MeetsFirst draw old new
  pub like : (place : ℕ) → error ≡ Unlike place → ⊥

-- a pod isn't made for one of these causes
pub record MakeCause (observed : Bool) (draw : PodId) (plan : List PlanEntry) (error : MakeError) (old new : DirAt) : Type 0 where
  pub busy : error ≡ Busy → observed ≡ true → HeldBetween old new (IsBusy Embryo Shared)
  pub alone : error ≡ Busy → observed ≡ true → AsksLockAlone old new
  pub fault : error ≡ DirFault → Rose old.faults new.faults
  pub taken : error ≡ Taken → observed ≡ true → DrawWasTaken draw old new
  pub unlike : (place : ℕ) → error ≡ Unlike place → IsCopiedAt plan place
  pub made : (place : ℕ) → error ≡ Unlike place → observed ≡ true → HasMadeFolder draw old new
  pub lacks : (place : ℕ) → error ≡ Unlike place → observed ≡ true → LacksAt in_images plan place old new
  pub stray : error ≡ Stray → observed ≡ true → LosesOwn draw old new

-- where the lock of embryo was refused, a handle of another process held it
abbrev pub EmbryoBusyElsewhere : MakeError → DirAt → DirAt → Type 0
EmbryoBusyElsewhere error old new = error ≡ Busy → HeldBetween old new (IsBusyElsewhere old.process Embryo Shared)
