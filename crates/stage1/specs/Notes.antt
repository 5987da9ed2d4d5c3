-- What is noted in the folder of a pod while its apps run.
use Rattle.std.specs.Prelude.{◌≡◌, ℕ, Bool, true, false, ◌&&◌, bytes_eq, Ok, List, [], ◌∷◌, ◌++◌}
use Rattle.std.specs.Fmt.{decimal}
use Rattle.ac_types.specs.Names.{IsAcName}
use Rattle.dir_model.specs.declared.area.Area.TheVariants.{Run}
use Rattle.dir_model.specs.declared.event.Event.{Event}
use Rattle.dir_model.specs.declared.item.Inner.{Inner}
use Rattle.dir_model.specs.declared.request.Request.{Request}
use Rattle.dir_model.specs.declared.request.Request.TheVariants.{MakeFileIn, AppendIn, SyncIn}
use Rattle.dir_model.specs.declared.spot.Spot.{Spot}
use Rattle.dir_model.specs.State.{spot_eq}
use Rattle.dir_rules.specs.Marks.{status_directory}
use Rattle.dir_rules.specs.Seen.{inner_eq}
use Rattle.folder_building.specs.Making.{inner_at}
use Rattle.dir_model.specs.declared.request.Reply.TheVariants.{Done}
use Rattle.dir_trait.specs.DirCalls.{DirAt, DirCall, AppendCall}
use Rattle.spawner.specs.declared.call.RootPlace.{RootPlace}
use Rattle.spawner.specs.Conditions.{start_mark, did, StillRuns, MayStart}

-- the file of an app's status, and what it says
abbrev pub status_path : List ℕ → List ℕ
status_path app = status_directory ++ 47 ∷ app

-- what a status file holds: the status in decimal and a line feed
abbrev pub status_text : ℕ → List ℕ
status_text status = decimal status ++ 10 ∷ []

-- where the mark of an app's start is
abbrev pub mark_inner : RootPlace → Inner
mark_inner root = inner_at root.spot (start_mark root.app)

-- where an app's status file is
abbrev pub status_inner : RootPlace → Inner
status_inner root = inner_at root.spot (status_path root.app)

-- a change in the folder at a spot was done
abbrev pub MadeFile : Bool → Spot → List ℕ → DirAt → DirAt → Type 0
MadeFile observed spot path old new = DirCall observed old (MakeFileIn (inner_at spot path)) Done new

-- a piece was appended, and that was answered Ok
abbrev pub Appended : Bool → Spot → List ℕ → List ℕ → DirAt → DirAt → Type 0
Appended observed spot path piece old new = AppendCall observed old (AppendIn (inner_at spot path) piece) (Ok tt) new

-- something was synced, and that was answered Ok
abbrev pub Synced : Bool → Spot → List ℕ → DirAt → DirAt → Type 0
Synced observed spot path old new = DirCall observed old (SyncIn (inner_at spot path)) Done new

-- it is the root of an app of a pod in run
pub record IsRootInRun (root : RootPlace) : Type 0 where
  pub area : root.spot.area ≡ Run
  pub named : IsAcName root.app

-- files that are made, appended to and synced in the folder there
abbrev pub notes_at : Spot → Request → Bool
notes_at spot (MakeFileIn inner) = spot_eq inner.spot spot
notes_at spot (AppendIn inner piece) = spot_eq inner.spot spot
notes_at spot (SyncIn inner) = spot_eq inner.spot spot
notes_at spot _ = false

-- whatever is asked for
abbrev pub anything : Request → Bool
anything r = true

-- the step of a mark, where the app's root is
abbrev pub makes_own_mark : RootPlace → Request → Bool
makes_own_mark root (MakeFileIn inner) = inner_eq inner (mark_inner root)
makes_own_mark root _ = false

-- the three steps of a status
abbrev pub makes_status : RootPlace → Request → Bool
makes_status root (MakeFileIn inner) = inner_eq inner (status_inner root)
makes_status root _ = false

-- it appends the app's status to its file
abbrev pub writes_status : RootPlace → ℕ → Request → Bool
writes_status root status (AppendIn inner piece) = inner_eq inner (status_inner root) && bytes_eq piece (status_text status)
writes_status root status _ = false

-- it syncs the app's status file
abbrev pub syncs_status : RootPlace → Request → Bool
syncs_status root (SyncIn inner) = inner_eq inner (status_inner root)
syncs_status root _ = false

-- the process asked for things of these kinds one after the other, and each was done
abbrev pub DidInTurn : ℕ → List (Request → Bool) → List Event → Type 0
DidInTurn me [] trace = Unit {0}
DidInTurn me (asks ∷ more) trace = (before : List Event) × (step : Event) × (after : List Event) × (trace ≡ before ++ step ∷ after) × (did me asks step ≡ true) × DidInTurn me more after

-- it made the mark of an app
abbrev pub MadeMark : RootPlace → DirAt → Type 0
MadeMark root d = DidInTurn d.process (makes_own_mark root ∷ []) d.trace

-- the app may be started, and its mark was made where its root is
pub record IsMarked (d : DirAt) (root : RootPlace) : Type 0 where
  pub may : MayStart d root
  pub made : MadeMark root d

-- it made the file of an app's status, wrote the status into it, and synced it
abbrev pub WroteStatus : RootPlace → ℕ → DirAt → Type 0
WroteStatus root status d = DidInTurn d.process (makes_status root ∷ writes_status root status ∷ syncs_status root ∷ []) d.trace

-- whatever pod the process runs, it runs; and what is marked stays marked
pub record StaysAble (old new : DirAt) : Type 0 where
  pub runs : (name : List ℕ) → StillRuns old name → StillRuns new name
  pub may : (root : RootPlace) → IsMarked old root → IsMarked new root
  pub wrote : (root : RootPlace) (status : ℕ) → WroteStatus root status old → WroteStatus root status new
