-- What a process knows that imports an image, from step to step.
use Rattle.std.specs.Prelude.{◌≡◌, ℕ, Bool, true, false, Option, Some, None, Result, Ok, Err, List, [], ◌∷◌, ◌++◌}
use Rattle.std.specs.List.{list_any}
use Rattle.dir_model.specs.declared.area.Area.TheVariants.{Incoming, Images}
use Rattle.dir_model.specs.declared.event.Event.{Event}
use Rattle.dir_model.specs.declared.intent.Intent.{Intent}
use Rattle.dir_model.specs.declared.opening.Target.TheVariants.{Gate}
use Rattle.dir_model.specs.declared.pod.PodId.{PodId}
use Rattle.dir_model.specs.declared.spot.Spot.{Spot}
use Rattle.dir_model.specs.declared.request.Request.TheVariants.{MoveFolder}
use Rattle.dir_model.specs.declared.request.Reply.TheVariants.{Done}
use Rattle.dir_model.specs.Calls.{event}
use Rattle.dir_rules.specs.declared.standing.Held.{Held}
use Rattle.dir_rules.specs.declared.seen.Entry.{Entry}
use Rattle.dir_rules.specs.declared.seen.Making.{Making}
use Rattle.dir_rules.specs.declared.seen.Seen.{Seen}
use Rattle.dir_rules.specs.Standing.{nothing_standing, is_gate_shared}
use Rattle.dir_rules.specs.LockRules.{is_open_on}
use Rattle.dir_rules.specs.Rules.{is_import}
use Rattle.dir_rules.specs.Conforms.{nothing_seen, IsTied}
use Rattle.dir_trait.specs.DirCalls.{DirAt}
use Rattle.dir_trait.specs.Knowledge.{Knows}
use Rattle.image_reading.specs.declared.error.StoreError.{StoreError}
use Rattle.image_store.specs.Requests.{building_spot}

-- it has begun so, has these handles, and makes this folder; stored where it has had the lock of incoming since. Each of its
-- requests was allowed, and it has seen nothing else
abbrev pub seen_importing : Intent → List Held → Bool → Option Making → Seen
seen_importing intent hs image_under_lock making = record nothing_seen { standing = record nothing_standing { intent = Some intent; holdings = hs }; image_under_lock = image_under_lock; making = making }

-- it has begun an import with this draw
pub record IsImport (draw : PodId) (intent : Intent) : Type 0 where
  pub kind : is_import intent.kind ≡ true
  pub drawn : intent.draw ≡ draw

-- the folder at this spot holds this, everything was answered Ok, and all is synced
abbrev pub holding : Spot → List Entry → Making
holding spot entries = record { spot = spot; clean = true; entries = entries; unsynced = [] }

-- it has the lock of images shared, and no handle on that of incoming
pub record ImportsUnderImages (hs : List Held) : Type 0 where
  pub images : list_any (is_gate_shared Images) hs ≡ true
  pub free : is_open_on (Gate Incoming) hs ≡ false

-- it has both shared
pub record UnderImportLocks (hs : List Held) : Type 0 where
  pub images : list_any (is_gate_shared Images) hs ≡ true
  pub incoming : list_any (is_gate_shared Incoming) hs ≡ true

-- wherever a process imports with this draw, has such handles and knows this of the folder that it makes
abbrev pub WhereImporting : PodId → (List Held → Type 0) → Bool → Option Making → DirAt → (Intent → List Held → Type 0) → Type 0
WhereImporting draw Under image_under_lock making old After = (intent : Intent) (hs : List Held) → IsImport draw intent → Under hs → Knows old (seen_importing intent hs image_under_lock making) → After intent hs

-- it has made no folder, or the one in incoming
abbrev pub IsImportFolder : PodId → Option Making → Type 0
IsImportFolder draw None = Unit {0}
IsImportFolder draw (Some m) = m.spot ≡ building_spot draw

-- it has these handles still, and at most its own folder in incoming
pub record HasImportFolder (draw : PodId) (intent : Intent) (hs : List Held) (new : DirAt) : Type 0 where
  pub image_under_lock : Bool
  pub making : Option Making
  pub own : IsImportFolder draw making
  pub knows : Knows new (seen_importing intent hs image_under_lock making)

-- it has filled the folder so
pub record HasFilledImport (P : List Entry → Type 0) (draw : PodId) (intent : Intent) (hs : List Held) (new : DirAt) : Type 0 where
  pub entries : List Entry
  pub made : P entries
  pub knows : Knows new (seen_importing intent hs true (Some (holding (building_spot draw) entries)))

-- by its own Ok move the folder, which held this by what it knew, came to another location
pub record HasMovedImage (P : List Entry → Type 0) (me : ℕ) (from to : Spot) (old new : List Event) : Type 0 where
  pub before : List Event
  pub later : List Event
  pub meanwhile : List Event
  pub begins : before ≡ old ++ meanwhile
  pub moved : new ≡ before ++ event me (MoveFolder from to) Done ∷ later
  pub seen : Seen
  pub entries : List Entry
  pub making : seen.making ≡ Some (holding from entries)
  pub knew : IsTied me before seen
  pub made : P entries

-- wherever it has filled the folder
abbrev pub WhereImportFilled : PodId → DirAt → (Intent → List Held → List Entry → Type 0) → Type 0
WhereImportFilled draw old After = (intent : Intent) (hs : List Held) (entries : List Entry) → IsImport draw intent → UnderImportLocks hs → Knows old (seen_importing intent hs true (Some (holding (building_spot draw) entries))) → After intent hs entries

-- it knows the folder so in images, and brought it there
pub record IsImagePlaced (draw : PodId) (to : Spot) (intent : Intent) (hs : List Held) (entries : List Entry) (old new : DirAt) : Type 0 where
  pub knows : Knows new (seen_importing intent hs false (Some (holding to entries)))
  pub moved : HasMovedImage (λ es. es ≡ entries) old.process (building_spot draw) to old.trace new.trace

-- it has no handle
abbrev pub IsAlone : List Held → Type 0
IsAlone hs = hs ≡ []

-- unless the answer says that the folder was brought
abbrev pub Unbrought : Result Bool StoreError → Type 0 → Type 0
Unbrought (Ok false) Left = Unit {0}
Unbrought (Ok true) Left = Left
Unbrought (Err error) Left = Left
