-- What a file that was read in pieces tells of the time that it took.
use Rattle.std.specs.Prelude.{◌≡◌, ◌⊎◌, ◌<◌, ◌≤◌, ◌+◌, ◌*◌, ℕ, Bool, true, false, cond, Option, Some, None, IsSomeAnd, List, [], ◌∷◌, ◌++◌, length, take, drop}
use Rattle.dir_model.specs.declared.area.Area.{Area}
use Rattle.dir_model.specs.declared.event.Event.{Event}
use Rattle.dir_model.specs.declared.item.Inner.{Inner}
use Rattle.dir_model.specs.declared.spot.Spot.{Spot}
use Rattle.dir_model.specs.declared.request.DirError.{DirError}
use Rattle.dir_model.specs.declared.request.DirError.TheVariants.{Missing, Failed, NoMemory}
use Rattle.dir_model.specs.declared.request.Request.{Request}
use Rattle.dir_model.specs.declared.request.Request.TheVariants.{ReadIn}
use Rattle.dir_model.specs.declared.tree.TreeEntry.{TreeEntry}
use Rattle.dir_model.specs.State.{DirState, folder_at}
use Rattle.dir_model.specs.Trace.{state_after}
use Rattle.dir_model.specs.Trees.{has_file, content}
use Rattle.dir_model.specs.Replies.{is_apps_inner}
use Rattle.dir_model.specs.Calls.{AtOwnStep, is_foreign}
use Rattle.dir_rules.specs.declared.standing.Standing.{Standing}
use Rattle.dir_rules.specs.declared.seen.Seen.{Seen}
use Rattle.dir_rules.specs.Conforms.{nothing_seen}
use Rattle.dir_rules.specs.Seen.{inner_eq}
use Rattle.dir_rules.specs.Rules.{may_read_area}
use Rattle.dir_trait.specs.DirCalls.{DirAt, ExtendsBy, HeldBetween}
use Rattle.dir_trait.specs.Knowledge.{Knows}

abbrev pub inner_at : Spot → List ℕ → Inner
inner_at spot path = record { spot = spot; path = path }

-- the bytes of the file at a path of a folder, if one stands there
abbrev pub bytes_in : List TreeEntry → List ℕ → Option ℕ → Option (List ℕ)
bytes_in es path None = None
bytes_in es path (Some folder) = cond (has_file es folder path) (Some (content es folder path)) None

abbrev pub file_at : DirState → Inner → Option (List ℕ)
file_at s inner = bytes_in s.entries inner.path (folder_at s.namespace inner.spot)

-- this holds of the file there, unless the path is a started app's own, which writes there itself
abbrev pub TellsFile : Inner → (Option (List ℕ) → Type 0) → DirState → Type 0
TellsFile inner P s = is_apps_inner s (Some inner) ≡ false → P (file_at s inner)

-- the bytes that a read from this place on with so much room gets
abbrev pub IsPiece : ℕ → ℕ → List ℕ → Option (List ℕ) → Type 0
IsPiece at room bytes file = IsSomeAnd file (λ f. bytes ≡ take room (drop at f))

-- one read: for how many bytes there was room, and those that it got
pub record Piece : Type 0 where
  pub room : ℕ
  pub bytes : List ℕ

-- the bytes of some pieces, the last of them first in the list
abbrev pub joined_pieces : List Piece → List ℕ
joined_pieces [] = []
joined_pieces (p ∷ earlier) = joined_pieces earlier ++ p.bytes

-- a piece more was told by an own step after the earlier ones
pub record ThenTold (Earlier : List Event → Type 0) (me : ℕ) (new : List Event) (P : DirState → Type 0) : Type 0 where
  pub between : List Event
  pub earlier : Earlier between
  pub told : AtOwnStep me between new P

-- the pieces follow each other in the file, each as it stood at an own step, one step after the other
abbrev pub AreTold : ℕ → Inner → List Event → List Piece → List Event → Type 0
AreTold me inner old [] new = new ≡ old
AreTold me inner old (p ∷ earlier) new = ThenTold (AreTold me inner old earlier) me new (TellsFile inner (IsPiece (length (joined_pieces earlier)) p.room p.bytes))

-- the last piece didn't fill its room
abbrev pub IsShort : List Piece → Type 0
IsShort [] = ⊥
IsShort (p ∷ earlier) = length p.bytes < p.room

-- bytes that were read so far
pub record HasReadSoFar (inner : Inner) (old new : DirAt) (bytes : List ℕ) : Type 0 where
  pub pieces : List Piece
  pub whole : bytes ≡ joined_pieces pieces
  pub told : AreTold old.process inner old.trace pieces new.trace

-- a file was read to its end, or up to a limit
pub record ReadsUp (inner : Inner) (most : ℕ) (old new : DirAt) (bytes : List ℕ) : Type 0 where
  pub reads : HasReadSoFar inner old new bytes
  pub ended : (length bytes ≡ most) ⊎ IsShort reads.pieces

-- the next piece of a file was read; with the answer true the file ends there
pub record ReadsNext (inner : Inner) (room : ℕ) (ended : Bool) (before after : List ℕ) (old new : DirAt) : Type 0 where
  pub piece : List ℕ
  pub grown : after ≡ before ++ piece
  pub short : ended ≡ true → length piece < room
  pub told : HeldBetween old new (TellsFile inner (IsPiece (length before) room piece))

-- no file stood there at an own step
abbrev pub WasMissing : Inner → DirAt → DirAt → Type 0
WasMissing inner old new = HeldBetween old new (TellsFile inner (λ file. file ≡ None))

-- the reads of this file
abbrev pub reads_at : Inner → Request → Bool
reads_at inner (ReadIn other at room) = inner_eq other inner
reads_at inner _ = false

-- the locks under which what stands in an area may be read
abbrev pub may_read : Area → Standing → Bool
may_read area s = may_read_area (record nothing_seen { standing = s }) area

-- whatever a process knew that may read there, it knows
abbrev pub KeepsKnown : Area → DirAt → DirAt → Type 0
KeepsKnown area old new = (s : Seen) → may_read area s.standing ≡ true → Knows old s → Knows new s

-- nothing was asked for but this file, and nothing has changed
pub record OnlyReads (observed : Bool) (inner : Inner) (old new : DirAt) : Type 0 where
  pub same : new.process ≡ old.process
  pub faults : old.faults ≤ new.faults
  pub local : new.local ≡ old.local
  pub extends : observed ≡ true → ExtendsBy (reads_at inner) old new
  pub known : observed ≡ true → KeepsKnown inner.spot.area old new

-- one call for each 65,536 bytes of so many, and one for what is left over
abbrev pub IsCounted : ℕ → DirAt → DirAt → Type 0
IsCounted most old new = 65536 * new.calls ≤ 65536 * old.calls + (most + 65535)

-- what a read is refused with
abbrev pub is_read_refusal : DirError → Bool
is_read_refusal Missing = true
is_read_refusal Failed = true
is_read_refusal NoMemory = true
is_read_refusal _ = false

-- at each own step between these two moments a file with these bytes stands there, and it isn't a started app's own
abbrev pub StaysFrom : ℕ → Inner → List ℕ → List Event → List Event → Type 0
StaysFrom me inner file old new =
    (later rest : List Event) (step : Event) → new ≡ ((old ++ later) ++ step ∷ []) ++ rest → is_foreign me step ≡ false
    → (is_apps_inner (state_after ((old ++ later) ++ step ∷ [])) (Some inner) ≡ false) × (file_at (state_after ((old ++ later) ++ step ∷ [])) inner ≡ Some file)

abbrev pub FileStaysBetween : Inner → List ℕ → DirAt → DirAt → Type 0
FileStaysBetween inner file old new = StaysFrom old.process inner file old.trace new.trace
