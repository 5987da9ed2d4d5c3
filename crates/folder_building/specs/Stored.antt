-- What the reads of a file of the data folder told while it was copied.
use Rattle.std.specs.Prelude.{◌≡◌, ◌⊎◌, ◌<◌, ℕ, Bool, false, Option, Some, None, List, ◌∷◌, ◌++◌, length}
use Rattle.std.specs.List.{AllByRecursion, list_any}
use Rattle.sha2.specs.Sha512.{sha512}
use Rattle.dir_model.specs.declared.item.Inner.{Inner}
use Rattle.dir_model.specs.declared.request.Request.{Request}
use Rattle.dir_trait.specs.DirCalls.{DirAt, HeldBetween}
use Rattle.dir_files.specs.Reads.{TellsFile, IsPiece, IsShort, HasReadSoFar, WasMissing, reads_at}
use Rattle.folder_building.specs.declared.plan.Origin.{Origin}
use Rattle.folder_building.specs.declared.plan.PlanEntry.{PlanEntry}
use Rattle.folder_building.specs.declared.plan.Content.{Content}
use Rattle.folder_building.specs.declared.plan.Content.TheVariants.{Directory, Given, Copied}

-- this is so of the file of the data folder that is read, if one is
abbrev pub OfStored : Option Inner → (Inner → Type 0) → Type 0
OfStored stored P = (inner : Inner) → stored ≡ Some inner → P inner

-- no such file stood there at an own step
abbrev pub WasGone : Option Inner → DirAt → DirAt → Type 0
WasGone stored old new = OfStored stored (λ inner. WasMissing inner old new)

-- at an own step these were its bytes from a place on, as many as there was room for
abbrev pub SeesStoredBytes : Option Inner → ℕ → ℕ → List ℕ → DirAt → DirAt → Type 0
SeesStoredBytes stored at room bytes old new = OfStored stored (λ inner. HeldBetween old new (TellsFile inner (IsPiece at room bytes)))

-- more than so many bytes were read from a place on
pub record ReadsPast (inner : Inner) (at left : ℕ) (old new : DirAt) : Type 0 where
  pub room : ℕ
  pub bytes : List ℕ
  pub more : left < length bytes
  pub told : HeldBetween old new (TellsFile inner (IsPiece at room bytes))

abbrev pub EndsCopy : Option Inner → ℕ → ℕ → DirAt → DirAt → Type 0
EndsCopy stored at left old new = OfStored stored (λ inner. WasMissing inner old new ⊎ ReadsPast inner at left old new)

-- it was read, and has more bytes than this size; or it was read to its end, and has another size or SHA-512
pub record ReadsOther (inner : Inner) (size : ℕ) (sha : List ℕ) (old new : DirAt) : Type 0 where
  pub bytes : List ℕ
  pub reads : HasReadSoFar inner old new bytes
  pub other : (size < length bytes) ⊎ (IsShort reads.pieces × (length bytes ≡ size → sha512 bytes ≡ sha → ⊥))

-- it was missing, or isn't the one of this size and SHA-512
abbrev pub WasUnlike : Option Inner → ℕ → List ℕ → DirAt → DirAt → Type 0
WasUnlike stored size sha old new = OfStored stored (λ inner. WasMissing inner old new ⊎ ReadsOther inner size sha old new)

-- it was read to its end, and has this size and SHA-512
pub record ReadsLike (inner : Inner) (size : ℕ) (sha : List ℕ) (old new : DirAt) : Type 0 where
  pub bytes : List ℕ
  pub reads : HasReadSoFar inner old new bytes
  pub ended : IsShort reads.pieces
  pub sized : length bytes ≡ size
  pub hashed : sha512 bytes ≡ sha

abbrev pub WasLike : Option Inner → ℕ → List ℕ → DirAt → DirAt → Type 0
WasLike stored size sha old new = OfStored stored (λ inner. ReadsLike inner size sha old new)

-- the file of a plan's entry was, where one is copied
abbrev pub HadContent : (Origin → Option Inner) → Content → DirAt → DirAt → Type 0
HadContent stored Directory old new = Unit {0}
HadContent stored (Given bytes) old new = Unit {0}
HadContent stored (Copied origin size sha) old new = WasLike (stored origin) size sha old new

-- those of all entries of a plan were
abbrev pub HadContents : (Origin → Option Inner) → List PlanEntry → DirAt → DirAt → Type 0
HadContents stored plan old new = AllByRecursion (λ e. HadContent stored e.content old new) plan

-- the file of a plan's entry was missing, or is another
abbrev pub LacksContent : (Origin → Option Inner) → Content → DirAt → DirAt → Type 0
LacksContent stored Directory old new = ⊥
LacksContent stored (Given bytes) old new = ⊥
LacksContent stored (Copied origin size sha) old new = WasUnlike (stored origin) size sha old new

-- the one of the entry with this number. Those of the entries before it were as the plan asks
pub record LacksAt (stored : Origin → Option Inner) (plan : List PlanEntry) (n : ℕ) (old new : DirAt) : Type 0 where
  pub before : List PlanEntry
  pub entry : PlanEntry
  pub rest : List PlanEntry
  pub is : plan ≡ before ++ entry ∷ rest
  pub place : length before ≡ n
  pub earlier : HadContents stored before old new
  pub lacks : LacksContent stored entry.content old new

-- reads of the file of the data folder that is read, if one is
abbrev pub reads_stored : Option Inner → Request → Bool
reads_stored None request = false
reads_stored (Some inner) request = reads_at inner request

-- of the file of a plan's entry, where one is copied
abbrev pub reads_content : (Origin → Option Inner) → Content → Request → Bool
reads_content stored Directory request = false
reads_content stored (Given bytes) request = false
reads_content stored (Copied origin size sha) request = reads_stored (stored origin) request

-- of those of all entries of a plan
abbrev pub reads_contents : (Origin → Option Inner) → List PlanEntry → Request → Bool
reads_contents stored plan request = list_any (λ e. reads_content stored e.content request) plan
