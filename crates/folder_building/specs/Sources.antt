-- What files are copied from, at a moment.
use Rattle.std.specs.Prelude.{◌≡◌, ◌≤◌, ℕ, ◌-◌, min, Bool, true, false, ◌||◌, Option, Some, None, List, ◌∷◌, ◌++◌, length, take, drop}
use Rattle.std.specs.Borrow.{GName}
use Rattle.std.specs.List.{AllByRecursion}
use Rattle.sha2.specs.Sha512.{sha512}
use Rattle.dir_model.specs.declared.area.Area.TheVariants.{Images}
use Rattle.dir_model.specs.declared.item.Inner.{Inner}
use Rattle.dir_model.specs.declared.request.Request.{Request}
use Rattle.dir_model.specs.declared.request.Request.TheVariants.{ReadIn}
use Rattle.dir_rules.specs.declared.standing.Standing.{Standing}
use Rattle.dir_rules.specs.declared.seen.Seen.{Seen}
use Rattle.dir_rules.specs.Standing.{is_in, shares_area, excludes_area}
use Rattle.dir_trait.specs.DirCalls.{DirAt}
use Rattle.dir_trait.specs.Knowledge.{Knows}
use Rattle.folder_building.specs.declared.plan.Origin.{Origin}
use Rattle.folder_building.specs.declared.plan.PlanEntry.{PlanEntry}
use Rattle.folder_building.specs.declared.plan.Content.{Content}
use Rattle.folder_building.specs.declared.plan.Content.TheVariants.{Directory, Given, Copied}

pub record SourceAt : Type 0 where
  -- how often it failed
  pub faults : ℕ
  -- what it asks the data folder for
  pub asks : Request → Bool
  -- the locks under which it may
  pub may : Standing → Bool
  -- whether it tells what stands in it
  pub told : Bool
  -- the bytes of each file
  pub file : Origin → Option (List ℕ)
  -- the reference behind which it reads, if it holds one
  pub reference : Option GName

-- one read more
pub record Same (old new : SourceAt) : Type 0 where
  pub faults : old.faults ≤ new.faults
  pub asks : new.asks ≡ old.asks
  pub may : new.may ≡ old.may
  pub told : new.told ≡ old.told
  pub file : old.told ≡ true → new.file ≡ old.file
  pub reference : new.reference ≡ old.reference

-- n bytes of the room are those of the file from a place on, as many as the room takes
pub record IsPieceRead (bytes : List ℕ) (at size n : ℕ) (room : List ℕ) : Type 0 where
  pub count : n ≡ min size (length bytes - at)
  pub piece : take n room ≡ take n (drop at bytes)

-- what was read of a file
abbrev pub ReadsOrigin : SourceAt → Origin → ℕ → ℕ → ℕ → List ℕ → Type 0
ReadsOrigin source origin at size n room = source.told ≡ true → (bytes : List ℕ) → source.file origin ≡ Some bytes → IsPieceRead bytes at size n room

-- it has no such file
abbrev pub LacksOrigin : SourceAt → Origin → Type 0
LacksOrigin source origin = source.told ≡ true → source.file origin ≡ None

-- no file of at most this size stands there
abbrev pub IsLonger : SourceAt → Origin → ℕ → Type 0
IsLonger source origin size = source.told ≡ true → (bytes : List ℕ) → source.file origin ≡ Some bytes → length bytes ≤ size → ⊥

-- no file of this size and SHA-512 stands there
abbrev pub IsUnlike : SourceAt → Origin → ℕ → List ℕ → Type 0
IsUnlike source origin size sha = source.told ≡ true → (bytes : List ℕ) → source.file origin ≡ Some bytes → length bytes ≡ size → sha512 bytes ≡ sha → ⊥

-- a file that stands there has this size and SHA-512
abbrev pub IsLike : SourceAt → Origin → ℕ → List ℕ → Type 0
IsLike source origin size sha = source.told ≡ true → (bytes : List ℕ) → source.file origin ≡ Some bytes → (length bytes ≡ size) × (sha512 bytes ≡ sha)

-- an entry's file is what the plan asks for
abbrev pub LikeContent : SourceAt → Content → Type 0
LikeContent source (Copied origin size sha) = IsLike source origin size sha
LikeContent source content = Unit {0}

abbrev pub AreLike : SourceAt → List PlanEntry → Type 0
AreLike source plan = AllByRecursion (λ e. LikeContent source e.content) plan

-- or it isn't
abbrev pub UnlikeContent : SourceAt → Content → Type 0
UnlikeContent source Directory = ⊥
UnlikeContent source (Given bytes) = ⊥
UnlikeContent source (Copied origin size sha) = IsUnlike source origin size sha

-- the file of the entry with this number
pub record UnlikeAt (source : SourceAt) (plan : List PlanEntry) (n : ℕ) : Type 0 where
  pub before : List PlanEntry
  pub entry : PlanEntry
  pub rest : List PlanEntry
  pub is : plan ≡ before ++ entry ∷ rest
  pub place : length before ≡ n
  pub unlike : UnlikeContent source entry.content

-- under those locks a process knows after it what it knew
abbrev pub ReadsOn : SourceAt → DirAt → DirAt → Type 0
ReadsOn source old new = (s : Seen) → source.may s.standing ≡ true → Knows old s → Knows new s

-- the file of an image: the origin names its folder, and the path there
abbrev pub in_image : List ℕ → Option (List ℕ) → Option Inner
in_image path None = None
in_image path (Some folder) = Some (record { spot = record { area = Images; name = folder }; path = path })

abbrev pub in_images : Origin → Option Inner
in_images origin = in_image origin.path origin.folder

-- reads in images, under their lock
abbrev pub reads_image_files : Request → Bool
reads_image_files (ReadIn inner at room) = is_in Images inner.spot.area
reads_image_files _ = false

abbrev pub may_read_images : Standing → Bool
may_read_images s = shares_area Images s || excludes_area Images s
