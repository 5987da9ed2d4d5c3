-- What a process knows of the folder that it makes, change by change.
use Rattle.std.specs.Prelude.{◌≡◌, ℕ, Bool, true, Some, List, [], ◌∷◌, ◌++◌, length}
use Rattle.std.specs.List.{list_all, concat}
use Rattle.sha2.specs.Sha512.{sha512}
use Rattle.dir_model.specs.declared.item.Inner.{Inner}
use Rattle.dir_model.specs.declared.spot.Spot.{Spot}
use Rattle.dir_model.specs.declared.tree.TreeNode.TheVariants.{Piece}
use Rattle.dir_rules.specs.declared.seen.Entry.{Entry}
use Rattle.dir_rules.specs.declared.seen.Making.{Making}
use Rattle.dir_rules.specs.declared.seen.Seen.{Seen}
use Rattle.dir_rules.specs.Marks.{parent}
use Rattle.dir_rules.specs.Rules.{makes_here, has_file_among, may_make_entry, spares_deleted_pod}
use Rattle.dir_rules.specs.Seen.{making_with_entry}
use Rattle.dir_trait.specs.DirCalls.{DirAt}
use Rattle.dir_trait.specs.Knowledge.{Knows}
use Rattle.tree_digest.specs.declared.file_check.FileCheck.{FileCheck}
use Rattle.tree_digest.specs.FileChecks.{HasTaken}
use Rattle.folder_building.specs.declared.plan.PlanEntry.{PlanEntry}
use Rattle.folder_building.specs.Plans.{is_file, are_in_turn, is_entry_at, is_owed, IsMadeOf, AreMade, IsPlanBegun}
use Rattle.folder_building.specs.Sources.{SourceAt}

abbrev pub inner_at : Spot → List ℕ → Inner
inner_at spot path = record { spot = spot; path = path }

abbrev pub with_making : Seen → Making → Seen
with_making s m = record s { making = Some m }

-- the folder at this spot is the one that the process makes, and it may change it
pub record IsSite (spot : Spot) (s : Seen) (m : Making) : Type 0 where
  pub here : makes_here (with_making s m) spot spot.area ≡ true
  pub spared : spares_deleted_pod s (inner_at spot []) ≡ true

-- whatever a process knew of a folder that it makes there, of which this holds, it knows that of a folder of which that holds
pub record Grown (P : Making → Type 0) (s : Seen) (new : DirAt) : Type 0 where
  pub making : Making
  pub is : P making
  pub knows : Knows new (with_making s making)

-- one piece after the other
abbrev pub with_piece : List ℕ → List ℕ → Making → Making
with_piece path piece m = making_with_entry path (Piece piece) path m

abbrev pub with_pieces : List ℕ → List (List ℕ) → Making → Making
with_pieces path [] m = m
with_pieces path (p ∷ ps) m = with_pieces path ps (with_piece path p m)

-- these pieces were appended to a file, each answered Ok
abbrev pub Appends : Spot → List ℕ → List (List ℕ) → DirAt → DirAt → Type 0
Appends spot path pieces old new = (s : Seen) (m : Making) → Knows old (with_making s m) → IsSite spot s m → has_file_among path m.entries ≡ true → Knows new (with_making s (with_pieces path pieces m))

-- the same folder, with something more at this path
pub record IsSpoilt (path : List ℕ) (m new : Making) : Type 0 where
  pub spot : new.spot ≡ m.spot
  pub part : List Entry
  pub at : list_all (is_entry_at path) part ≡ true
  pub entries : new.entries ≡ m.entries ++ part

-- an append was refused
abbrev pub Spoils : Spot → List ℕ → DirAt → DirAt → Type 0
Spoils spot path old new = (s : Seen) (m : Making) → Knows old (with_making s m) → IsSite spot s m → has_file_among path m.entries ≡ true → Grown (IsSpoilt path m) s new

-- the bytes were appended, in pieces
pub record AppendsInPieces (observed : Bool) (spot : Spot) (path bytes : List ℕ) (old new : DirAt) : Type 0 where
  pub pieces : List (List ℕ)
  pub whole : concat pieces ≡ bytes
  pub appends : observed ≡ true → Appends spot path pieces old new

-- all but the rest of the bytes
pub record WritesBut (observed : Bool) (spot : Spot) (path bytes rest : List ℕ) (old new : DirAt) : Type 0 where
  pub begun : List ℕ
  pub whole : begun ++ rest ≡ bytes
  pub writes : AppendsInPieces observed spot path begun old new

-- under the locks that a source asks for, these pieces were appended to a file
abbrev pub AppendsUnder : SourceAt → Spot → List ℕ → List (List ℕ) → DirAt → DirAt → Type 0
AppendsUnder source spot path pieces old new = (s : Seen) (m : Making) → source.may s.standing ≡ true → Knows old (with_making s m) → IsSite spot s m → has_file_among path m.entries ≡ true → Knows new (with_making s (with_pieces path pieces m))

-- or a call was refused
abbrev pub SpoilsUnder : SourceAt → Spot → List ℕ → DirAt → DirAt → Type 0
SpoilsUnder source spot path old new = (s : Seen) (m : Making) → source.may s.standing ≡ true → Knows old (with_making s m) → IsSite spot s m → has_file_among path m.entries ≡ true → Grown (IsSpoilt path m) s new

-- the next bytes of a file were appended and checked
pub record CopiesOn (observed : Bool) (source : SourceAt) (spot : Spot) (path : List ℕ) (count : ℕ) (check checked : FileCheck) (old new : DirAt) : Type 0 where
  pub pieces : List (List ℕ)
  pub counted : length (concat pieces) ≡ count
  pub taken : (size : ℕ) (sha message : List ℕ) → HasTaken check size sha message → HasTaken checked size sha (message ++ concat pieces)
  pub appends : observed ≡ true → AppendsUnder source spot path pieces old new

-- a file of this size and SHA-512 was appended
pub record Copies (observed : Bool) (source : SourceAt) (spot : Spot) (path : List ℕ) (size : ℕ) (sha : List ℕ) (old new : DirAt) : Type 0 where
  pub pieces : List (List ℕ)
  pub sized : length (concat pieces) ≡ size
  pub hashed : sha512 (concat pieces) ≡ sha
  pub appends : observed ≡ true → AppendsUnder source spot path pieces old new

-- what an entry of a plan asks for was made: everything else of the folder is as it was, and only its path and its
-- directory's may have to be synced
pub record HasAdded (e : PlanEntry) (chunk : List Entry) (m new : Making) : Type 0 where
  pub spot : new.spot ≡ m.spot
  pub clean : new.clean ≡ m.clean
  pub entries : new.entries ≡ m.entries ++ chunk
  pub owed : (test : List ℕ → Bool) → test e.path ≡ true → test (parent e.path) ≡ true → list_all test m.unsynced ≡ true → list_all test new.unsynced ≡ true

-- where the rules let the process make it
abbrev pub MayAdd : SourceAt → Spot → PlanEntry → Seen → Making → Type 0
MayAdd source spot e s m = (source.may s.standing ≡ true) × (may_make_entry s (is_file e.content) (inner_at spot e.path) m ≡ true)

pub record AddsPlanEntry (observed : Bool) (source : SourceAt) (spot : Spot) (e : PlanEntry) (old new : DirAt) : Type 0 where
  pub chunk : List Entry
  pub made : IsMadeOf e chunk
  pub builds : observed ≡ true → (s : Seen) (m : Making) → Knows old (with_making s m) → IsSite spot s m → MayAdd source spot e s m → Grown (HasAdded e chunk m) s new

-- or something of it perhaps
abbrev pub Tries : SourceAt → Spot → PlanEntry → DirAt → DirAt → Type 0
Tries source spot e old new = (s : Seen) (m : Making) → Knows old (with_making s m) → IsSite spot s m → MayAdd source spot e s m → Grown (IsSpoilt e.path m) s new

-- nothing was made in the folder yet
pub record IsMakingEmpty (m : Making) : Type 0 where
  pub clean : m.clean ≡ true
  pub entries : m.entries ≡ []
  pub unsynced : m.unsynced ≡ []

-- what the folder holds is what a plan asks for, and only that may have to be synced
pub record IsFilledByPlan (spot : Spot) (plan owed : List PlanEntry) (entries : List Entry) (m : Making) : Type 0 where
  pub stands : m.spot ≡ spot
  pub clean : m.clean ≡ true
  pub holds : m.entries ≡ entries
  pub owes : list_all (is_owed owed) m.unsynced ≡ true

-- a process that has made the folder and nothing in it, where the rules let it carry the plan out
pub record MayFill (source : SourceAt) (spot : Spot) (plan : List PlanEntry) (s : Seen) (m : Making) : Type 0 where
  pub fresh : IsMakingEmpty m
  pub may : source.may s.standing ≡ true
  pub turn : are_in_turn s spot.area [] plan ≡ true

abbrev pub FillsByPlan : SourceAt → Spot → List PlanEntry → List PlanEntry → List Entry → DirAt → DirAt → Type 0
FillsByPlan source spot whole plan entries old new = (s : Seen) (m : Making) → Knows old (with_making s m) → IsSite spot s m → MayFill source spot whole s m → Grown (IsFilledByPlan m.spot plan plan entries) s new

-- the folder's part of a plan
pub record FillsWith (observed : Bool) (source : SourceAt) (spot : Spot) (whole plan : List PlanEntry) (old new : DirAt) : Type 0 where
  pub entries : List Entry
  pub made : AreMade plan entries
  pub fills : observed ≡ true → FillsByPlan source spot whole plan entries old new

-- the plan was begun, and given up
pub record HasBegunPlan (spot : Spot) (plan : List PlanEntry) (m : Making) : Type 0 where
  pub stands : m.spot ≡ spot
  pub begun : IsPlanBegun plan m.entries

abbrev pub BeginsPlan : SourceAt → Spot → List PlanEntry → DirAt → DirAt → Type 0
BeginsPlan source spot plan old new = (s : Seen) (m : Making) → Knows old (with_making s m) → IsSite spot s m → MayFill source spot plan s m → Grown (HasBegunPlan m.spot plan) s new

-- the plan was carried out: the folder holds exactly what it asks for, and everything is synced
abbrev pub making_built : Making → List Entry → Making
making_built m entries = record m { entries = entries }

pub record CarriesOut (observed : Bool) (source : SourceAt) (spot : Spot) (plan : List PlanEntry) (old new : DirAt) : Type 0 where
  pub entries : List Entry
  pub made : AreMade plan entries
  pub knows : observed ≡ true → (s : Seen) (m : Making) → Knows old (with_making s m) → IsSite spot s m → MayFill source spot plan s m → Knows new (with_making s (making_built m entries))
