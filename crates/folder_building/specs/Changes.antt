-- What one change in the folder that is made leaves of what the process knows of it.
use Rattle.std.specs.Prelude.{◌≡◌, ℕ, Bool, true, false, cond, None, List, [], length}
use Rattle.std.specs.List.{list_all, concat}
use Rattle.sha2.specs.Sha512.{sha512}
use Rattle.dir_model.specs.declared.spot.Spot.{Spot}
use Rattle.dir_model.specs.declared.tree.TreeNode.TheVariants.{Dir, Piece}
use Rattle.dir_rules.specs.declared.seen.Entry.{Entry}
use Rattle.dir_rules.specs.declared.seen.Making.{Making}
use Rattle.dir_rules.specs.declared.seen.Seen.{Seen}
use Rattle.dir_rules.specs.Marks.{parent}
use Rattle.dir_rules.specs.Rules.{may_make_entry, may_sync_entry}
use Rattle.dir_rules.specs.Seen.{making_with_entry, with_path_synced}
use Rattle.dir_trait.specs.DirCalls.{DirAt}
use Rattle.dir_trait.specs.Knowledge.{Knows}
use Rattle.folder_building.specs.declared.plan.PlanEntry.{PlanEntry}
use Rattle.folder_building.specs.Plans.{is_owed, AreMade}
use Rattle.folder_building.specs.Sources.{SourceAt}
use Rattle.folder_building.specs.Making.{inner_at, with_making, IsSite, Grown, with_pieces, IsSpoilt, IsFilledByPlan, HasBegunPlan}

-- a directory or an empty file
abbrev pub with_new : List ℕ → Bool → Making → Making
with_new path file m = making_with_entry path (cond file (Piece []) Dir) (parent path) m

-- it was made
abbrev pub Makes : Spot → List ℕ → Bool → DirAt → DirAt → Type 0
Makes spot path file old new = (s : Seen) (m : Making) → Knows old (with_making s m) → IsSite spot s m → may_make_entry s file (inner_at spot path) m ≡ true → Knows new (with_making s (with_new path file m))

-- or not
abbrev pub RefusesEntry : Spot → List ℕ → Bool → DirAt → DirAt → Type 0
RefusesEntry spot path file old new = (s : Seen) (m : Making) → Knows old (with_making s m) → IsSite spot s m → may_make_entry s file (inner_at spot path) m ≡ true → Grown (IsSpoilt path m) s new

-- what stands at the path is synced
abbrev pub SyncsPath : Spot → List ℕ → DirAt → DirAt → Type 0
SyncsPath spot path old new = (s : Seen) (m : Making) → Knows old (with_making s m) → IsSite spot s m → may_sync_entry (inner_at spot path) m ≡ true → Knows new (with_making s (with_path_synced path m))

-- or not
abbrev pub Unsyncs : Spot → List ℕ → DirAt → DirAt → Type 0
Unsyncs spot path old new = (s : Seen) (m : Making) → Knows old (with_making s m) → IsSite spot s m → may_sync_entry (inner_at spot path) m ≡ true → Grown (IsSpoilt path m) s new

-- a file was made in these pieces
abbrev pub MakesFile : SourceAt → Spot → List ℕ → List (List ℕ) → DirAt → DirAt → Type 0
MakesFile source spot path pieces old new = (s : Seen) (m : Making) → source.may s.standing ≡ true → Knows old (with_making s m) → IsSite spot s m → may_make_entry s true (inner_at spot path) m ≡ true → Knows new (with_making s (with_pieces path pieces (with_new path true m)))

-- no source is read
abbrev pub no_source : SourceAt
no_source = record { faults = 0; asks = λ r. false; may = λ s. true; told = false; file = λ o. None; reference = None }

-- a file with these bytes was made
pub record MakesGivenFile (observed : Bool) (spot : Spot) (path bytes : List ℕ) (old new : DirAt) : Type 0 where
  pub pieces : List (List ℕ)
  pub whole : concat pieces ≡ bytes
  pub makes : observed ≡ true → MakesFile no_source spot path pieces old new

-- a file of this size and SHA-512 was made
pub record MakesCopiedFile (observed : Bool) (source : SourceAt) (spot : Spot) (path : List ℕ) (size : ℕ) (sha : List ℕ) (old new : DirAt) : Type 0 where
  pub pieces : List (List ℕ)
  pub sized : length (concat pieces) ≡ size
  pub hashed : sha512 (concat pieces) ≡ sha
  pub makes : observed ≡ true → MakesFile source spot path pieces old new

-- or a beginning of it perhaps
abbrev pub TriesCopiedFile : SourceAt → Spot → List ℕ → DirAt → DirAt → Type 0
TriesCopiedFile source spot path old new = (s : Seen) (m : Making) → source.may s.standing ≡ true → Knows old (with_making s m) → IsSite spot s m → may_make_entry s true (inner_at spot path) m ≡ true → Grown (IsSpoilt path m) s new

abbrev pub TriesFile : Spot → List ℕ → DirAt → DirAt → Type 0
TriesFile spot path old new = TriesCopiedFile no_source spot path old new

-- a folder with everything of a plan is synced
abbrev pub SyncsAll : Spot → List PlanEntry → DirAt → DirAt → Type 0
SyncsAll spot plan old new = (s : Seen) (m : Making) (entries : List Entry) → Knows old (with_making s m) → IsSite spot s m → AreMade plan entries → IsFilledByPlan m.spot plan plan entries m → Knows new (with_making s (record m { unsynced = [] }))

-- or not all of it
abbrev pub UnsyncsAll : Spot → List PlanEntry → DirAt → DirAt → Type 0
UnsyncsAll spot plan old new = (s : Seen) (m : Making) (entries : List Entry) → Knows old (with_making s m) → IsSite spot s m → AreMade plan entries → IsFilledByPlan m.spot plan plan entries m → Grown (HasBegunPlan m.spot plan) s new

-- a folder of which at most these paths, and the folder itself, aren't synced
pub record Owing (owed : List PlanEntry) (m : Making) (s : Seen) (new : DirAt) : Type 0 where
  pub unsynced : List (List ℕ)
  pub owes : list_all (is_owed owed) unsynced ≡ true
  pub knows : Knows new (with_making s (record m { unsynced = unsynced }))

-- what is known once the entries before a place are synced
abbrev pub SyncedTo : Spot → List PlanEntry → List PlanEntry → DirAt → DirAt → Type 0
SyncedTo spot plan left old new = (s : Seen) (m : Making) (entries : List Entry) → Knows old (with_making s m) → IsSite spot s m → AreMade plan entries → IsFilledByPlan m.spot plan plan entries m → Owing left m s new
