-- A plan: what is made in a folder, in the order in which it is made.
use Rattle.std.specs.Prelude.{◌≡◌, ℕ, Bool, true, false, ◌&&◌, ◌||◌, cond, bytes_eq, List, [], ◌∷◌, ◌++◌, map, length}
use Rattle.std.specs.List.{list_any, list_all, concat}
use Rattle.sha2.specs.Sha512.{sha512}
use Rattle.dir_model.specs.declared.area.Area.{Area}
use Rattle.dir_model.specs.declared.tree.TreeNode.TheVariants.{Dir, Piece}
use Rattle.dir_model.specs.Paths.{is_empty, is_path}
use Rattle.dir_rules.specs.declared.seen.Entry.{Entry}
use Rattle.dir_rules.specs.declared.seen.Seen.{Seen}
use Rattle.dir_rules.specs.Rules.{is_new_path, is_in_order}
use Rattle.folder_building.specs.declared.plan.PlanEntry.{PlanEntry}
use Rattle.folder_building.specs.declared.plan.Content.{Content}
use Rattle.folder_building.specs.declared.plan.Content.TheVariants.{Directory, Given, Copied}

abbrev pub is_file : Content → Bool
is_file Directory = false
is_file (Given bytes) = true
is_file (Copied origin size sha) = true

-- what is made first at its path
abbrev pub outline_of : PlanEntry → Entry
outline_of e = record { path = e.path; node = cond (is_file e.content) (Piece []) Dir }

abbrev pub planned_entries : List PlanEntry → List Entry
planned_entries plan = map outline_of plan

-- where a file is copied from, its path there is one
abbrev pub has_origin : Content → Bool
has_origin (Copied origin size sha) = is_path origin.path
has_origin _ = true

-- its path is new, and lies in the folder itself or in a directory that was made before
abbrev pub may_follow_entries : List PlanEntry → PlanEntry → Bool
may_follow_entries before e = is_path e.path && (is_new_path e.path (planned_entries before) && has_origin e.content)

abbrev pub is_plan_after : List PlanEntry → List PlanEntry → Bool
is_plan_after before [] = true
is_plan_after before (e ∷ es) = may_follow_entries before e && is_plan_after (before ++ e ∷ []) es

abbrev pub is_plan : List PlanEntry → Bool
is_plan plan = is_plan_after [] plan

-- it comes when the rules ask for it: in a pod the mark of its creation first, and its manifest as the last file
abbrev pub is_in_turn : Seen → Area → List PlanEntry → PlanEntry → Bool
is_in_turn s area before e = is_in_order s area (is_file e.content) e.path (planned_entries before)

abbrev pub are_in_turn : Seen → Area → List PlanEntry → List PlanEntry → Bool
are_in_turn s area before [] = true
are_in_turn s area before (e ∷ es) = is_in_turn s area before e && are_in_turn s area (before ++ e ∷ []) es

-- one piece more of a file
abbrev pub piece_at : List ℕ → List ℕ → Entry
piece_at path bytes = record { path = path; node = Piece bytes }

abbrev pub directory_entry : List ℕ → Entry
directory_entry path = record { path = path; node = Dir }

abbrev pub pieces_at : List ℕ → List (List ℕ) → List Entry
pieces_at path pieces = map (piece_at path) pieces

-- a file that was made in these pieces, the first of which is empty
abbrev pub file_in_pieces : List ℕ → List (List ℕ) → List Entry
file_in_pieces path pieces = piece_at path [] ∷ pieces_at path pieces

-- the bytes of a file are those that the plan asks for
abbrev pub FitsContent : Content → List ℕ → Type 0
FitsContent Directory bytes = ⊥
FitsContent (Given given) bytes = bytes ≡ given
FitsContent (Copied origin size sha) bytes = (length bytes ≡ size) × (sha512 bytes ≡ sha)

-- a file of these bytes was made, in pieces
pub record IsFileOf (path : List ℕ) (content : Content) (chunk : List Entry) : Type 0 where
  pub pieces : List (List ℕ)
  pub is : chunk ≡ file_in_pieces path pieces
  pub fits : FitsContent content (concat pieces)

-- what was made is what an entry of the plan asks for
abbrev pub IsMadeAs : List ℕ → Content → List Entry → Type 0
IsMadeAs path Directory chunk = chunk ≡ directory_entry path ∷ []
IsMadeAs path content chunk = IsFileOf path content chunk

abbrev pub IsMadeOf : PlanEntry → List Entry → Type 0
IsMadeOf e chunk = IsMadeAs e.path e.content chunk

-- what was made is what the plan asks for, entry by entry
pub record IsMadeThenRest (First Rest : List Entry → Type 0) (entries : List Entry) : Type 0 where
  pub chunk : List Entry
  pub rest : List Entry
  pub is : entries ≡ chunk ++ rest
  pub first : First chunk
  pub others : Rest rest

abbrev pub AreMade : List PlanEntry → List Entry → Type 0
AreMade [] entries = entries ≡ []
AreMade (e ∷ plan) entries = IsMadeThenRest (IsMadeOf e) (AreMade plan) entries

-- nothing but the beginnings of a file stands here
abbrev pub is_entry_at : List ℕ → Entry → Bool
is_entry_at path e = bytes_eq e.path path

abbrev pub IsPart : PlanEntry → List Entry → Type 0
IsPart e chunk = list_all (is_entry_at e.path) chunk ≡ true

-- the plan was begun: its first entries were made, and something of the next perhaps
pub record IsPlanBegun (plan : List PlanEntry) (entries : List Entry) : Type 0 where
  pub before : List PlanEntry
  pub rest : List PlanEntry
  pub is : plan ≡ before ++ rest
  pub made : List Entry
  pub are : AreMade before made
  pub path : List ℕ
  pub part : List Entry
  pub next : list_all (is_entry_at path) part ≡ true
  pub holds : entries ≡ made ++ part

abbrev pub is_in_plan : List ℕ → List PlanEntry → Bool
is_in_plan path plan = list_any (λ e. bytes_eq e.path path) plan

-- the folder itself, or a path of the plan
abbrev pub is_owed : List PlanEntry → List ℕ → Bool
is_owed plan path = is_empty path || is_in_plan path plan
