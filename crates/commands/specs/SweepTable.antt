-- The lines of a sweep of the store, by one state of the directory.
use Rattle.std.specs.Prelude.{◌≡◌, ℕ, Bool, true, false, not, ◌&&◌, ◌||◌, List, [], ◌∷◌, ◌++◌, map}
use Rattle.std.specs.List.Sorted.{IsStrictlySortedBy}
use Rattle.std.specs.Ordering.{nat_cmp}
use Rattle.std.specs.Cmp.Lexicographic.{slice_cmp}
use Rattle.dir_model.specs.declared.area.Area.{Area}
use Rattle.dir_model.specs.declared.area.Area.TheVariants.{Incoming, Removed}
use Rattle.dir_model.specs.declared.spot.Mode.TheVariants.{Exclusive}
use Rattle.dir_model.specs.Listings.{has_name}
use Rattle.dir_trait.specs.State.{DirState, stands}
use Rattle.dir_files.specs.AreaLocks.{is_busy_elsewhere}
use Rattle.image_removal.specs.declared.pass.Pass.{Pass}
use Rattle.image_removal.specs.declared.pass.Pass.TheVariants.{PutAway, Delete}
use Rattle.image_removal.specs.declared.pass.SweepLine.{SweepLine}
use Rattle.image_removal.specs.declared.pass.SweepLine.TheVariants.{BusyGate}
use Rattle.image_removal.specs.Passes.{area_of_pass, line_of, is_uuid}

-- a folder whose name is the text of a uuid stands in the area
abbrev pub is_swept_in : Area → DirState → List ℕ → Bool
is_swept_in area s name = is_uuid name && stands s.namespace (record { area = area; name = name })

-- another process holds the lock of the area of the pass
abbrev pub is_barred : ℕ → Pass → DirState → Bool
is_barred me pass s = is_busy_elsewhere me (area_of_pass pass) Exclusive s

-- what the pass meets: the folders of its area, and in removed those that were put away there before
abbrev pub meets : ℕ → Pass → DirState → List ℕ → Bool
meets me PutAway s name = is_swept_in Incoming s name
meets me Delete s name = is_swept_in Removed s name || (not (is_barred me PutAway s) && is_swept_in Incoming s name)

-- its lines: one of each folder that it meets, in byte order of the names
pub record AreImagePassLines (pass : Pass) (meeting : List ℕ → Bool) (lines : List SweepLine) : Type 0 where
  pub names : List (List ℕ)
  pub are : lines ≡ map (line_of pass) names
  pub rise : IsStrictlySortedBy (slice_cmp nat_cmp) names
  pub each : (name : List ℕ) → has_name names name ≡ meeting name

-- or the one line that says that the lock is held
abbrev pub BarredOr : Bool → Pass → List SweepLine → Type 0 → Type 0
BarredOr true pass lines Passed = lines ≡ BusyGate (area_of_pass pass) ∷ []
BarredOr false pass lines Passed = Passed

abbrev pub IsImagePassOf : ℕ → DirState → Pass → List SweepLine → Type 0
IsImagePassOf me s pass lines = BarredOr (is_barred me pass s) pass lines (AreImagePassLines pass (meets me pass s) lines)

-- those of incoming, and then those of removed
pub record AreSweepLines (me : ℕ) (s : DirState) (lines : List SweepLine) : Type 0 where
  pub moved : List SweepLine
  pub deleted : List SweepLine
  pub are : lines ≡ moved ++ deleted
  pub put_away : IsImagePassOf me s PutAway moved
  pub delete : IsImagePassOf me s Delete deleted
