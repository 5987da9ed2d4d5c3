-- Files of images under the gate.
use Rattle.std.specs.Prelude.{◌≡◌, ℕ, Bool, true, false, not, nat_eq, Option, Some, None, List, [], ◌∷◌, ◌++◌, codes}
use Rattle.std.specs.List.{starts_with}
use Rattle.dir_model.specs.declared.area.Area.TheVariants.{Images}
use Rattle.dir_model.specs.declared.event.Event.{Event}
use Rattle.dir_model.specs.declared.item.Inner.{Inner}
use Rattle.dir_model.specs.declared.spot.Spot.{Spot}
use Rattle.dir_model.specs.State.{stands}
use Rattle.dir_model.specs.Trace.{state_after}
use Rattle.dir_model.specs.Replies.{is_apps_inner}
use Rattle.dir_model.specs.Calls.{is_foreign}
use Rattle.dir_rules.specs.Standing.{is_in}
use Rattle.dir_files.specs.Reads.{inner_at, file_at, StaysFrom}
use Rattle.gate_reading.specs.Gate.{HasGate}

-- no started app's root is there or above: each such root is in the directory `stage1`
abbrev pub is_outside_stage1 : List ℕ → Bool
is_outside_stage1 path = not (starts_with nat_eq path (codes "stage1/"))

-- at each own step between these two moments this is the file there, or none is there, and the path isn't a started app's own
abbrev pub FindsFrom : ℕ → Inner → Option (List ℕ) → List Event → List Event → Type 0
FindsFrom me inner found old new =
    (later rest : List Event) (step : Event) → new ≡ ((old ++ later) ++ step ∷ []) ++ rest → is_foreign me step ≡ false
    → (is_apps_inner (state_after ((old ++ later) ++ step ∷ [])) (Some inner) ≡ false) ×
    (file_at (state_after ((old ++ later) ++ step ∷ [])) inner ≡ found)

-- a file of an image stays as it is while the gate is had
abbrev pub FilesStay : List Event → Type 0
FilesStay trace =
    (p : ℕ) (before more later : List Event) (spot : Spot) (path file : List ℕ) → trace ≡ (before ++ more) ++ later →
    is_in Images spot.area ≡ true → is_outside_stage1 path ≡ true → HasGate p before more →
    file_at (state_after before) (inner_at spot path) ≡ Some file → StaysFrom p (inner_at spot path) file before (before ++ more)

-- and where an image has no file, none comes
abbrev pub NoneComes : List Event → Type 0
NoneComes trace =
    (p : ℕ) (before more later : List Event) (spot : Spot) (path : List ℕ) → trace ≡ (before ++ more) ++ later →
    is_in Images spot.area ≡ true → is_outside_stage1 path ≡ true → HasGate p before more →
    stands (state_after before).namespace spot ≡ true → file_at (state_after before) (inner_at spot path) ≡ None →
    FindsFrom p (inner_at spot path) None before (before ++ more)
