-- The listing of the area of images under the gate.
use Rattle.std.specs.Prelude.{◌≡◌, ℕ, Bool, true, List, ◌++◌}
use Rattle.dir_model.specs.declared.area.Area.TheVariants.{Images}
use Rattle.dir_model.specs.declared.event.Event.{Event}
use Rattle.dir_model.specs.State.{DirState, stands}
use Rattle.dir_model.specs.Trace.{state_after}
use Rattle.dir_model.specs.Listings.{has_name}
use Rattle.dir_files.specs.Listed.{ShowsArea}
use Rattle.gate_reading.specs.Gate.{HasGate}

-- an image of this name stands
abbrev pub is_image : DirState → List ℕ → Bool
is_image s name = stands s.namespace (record { area = Images; name = name })

-- the names are of all images that stood at the first of two moments, and only of such as stand at the second
pub record NamesImages (old new : DirState) (names : List (List ℕ)) : Type 0 where
  pub all : (name : List ℕ) → is_image old name ≡ true → has_name names name ≡ true
  pub only : (name : List ℕ) → has_name names name ≡ true → is_image new name ≡ true

-- while the gate is had, images only come: a listing's names are of all that stood at any moment before it, and all stand when it ends
abbrev pub AreasTell : List Event → Type 0
AreasTell trace =
    (p : ℕ) (before x y later : List Event) (names : List (List ℕ)) → trace ≡ ((before ++ x) ++ y) ++ later →
    HasGate p before (x ++ y) → ShowsArea p (before ++ x) ((before ++ x) ++ y) Images names →
    NamesImages (state_after before) (state_after ((before ++ x) ++ y)) names
