-- A folder at its place, and requests that move none.
use Rattle.std.proofs.Common.{◌≡◌, ℕ, Some, slice_get}
use Rattle.dir_model.specs.declared.spot.Spot.{Spot}
use Rattle.dir_model.specs.State.{Namespace}

abbrev pub IsPlace : ℕ → Spot → Namespace → Type 0
IsPlace folder place w = slice_get w.folders folder ≡ Some (Some place)
