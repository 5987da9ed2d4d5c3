-- The directory that was reached last.
use Rattle.std.specs.Prelude.{◌≡◌, ℕ, List, string_bytes}
use Rattle.dir_model.specs.declared.spot.Spot.{Spot}
use Rattle.host_files.specs.declared.looks.Reached.{Reached}
use Rattle.host_files.specs.Places.{inner_path}

-- it was reached by the path of the system at which this path in this folder stands
abbrev pub IsAt : Reached → List ℕ → Spot → List ℕ → Type 0
IsAt reached root spot inner = string_bytes reached.path ≡ inner_path root spot inner
