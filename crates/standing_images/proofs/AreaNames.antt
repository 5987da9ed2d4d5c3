-- The names of the area of images are those of the folders that stand there.
use Rattle.std.proofs.Common.{ℕ, List}
use Rattle.dir_model.specs.declared.area.Area.TheVariants.{Images}
use Rattle.dir_model.specs.declared.spot.Spot.{Spot}

abbrev pub place : List ℕ → Spot
place name = record { area = Images; name = name }
