use Rattle.std.proofs.Common.{◌≡◌, ◌≤◌, ◌<◌, ◌-◌, ℕ, true, List, vec_len}
use Rattle.dir_trait.specs.Bundles.{bytes_of_node}
use Rattle.bundle_image.specs.Fronts.{IsFrontOrNothing}
use Rattle.bundle_image.specs.FileSums.{HashingHasTaken}
use Rattle.bundle_image.specs.Reads.{ReadsWithin}
use Rattle.bundle_image.proofs.file_sum.sum_file.Given as goal

abbrev pub invariant-pieces : goal.invariant-pieces
invariant-pieces g l =
    let shown = g.B.Bundle.shown in
    record {
      room : 0 < vec_len l.room;
      within : vec_len l.room ≤ 65536;
      reads : ReadsWithin g.B.Bundle.observed l.path (shown l.initial.bundle) (shown l.bundle);
      taken : (message : List ℕ) × HashingHasTaken l.hashing message × (g.B.Bundle.observed ≡ true → IsFrontOrNothing (bytes_of_node ((shown l.initial.bundle).tree l.path)) message);
    }

abbrev pub decreases-pieces : goal.decreases-pieces
decreases-pieces g l = 1073741825 - l.hashing.size
