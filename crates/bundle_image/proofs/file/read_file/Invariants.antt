use Rattle.std.proofs.Common.{◌≡◌, ◌≤◌, ◌<◌, ◌+◌, true, length, vec_len, ◌-◌}
use Rattle.dir_trait.specs.declared.bundle.BundleAction.TheVariants.{Read}
use Rattle.dir_trait.specs.Bundles.{bytes_of_node, AsksBundleOnly, request_at}
use Rattle.bundle_image.specs.Fronts.{IsFrontOrNothing}
use Rattle.bundle_image.proofs.file.read_file.Given as goal

abbrev pub invariant-pieces : goal.invariant-pieces
invariant-pieces g l =
    let shown = g.B.Bundle.shown in
    record {
      within : length l.bytes.items ≤ l.most;
      room : 0 < vec_len l.room;
      faults : (shown l.initial.bundle).faults ≤ (shown l.bundle).faults;
      given : (shown l.bundle).given ≤ (shown l.initial.bundle).given + length l.bytes.items;
      same : g.B.Bundle.observed ≡ true → (shown l.bundle).tree ≡ (shown l.initial.bundle).tree;
      asked : g.B.Bundle.observed ≡ true → AsksBundleOnly (request_at Read l.path) (shown l.initial.bundle).asked (shown l.bundle).asked;
      begun : g.B.Bundle.observed ≡ true → IsFrontOrNothing (bytes_of_node ((shown l.initial.bundle).tree l.path)) l.bytes.items;
    }

abbrev pub decreases-pieces : goal.decreases-pieces
decreases-pieces g l = l.most - length l.bytes.items
