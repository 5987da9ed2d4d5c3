use Rattle.std.proofs.Common.{take}
use Rattle.dir_memory.specs.MemoryBundles.{bundle_tree_of, AreKinds, AreFound}
use Rattle.dir_memory.proofs.listing.kinds_in.Given as goal

abbrev pub invariant-entries : goal.invariant-entries
invariant-entries l = record {
  kinds : AreKinds (bundle_tree_of l.entries) l.directory l.kinds;
  found : AreFound (bundle_tree_of l.entries) l.directory (take l.entry-index l.entries) l.kinds;
}
