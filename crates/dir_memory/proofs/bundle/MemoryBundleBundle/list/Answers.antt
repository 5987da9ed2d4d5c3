use Rattle.std.proofs.Common.{rules}
use Rattle.dir_memory.proofs.BundleCalls.{listing_called}
use Rattle.dir_memory.proofs.bundle.MemoryBundleBundle.list.Goals as goal

pub returns-in_err-enter-clause-called : goal.returns-in_err-enter-clause-called
returns-in_err-enter-clause-called c = listing_called c.args.self.now _ c.from_residual.result c.enter.new.self c.enter.ensures.faults (search rules)
