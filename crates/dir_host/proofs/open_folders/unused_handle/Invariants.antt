use Rattle.dir_host.specs.OpenFolders.{AreOpenBelow}
use Rattle.dir_host.proofs.open_folders.unused_handle.Given as goal

abbrev pub invariant-numbers : goal.invariant-numbers
invariant-numbers l = AreOpenBelow l.number l.folders
