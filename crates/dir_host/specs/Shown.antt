-- What contracts see of a directory and of a bundle of the host.
use Rattle.std.specs.Prelude.{[], None}
use Rattle.dir_trait.specs.DirCalls.{DirAt}
use Rattle.dir_trait.specs.Bundles.{BundleAt}
use Rattle.dir_host.specs.OpenFolders.{holdings_of}
use Rattle.dir_host.specs.declared.dir.HostDir.{HostDir}
use Rattle.dir_host.specs.declared.bundle.HostBundle.{HostBundle}

-- as every directory is seen. Its calls aren't counted, and its trace isn't observed
abbrev pub dir_shown : {R F : Type 0} → HostDir R F → DirAt
dir_shown d = record {
  process = d.process;
  faults = d.faults;
  calls = 0;
  local = record { intent = d.intent; finished = d.finished; holdings = holdings_of d.folders.items };
  trace = [];
}

-- as every bundle is seen. Its bytes aren't counted, and its tree and what it was asked for aren't observed
abbrev pub bundle_shown : {R F : Type 0} → HostBundle R F → BundleAt
bundle_shown b = record { tree = λ _. None; faults = b.faults; given = 0; asked = [] }
