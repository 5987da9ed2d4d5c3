-- What a command has seen of the directory and the bundle, and when its count of faults rose.
use Rattle.std.proofs.Common.{arith, ◌≡◌, ◌≤◌, ℕ, Bool}
use Rattle.dir_model.specs.Causes.{Rose}
use Rattle.dir_trait.specs.DirCalls.{DirAt}
use Rattle.command_outcomes.specs.Moments.{BundleSeen, Outside}

abbrev pub beside : Bool → DirAt → BundleSeen → Outside
beside observed dir bundle = record { observed = observed; dir = dir; bundle = bundle }

pub rose_wider : (a b c d : ℕ) → a ≤ b → Rose b c → d ≡ c → Rose a d
rose_wider a b c d ab rose dc = omega arith
