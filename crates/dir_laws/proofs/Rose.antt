-- Faults that came in a part of a time came in the whole.
use Rattle.std.proofs.Common.{arith, ◌≤◌, ℕ}
use Rattle.dir_model.specs.Causes.{Rose}

pub rose_later : (a b c : ℕ) → a ≤ b → Rose b c → Rose a c
rose_later a b c before rose = omega arith

pub rose_still : (a b c : ℕ) → Rose a b → b ≤ c → Rose a c
rose_still a b c rose after = omega arith
