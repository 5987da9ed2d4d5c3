use Rattle.std.proofs.Common.{◌≡◌, ◌++◌, [], ℕ, List, length}
use Rattle.std.specs.HashSet.{contains_text}
use Rattle.tree_digest.specs.Listings.{listing_text, has_directory, AllFollow}
use Rattle.tree_digest.proofs.read_lines.read_lines.Given as goal

abbrev pub invariant-loop-rest : goal.invariant-loop-rest
invariant-loop-rest l = record {
  follow : AllFollow [] l.lines.items;
  text : l.bytes ≡ listing_text l.lines.items ++ l.rest;
  directories : (q : List ℕ) → contains_text l.directories q ≡ has_directory l.lines.items q;
}

abbrev pub decreases-loop-rest : goal.decreases-loop-rest
decreases-loop-rest l = length l.rest
