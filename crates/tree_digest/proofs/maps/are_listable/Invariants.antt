use Rattle.std.proofs.Common.{List, ℕ}
use Rattle.std.specs.List.{All}
use Rattle.path_map.specs.declared.entry.Entry.{Entry}
use Rattle.tree_digest.specs.Listings.{IsListable}
use Rattle.tree_digest.proofs.maps.are_listable.Given as goal

abbrev pub invariant-loop-path : goal.invariant-loop-path
invariant-loop-path l = record {
  back : All (λ (e : List ℕ × Entry). IsListable e.1) l._path-iterator → All (λ (e : List ℕ × Entry). IsListable e.1) l.map;
  on : All (λ (e : List ℕ × Entry). IsListable e.1) l.map → All (λ (e : List ℕ × Entry). IsListable e.1) l._path-iterator;
}
