use Rattle.std.proofs.Common.{◌≡◌, ◌++◌}
use Rattle.std.specs.List.{All}
use Rattle.tree_digest.specs.declared.line.ListingLine.{ListingLine}
use Rattle.tree_digest.specs.Lines.{IsEntry}
use Rattle.tree_digest.specs.Listings.{lines_of, IsListable}
use Rattle.tree_digest.proofs.maps.copied_lines.Given as goal

abbrev pub invariant-loop-path : goal.invariant-loop-path
invariant-loop-path l = record {
  lines : l.lines.items ++ lines_of l.path-iterator ≡ lines_of l.map;
  valid : All (λ (line : ListingLine). IsListable line.entry → IsEntry line.entry) l.lines.items;
}
