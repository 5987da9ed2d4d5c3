use Rattle.std.proofs.Common.{map}
use Rattle.ac_types.specs.SeenTexts.{HasSeen}
use Rattle.ac_types.proofs.EachElement.{IsReadUpTo}
use Rattle.manifest_parts.specs.DistinctForms.{after_names}
use Rattle.manifest_parts.proofs.distinct.read_distinct.Given as goal

abbrev pub invariant-loop-i : goal.invariant-loop-i
invariant-loop-i g l = record {
  read : IsReadUpTo (after_names g.T.DistinctElement.name_of g.T.DistinctElement.form) l.at l.list
      (map g.T.DistinctElement.shown l.items) l.i;
  seen : HasSeen l.seen (map g.T.DistinctElement.name_of (map g.T.DistinctElement.shown l.items));
}
