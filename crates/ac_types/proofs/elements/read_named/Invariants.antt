use Rattle.std.proofs.Common.{map}
use Rattle.ac_types.specs.FieldForms.{named_once}
use Rattle.ac_types.specs.SeenTexts.{HasSeen}
use Rattle.ac_types.proofs.EachElement.{IsReadUpTo}
use Rattle.ac_types.proofs.elements.read_named.Given as goal

abbrev pub invariant-loop-i : goal.invariant-loop-i
invariant-loop-i g l = record {
  read : IsReadUpTo (named_once l.twice g.T.FromElement.name_of g.T.FromElement.form) l.at l.list
      (map g.T.FromElement.shown l.items) l.i;
  seen : HasSeen l.seen (map g.T.FromElement.name_of (map g.T.FromElement.shown l.items));
}
