use Rattle.ac_types.specs.FieldForms.{whole}
use Rattle.ac_types.proofs.EachElement.{IsReadUpTo}
use Rattle.app_section.proofs.group_ids.read_ids.Given as goal

abbrev pub invariant-loop-i : goal.invariant-loop-i
invariant-loop-i l = IsReadUpTo (λ _. whole 4294967295) l.at l.list l.ids l.i
