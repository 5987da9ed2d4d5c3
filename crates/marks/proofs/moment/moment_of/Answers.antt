use Rattle.std.proofs.Common.{◌∙◌}
use Rattle.marks.proofs.Moments.{marked, unmarked}
use Rattle.marks.proofs.moment.moment_of.Goals as goal

pub returns-then-is_mark : goal.returns-then-is_mark
returns-then-is_mark c = c.in_64_bits.ensures ∙ marked c.args.text.now c.args.name.now c.number_in-moment.result c.number_in-moment.ensures c.if-is_mark.ensures

pub returns-else-is_mark : goal.returns-else-is_mark
returns-else-is_mark c = unmarked c.args.text.now c.args.name.now c.number_in-moment.result c.number_in-moment.ensures c.if-is_mark.ensures
