use Rattle.std.proofs.Common.{◌∙◌}
use Rattle.image_reading.proofs.Marking.{as_mark}
use Rattle.image_reading.proofs.mark.imported_moment.Goals as goal

pub returns : goal.returns
returns c = c.moment_of.ensures ∙ as_mark c.args.name.now
