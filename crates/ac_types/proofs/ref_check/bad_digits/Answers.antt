use Rattle.std.proofs.Common.{sym, ◌∙◌}
use Rattle.ac_types.proofs.RefChecks.{good_digits}
use Rattle.ac_types.proofs.ref_check.bad_digits.Goals as goal

pub returns-then-are_id_digits : goal.returns-then-are_id_digits
returns-then-are_id_digits c = good_digits c.args.digits.now (sym c.are_id_digits.ensures.digits ∙ c.if-are_id_digits.true)
