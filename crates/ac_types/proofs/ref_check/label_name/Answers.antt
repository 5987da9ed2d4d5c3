use Rattle.std.proofs.Common.{sym, ◌∙◌}
use Rattle.ac_types.proofs.RefChecks.{no_label_value}
use Rattle.ac_types.proofs.ref_check.label_name.Goals as goal

pub returns-then-is_empty : goal.returns-then-is_empty
returns-then-is_empty c =
    no_label_value c.args.part.now c.in_ok-name.name.now c.in_ok-name.value.now c.in_ok-name.ensures
    (sym c.is_empty.ensures ∙ c.if-is_empty.true)
