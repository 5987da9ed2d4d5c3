use Rattle.std.proofs.Common.{sym, ◌∙◌}
use Rattle.ac_types.proofs.RefChecks.{head_alone, head_with_version, filled_by_length}
use Rattle.ac_types.proofs.ref_check.head_version.Goals as goal

pub returns-else-is_empty-clause-ok : goal.returns-else-is_empty-clause-ok
returns-else-is_empty-clause-ok c =
    head_with_version c.args.part.now c.in-Some.name.now c.in-Some.version.now c.in-Some.ensures
    (sym c.is_identifier.ensures ∙ c.if-not-is_identifier.false)
    (filled_by_length c.in-Some.version.now (sym c.is_empty.ensures ∙ c.if-is_empty.false))

pub returns-then-is_identifier-clause-ok : goal.returns-then-is_identifier-clause-ok
returns-then-is_identifier-clause-ok c =
    head_alone c.args.part.now c.in-None.ensures (sym c.is_identifier-in-None.ensures ∙ c.if-is_identifier.true)
