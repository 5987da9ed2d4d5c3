use Rattle.std.proofs.Common.{sym, ap, ◌∙◌}
use Rattle.pod_report.proofs.StatusTexts.{taken, number_taken, digits_utf8}
use Rattle.pod_report.proofs.digits.number_in.Goals as goal

pub returns-in-Ok-parse : goal.returns-in-Ok-parse
returns-in-Ok-parse c status t = ap taken (sym c.in-Ok-parse.is) ∙ number_taken status c.args.bytes.now c.in-Ok.digits.now c.parse.result c.in-Ok.ensures.cases.0 t c.parse.ensures.value.0

pub returns-in-Err-parse : goal.returns-in-Err-parse
returns-in-Err-parse c status t = ap taken (sym c.in-Err-parse.is) ∙ number_taken status c.args.bytes.now c.in-Ok.digits.now c.parse.result c.in-Ok.ensures.cases.0 t c.parse.ensures.value.0

pub returns-in-Err : goal.returns-in-Err
returns-in-Err c status t = absurd (c.in-Err.ensures.cases.0 (digits_utf8 status c.args.bytes.now t))
