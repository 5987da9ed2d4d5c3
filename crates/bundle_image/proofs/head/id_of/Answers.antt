use Rattle.std.proofs.Common.{◌∙◌}
use Rattle.bundle_image.proofs.Heads.{no_id, no_utf8, an_id}
use Rattle.bundle_image.proofs.head.id_of.Goals as goal

pub returns-in_default : goal.returns-in_default
returns-in_default c = no_utf8 c.args.bytes.now c.trimmed.result.now c.trimmed.ensures c.in_default.ensures.cases.0

pub returns-in-Ok-parse : goal.returns-in-Ok-parse
returns-in-Ok-parse c = an_id c.args.bytes.now c.in-Ok.text.now c.in-Ok-parse.id.bytes (c.in-Ok.ensures.cases.0 ∙ c.trimmed.ensures) c.in-Ok-parse.ensures.kind c.in-Ok-parse.ensures.text

pub returns-in-Err : goal.returns-in-Err
returns-in-Err c = no_id c.args.bytes.now c.in-Ok.text.now (c.in-Ok.ensures.cases.0 ∙ c.trimmed.ensures) c.in-Err.ensures.refused
