use Rattle.std.proofs.Common.{sym, subst}
use Rattle.std.specs.Prelude.{IsUtf8}
use Rattle.manifest_laws.proofs.Heads.{id_utf8}
use Rattle.image_reading.proofs.value.id_text_of.Goals as goal

pub returns-in_default : goal.returns-in_default
returns-in_default c = λ other are is. c.in_default.ensures.cases.0 (subst IsUtf8 (sym is) (id_utf8 other))
