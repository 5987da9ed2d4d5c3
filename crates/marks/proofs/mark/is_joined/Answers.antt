use Rattle.std.proofs.Common.{rules}
use Rattle.marks.proofs.Texts.{bytes_joined}
use Rattle.marks.proofs.mark.is_joined.Goals as goal

pub returns-in-Some : goal.returns-in-Some
returns-in-Some c = rw (bytes_joined c.args.bytes.now c.args.text.now c.args.rest.now) (rw c.in-Some.ensures.cases.0 (rw c.in-Some.ensures.cases.1 at c.eq.ensures))

pub returns-in-None : goal.returns-in-None
returns-in-None c = rw (bytes_joined c.args.bytes.now c.args.text.now c.args.rest.now) (search (rules, c.in-None.ensures.cases))
