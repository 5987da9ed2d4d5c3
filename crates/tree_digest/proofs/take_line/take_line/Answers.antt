use Rattle.std.proofs.Common.{refl, inr}
use Rattle.tree_digest.proofs.Takes.{none_is_no_line, line_back, fails_in_line, fails_in_order}
use Rattle.tree_digest.proofs.take_line.take_line.Goals as goal

pub returns-in_default-clause-fault : goal.returns-in_default-clause-fault
returns-in_default-clause-fault c = inr (refl, λ line begins. none_is_no_line c.args.text.now c.in_default.ensures.none line begins.0 begins.2)

pub returns-in-None-clause-ok : goal.returns-in-None-clause-ok
returns-in-None-clause-ok c = (
  record { line = c.in-Ok.ensures.0.0; short = c.in-Ok.ensures.1; rises = c.in-None.ensures.0; parents = c.in-None.ensures.1 },
  line_back c.args.text.now c.in-Some.line.now c.in-Some.rest.now c.in-Ok.line c.in-Some.ensures.some.0 c.in-Ok.ensures.0.1,
)

pub returns-in-Ok-clause-fault : goal.returns-in-Ok-clause-fault
returns-in-Ok-clause-fault c =
    inr (fails_in_order c.args.lines.now c.args.text.now c.in-Some.line.now c.in-Some.rest.now c.in-Ok.line _ c.in-Some-order_fault.error c.in-Some.ensures.some.0 c.in-Ok.ensures.0 c.in-Ok.ensures.1 refl c.in-Some-order_fault.ensures)

pub returns-clause-fault : goal.returns-clause-fault
returns-clause-fault c =
    fails_in_line c.args.lines.now c.args.text.now c.in-Some.line.now c.in-Some.rest.now c.in-Err.fault _ c.error_of.result c.in-Some.ensures.some.0 c.in-Some.ensures.some.1 c.in-Err.ensures refl c.error_of.ensures
