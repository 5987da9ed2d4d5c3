use Rattle.std.proofs.Common.{Some, None, sym, ◌∙◌}
use Rattle.conformance.proofs.Requested.{asked}
use Rattle.conformance.proofs.asked.is_removal_requested.Goals as goal

pub returns-in-None : goal.returns-in-None
returns-in-None c =
    let found = rw c.as_slice.ensures at c.in-None.ensures in
    c.asks_at.ensures ∙ asked c.args.seen.now.standing.intent c.args.name.now c.args.seen.now.created None (sym found)

pub returns-in-Some : goal.returns-in-Some
returns-in-Some c =
    let found = rw c.as_slice.ensures at c.in-Some.ensures in
    c.asks_at-in-Some.ensures ∙ asked c.args.seen.now.standing.intent c.args.name.now c.args.seen.now.created (Some c.in-Some.mark.now) (sym found)
