use Rattle.std.proofs.Common.{Some, None, option_map, map, sym, ap, ◌∙◌}
use Rattle.conformance.specs.Tables.{created_of}
use Rattle.conformance.proofs.Requested.{asked, newest_of}
use Rattle.conformance.proofs.asked.asks_for.Goals as goal

pub returns-in-None : goal.returns-in-None
returns-in-None c =
    let created = c.args.created.now in
    c.asks_at.ensures ∙ asked c.args.intent.now c.args.name.now (map created_of created) None (newest_of c.args.name.now created ∙ ap (option_map created_of) (sym c.in-None.ensures))

pub returns-in-Some : goal.returns-in-Some
returns-in-Some c =
    let created = c.args.created.now in
    c.asks_at-in-Some.ensures ∙ asked c.args.intent.now c.args.name.now (map created_of created) (Some (created_of c.in-Some.mark.now)) (newest_of c.args.name.now created ∙ ap (option_map created_of) (sym c.in-Some.ensures))
