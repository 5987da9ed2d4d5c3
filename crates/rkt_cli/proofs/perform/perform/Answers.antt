use Rattle.std.proofs.Common.{◌∙◌, refl, sym, ap}
use Rattle.rkt_cli.proofs.Acting.{acted_apart, same_uses, well_apart}
use Rattle.rkt_cli.proofs.Linked.{links_apart}
use Rattle.rkt_cli.proofs.Makers.{apart_hands}
use Rattle.rkt_cli.proofs.perform.perform.Goals as goal

pub returns-in-None-clause-makers : goal.returns-in-None-clause-makers
returns-in-None-clause-makers g c t =
    let D = g.D.Dir in
    apart_hands (D.shown c.args.dir.now) (D.shown c.act.new.dir) (ap D.shown (c.act.ensures.apart (same_uses c.args.line.now c.args.draw.now.uuid ∙ c.in-None.ensures.none refl)))

pub returns-in-None-clause-acts : goal.returns-in-None-clause-acts
returns-in-None-clause-acts g c =
    let D = g.D.Dir in
    let line = c.args.line.now in
    let apart = c.in-None.ensures.none refl in
    acted_apart D.observed line c.args.now c.args.draw.now (D.shown c.args.dir.now) (D.shown c.act.new.dir) _ _ _ _ c.act.result (sym c.in-None.ensures.intent) apart (ap D.shown (c.act.ensures.apart (same_uses line c.args.draw.now.uuid ∙ apart)))
    c.act.ensures.ran (well_apart line c.args.now c.args.draw.now _ _ c.act.result apart c.act.ensures.apps_told) c.act.ensures.spawn_cause

pub returns-in-None-clause-serves : goal.returns-in-None-clause-serves
returns-in-None-clause-serves g c l d none = links_apart c.args.line.now c.args.now c.args.draw.now c.act.result _ _ _ _ (sym c.in-None.ensures.intent) (c.act.ensures.serves l d none)
