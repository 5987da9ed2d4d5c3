use Rattle.std.proofs.Common.{refl}
use Rattle.rkt_cli.proofs.DemoRan.{demo_acts}
use Rattle.rkt_cli.proofs.Linked.{demo_link, links_demo}
use Rattle.rkt_cli.proofs.Makers.{apart_hands}
use Rattle.rkt_cli.proofs.command.carry_out.Goals as goal

pub returns-in-Demo-clause-makers : goal.returns-in-Demo-clause-makers
returns-in-Demo-clause-makers g c t = apart_hands (g.D.Dir.shown c.args.dir.now) (g.D.Dir.shown c.args.dir.now) refl

pub returns-in-Demo-clause-acts : goal.returns-in-Demo-clause-acts
returns-in-Demo-clause-acts g c = demo_acts c.args.line.now c.in-Demo.count c.args.now c.args.draw.now _ _ c.played.result c.in-Demo.is c.played.ensures.ends c.played.ensures.well

pub returns-in-Demo-clause-serves : goal.returns-in-Demo-clause-serves
returns-in-Demo-clause-serves g c l d none = links_demo c.args.line.now c.in-Demo.count c.args.now c.args.draw.now c.played.result _ _ _ c.in-Demo.is

pub returns-in-Demo-clause-link_cause : goal.returns-in-Demo-clause-link_cause
returns-in-Demo-clause-link_cause g c is = demo_link c.in-Demo.count c.played.result c.played.ensures.ends is
