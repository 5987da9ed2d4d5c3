use Rattle.rkt_cli.proofs.Looked.{came, came_to, came_to_none}
use Rattle.rkt_cli.proofs.lookup.meant_pod.Goals as goal

pub returns-in-Ok-clause-comes : goal.returns-in-Ok-clause-comes
returns-in-Ok-clause-comes g c = came _ _ _ _ c.resolve.ensures.only c.resolve.ensures.unseen

pub returns-in-Err-clause-comes : goal.returns-in-Err-clause-comes
returns-in-Err-clause-comes g c = came _ _ _ _ c.resolve.ensures.only c.resolve.ensures.unseen

pub returns-in-Ok-clause-finds : goal.returns-in-Ok-clause-finds
returns-in-Ok-clause-finds g c =
    let D = g.D.Dir in
    came_to D.observed c.args.word (D.shown c.args.dir.now) (D.shown c.resolve.new.dir) c.in-Ok.pod c.in-Ok.ensures.meant c.in-Ok.ensures.same (λ part. c.in-Ok.ensures.chosen part tt) c.in-Ok.ensures.existed (c.in-Ok.ensures.found tt) (c.in-Ok.ensures.quiet tt)

pub returns-in-Err-clause-finds : goal.returns-in-Err-clause-finds
returns-in-Err-clause-finds g c =
    let D = g.D.Dir in
    came_to_none D.observed c.args.word (D.shown c.args.dir.now) (D.shown c.resolve.new.dir) c.in-Err.error c.lookup_refusal.result c.lookup_refusal.ensures c.in-Err.ensures.cause c.in-Err.ensures.none c.in-Err.ensures.several c.in-Err.ensures.whole
    c.in-Err.ensures.meant c.in-Err.ensures.chosen c.in-Err.ensures.found c.in-Err.ensures.quiet
