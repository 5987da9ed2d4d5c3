use Rattle.metadata_request.proofs.Pieces.{only_more}
use Rattle.metadata_request.proofs.reading.read_request.Goals as goal

pub returns-in-Ok-clause-only : goal.returns-in-Ok-clause-only
returns-in-Ok-clause-only g c =
    let L = g.L.Listener in
    only_more (L.shown c.args.link.now) (L.shown c.read_head.new.link) (L.shown c.read_body.new.link) c.read_head.ensures.only c.read_body.ensures.only

pub returns-clause-only : goal.returns-clause-only
returns-clause-only g c =
    let L = g.L.Listener in
    only_more (L.shown c.args.link.now) (L.shown c.read_head.new.link) (L.shown c.read_body.new.link) c.read_head.ensures.only c.read_body.ensures.only
