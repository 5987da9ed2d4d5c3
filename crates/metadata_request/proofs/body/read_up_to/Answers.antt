use Rattle.metadata_request.proofs.Pieces.{only_more, only_came}
use Rattle.metadata_request.proofs.body.read_up_to.Goals as goal

pub returns-in-Err-clause-only : goal.returns-in-Err-clause-only
returns-in-Err-clause-only g c =
    let L = g.L.Listener in
    only_more (L.shown c.args.link.now) (L.shown c.pieces.link) (L.shown c.read_piece.new.link) (only_came c.pieces.invariant.came) c.read_piece.ensures.only
