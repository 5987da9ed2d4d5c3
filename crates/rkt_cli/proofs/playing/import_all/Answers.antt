use Rattle.std.proofs.Common.{[], ◌∷◌, ◌++◌, sym, ap}
use Rattle.rkt_cli.specs.declared.turn.Turn.{Turn}
use Rattle.rkt_cli.specs.Turns.{imports}
use Rattle.rkt_cli.proofs.Played.{plays_next, plays_one}
use Rattle.rkt_cli.proofs.playing.import_all.Goals as goal

pub images-preserved : goal.images-preserved
images-preserved c =
    let turn = c.in_ok-turn.turn in
    let came = c.in_ok-current.current in
    record {
      fresh = c.in_ok-current.ensures.fresh;
      plays = plays_next imports c.images.image (turn ∷ []) c.args.stage c.images.current came (ap (λ (t : Turn). imports c.images.image ++ t ∷ []) (sym c.in_ok-turn.ensures)) c.images.invariant.plays (plays_one turn c.images.current came c.in_ok-current.ensures.went);
    }
