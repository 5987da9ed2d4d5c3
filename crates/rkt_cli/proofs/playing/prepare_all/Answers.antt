use Rattle.std.proofs.Common.{[], ◌∷◌, ◌++◌, sym, ap}
use Rattle.rkt_cli.specs.declared.turn.Turn.{Turn}
use Rattle.rkt_cli.specs.Turns.{prepare_turns}
use Rattle.rkt_cli.proofs.Played.{plays_next, plays_one}
use Rattle.rkt_cli.proofs.playing.prepare_all.Goals as goal

pub pods-preserved : goal.pods-preserved
pods-preserved c =
    let turn = c.in_ok-turn.turn in
    let came = c.in_ok-current.current in
    record {
      fresh = c.in_ok-current.ensures.fresh;
      plays = plays_next prepare_turns c.pods.pod (turn ∷ []) c.args.stage c.pods.current came (ap (λ (t : Turn). prepare_turns c.pods.pod ++ t ∷ []) (sym c.in_ok-turn.ensures)) c.pods.invariant.plays (plays_one turn c.pods.current came c.in_ok-current.ensures.went);
    }
