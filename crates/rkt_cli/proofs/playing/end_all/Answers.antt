use Rattle.rkt_cli.proofs.Played.{plays_last}
use Rattle.rkt_cli.proofs.playing.end_all.Goals as goal

pub returns : goal.returns
returns c = record {
  plays = plays_last c.bare_turn-sweep.result c.bare_turn-sweep-2.result c.bare_turn-list.result _ _ _ c.args.stage c.in_ok-stage.stage c.in_ok-stage-2.stage c.play_turn-3.result
      c.bare_turn-sweep.ensures c.bare_turn-sweep-2.ensures c.bare_turn-list.ensures c.in_ok-stage.ensures.went c.in_ok-stage-2.ensures.went c.play_turn-3.ensures.went;
}
