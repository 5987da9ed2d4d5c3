use Rattle.std.proofs.Common.{ap}
use Rattle.dir_memory.specs.Memories.{Memory}
use Rattle.rkt_cli.proofs.Played.{plays_to_end}
use Rattle.rkt_cli.proofs.playing.play.Goals as goal

pub returns : goal.returns
returns c = plays_to_end c.args.count c.count_runs.result (record { dir = c.in_ok-dir.dir; failed = 0; lines = 0 }) c.in_ok-stage.stage c.in_ok-stage-2.stage c.in_ok-stage-3.stage c.end_all.result (ap (λ (d : Memory). record { dir = d; failed = 0; lines = 0 }) c.in_ok-dir.ensures) c.in_ok-stage.ensures.plays c.in_ok-stage-2.ensures.plays c.in_ok-stage-3.ensures.plays c.count_runs.ensures.runs c.end_all.ensures.plays
