use Rattle.std.proofs.Common.{◌≡◌}
use Rattle.demo_line.specs.Numbers.{count_below, is_run_pod}
use Rattle.rkt_cli.proofs.playing.count_runs.Given as goal

abbrev pub invariant-pods : goal.invariant-pods
invariant-pods l = l.runs ≡ count_below is_run_pod l.pod
