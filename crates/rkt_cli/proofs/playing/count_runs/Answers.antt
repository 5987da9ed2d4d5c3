use Rattle.std.proofs.Common.{arith}
use Rattle.demo_line.specs.Numbers.{is_run_pod}
use Rattle.demo_line.proofs.Counts.{count_few}
use Rattle.rkt_cli.proofs.playing.count_runs.Goals as goal

pub overflow_add-runs : goal.overflow_add-runs
overflow_add-runs c = let few = count_few is_run_pod c.pods.pod in omega arith

pub returns-clause-few : goal.returns-clause-few
returns-clause-few c = let few = count_few is_run_pod c.pods.pod in omega arith
