use Rattle.rkt_cli.proofs.Within.{reads_within}
use Rattle.rkt_cli.proofs.line.read_line.Goals as goal

pub returns-in-Ok-clause-few : goal.returns-in-Ok-clause-few
returns-in-Ok-clause-few c = reads_within c.in-Ok.line c.known_line.result c.in-Ok.ensures.asked c.known_line.ensures
