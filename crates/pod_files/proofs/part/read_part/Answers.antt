use Rattle.pod_files.proofs.Reading.{reads_part_at}
use Rattle.pod_files.proofs.part.read_part.Goals as goal

pub returns-clause-only : goal.returns-clause-only
returns-clause-only g c = reads_part_at c.args.pod c.args.path.now c.of_pod.result c.of_pod.ensures c.read_file.ensures.only
