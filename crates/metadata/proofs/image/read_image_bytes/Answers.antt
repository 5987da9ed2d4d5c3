use Rattle.pod_files.proofs.Reading.{reads_none}
use Rattle.metadata.proofs.image.read_image_bytes.Goals as goal

pub returns-in-Err-clause-only : goal.returns-in-Err-clause-only
returns-in-Err-clause-only g c = reads_none c.args.pod
