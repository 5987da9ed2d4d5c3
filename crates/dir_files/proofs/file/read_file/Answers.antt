use Rattle.dir_files.proofs.Reading.{stays_whole}
use Rattle.dir_files.proofs.file.read_file.Goals as goal

pub returns-in-Ok-clause-whole : goal.returns-in-Ok-clause-whole
returns-in-Ok-clause-whole g c t file s = stays_whole file (c.in-Ok.ensures.read t) c.in-Ok.ensures.most s
