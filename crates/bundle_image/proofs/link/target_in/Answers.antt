use Rattle.bundle_image.proofs.Pieces.{target_whole}
use Rattle.bundle_image.proofs.Reading.{itself, reads_call}
use Rattle.bundle_image.proofs.link.target_in.Goals as goal

pub returns-in_err-count-clause-reads : goal.returns-in_err-count-clause-reads
returns-in_err-count-clause-reads g c = reads_call c.args.path.now (itself _) c.read_link.ensures.called

pub returns-in-Ok-clause-reads : goal.returns-in-Ok-clause-reads
returns-in-Ok-clause-reads g c = reads_call c.args.path.now (itself _) c.read_link.ensures.called

pub returns-in-Err-clause-reads : goal.returns-in-Err-clause-reads
returns-in-Err-clause-reads g c = reads_call c.args.path.now (itself _) c.read_link.ensures.called

pub returns-in-Ok-clause-target : goal.returns-in-Ok-clause-target
returns-in-Ok-clause-target g c t =
    target_whole _ c.args.room.now c.read_link.new.room c.in_ok-count.count c.in-Ok.found c.requires (c.in_ok-count.ensures.read t) c.in-Ok.ensures
