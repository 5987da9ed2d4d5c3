use Rattle.stage1.proofs.manifest.read_manifest.Goals as goal

pub returns-in-Err-Lacking-clause-lacks : goal.returns-in-Err-Lacking-clause-lacks
returns-in-Err-Lacking-clause-lacks g c = rw c.in-Err-Lacking.field-0-is at c.in-Err-Lacking.ensures.lacks
