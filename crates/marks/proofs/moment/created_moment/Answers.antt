use Rattle.marks.proofs.moment.created_moment.Goals as goal

pub returns : goal.returns
returns c = c.moment_of.ensures
