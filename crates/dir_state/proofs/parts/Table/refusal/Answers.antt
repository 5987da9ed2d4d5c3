use Rattle.dir_state.proofs.parts.Table.refusal.Goals as goal

pub returns-in-MoveFolder : goal.returns-in-MoveFolder
returns-in-MoveFolder c = rw c.in-MoveFolder.is c.move_refusal.ensures

pub returns-in-AppendIn : goal.returns-in-AppendIn
returns-in-AppendIn c = rw c.in-AppendIn.is c.file_refused.ensures

pub returns-in-ReadIn : goal.returns-in-ReadIn
returns-in-ReadIn c = rw c.in-ReadIn.is c.file_refused-in-ReadIn.ensures
