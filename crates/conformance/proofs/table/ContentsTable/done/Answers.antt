use Rattle.std.proofs.Common.{◌≡◌}
use Rattle.dir_rules.specs.Seen.{folder_moved, learned_done}
use Rattle.dir_model.specs.declared.request.Request.TheVariants.{AppendIn}
use Rattle.conformance.specs.Tables.{seen_with}
use Rattle.conformance.proofs.Outcomes.{ok_at}
use Rattle.conformance.proofs.table.ContentsTable.done.Goals as goal

pub returns-in-MoveFolder : goal.returns-in-MoveFolder
returns-in-MoveFolder c = rw c.in-MoveFolder.is (ok_at _ (λ s. seen_with s c.move_folder.new.self ≡ folder_moved (seen_with s c.args.self.now) c.in-MoveFolder.from c.in-MoveFolder.to) c.args.standing.now c.move_folder.ensures)

pub returns-in-AppendIn : goal.returns-in-AppendIn
returns-in-AppendIn c = rw c.in-AppendIn.is (ok_at _ (λ s. seen_with s c.append.new.self ≡ learned_done (seen_with s c.args.self.now) (AppendIn c.in-AppendIn.inner c.in-AppendIn.piece)) c.args.standing.now (rw c.as_slice.ensures at c.append.ensures))

pub returns-in-RemoveFolder : goal.returns-in-RemoveFolder
returns-in-RemoveFolder c = rw c.in-RemoveFolder.is (c.remove_folder.ensures c.args.standing.now)

pub returns-in-Finish : goal.returns-in-Finish
returns-in-Finish c = rw c.in-Finish.is (c.finish.ensures c.args.standing.now)
