use Rattle.std.proofs.Common.{inr, refl}
use Rattle.dir_model.specs.declared.request.Request.TheVariants.{Close}
use Rattle.dir_memory.proofs.Calling.{given_called}
use Rattle.dir_memory.proofs.dir.MemoryDirDir.close.Goals as goal

pub returns-clause-called : goal.returns-clause-called
returns-clause-called c = given_called c.args.self.now (Close c.args.handle) c.give_up_handle.new.self (inr (c.args.handle, refl)) c.give_up_handle.ensures.follows c.give_up_handle.ensures.run c.give_up_handle.ensures.over
