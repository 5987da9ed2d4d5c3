use Rattle.std.proofs.Common.{inl, refl}
use Rattle.dir_model.specs.declared.request.Request.TheVariants.{Finish}
use Rattle.dir_memory.proofs.Calling.{given_called}
use Rattle.dir_memory.proofs.dir.MemoryDirDir.finish.Goals as goal

pub returns-clause-called : goal.returns-clause-called
returns-clause-called c = given_called c.args.self.now Finish c.give_up.new.self (inl refl) c.give_up.ensures.follows c.give_up.ensures.run c.give_up.ensures.over
