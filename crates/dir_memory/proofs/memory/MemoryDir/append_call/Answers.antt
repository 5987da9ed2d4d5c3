use Rattle.std.proofs.Common.{arith, refl, ap}
use Rattle.dir_model.specs.declared.request.DirError.TheVariants.{NoMemory}
use Rattle.dir_model.specs.declared.request.Request.{Request}
use Rattle.dir_model.specs.declared.request.Request.TheVariants.{AppendIn}
use Rattle.dir_model.specs.declared.request.Reply.TheVariants.{Refused}
use Rattle.dir_memory.specs.Memories.{Memory}
use Rattle.dir_memory.proofs.Calling.{follows_called}
use Rattle.dir_memory.proofs.PathCalls.{short_follows}
use Rattle.dir_memory.proofs.memory.MemoryDir.append_call.Goals as goal

pub returns-in-Err-clause-called : goal.returns-in-Err-clause-called
returns-in-Err-clause-called c =
    let request : Request = AppendIn (record { spot = c.args.spot; path = c.args.path.now }) c.args.piece.now in
    follows_called c.args.self.now request (Refused NoMemory 0) c.run_out.new.self refl refl c.run_out.ensures.run (omega (arith, ap (λ (m : Memory). m.faults) c.run_out.ensures.same)) (short_follows c.args.self.now request c.run_out.new.self c.run_out.ensures.same)
