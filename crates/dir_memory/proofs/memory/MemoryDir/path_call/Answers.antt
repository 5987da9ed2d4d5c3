use Rattle.std.proofs.Common.{arith, ap}
use Rattle.dir_model.specs.declared.request.DirError.TheVariants.{NoMemory}
use Rattle.dir_model.specs.declared.request.Request.{Request}
use Rattle.dir_model.specs.declared.request.Reply.TheVariants.{Refused}
use Rattle.dir_model.specs.declared.item.Inner.{Inner}
use Rattle.dir_memory.specs.Memories.{Memory}
use Rattle.dir_memory.specs.PathCalls.{path_request}
use Rattle.dir_memory.proofs.Calling.{follows_called}
use Rattle.dir_memory.proofs.PathCalls.{path_numbered, path_plain, short_follows}
use Rattle.dir_memory.proofs.memory.MemoryDir.path_call.Goals as goal

pub returns-in-Err-clause-called : goal.returns-in-Err-clause-called
returns-in-Err-clause-called c =
    let inner : Inner = record { spot = c.args.spot; path = c.args.path.now } in
    let request : Request = path_request c.args.kind inner in
    follows_called c.args.self.now request (Refused NoMemory 0) c.run_out.new.self (path_numbered c.args.kind inner) (path_plain c.args.kind inner) c.run_out.ensures.run (omega (arith, ap (λ (m : Memory). m.faults) c.run_out.ensures.same)) (short_follows c.args.self.now request c.run_out.new.self c.run_out.ensures.same)
