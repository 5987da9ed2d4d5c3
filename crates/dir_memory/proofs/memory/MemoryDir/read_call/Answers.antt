use Rattle.std.proofs.Common.{arith, true, refl, sym, ap, subst}
use Rattle.dir_model.specs.declared.request.DirError.TheVariants.{NoMemory}
use Rattle.dir_model.specs.declared.request.Request.{Request}
use Rattle.dir_model.specs.declared.request.Request.TheVariants.{ReadIn}
use Rattle.dir_model.specs.declared.request.Reply.{Reply}
use Rattle.dir_model.specs.declared.request.Reply.TheVariants.{Refused}
use Rattle.dir_trait.specs.DirCalls.{DirCall}
use Rattle.dir_memory.specs.Memories.{Memory, MemoryFollows, dir_of_memory}
use Rattle.dir_memory.proofs.Calling.{follows_called}
use Rattle.dir_memory.proofs.PathCalls.{short_follows}
use Rattle.std.proofs.Common.{length}
use Rattle.dir_memory.proofs.memory.MemoryDir.read_call.Goals as goal

pub returns-in-Ok-clause-called : goal.returns-in-Ok-clause-called
returns-in-Ok-clause-called c =
    let request : Request = ReadIn (record { spot = c.args.spot; path = c.args.path.now }) c.args.at (length c.args.room.now) in
    let f : MemoryFollows c.args.self.now request c.call.result c.call.new.self = subst (λ (q : Request). MemoryFollows c.args.self.now q c.call.result c.call.new.self) c.in-Ok.ensures c.call.ensures.follows in
    subst (λ (r : Reply). DirCall true (dir_of_memory c.args.self.now) request r (dir_of_memory c.call.new.self)) (sym c.filled.ensures.reply) (follows_called c.args.self.now request c.call.result c.call.new.self refl refl c.call.ensures.run c.call.ensures.faults f)

pub returns-in-Err-clause-called : goal.returns-in-Err-clause-called
returns-in-Err-clause-called c =
    let request : Request = ReadIn (record { spot = c.args.spot; path = c.args.path.now }) c.args.at (length c.args.room.now) in
    follows_called c.args.self.now request (Refused NoMemory 0) c.run_out.new.self refl refl c.run_out.ensures.run (omega (arith, ap (λ (m : Memory). m.faults) c.run_out.ensures.same)) (short_follows c.args.self.now request c.run_out.new.self c.run_out.ensures.same)
