use Rattle.std.proofs.Common.{true, refl, sym, subst}
use Rattle.dir_model.specs.declared.request.Request.TheVariants.{ListArea}
use Rattle.dir_model.specs.declared.request.Reply.{Reply}
use Rattle.dir_trait.specs.DirCalls.{ListCall}
use Rattle.dir_memory.specs.Memories.{dir_of_memory}
use Rattle.dir_memory.proofs.Calling.{lists_called, lists_ends, names_ordered}
use Rattle.dir_memory.proofs.memory.MemoryDir.names_call.Goals as goal

pub returns-clause-ordered : goal.returns-clause-ordered
returns-clause-ordered c = names_ordered c.args.area c.names_of.result c.list.result c.names_of.ensures (lists_ends c.args.self.now (ListArea c.args.area) c.list.result c.list.new.self refl c.list.ensures.run c.list.ensures.follows)

pub returns-clause-called : goal.returns-clause-called
returns-clause-called c =
    subst (λ (r : Reply). ListCall true (dir_of_memory c.args.self.now) (ListArea c.args.area) r (dir_of_memory c.list.new.self)) (sym c.names_of.ensures) (lists_called c.args.self.now (ListArea c.args.area) c.list.result c.list.new.self refl c.list.ensures.run c.list.ensures.faults c.list.ensures.follows)
