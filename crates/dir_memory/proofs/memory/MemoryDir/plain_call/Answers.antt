use Rattle.std.proofs.Common.{true, sym, subst}
use Rattle.dir_model.specs.declared.request.Reply.{Reply}
use Rattle.dir_trait.specs.DirCalls.{DirCall}
use Rattle.dir_memory.specs.Memories.{MemoryFollows, dir_of_memory}
use Rattle.dir_memory.proofs.Calling.{shape_plain, follows_says, follows_called, done_failed, done_refused}
use Rattle.dir_memory.proofs.memory.MemoryDir.plain_call.Goals as goal

pub done_of-requires : goal.done_of-requires
done_of-requires c = shape_plain c.args.request c.call.result c.requires.nothing c.requires.plain (follows_says c.args.self.now c.args.request c.call.result c.call.new.self c.requires.numbered c.requires.plain c.call.ensures.follows).shape

pub returns-clause-cause : goal.returns-clause-cause
returns-clause-cause c = done_failed c.args.self.now c.args.request c.call.result c.call.new.self (follows_says c.args.self.now c.args.request c.call.result c.call.new.self c.requires.numbered c.requires.plain c.call.ensures.follows) c.done_of.result c.done_of.ensures

pub returns-clause-refusals : goal.returns-clause-refusals
returns-clause-refusals c = done_refused c.args.self.now c.args.request c.call.result c.call.new.self (follows_says c.args.self.now c.args.request c.call.result c.call.new.self c.requires.numbered c.requires.plain c.call.ensures.follows) c.done_of.result c.done_of.ensures

pub returns-clause-called : goal.returns-clause-called
returns-clause-called c = subst (λ (r : Reply). DirCall true (dir_of_memory c.args.self.now) c.args.request r (dir_of_memory c.call.new.self)) (sym c.done_of.ensures) (follows_called c.args.self.now c.args.request c.call.result c.call.new.self c.requires.numbered c.requires.plain c.call.ensures.run c.call.ensures.faults c.call.ensures.follows)

pub returns-clause-follows : goal.returns-clause-follows
returns-clause-follows c = subst (λ (r : Reply). MemoryFollows c.args.self.now c.args.request r c.call.new.self) (sym c.done_of.ensures) c.call.ensures.follows
