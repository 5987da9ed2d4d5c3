use Rattle.std.proofs.Common.{true, refl, sym, subst}
use Rattle.dir_model.specs.declared.request.Request.{Request}
use Rattle.dir_model.specs.declared.request.Request.TheVariants.{ListIn}
use Rattle.dir_model.specs.declared.request.Reply.{Reply}
use Rattle.dir_model.specs.declared.item.Inner.{Inner}
use Rattle.dir_trait.specs.DirCalls.{ListCall}
use Rattle.dir_memory.specs.Memories.{FollowsListing, dir_of_memory}
use Rattle.dir_memory.proofs.Calling.{lists_called, lists_ends, items_ordered}
use Rattle.dir_memory.proofs.memory.MemoryDir.items_call.Goals as goal

pub returns-in-Ok-clause-ordered : goal.returns-in-Ok-clause-ordered
returns-in-Ok-clause-ordered c = items_ordered c.in-Ok.inner c.items_of.result c.list.result c.items_of.ensures (lists_ends c.args.self.now (ListIn c.in-Ok.inner) c.list.result c.list.new.self refl c.list.ensures.run c.list.ensures.follows)

pub returns-in-Ok-clause-called : goal.returns-in-Ok-clause-called
returns-in-Ok-clause-called c =
    let request : Request = ListIn (record { spot = c.args.spot; path = c.args.path.now }) in
    let f : FollowsListing c.args.self.now request c.list.result c.list.new.self = subst (λ (i : Inner). FollowsListing c.args.self.now (ListIn i) c.list.result c.list.new.self) c.in-Ok.ensures c.list.ensures.follows in
    subst (λ (r : Reply). ListCall true (dir_of_memory c.args.self.now) request r (dir_of_memory c.list.new.self)) (sym c.items_of.ensures) (lists_called c.args.self.now request c.list.result c.list.new.self refl c.list.ensures.run c.list.ensures.faults f)
