use Rattle.std.proofs.Common.{arith, ◌≤◌, Bool, true, length, subst}
use Rattle.memory_listener.specs.contracts.memory.MemoryListener as contract
use Rattle.memory_listener.specs.ListenerMemories.{taken_count}
use Rattle.memory_listener.proofs.Links.{ends_current}
use Rattle.memory_listener.proofs.memory.MemoryListener.end_current.Goals as goal

pub returns-then-self : goal.returns-then-self
returns-then-self c =
    let inside = c.self.inside in
    let same = c.hang_up_at.ensures.same in
    let some : taken_count true inside.over ≤ length inside.links.items = subst (λ (b : Bool). taken_count b inside.over ≤ length inside.links.items) c.if-self.true c.self.invariant.0 in
    rw (← c.self.view_is) (ends_current (contract.the_view inside) c.hang_up_at.new.links.items c.if-self.true (omega (arith, some, same)) c.hang_up_at.ensures.there c.hang_up_at.ensures.before c.hang_up_at.ensures.behind)
