use Rattle.std.proofs.Common.{arith, refl, sym, ap, subst}
use Rattle.dir_model.specs.Reserved.{Reserved}
use Rattle.dir_model.specs.declared.event.Event.{Event}
use Rattle.dir_model.specs.declared.request.Request.TheVariants.{Close}
use Rattle.dir_model.specs.declared.request.Reply.TheVariants.{Done}
use Rattle.dir_model.specs.Local.{IsActive}
use Rattle.dir_memory.specs.Memories.{Memory, local_of}
use Rattle.dir_memory.proofs.Facts.{facts_of, facts_own, none_after, memory_now}
use Rattle.dir_memory.proofs.memory.MemoryDir.give_up_handle.Goals as goal

pub invariant_of-self : goal.invariant_of-self
invariant_of-self c =
    let me = c.self.inside.process in
    let active : IsActive (local_of c.self.inside.own) = subst IsActive (sym (ap (λ (m : Memory). m.local) c.self.view_is)) c.requires.active in
    let grown = ap (λ (r : Reserved Event). r.items) c.add_plain.ensures.grown in
    memory_now c.add_plain.new.self me (local_of c.note_closed.new.self) _ c.self.inside.killed c.if-not-self.true
    (facts_own c.self.inside.past.items c.add_plain.new.self.items me (local_of c.self.inside.own) (local_of c.note_closed.new.self) (Close c.args.handle) Done refl (facts_of c.self.inside.past me (local_of c.self.inside.own) _ c.self.inside.killed c.self.invariant c.if-not-self.true) grown c.note_closed.ensures.local)
    (none_after c.self.inside.past.items c.add_plain.new.self.items me (Close c.args.handle) Done refl c.self.invariant.listing grown)
    c.add_plain.ensures.run
    (λ still. omega (arith, c.note_closed.ensures.fewer, c.self.invariant.room active c.if-not-self.true, ap (λ (r : Reserved Event). r.spare) c.add_plain.ensures.grown))
