use Rattle.std.proofs.Common.{◌≡◌, true, false, refl, sym, ap, ◌∙◌}
use Rattle.dir_model.specs.Reserved.{Reserved}
use Rattle.dir_model.specs.declared.event.Event.{Event}
use Rattle.dir_model.specs.declared.request.Request.TheVariants.{Finish}
use Rattle.dir_model.specs.declared.request.Reply.TheVariants.{Done}
use Rattle.dir_model.specs.Local.{Local}
use Rattle.dir_memory.specs.Memories.{local_of}
use Rattle.dir_memory.proofs.Facts.{facts_of, facts_own, none_after, memory_now}
use Rattle.dir_memory.proofs.memory.MemoryDir.give_up.Goals as goal

pub invariant_of-self : goal.invariant_of-self
invariant_of-self c =
    let me = c.self.inside.process in
    let grown = ap (λ (r : Reserved Event). r.items) c.add_plain.ensures.grown in
    memory_now c.add_plain.new.self me (local_of c.note_finished.new.self) _ c.self.inside.killed c.if-not-self.true
    (facts_own c.self.inside.past.items c.add_plain.new.self.items me (local_of c.self.inside.own) (local_of c.note_finished.new.self) Finish Done refl (facts_of c.self.inside.past me (local_of c.self.inside.own) _ c.self.inside.killed c.self.invariant c.if-not-self.true) grown c.note_finished.ensures)
    (none_after c.self.inside.past.items c.add_plain.new.self.items me Finish Done refl c.self.invariant.listing grown)
    c.add_plain.ensures.run
    (λ still. let clash : true ≡ false = sym (ap (λ (m : Local). m.finished) c.note_finished.ensures) ∙ still.unfinished in cc)
