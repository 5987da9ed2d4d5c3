use Rattle.std.proofs.Common.{◌≡◌, true, false, is_some, List, refl, sym, ap, subst, ◌∙◌}
use Rattle.dir_model.specs.declared.event.Event.{Event}
use Rattle.dir_model.specs.State.{has_begun}
use Rattle.dir_model.specs.Trace.{state_after}
use Rattle.dir_model.specs.Calls.{IsRun}
use Rattle.dir_model.specs.Local.{Local}
use Rattle.dir_model.proofs.Begun.{unborn_holds_nothing}
use Rattle.dir_memory.specs.Memories.{Memory, local_of}
use Rattle.dir_memory.proofs.Facts.{memory_now}
use Rattle.dir_memory.proofs.Ended.{unborn_unended, unborn_lists_nothing, kill_unborn}
use Rattle.dir_memory.proofs.memory.MemoryDir.next_process.Goals as goal

pub invariant_of-dir : goal.invariant_of-dir
invariant_of-dir c =
    let run : IsRun c.end.new.self.items = c.end.ensures.run c.dir.invariant.run in
    let before : has_begun (state_after c.dir.inside.past.items).namespace c.args.process ≡ false = subst (λ (h : List Event). has_begun (state_after h).namespace c.args.process ≡ false) (sym (ap (λ (m : Memory). m.trace) c.dir.view_is)) c.requires in
    let unborn : has_begun (state_after c.end.new.self.items).namespace c.args.process ≡ false = ap (λ (h : List Event). has_begun (state_after h).namespace c.args.process) c.end.ensures.grown ∙ kill_unborn _ c.dir.inside.past.items c.dir.inside.process c.args.process before in
    memory_now c.end.new.self c.args.process (local_of c.forget.new.self) _ false refl
    (record {
      begun = unborn ∙ sym (ap (λ (m : Local). is_some m.intent) c.forget.ensures);
      ended = unborn_unended c.end.new.self.items c.args.process run unborn ∙ sym (ap (λ (m : Local). m.finished) c.forget.ensures);
      holds = unborn_holds_nothing c.end.new.self.items c.args.process run unborn ∙ sym (ap (λ (m : Local). m.holdings) c.forget.ensures);
    })
    (unborn_lists_nothing c.end.new.self.items c.args.process run unborn)
    run
    (λ active. let clash : true ≡ false = sym active.begun ∙ ap (λ (m : Local). is_some m.intent) c.forget.ensures in cc)
