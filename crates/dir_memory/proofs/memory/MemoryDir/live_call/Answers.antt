use Rattle.std.proofs.Common.{◌≡◌, ◌+◌, ◌⊎◌, inl, true, false, List, sym, ap, subst, ◌∙◌}
use Rattle.dir_model.specs.declared.event.Event.{Event}
use Rattle.dir_model.specs.Local.{IsUnopened}
use Rattle.dir_model.specs.Trace.{state_after}
use Rattle.dir_memory.specs.Interludes.{Interlude}
use Rattle.dir_memory.specs.Schedules.{with_steps, due}
use Rattle.dir_memory.specs.Memories.{Memory, Answered, RanOut, local_of, is_stopped, may_be_called, is_to_fail, answer_or_failure}
use Rattle.dir_memory.proofs.Meanwhile.{steps_come}
use Rattle.dir_memory.proofs.Facts.{Facts, facts_of, facts_come, facts_own, none_after, memory_now, not_killed, numbered_alive}
use Rattle.dir_memory.proofs.Calling.{opened_new}
use Rattle.dir_memory.proofs.Follow.{answered_by}
use Rattle.dir_memory.proofs.memory.MemoryDir.live_call.Goals as goal

pub invariant_of-self-2 : goal.invariant_of-self-2
invariant_of-self-2 c =
    let me = c.self.inside.process in
    let m : Memory = record { trace = c.self.inside.past.items; process = c.self.inside.process; faults = c.self.inside.faults; calls = c.self.inside.calls; numbered = c.self.inside.numbered; local = local_of c.self.inside.own; pending = c.self.inside.pending.items; failing = c.self.inside.failing.items; stop = c.self.inside.stop; killed = c.self.inside.killed } in
    let may : may_be_called m.local c.args.request ≡ true = subst (λ (x : Memory). may_be_called x.local c.args.request ≡ true) (sym c.self.view_is) c.requires.may in
    let alive : c.self.inside.killed ≡ false = not_killed m c.args.request (subst (λ (x : Memory). is_stopped x c.args.request ≡ false) (sym c.self.view_is) c.requires.lives) may c.self.invariant.was in
    let facts : Facts c.self.inside.past.items me (local_of c.self.inside.own) = facts_of c.self.inside.past me (local_of c.self.inside.own) _ c.self.inside.killed c.self.invariant alive in
    let before : List Event = with_steps me c.self.inside.past.items (due (c.self.inside.numbered + 1) false c.self.inside.pending.items) in
    let came : Interlude me c.self.inside.past.items before = steps_come me c.self.inside.past.items (due (c.self.inside.numbered + 1) false c.self.inside.pending.items) in
    memory_now c.one_step-answered.new.past me (local_of c.one_step-answered.new.own) _ c.self.inside.killed alive
    (facts_own before c.one_step-answered.new.past.items me (local_of c.self.inside.own) (local_of c.one_step-answered.new.own) c.args.request c.in-Ok.reply (numbered_alive c.args.request c.requires.numbered) (facts_come c.self.inside.past.items before me (local_of c.self.inside.own) came facts) c.in-Ok.ensures.grown c.in-Ok.ensures.local)
    (none_after before c.one_step-answered.new.past.items me c.args.request c.in-Ok.reply c.requires.plain (came.listing ∙ c.self.invariant.listing) c.in-Ok.ensures.grown)
    c.in-Ok.ensures.run (λ active. c.in-Ok.ensures.room)

pub returns-clause-follows : goal.returns-clause-follows
returns-clause-follows c =
    let m : Memory = record { trace = c.self.inside.past.items; process = c.self.inside.process; faults = c.self.inside.faults; calls = c.self.inside.calls; numbered = c.self.inside.numbered; local = local_of c.self.inside.own; pending = c.self.inside.pending.items; failing = c.self.inside.failing.items; stop = c.self.inside.stop; killed = c.self.inside.killed } in
    subst (λ (x : Memory). Answered x c.args.request c.in-Ok.reply (record { trace = c.one_step-answered.new.past.items; process = c.self.inside.process; faults = c.raised_if-self-inside.result; calls = c.saturating_add-self-inside.result; numbered = c.saturating_add-self-inside-2.result; local = local_of c.one_step-answered.new.own; pending = c.one_step-answered.new.pending.items; failing = c.self.inside.failing.items; stop = c.self.inside.stop; killed = c.self.inside.killed }) ⊎ RanOut x c.args.request c.in-Ok.reply (record { trace = c.one_step-answered.new.past.items; process = c.self.inside.process; faults = c.raised_if-self-inside.result; calls = c.saturating_add-self-inside.result; numbered = c.saturating_add-self-inside-2.result; local = local_of c.one_step-answered.new.own; pending = c.one_step-answered.new.pending.items; failing = c.self.inside.failing.items; stop = c.self.inside.stop; killed = c.self.inside.killed })) c.self.view_is
    (inl (answered_by m c.args.request c.in-Ok.reply c.fails_next-fails.result c.one_step-answered.new.past.items c.raised_if-self-inside.result c.saturating_add-self-inside.result c.saturating_add-self-inside-2.result (local_of c.one_step-answered.new.own) c.one_step-answered.new.pending.items c.requires.plain
    (rw c.deref.ensures.value at c.fails_next-fails.ensures) c.in-Ok.ensures.reply c.in-Ok.ensures.grown c.raised_if-self-inside.ensures c.saturating_add-self-inside.ensures c.saturating_add-self-inside-2.ensures c.in-Ok.ensures.local c.in-Ok.ensures.steps))

pub returns-clause-unopened : goal.returns-clause-unopened
returns-clause-unopened c handle is =
    let me = c.self.inside.process in
    let m : Memory = record { trace = c.self.inside.past.items; process = c.self.inside.process; faults = c.self.inside.faults; calls = c.self.inside.calls; numbered = c.self.inside.numbered; local = local_of c.self.inside.own; pending = c.self.inside.pending.items; failing = c.self.inside.failing.items; stop = c.self.inside.stop; killed = c.self.inside.killed } in
    let may : may_be_called m.local c.args.request ≡ true = subst (λ (x : Memory). may_be_called x.local c.args.request ≡ true) (sym c.self.view_is) c.requires.may in
    let alive : c.self.inside.killed ≡ false = not_killed m c.args.request (subst (λ (x : Memory). is_stopped x c.args.request ≡ false) (sym c.self.view_is) c.requires.lives) may c.self.invariant.was in
    let facts : Facts c.self.inside.past.items me (local_of c.self.inside.own) = facts_of c.self.inside.past me (local_of c.self.inside.own) _ c.self.inside.killed c.self.invariant alive in
    subst (λ (x : Memory). IsUnopened x.local handle) c.self.view_is
    (opened_new m c.args.request c.in-Ok.reply handle c.requires.plain facts.holds
    (c.in-Ok.ensures.reply ∙ (ap (λ b. answer_or_failure b (state_after (with_steps me m.trace (due (m.numbered + 1) false m.pending))) me c.args.request) (rw c.deref.ensures.value at c.fails_next-fails.ensures) ∙ ap (λ b. answer_or_failure (is_to_fail m c.args.request) (state_after (with_steps me m.trace (due (m.numbered + 1) b m.pending))) me c.args.request) (sym c.requires.plain))) is)
