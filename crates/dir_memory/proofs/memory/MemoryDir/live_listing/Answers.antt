use Rattle.std.proofs.Common.{arith, ◌≡◌, ◌+◌, ◌⊎◌, true, false, List, sym, ap, subst}
use Rattle.dir_model.specs.Reserved.{Reserved}
use Rattle.dir_model.specs.declared.event.Event.{Event}
use Rattle.dir_model.specs.declared.request.Reply.TheVariants.{Begun}
use Rattle.dir_memory.specs.Interludes.{Interlude}
use Rattle.dir_memory.specs.Schedules.{with_steps, due}
use Rattle.dir_memory.specs.Memories.{Memory, Listed, CutOff, RanOut, local_of, is_stopped, may_be_called}
use Rattle.dir_memory.proofs.Meanwhile.{steps_come}
use Rattle.dir_memory.proofs.Facts.{Facts, facts_of, facts_come, facts_own, memory_now, not_killed, listing_local, listing_alive, asks_may, none_ended}
use Rattle.dir_memory.proofs.Follow.{listing_by}
use Rattle.dir_memory.proofs.memory.MemoryDir.live_listing.Goals as goal

pub end_step-ended-requires-clause-may : goal.end_step-ended-requires-clause-may
end_step-ended-requires-clause-may c =
    let me = c.self.inside.process in
    let m : Memory = record { trace = c.self.inside.past.items; process = c.self.inside.process; faults = c.self.inside.faults; calls = c.self.inside.calls; numbered = c.self.inside.numbered; local = local_of c.self.inside.own; pending = c.self.inside.pending.items; failing = c.self.inside.failing.items; stop = c.self.inside.stop; killed = c.self.inside.killed } in
    let may : may_be_called m.local c.args.request ≡ true = subst (λ (x : Memory). may_be_called x.local c.args.request ≡ true) (sym c.self.view_is) c.requires.may in
    let alive : c.self.inside.killed ≡ false = not_killed m c.args.request (subst (λ (x : Memory). is_stopped x c.args.request ≡ false) (sym c.self.view_is) c.requires.lives) may c.self.invariant.was in
    let facts : Facts c.self.inside.past.items me (local_of c.self.inside.own) = facts_of c.self.inside.past me (local_of c.self.inside.own) _ c.self.inside.killed c.self.invariant alive in
    let before : List Event = with_steps me c.self.inside.past.items (due (c.self.inside.numbered + 1) true c.self.inside.pending.items) in
    let came : Interlude me c.self.inside.past.items before = steps_come me c.self.inside.past.items (due (c.self.inside.numbered + 1) true c.self.inside.pending.items) in
    let begun : Facts c.begin_step-begun.new.past.items me (local_of c.self.inside.own) = facts_own before c.begin_step-begun.new.past.items me (local_of c.self.inside.own) (local_of c.self.inside.own) c.args.request Begun (listing_alive c.args.request c.requires.asks) (facts_come c.self.inside.past.items before me (local_of c.self.inside.own) came facts) c.in-Ok.ensures.grown (sym (listing_local (local_of c.self.inside.own) c.args.request Begun c.requires.asks)) in
    asks_may c.inside_come-came.new.past.items me (local_of c.self.inside.own) c.args.request may (facts_come c.begin_step-begun.new.past.items c.inside_come-came.new.past.items me (local_of c.self.inside.own) c.inside_come-came.ensures.interlude begun)

pub invariant_of-self-2 : goal.invariant_of-self-2
invariant_of-self-2 c =
    let me = c.self.inside.process in
    let m : Memory = record { trace = c.self.inside.past.items; process = c.self.inside.process; faults = c.self.inside.faults; calls = c.self.inside.calls; numbered = c.self.inside.numbered; local = local_of c.self.inside.own; pending = c.self.inside.pending.items; failing = c.self.inside.failing.items; stop = c.self.inside.stop; killed = c.self.inside.killed } in
    let may : may_be_called m.local c.args.request ≡ true = subst (λ (x : Memory). may_be_called x.local c.args.request ≡ true) (sym c.self.view_is) c.requires.may in
    let alive : c.self.inside.killed ≡ false = not_killed m c.args.request (subst (λ (x : Memory). is_stopped x c.args.request ≡ false) (sym c.self.view_is) c.requires.lives) may c.self.invariant.was in
    let facts : Facts c.self.inside.past.items me (local_of c.self.inside.own) = facts_of c.self.inside.past me (local_of c.self.inside.own) _ c.self.inside.killed c.self.invariant alive in
    let before : List Event = with_steps me c.self.inside.past.items (due (c.self.inside.numbered + 1) true c.self.inside.pending.items) in
    let came : Interlude me c.self.inside.past.items before = steps_come me c.self.inside.past.items (due (c.self.inside.numbered + 1) true c.self.inside.pending.items) in
    let begun : Facts c.begin_step-begun.new.past.items me (local_of c.self.inside.own) = facts_own before c.begin_step-begun.new.past.items me (local_of c.self.inside.own) (local_of c.self.inside.own) c.args.request Begun (listing_alive c.args.request c.requires.asks) (facts_come c.self.inside.past.items before me (local_of c.self.inside.own) came facts) c.in-Ok.ensures.grown (sym (listing_local (local_of c.self.inside.own) c.args.request Begun c.requires.asks)) in
    let grown = ap (λ (r : Reserved Event). r.items) c.end_step-ended.ensures.grown in
    memory_now c.end_step-ended.new.past me (local_of c.self.inside.own) _ c.self.inside.killed alive
    (facts_own c.inside_come-came.new.past.items c.end_step-ended.new.past.items me (local_of c.self.inside.own) (local_of c.self.inside.own) c.args.request c.end_step-ended.result.reply (listing_alive c.args.request c.requires.asks)
    (facts_come c.begin_step-begun.new.past.items c.inside_come-came.new.past.items me (local_of c.self.inside.own) c.inside_come-came.ensures.interlude begun) grown (sym (listing_local (local_of c.self.inside.own) c.args.request c.end_step-ended.result.reply c.requires.asks)))
    (none_ended c.inside_come-came.new.past.items c.end_step-ended.new.past.items me c.args.request c.end_step-ended.result.reply c.end_step-ended.ensures.ends c.requires.asks grown)
    c.end_step-ended.ensures.run
    (λ active. omega (arith, c.self.invariant.room active alive, c.in-Ok.ensures.room, c.inside_come-came.ensures.kept, ap (λ (r : Reserved Event). r.spare) c.end_step-ended.ensures.grown))

pub returns-clause-follows : goal.returns-clause-follows
returns-clause-follows c =
    let m : Memory = record { trace = c.self.inside.past.items; process = c.self.inside.process; faults = c.self.inside.faults; calls = c.self.inside.calls; numbered = c.self.inside.numbered; local = local_of c.self.inside.own; pending = c.self.inside.pending.items; failing = c.self.inside.failing.items; stop = c.self.inside.stop; killed = c.self.inside.killed } in
    let new : Memory = record { trace = c.end_step-ended.new.past.items; process = c.self.inside.process; faults = c.raised_by_end-self-inside.result; calls = c.saturating_add-self-inside.result; numbered = c.saturating_add-self-inside-2.result; local = local_of c.self.inside.own; pending = c.inside_come-came.new.pending.items; failing = c.self.inside.failing.items; stop = c.self.inside.stop; killed = c.self.inside.killed } in
    subst (λ (x : Memory). Listed x c.args.request c.end_step-ended.result.reply new ⊎ (CutOff x c.args.request c.end_step-ended.result.reply new ⊎ RanOut x c.args.request c.end_step-ended.result.reply new)) c.self.view_is
    (listing_by m c.args.request c.end_step-ended.result.reply c.fails_next-fails.result c.end_step-ended.result.cut c.inside_come-came.result c.begin_step-begun.new.past.items c.inside_come-came.new.past.items c.end_step-ended.new.past.items c.begin_step-begun.new.pending.items c.inside_come-came.new.pending.items c.raised_by_end-self-inside.result c.saturating_add-self-inside.result c.saturating_add-self-inside-2.result c.requires.asks
    (rw c.deref.ensures.value at c.fails_next-fails.ensures) c.in-Ok.ensures.grown c.in-Ok.ensures.steps c.inside_come-came.ensures.interlude.meanwhile c.inside_come-came.ensures.first c.inside_come-came.ensures.later c.end_step-ended.ensures.ends c.inside_come-came.ensures.arrived c.inside_come-came.ensures.left (ap (λ (r : Reserved Event). r.items) c.end_step-ended.ensures.grown) c.end_step-ended.ensures.cut c.end_step-ended.ensures.whole c.raised_by_end-self-inside.ensures c.saturating_add-self-inside.ensures c.saturating_add-self-inside-2.ensures)
