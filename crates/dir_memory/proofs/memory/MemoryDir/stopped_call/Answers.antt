use Rattle.std.proofs.Common.{◌≡◌, ◌⊎◌, inr, true, sym, subst}
use Rattle.dir_memory.specs.Memories.{Memory, IsMemory, RanOut, CallerWasKilled, local_of, is_stopped, may_be_called}
use Rattle.dir_memory.proofs.Facts.{memory_stopped, over_by}
use Rattle.dir_model.specs.declared.request.DirError.TheVariants.{Failed}
use Rattle.dir_model.specs.declared.request.Reply.TheVariants.{Refused}
use Rattle.dir_memory.proofs.Follow.{stopped_by}
use Rattle.dir_memory.proofs.memory.MemoryDir.stopped_call.Goals as goal

pub invariant_of-self-2 : goal.invariant_of-self-2
invariant_of-self-2 c =
    let m : Memory = record { trace = c.self.inside.past.items; process = c.self.inside.process; faults = c.self.inside.faults; calls = c.self.inside.calls; numbered = c.self.inside.numbered; local = local_of c.self.inside.own; pending = c.self.inside.pending.items; failing = c.self.inside.failing.items; stop = c.self.inside.stop; killed = c.self.inside.killed } in
    memory_stopped c.self.inside.past c.end.new.self c.steps_come-came.new.past.items c.self.inside.process m _ _ c.args.request c.self.invariant c.steps_come-came.ensures.interlude c.end.ensures.grown (c.end.ensures.run (c.steps_come-came.ensures.interlude.run c.self.invariant.run))
    (subst (λ (x : Memory). is_stopped x c.args.request ≡ true) (sym c.self.view_is) c.requires.stopped)
    (subst (λ (x : Memory). may_be_called x.local c.args.request ≡ true) (sym c.self.view_is) c.requires.may)

pub returns-clause-follows : goal.returns-clause-follows
returns-clause-follows c =
    let m : Memory = record { trace = c.self.inside.past.items; process = c.self.inside.process; faults = c.self.inside.faults; calls = c.self.inside.calls; numbered = c.self.inside.numbered; local = local_of c.self.inside.own; pending = c.self.inside.pending.items; failing = c.self.inside.failing.items; stop = c.self.inside.stop; killed = c.self.inside.killed } in
    let kept : IsMemory c.end.new.self c.self.inside.process (local_of c.self.inside.own) 0 true = memory_stopped c.self.inside.past c.end.new.self c.steps_come-came.new.past.items c.self.inside.process m _ 0 c.args.request c.self.invariant c.steps_come-came.ensures.interlude c.end.ensures.grown (c.end.ensures.run (c.steps_come-came.ensures.interlude.run c.self.invariant.run)) (subst (λ (x : Memory). is_stopped x c.args.request ≡ true) (sym c.self.view_is) c.requires.stopped) (subst (λ (x : Memory). may_be_called x.local c.args.request ≡ true) (sym c.self.view_is) c.requires.may) in
    let new : Memory = record { trace = c.end.new.self.items; process = c.self.inside.process; faults = c.saturating_add-self-inside-3.result; calls = c.saturating_add-self-inside.result; numbered = c.saturating_add-self-inside-2.result; local = local_of c.self.inside.own; pending = c.steps_come-came.new.pending.items; failing = c.self.inside.failing.items; stop = c.self.inside.stop; killed = true } in
    subst (λ (x : Memory). RanOut x c.args.request (Refused Failed 0) new ⊎ CallerWasKilled x c.args.request (Refused Failed 0) new) c.self.view_is
    (inr (stopped_by m c.args.request c.is_listing.result c.steps_come-came.new.past.items c.end.new.self.items c.steps_come-came.new.pending.items c.saturating_add-self-inside-3.result c.saturating_add-self-inside.result c.saturating_add-self-inside-2.result
    (subst (λ (x : Memory). is_stopped x c.args.request ≡ true) (sym c.self.view_is) c.requires.stopped) c.is_listing.ensures c.in-Ok.ensures.arrived c.in-Ok.ensures.left c.end.ensures.grown
    (over_by c.end.new.self c.self.inside.process (local_of c.self.inside.own) 0 kept) c.saturating_add-self-inside-3.ensures c.saturating_add-self-inside.ensures c.saturating_add-self-inside-2.ensures))
