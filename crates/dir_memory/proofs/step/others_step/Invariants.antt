use Rattle.std.proofs.Common.{◌≡◌, ◌+◌, ◌≤◌, vec_len}
use Rattle.dir_memory.specs.Schedules.{with_steps, due, not_due}
use Rattle.dir_memory.specs.Interludes.{Interlude}
use Rattle.dir_memory.proofs.step.others_step.Given as goal

abbrev pub invariant-due : goal.invariant-due
invariant-due l = record {
  interlude : Interlude l.me l.fn.past.items l.past.items;
  first : with_steps l.me l.past.items (due (l.calls + 1) l.listing l.pending.items) ≡ with_steps l.me l.fn.past.items (due (l.calls + 1) l.listing l.fn.pending.items);
  later : not_due (l.calls + 1) l.listing l.pending.items ≡ not_due (l.calls + 1) l.listing l.fn.pending.items;
  kept : l.fn.past.spare ≤ l.past.spare;
}

abbrev pub decreases-due : goal.decreases-due
decreases-due l = vec_len l.pending
