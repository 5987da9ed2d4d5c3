use Rattle.std.proofs.Common.{◌≡◌, ◌+◌, ◌-◌, ◌≤◌, min, true}
use Rattle.dir_model.specs.Areas.{rank}
use Rattle.dir_model.specs.Replies.{is_look_at}
use Rattle.dir_trait.specs.DirCalls.{ExtendsBy}
use Rattle.dir_trait.specs.Knowledge.{OnlyLooks}
use Rattle.phase_read.specs.Read.{LeftOut, calls_of_misses, is_pod_spot, stages_before}
use Rattle.phase_read.specs.Often.{AsksAtMost, begins_read}
use Rattle.phase_read.proofs.read.read_phase.Given as goal

abbrev pub invariant-places : goal.invariant-places
invariant-places g l =
    let shown = g.D.Dir.shown in
    record {
      counted : (shown l.dir).calls ≤ (shown l.fn.dir).calls + calls_of_misses (stages_before l.area);
      below : rank l.area ≤ 5;
      same : (shown l.dir).process ≡ (shown l.fn.dir).process;
      faults : (shown l.fn.dir).faults ≤ (shown l.dir).faults;
      local : (shown l.dir).local ≡ (shown l.fn.dir).local;
      extends : g.D.Dir.observed ≡ true → ExtendsBy (is_look_at (is_pod_spot l.fn.pod)) (shown l.fn.dir) (shown l.dir);
      known : g.D.Dir.observed ≡ true → OnlyLooks (shown l.fn.dir) (shown l.dir);
      reads : g.D.Dir.observed ≡ true → AsksAtMost (min 1 (rank l.area)) (begins_read l.fn.pod) (shown l.fn.dir).process (shown l.fn.dir).trace (shown l.dir).trace;
      empty : g.D.Dir.observed ≡ true → LeftOut (shown l.fn.dir).process (shown l.fn.dir).trace (shown l.dir).trace l.fn.pod (stages_before l.area);
    }

abbrev pub decreases-places : goal.decreases-places
decreases-places g l = 6 - rank l.area
