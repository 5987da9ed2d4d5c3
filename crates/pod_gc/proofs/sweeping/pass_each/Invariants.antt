use Rattle.std.proofs.Common.{◌≡◌, true, take}
use Rattle.pod_locks.specs.Holding.{KeepsReady}
use Rattle.pod_gc.specs.Requests.{sweeps}
use Rattle.pod_gc.specs.Sweeping.{MaySweepAll}
use Rattle.pod_gc.specs.Told.{places, AddsSwept}
use Rattle.pod_gc.proofs.sweeping.pass_each.Given as goal
use Rattle.dir_trait.specs.Effects.{OnlyAsks, Given}

abbrev pub invariant-places : goal.invariant-places
invariant-places g l =
    let D = g.D.Dir in
    record {
      worked : OnlyAsks D.observed (sweeps l.times.now) (D.shown l.initial.dir) (D.shown l.dir);
      swept : D.observed ≡ true → AddsSwept l.times (take l.place-index places) (D.shown l.initial.dir) (D.shown l.dir) l.initial.lines.items l.lines.items;
      ready : D.observed ≡ true → Given (MaySweepAll l.times.now l.times.expire) (D.shown l.initial.dir) (λ s. KeepsReady s (D.shown l.dir));
    }
