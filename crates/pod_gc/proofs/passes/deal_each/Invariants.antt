use Rattle.std.proofs.Common.{◌≡◌, true, take}
use Rattle.pod_locks.specs.Holding.{KeepsReady}
use Rattle.pod_gc.specs.Sweeping.{MayPassPods}
use Rattle.pod_gc.specs.Told.{deals_with_pods, AddsTold}
use Rattle.pod_gc.proofs.passes.deal_each.Given as goal
use Rattle.dir_trait.specs.Effects.{OnlyAsks, Given}

abbrev pub invariant-names : goal.invariant-names
invariant-names g l =
    let D = g.D.Dir in
    record {
      worked : OnlyAsks D.observed (deals_with_pods l.times.now l.place l.names) (D.shown l.initial.dir) (D.shown l.dir);
      told : D.observed ≡ true → AddsTold l.times l.place (take l.name-index l.names) (D.shown l.initial.dir) (D.shown l.dir) l.initial.lines.items l.lines.items;
      ready : D.observed ≡ true → Given (MayPassPods l.place l.times.now l.times.expire) (D.shown l.initial.dir) (λ s. KeepsReady s (D.shown l.dir));
    }
