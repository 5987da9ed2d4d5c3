-- The pods of a pass, one after the other.
use Rattle.std.proofs.Common.{◌==◌, ◌&&◌, ℕ, Bool, Option, List, refl, ap, ◌∙◌}
use Rattle.std.specs.List.{list_any}
use Rattle.dir_model.specs.declared.area.Area.{Area}
use Rattle.dir_model.specs.declared.area.Area.TheVariants.{Embryo}
use Rattle.dir_model.specs.declared.intent.Intent.{Intent}
use Rattle.dir_rules.specs.declared.standing.Held.{Held}
use Rattle.dir_rules.specs.declared.seen.Seen.{Seen}
use Rattle.dir_rules.specs.Standing.{intends, is_gc, is_gate_exclusive}
use Rattle.dir_trait.specs.DirCalls.{DirAt}
use Rattle.dir_trait.specs.Effects.{Given}
use Rattle.pod_locks.specs.Holding.{KeepsHoldings, KeepsReady}
use Rattle.pod_gc.proofs.Rounds.{may_kept}
use Rattle.pod_gc.specs.declared.gc_error.GcError.TheVariants as fault
use Rattle.pod_gc.specs.Causes.{GcCause}
use Rattle.pod_gc.specs.Sweeping.{MaySweepPods, MayPassPods}

pub no_memory : (observed : Bool) (old new : DirAt) → GcCause observed fault.NoMemory old new
no_memory observed old new = record { fault = λ is. cc; stray = λ is. cc }

pub sweep_kept : {now expire : ℕ} {s z : Seen} → KeepsHoldings s z → MaySweepPods now expire s → MaySweepPods now expire z
sweep_kept {now} {expire} k m = record { may = may_kept k m.may; sweeps = ap (λ (o : Option Intent). intends (λ i. is_gc i.kind && (i.expire == expire)) o) k.intent ∙ m.sweeps }

pub pass_kept : {place : Area} {now expire : ℕ} {s z : Seen} → KeepsHoldings s z → MayPassPods place now expire s → MayPassPods place now expire z
pass_kept k m = record { sweeps = sweep_kept k m.sweeps; gate = λ is. ap (λ (hs : List Held). list_any (is_gate_exclusive Embryo) hs) k.holdings ∙ m.gate is }

pub pass_none : {place : Area} {now expire : ℕ} {d : DirAt} → Given (MayPassPods place now expire) d (λ s. KeepsReady s d)
pass_none s k m = record { known = s; keeps = record { intent = refl; holdings = refl; kept = refl; bare = m.sweeps.may.bare }; knows = k }

pub pass_more : {place : Area} {now expire : ℕ} {a b c : DirAt} → Given (MayPassPods place now expire) a (λ s. KeepsReady s b) → Given (MayPassPods place now expire) b (λ s. KeepsReady s c) → Given (MayPassPods place now expire) a (λ s. KeepsReady s c)
pass_more ab bc s k m =
    let x = ab s k m in
    let y = bc x.known x.knows (pass_kept x.keeps m) in
    record { known = y.known; keeps = record { intent = y.keeps.intent ∙ x.keeps.intent; holdings = y.keeps.holdings ∙ x.keeps.holdings; kept = y.keeps.kept ∙ x.keeps.kept; bare = y.keeps.bare }; knows = y.knows }
