use Rattle.std.proofs.Common.{◌≡◌, true, false, Some, refl, sym, subst}
use Rattle.plain_laws.proofs.Results.{if_ok, ok_both, ok_three, if_err}
use Rattle.dir_model.specs.declared.area.Area.{Area}
use Rattle.dir_model.specs.declared.area.Area.TheVariants as area
use Rattle.dir_model.specs.declared.spot.Which.{Which}
use Rattle.folder_building.proofs.Working.{worked_wider}
use Rattle.pod_gc.specs.RemovalRequests.{may_lie_dead}
use Rattle.pod_gc.specs.RemovalHolding.{MayRemove}
use Rattle.pod_gc.specs.Requests.{deals_with_pod}
use Rattle.pod_gc.specs.Deeds.{DeedCause, refused_lock, LetBe, WaitedByAge, RestedByAge, Dealt, LeavesIfObserved, LeavesToAnother, MarksFirst}
use Rattle.pod_gc.specs.Sweeping.{MaySweepPods, MayPassPods}
use Rattle.pod_gc.proofs.Dead.{dead_by, dead_apart}
use Rattle.pod_gc.proofs.Dealing.{embryo_deal, dealt_at, may_embryo, embryo_left}
use Rattle.pod_gc.specs.Causes.{GcNeverStray, GcStrayByApp}
use Rattle.pod_gc.proofs.deals.deal.Goals as goal
use Rattle.dir_trait.specs.Effects.{OnlyAsks}

pub returns-in-Embryo-clause-worked : goal.returns-in-Embryo-clause-worked
returns-in-Embryo-clause-worked g c =
    let D = g.D.Dir in
    subst (λ (a : Area). OnlyAsks D.observed (deals_with_pod c.args.pod c.args.times.now a) (D.shown c.args.dir.now) (D.shown c.deal_embryo.new.dir)) (sym c.in-Embryo.is) (worked_wider (embryo_deal c.args.pod c.args.times.now area.Embryo) c.deal_embryo.ensures.worked)

pub returns-in-Embryo-clause-dealt : goal.returns-in-Embryo-clause-dealt
returns-in-Embryo-clause-dealt g c =
    let D = g.D.Dir in
    let old = D.shown c.args.dir.now in
    let new = D.shown c.deal_embryo.new.dir in
    ok_both (λ deed. D.observed ≡ true → DeedCause c.args.pod area.Embryo deed old.process old.trace new.trace) (λ deed. LetBe D.observed c.args.pod area.Embryo deed old new) (λ deed. D.observed ≡ true → Dealt c.args.times c.args.pod c.args.area deed old.process old.trace new.trace) c.deal_embryo.result
    (λ deed x y t. dealt_at c.args.times c.args.pod area.Embryo c.args.area (sym c.in-Embryo.is) deed (x t) (y t) (λ is. let e : area.Embryo ≡ area.Prepared = is in cc) (λ is. let e : area.Embryo ≡ area.ExitedGarbage = is in cc) (λ is. let e : area.Embryo ≡ area.Run = is in cc)) c.deal_embryo.ensures.deed c.deal_embryo.ensures.left_untouched

pub returns-in-Embryo-clause-by_other_process : goal.returns-in-Embryo-clause-by_other_process
returns-in-Embryo-clause-by_other_process g c =
    let D = g.D.Dir in
    let old = D.shown c.args.dir.now in
    let new = D.shown c.deal_embryo.new.dir in
    ok_both (λ deed. (which : Which) → refused_lock deed ≡ Some which → ⊥) (λ deed. D.observed ≡ true → DeedCause c.args.pod area.Embryo deed old.process old.trace new.trace) (λ deed. LeavesIfObserved D.observed (MayPassPods c.args.area c.args.times.now c.args.times.expire) c.args.pod c.args.area deed old new) c.deal_embryo.result
    (λ deed calm cause t s k m. subst (λ (a : Area). LeavesToAnother c.args.pod a deed old new) (sym c.in-Embryo.is) (embryo_left calm (cause t))) c.deal_embryo.ensures.never_busy c.deal_embryo.ensures.deed

pub returns-in-Embryo-clause-ready : goal.returns-in-Embryo-clause-ready
returns-in-Embryo-clause-ready g c t s k m = c.deal_embryo.ensures.ready t c.args.times.now s k (may_embryo c.in-Embryo.is m)

pub returns-in-Prepare-clause-dealt : goal.returns-in-Prepare-clause-dealt
returns-in-Prepare-clause-dealt g c =
    let D = g.D.Dir in
    let old = D.shown c.args.dir.now in
    let new = D.shown c.deal_dead.new.dir in
    let apart = λ (other : Area) (lives : may_lie_dead other ≡ false). dead_apart c.args.area other (dead_by c.args.area c.in-Prepare.is) lives in
    ok_three (λ deed. D.observed ≡ true → DeedCause c.args.pod c.args.area deed old.process old.trace new.trace) (λ deed. LetBe D.observed c.args.pod c.args.area deed old new) (λ deed. c.args.area ≡ area.Run → D.observed ≡ true → MarksFirst c.args.pod c.args.times.now deed old new) (λ deed. D.observed ≡ true → Dealt c.args.times c.args.pod c.args.area deed old.process old.trace new.trace) c.deal_dead.result
    (λ deed x y z t. record { cause = x t; let_be = y t; waited = λ is. absurd (apart area.Prepared refl is); rested = λ is. absurd (apart area.ExitedGarbage refl is); marked = λ is. z is t }) c.deal_dead.ensures.deed c.deal_dead.ensures.left_untouched c.deal_dead.ensures.marked

pub returns-in-Prepare-clause-by_other_process : goal.returns-in-Prepare-clause-by_other_process
returns-in-Prepare-clause-by_other_process g c =
    let D = g.D.Dir in
    let old = D.shown c.args.dir.now in
    let new = D.shown c.deal_dead.new.dir in
    if_ok (λ deed. LeavesIfObserved D.observed (MayRemove c.args.times.now) c.args.pod c.args.area deed old new) (λ deed. LeavesIfObserved D.observed (MayPassPods c.args.area c.args.times.now c.args.times.expire) c.args.pod c.args.area deed old new) c.deal_dead.result
    (λ deed x t s k m. x t s k m.sweeps.may) c.deal_dead.ensures.by_other_process

pub returns-in-Prepare-clause-ready : goal.returns-in-Prepare-clause-ready
returns-in-Prepare-clause-ready g c t s k m = c.deal_dead.ensures.ready t s k m.sweeps.may

pub returns-in-Prepared-clause-worked : goal.returns-in-Prepared-clause-worked
returns-in-Prepared-clause-worked g c =
    let D = g.D.Dir in
    subst (λ (a : Area). OnlyAsks D.observed (deals_with_pod c.args.pod c.args.times.now a) (D.shown c.args.dir.now) (D.shown c.deal_prepared.new.dir)) (sym c.in-Prepared.is) c.deal_prepared.ensures.worked

pub returns-in-Prepared-clause-dealt : goal.returns-in-Prepared-clause-dealt
returns-in-Prepared-clause-dealt g c =
    let D = g.D.Dir in
    let old = D.shown c.args.dir.now in
    let new = D.shown c.deal_prepared.new.dir in
    ok_three (λ deed. D.observed ≡ true → DeedCause c.args.pod area.Prepared deed old.process old.trace new.trace) (λ deed. LetBe D.observed c.args.pod area.Prepared deed old new) (λ deed. D.observed ≡ true → WaitedByAge c.args.times c.args.pod deed old.process old.trace new.trace) (λ deed. D.observed ≡ true → Dealt c.args.times c.args.pod c.args.area deed old.process old.trace new.trace) c.deal_prepared.result
    (λ deed x y z t. dealt_at c.args.times c.args.pod area.Prepared c.args.area (sym c.in-Prepared.is) deed (x t) (y t) (λ is. z t) (λ is. let e : area.Prepared ≡ area.ExitedGarbage = is in cc) (λ is. let e : area.Prepared ≡ area.Run = is in cc)) c.deal_prepared.ensures.deed c.deal_prepared.ensures.left_untouched c.deal_prepared.ensures.aged

pub returns-in-Prepared-clause-by_other_process : goal.returns-in-Prepared-clause-by_other_process
returns-in-Prepared-clause-by_other_process g c =
    let D = g.D.Dir in
    let old = D.shown c.args.dir.now in
    let new = D.shown c.deal_prepared.new.dir in
    if_ok (λ deed. LeavesIfObserved D.observed (MaySweepPods c.args.times.now c.args.times.expire) c.args.pod area.Prepared deed old new) (λ deed. LeavesIfObserved D.observed (MayPassPods c.args.area c.args.times.now c.args.times.expire) c.args.pod c.args.area deed old new) c.deal_prepared.result
    (λ deed x t s k m. subst (λ (a : Area). LeavesToAnother c.args.pod a deed old new) (sym c.in-Prepared.is) (x t s k m.sweeps)) c.deal_prepared.ensures.by_other_process

pub returns-in-Prepared-clause-ready : goal.returns-in-Prepared-clause-ready
returns-in-Prepared-clause-ready g c t s k m = c.deal_prepared.ensures.ready t s k m.sweeps

pub returns-in-ExitedGarbage-clause-worked : goal.returns-in-ExitedGarbage-clause-worked
returns-in-ExitedGarbage-clause-worked g c =
    let D = g.D.Dir in
    subst (λ (a : Area). OnlyAsks D.observed (deals_with_pod c.args.pod c.args.times.now a) (D.shown c.args.dir.now) (D.shown c.deal_exited_garbage.new.dir)) (sym c.in-ExitedGarbage.is) c.deal_exited_garbage.ensures.worked

pub returns-in-ExitedGarbage-clause-dealt : goal.returns-in-ExitedGarbage-clause-dealt
returns-in-ExitedGarbage-clause-dealt g c =
    let D = g.D.Dir in
    let old = D.shown c.args.dir.now in
    let new = D.shown c.deal_exited_garbage.new.dir in
    ok_three (λ deed. D.observed ≡ true → DeedCause c.args.pod area.ExitedGarbage deed old.process old.trace new.trace) (λ deed. LetBe D.observed c.args.pod area.ExitedGarbage deed old new) (λ deed. D.observed ≡ true → RestedByAge c.args.times c.args.pod deed old.process old.trace new.trace) (λ deed. D.observed ≡ true → Dealt c.args.times c.args.pod c.args.area deed old.process old.trace new.trace) c.deal_exited_garbage.result
    (λ deed x y z t. dealt_at c.args.times c.args.pod area.ExitedGarbage c.args.area (sym c.in-ExitedGarbage.is) deed (x t) (y t) (λ is. let e : area.ExitedGarbage ≡ area.Prepared = is in cc) (λ is. z t) (λ is. let e : area.ExitedGarbage ≡ area.Run = is in cc)) c.deal_exited_garbage.ensures.deed c.deal_exited_garbage.ensures.left_untouched c.deal_exited_garbage.ensures.aged

pub returns-in-ExitedGarbage-clause-by_other_process : goal.returns-in-ExitedGarbage-clause-by_other_process
returns-in-ExitedGarbage-clause-by_other_process g c =
    let D = g.D.Dir in
    let old = D.shown c.args.dir.now in
    let new = D.shown c.deal_exited_garbage.new.dir in
    if_ok (λ deed. LeavesIfObserved D.observed (MayRemove c.args.times.now) c.args.pod area.ExitedGarbage deed old new) (λ deed. LeavesIfObserved D.observed (MayPassPods c.args.area c.args.times.now c.args.times.expire) c.args.pod c.args.area deed old new) c.deal_exited_garbage.result
    (λ deed x t s k m. subst (λ (a : Area). LeavesToAnother c.args.pod a deed old new) (sym c.in-ExitedGarbage.is) (x t s k m.sweeps.may)) c.deal_exited_garbage.ensures.by_other_process

pub returns-in-ExitedGarbage-clause-ready : goal.returns-in-ExitedGarbage-clause-ready
returns-in-ExitedGarbage-clause-ready g c t s k m = c.deal_exited_garbage.ensures.ready t s k m.sweeps.may

pub returns-in-Garbage-clause-worked : goal.returns-in-Garbage-clause-worked
returns-in-Garbage-clause-worked g c =
    let D = g.D.Dir in
    subst (λ (a : Area). OnlyAsks D.observed (deals_with_pod c.args.pod c.args.times.now a) (D.shown c.args.dir.now) (D.shown c.deal_garbage.new.dir)) (sym c.in-Garbage.is) c.deal_garbage.ensures.worked

pub returns-in-Garbage-clause-dealt : goal.returns-in-Garbage-clause-dealt
returns-in-Garbage-clause-dealt g c =
    let D = g.D.Dir in
    let old = D.shown c.args.dir.now in
    let new = D.shown c.deal_garbage.new.dir in
    ok_both (λ deed. D.observed ≡ true → DeedCause c.args.pod area.Garbage deed old.process old.trace new.trace) (λ deed. LetBe D.observed c.args.pod area.Garbage deed old new) (λ deed. D.observed ≡ true → Dealt c.args.times c.args.pod c.args.area deed old.process old.trace new.trace) c.deal_garbage.result
    (λ deed x y t. dealt_at c.args.times c.args.pod area.Garbage c.args.area (sym c.in-Garbage.is) deed (x t) (y t) (λ is. let e : area.Garbage ≡ area.Prepared = is in cc) (λ is. let e : area.Garbage ≡ area.ExitedGarbage = is in cc) (λ is. let e : area.Garbage ≡ area.Run = is in cc)) c.deal_garbage.ensures.deed c.deal_garbage.ensures.left_untouched

pub returns-in-Garbage-clause-by_other_process : goal.returns-in-Garbage-clause-by_other_process
returns-in-Garbage-clause-by_other_process g c =
    let D = g.D.Dir in
    let old = D.shown c.args.dir.now in
    let new = D.shown c.deal_garbage.new.dir in
    if_ok (λ deed. LeavesIfObserved D.observed (MayRemove c.args.times.now) c.args.pod area.Garbage deed old new) (λ deed. LeavesIfObserved D.observed (MayPassPods c.args.area c.args.times.now c.args.times.expire) c.args.pod c.args.area deed old new) c.deal_garbage.result
    (λ deed x t s k m. subst (λ (a : Area). LeavesToAnother c.args.pod a deed old new) (sym c.in-Garbage.is) (x t s k m.sweeps.may)) c.deal_garbage.ensures.by_other_process

pub returns-in-Garbage-clause-ready : goal.returns-in-Garbage-clause-ready
returns-in-Garbage-clause-ready g c t s k m = c.deal_garbage.ensures.ready t s k m.sweeps.may

pub returns-in-Embryo-clause-lawful : goal.returns-in-Embryo-clause-lawful
returns-in-Embryo-clause-lawful g c =
    let D = g.D.Dir in
    let old = D.shown c.args.dir.now in
    let new = D.shown c.deal_embryo.new.dir in
    if_err (λ e. GcNeverStray D.observed e new) (λ e. GcStrayByApp D.observed e (MayPassPods c.args.area c.args.times.now c.args.times.expire) old new) c.deal_embryo.result (λ e never is t s k m conforming. absurd (never is t conforming)) c.deal_embryo.ensures.lawful

pub returns-in-Prepare-clause-lawful : goal.returns-in-Prepare-clause-lawful
returns-in-Prepare-clause-lawful g c =
    let D = g.D.Dir in
    let old = D.shown c.args.dir.now in
    let new = D.shown c.deal_dead.new.dir in
    if_err (λ e. GcNeverStray D.observed e new) (λ e. GcStrayByApp D.observed e (MayPassPods c.args.area c.args.times.now c.args.times.expire) old new) c.deal_dead.result (λ e never is t s k m conforming. absurd (never is t conforming)) c.deal_dead.ensures.lawful

pub returns-in-Prepared-clause-lawful : goal.returns-in-Prepared-clause-lawful
returns-in-Prepared-clause-lawful g c =
    let D = g.D.Dir in
    let old = D.shown c.args.dir.now in
    let new = D.shown c.deal_prepared.new.dir in
    if_err (λ e. GcNeverStray D.observed e new) (λ e. GcStrayByApp D.observed e (MayPassPods c.args.area c.args.times.now c.args.times.expire) old new) c.deal_prepared.result (λ e never is t s k m conforming. absurd (never is t conforming)) c.deal_prepared.ensures.lawful

pub returns-in-ExitedGarbage-clause-lawful : goal.returns-in-ExitedGarbage-clause-lawful
returns-in-ExitedGarbage-clause-lawful g c =
    let D = g.D.Dir in
    let old = D.shown c.args.dir.now in
    let new = D.shown c.deal_exited_garbage.new.dir in
    if_err (λ e. GcStrayByApp D.observed e (MayRemove c.args.times.now) old new) (λ e. GcStrayByApp D.observed e (MayPassPods c.args.area c.args.times.now c.args.times.expire) old new) c.deal_exited_garbage.result (λ e x is t s k m conforming. x is t s k m.sweeps.may conforming) c.deal_exited_garbage.ensures.lawful

pub returns-in-Garbage-clause-lawful : goal.returns-in-Garbage-clause-lawful
returns-in-Garbage-clause-lawful g c =
    let D = g.D.Dir in
    let old = D.shown c.args.dir.now in
    let new = D.shown c.deal_garbage.new.dir in
    if_err (λ e. GcStrayByApp D.observed e (MayRemove c.args.times.now) old new) (λ e. GcStrayByApp D.observed e (MayPassPods c.args.area c.args.times.now c.args.times.expire) old new) c.deal_garbage.result (λ e x is t s k m conforming. x is t s k m.sweeps.may conforming) c.deal_garbage.ensures.lawful
