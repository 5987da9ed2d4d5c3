use Rattle.std.proofs.Common.{◌≡◌, sym, ◌∙◌, arith, ℕ}
use Rattle.plain_laws.proofs.Results.{if_ok, ok_both, if_err}
use Rattle.dir_model.specs.declared.area.Area.TheVariants as area
use Rattle.dir_model.specs.declared.area.Phase.{Phase}
use Rattle.dir_model.specs.declared.spot.Which.{Which}
use Rattle.folder_building.proofs.Working.{worked_wider}
use Rattle.pod_gc.specs.RemovalHolding.{MayRemove}
use Rattle.pod_gc.specs.declared.line.Deed.TheVariants.{Kept, Busy}
use Rattle.pod_gc.specs.Ages.{is_young}
use Rattle.pod_gc.specs.Deeds.{DoesNothing, RestsBy, LetBe, LeavesIfObserved}
use Rattle.pod_gc.proofs.Steps.{looks_deal, rests_young, rests_over}
use Rattle.pod_gc.proofs.Untouched.{let_looked}
use Rattle.pod_gc.specs.declared.gc_error.GcError.TheVariants as fault
use Rattle.pod_gc.specs.Causes.{GcStrayByApp}
use Rattle.pod_gc.proofs.deals.deal_rested.Goals as goal

pub returns-then-is_young-clause-worked : goal.returns-then-is_young-clause-worked
returns-then-is_young-clause-worked g c = worked_wider (looks_deal c.args.pod c.args.times.now area.ExitedGarbage (omega arith)) c.kept_exited.ensures.worked

pub returns-then-is_young-clause-aged : goal.returns-then-is_young-clause-aged
returns-then-is_young-clause-aged g c =
    ok_both (λ deed. DoesNothing deed) (λ deed. (which : Which) → deed ≡ Busy which → ⊥) (λ deed. RestsBy (is_young c.args.times.now c.args.times.grace c.args.marked) deed) c.kept_exited.result
    (λ deed nothing calm. rests_young deed (sym c.is_young.ensures ∙ c.if-is_young.true) nothing calm) c.kept_exited.ensures.rests c.kept_exited.ensures.never_busy

pub returns-then-is_young-clause-by_other_process : goal.returns-then-is_young-clause-by_other_process
returns-then-is_young-clause-by_other_process g c =
    let D = g.D.Dir in
    let old = D.shown c.args.dir.now in
    let new = D.shown c.kept_exited.new.dir in
    if_ok (λ deed. (now : ℕ) → LeavesIfObserved D.observed (MayRemove now) c.args.pod area.ExitedGarbage deed old new) (λ deed. LeavesIfObserved D.observed (MayRemove c.args.times.now) c.args.pod area.ExitedGarbage deed old new) c.kept_exited.result
    (λ deed x. x c.args.times.now) c.kept_exited.ensures.by_other_process

pub returns-then-is_young-clause-ready : goal.returns-then-is_young-clause-ready
returns-then-is_young-clause-ready g c t = c.kept_exited.ensures.ready t c.args.times.now

pub returns-else-is_young-clause-aged : goal.returns-else-is_young-clause-aged
returns-else-is_young-clause-aged g c =
    if_ok (λ deed. (p : Phase) → deed ≡ Kept p → ⊥) (λ deed. RestsBy (is_young c.args.times.now c.args.times.grace c.args.marked) deed) c.deal_garbage.result
    (λ deed ends. rests_over deed (sym c.is_young.ensures ∙ c.if-is_young.false) ends) c.deal_garbage.ensures.ends

pub returns-then-is_young-clause-left_untouched : goal.returns-then-is_young-clause-left_untouched
returns-then-is_young-clause-left_untouched g c =
    let D = g.D.Dir in
    let old = D.shown c.args.dir.now in
    let new = D.shown c.kept_exited.new.dir in
    if_ok (λ deed. (which : Which) → deed ≡ Busy which → ⊥) (λ deed. LetBe D.observed c.args.pod area.ExitedGarbage deed old new) c.kept_exited.result
    (λ deed calm t. let_looked (c.kept_exited.ensures.worked.extends t) calm) c.kept_exited.ensures.never_busy

pub returns-then-is_young-clause-lawful : goal.returns-then-is_young-clause-lawful
returns-then-is_young-clause-lawful g c =
    let D = g.D.Dir in
    if_err (λ e. e ≡ fault.Stray → ⊥) (λ e. GcStrayByApp D.observed e (MayRemove c.args.times.now) (D.shown c.args.dir.now) (D.shown c.kept_exited.new.dir)) c.kept_exited.result (λ e never is. absurd (never is)) c.kept_exited.ensures.never
