use Rattle.std.proofs.Common.{◌≡◌, ◌⊎◌, inl, inr, true, Result, IfOk, IfErr, refl, sym, subst, ◌∙◌, false}
use Rattle.plain_laws.proofs.Results.{if_ok, if_err, ok_three, err_all}
use Rattle.dir_model.specs.declared.area.Area.{Area}
use Rattle.dir_model.specs.declared.area.Area.TheVariants as area
use Rattle.dir_model.specs.declared.area.Phase.{Phase}
use Rattle.dir_model.specs.declared.area.Phase.TheVariants as phase
use Rattle.dir_model.specs.declared.request.Request.TheVariants.{MoveFolder}
use Rattle.dir_model.specs.declared.request.Reply.TheVariants.{Done}
use Rattle.folder_building.proofs.Working.{worked_none}
use Rattle.dir_model.specs.Spots.{pod_spot}
use Rattle.pod_locks.specs.Causes.{Did, FreeIfObserved}
use Rattle.pod_locks.specs.Taking.{TakesNothing}
use Rattle.pod_gc.specs.RemovalCauses.{StoppedAlone, BusyInPrepared, MissedUntaken}
use Rattle.pod_gc.specs.RemovalHolding.{MayDiscard}
use Rattle.dir_model.specs.declared.spot.Which.TheVariants.{Own, Claim}
use Rattle.dir_model.specs.declared.spot.Mode.TheVariants.{Exclusive}
use Rattle.pod_gc.specs.declared.gc_error.GcError.{GcError}
use Rattle.pod_gc.specs.declared.line.Deed.{Deed}
use Rattle.pod_gc.specs.declared.line.Deed.TheVariants.{Moved, Kept}
use Rattle.pod_gc.specs.Causes.{GcCause}
use Rattle.pod_gc.specs.Ages.{is_ripe}
use Rattle.pod_gc.specs.Deeds.{DeedCause, WaitsBy, LetBe, LeavesIfObserved}
use Rattle.pod_gc.specs.Sweeping.{Ripens}
use Rattle.pod_gc.proofs.Steps.{SetBackAt, cause_moved, step_deed, step_cause, step_another, step_ends, ClaimsFirst, BusyHere, left_waiting}
use Rattle.pod_gc.proofs.Waiting.{may_ripen, set_alone, waits_kept, waits_over}
use Rattle.pod_locks.specs.declared.setback.Setback.TheVariants as stop
use Rattle.dir_model.specs.declared.spot.Which.{Which}
use Rattle.dir_model.proofs.Chains.{nothing_yet}
use Rattle.dir_trait.specs.DirCalls.{ExtendsBy, LockToldBetween}
use Rattle.dir_trait.specs.Effects.{Given}
use Rattle.pod_gc.specs.RemovalRequests.{puts_aside}
use Rattle.pod_gc.specs.Requests.{puts_aside_only, may_be_busy}
use Rattle.pod_gc.proofs.Untouched.{let_looked, moved_on, step_let_be, owns_elsewhere}
use Rattle.pod_locks.specs.Causes.{BreaksRules}
use Rattle.pod_gc.specs.Causes.{GcNeverStray}
use Rattle.pod_gc.proofs.Lawful.{step_stray}
use Rattle.pod_gc.proofs.deals.deal_waiting.Goals as goal

pub returns-then-is_ripe-clause-cause : goal.returns-then-is_ripe-clause-cause
returns-then-is_ripe-clause-cause g c =
    let D = g.D.Dir in
    let old = D.shown c.args.dir.now in
    let new = D.shown c.discard_prepared-answer.new.dir in
    subst (λ (x : Result Deed GcError). IfErr x (λ e. GcCause D.observed e old new)) (sym c.deed_of.ensures)
    (step_cause D.observed c.args.pod area.Prepared (Moved area.Garbage) old new c.discard_prepared-answer.result
    (if_err (λ e. StoppedAlone D.observed c.args.pod e old new) (λ e. SetBackAt D.observed c.args.pod area.Prepared e old new) c.discard_prepared-answer.result (λ e x. set_alone c.args.pod x) c.discard_prepared-answer.ensures.stopped))

pub returns-then-is_ripe-clause-deed : goal.returns-then-is_ripe-clause-deed
returns-then-is_ripe-clause-deed g c =
    let D = g.D.Dir in
    let old = D.shown c.args.dir.now in
    let new = D.shown c.discard_prepared-answer.new.dir in
    if_ok (λ deed. D.observed ≡ true → DeedCause c.args.pod area.Prepared deed old.process old.trace new.trace) (λ deed. (deed ≡ Kept phase.Prepared) ⊎ (D.observed ≡ true → DeedCause c.args.pod area.Prepared deed old.process old.trace new.trace)) c.deed_of.result (λ deed x. inr x)
    (subst (λ (x : Result Deed GcError). IfOk x (λ deed. D.observed ≡ true → DeedCause c.args.pod area.Prepared deed old.process old.trace new.trace)) (sym c.deed_of.ensures)
    (step_deed D.observed c.args.pod area.Prepared (Moved area.Garbage) old new c.discard_prepared-answer.result
    (ok_three (λ done. D.observed ≡ true → Did (MoveFolder (pod_spot c.args.pod area.Prepared) (pod_spot c.args.pod area.Garbage)) Done old.process old.trace new.trace) (λ done. FreeIfObserved D.observed c.args.pod area.Prepared Claim Exclusive old new)
    (λ done. D.observed ≡ true → LockToldBetween old new (pod_spot c.args.pod area.Prepared) false) (λ done. D.observed ≡ true → DeedCause c.args.pod area.Prepared (Moved area.Garbage) old.process old.trace new.trace) c.discard_prepared-answer.result
    (λ done did claimed free t. cause_moved c.args.pod area.Prepared area.Garbage refl refl (did t) (λ is. claimed t) (λ is. free t)) c.discard_prepared-answer.ensures.done c.discard_prepared-answer.ensures.claimed c.discard_prepared-answer.ensures.free)
    (if_err (λ e. StoppedAlone D.observed c.args.pod e old new) (λ e. SetBackAt D.observed c.args.pod area.Prepared e old new) c.discard_prepared-answer.result (λ e x. set_alone c.args.pod x) c.discard_prepared-answer.ensures.stopped)
    (if_err (λ e. e ≡ stop.Busy Own → FreeIfObserved D.observed c.args.pod area.Prepared Claim Exclusive old new) (λ e. ClaimsFirst D.observed c.args.pod area.Prepared e old new) c.discard_prepared-answer.result (λ e x is here. x is) c.discard_prepared-answer.ensures.under_claim)))

pub returns-then-is_ripe-clause-aged : goal.returns-then-is_ripe-clause-aged
returns-then-is_ripe-clause-aged g c =
    if_ok (λ deed. (p : Phase) → deed ≡ Kept p → ⊥) (λ deed. WaitsBy (is_ripe c.args.times.now c.args.times.expire c.args.created) deed) c.deed_of.result (λ deed ends. waits_over deed (sym c.is_ripe.ensures ∙ c.if-is_ripe.true) ends)
    (subst (λ (x : Result Deed GcError). IfOk x (λ deed. (p : Phase) → deed ≡ Kept p → ⊥)) (sym c.deed_of.ensures) (step_ends (Moved area.Garbage) (λ p is. cc) c.discard_prepared-answer.result))

pub returns-then-is_ripe-clause-by_other_process : goal.returns-then-is_ripe-clause-by_other_process
returns-then-is_ripe-clause-by_other_process g c =
    let D = g.D.Dir in
    let old = D.shown c.args.dir.now in
    let new = D.shown c.discard_prepared-answer.new.dir in
    let May = Ripens c.args.pod c.args.created c.args.times.now c.args.times.expire in
    subst (λ (x : Result Deed GcError). IfOk x (λ deed. LeavesIfObserved D.observed May c.args.pod area.Prepared deed old new)) (sym c.deed_of.ensures)
    (step_another D.observed c.args.pod area.Prepared (Moved area.Garbage) old new May (λ which is. cc) (λ p is. cc) c.discard_prepared-answer.result
    (if_err (λ e. D.observed ≡ true → Given (MayDiscard c.args.pod c.args.times.now) old (λ s. BusyInPrepared c.args.pod e old new)) (λ e. D.observed ≡ true → Given May old (λ s. BusyHere c.args.pod area.Prepared e old new)) c.discard_prepared-answer.result
    (λ e busy t s k m. busy t s k (may_ripen c.args.pod c.args.created c.args.times.now c.args.times.expire (sym c.is_ripe.ensures ∙ c.if-is_ripe.true) m)) c.discard_prepared-answer.ensures.by_other_process))

pub returns-then-is_ripe-clause-ready : goal.returns-then-is_ripe-clause-ready
returns-then-is_ripe-clause-ready g c t s k m = c.discard_prepared-answer.ensures.ready t s k (may_ripen c.args.pod c.args.created c.args.times.now c.args.times.expire (sym c.is_ripe.ensures ∙ c.if-is_ripe.true) m)

pub returns-else-is_ripe-clause-worked : goal.returns-else-is_ripe-clause-worked
returns-else-is_ripe-clause-worked g c = worked_none

pub returns-else-is_ripe-clause-deed : goal.returns-else-is_ripe-clause-deed
returns-else-is_ripe-clause-deed g c = inl refl

pub returns-else-is_ripe-clause-aged : goal.returns-else-is_ripe-clause-aged
returns-else-is_ripe-clause-aged g c = waits_kept (sym c.is_ripe.ensures ∙ c.if-is_ripe.false)

pub returns-else-is_ripe-clause-by_other_process : goal.returns-else-is_ripe-clause-by_other_process
returns-else-is_ripe-clause-by_other_process g c t s k m = left_waiting

pub returns-else-is_ripe-clause-ready : goal.returns-else-is_ripe-clause-ready
returns-else-is_ripe-clause-ready g c t s k m = record { known = s; keeps = record { intent = refl; holdings = refl; kept = refl; bare = m.sweeps.may.bare }; knows = k }

pub returns-then-is_ripe-clause-left_untouched : goal.returns-then-is_ripe-clause-left_untouched
returns-then-is_ripe-clause-left_untouched g c =
    let D = g.D.Dir in
    let old = D.shown c.args.dir.now in
    let new = D.shown c.discard_prepared-answer.new.dir in
    subst (λ (x : Result Deed GcError). IfOk x (λ deed. LetBe D.observed c.args.pod area.Prepared deed old new)) (sym c.deed_of.ensures)
    (step_let_be D.observed c.args.pod area.Prepared (Moved area.Garbage) old new refl (λ is. cc) c.discard_prepared-answer.result c.discard_prepared-answer.ensures.looks
    (err_all (λ e. (which : Which) → e ≡ stop.Busy which → may_be_busy area.Prepared ≡ true) c.discard_prepared-answer.result (λ e which is. refl))
    (owns_elsewhere area.Prepared c.discard_prepared-answer.result refl)
    (if_err (λ e. TakesNothing D.observed old new) (λ e. MissedUntaken D.observed e old new) c.discard_prepared-answer.result (λ e x is. x) c.discard_prepared-answer.ensures.takes_nothing)
    (if_ok (λ done. D.observed ≡ true → ExtendsBy (puts_aside c.args.pod area.Prepared area.Garbage) old new) (λ done. (to : Area) → Moved area.Garbage ≡ Moved to → D.observed ≡ true → ExtendsBy (puts_aside_only c.args.pod area.Prepared to) old new) c.discard_prepared-answer.result
    (λ done x to is t. moved_on c.args.pod area.Prepared area.Garbage (x t) to is) c.discard_prepared-answer.ensures.aside))

pub returns-else-is_ripe-clause-left_untouched : goal.returns-else-is_ripe-clause-left_untouched
returns-else-is_ripe-clause-left_untouched g c t = let_looked nothing_yet (λ which is. cc)

pub returns-then-is_ripe-clause-lawful : goal.returns-then-is_ripe-clause-lawful
returns-then-is_ripe-clause-lawful g c =
    let D = g.D.Dir in
    let new = D.shown c.discard_prepared-answer.new.dir in
    subst (λ (x : Result Deed GcError). IfErr x (λ e. GcNeverStray D.observed e new)) (sym c.deed_of.ensures)
    (step_stray (BreaksRules D.observed new) (Moved area.Garbage) c.discard_prepared-answer.result c.discard_prepared-answer.ensures.lawful)
