use Rattle.std.proofs.Common.{◌≡◌, ◌⊎◌, rules, ℕ, true, codes, Option, Ok, IfSome, refl, ap, subst, ◌∙◌, inl}
use Rattle.plain_laws.proofs.Results.{if_ok, if_err, err_same}
use Rattle.dir_model.specs.declared.area.Area.TheVariants as area
use Rattle.dir_model.specs.declared.area.Phase.TheVariants as phase
use Rattle.dir_model.specs.State.{stands}
use Rattle.dir_trait.specs.DirCalls.{HeldBetween}
use Rattle.dir_trait.specs.Effects.{Given}
use Rattle.folder_building.proofs.Working.{worked_more, worked_wider}
use Rattle.dir_model.specs.Spots.{pod_spot}
use Rattle.pod_locks.proofs.Calls.{follows_work}
use Rattle.pod_gc.specs.RemovalHolding.{MayRemove}
use Rattle.pod_gc.specs.declared.line.Deed.TheVariants.{Kept}
use Rattle.pod_gc.specs.Causes.{GcCause}
use Rattle.pod_gc.specs.Ages.{Showed, is_ripe}
use Rattle.pod_gc.specs.Deeds.{DeedCause, WaitsBy, WaitedByAge, LetBe, LeavesIfObserved}
use Rattle.pod_gc.specs.Sweeping.{MaySweepPods, NotesMark, Ripens}
use Rattle.pod_gc.proofs.Steps.{lists_deal, removes_deal, cause_after, gone_deed, left_gone}
use Rattle.pod_gc.proofs.Waiting.{gone_waiting, waited_so, waited_deed, ready_waited, busy_waited}
use Rattle.pod_gc.proofs.Untouched.{let_left, took_lists, let_listed}
use Rattle.pod_gc.specs.declared.gc_error.GcError.TheVariants as fault
use Rattle.pod_gc.specs.Causes.{GcNeverStray}
use Rattle.pod_gc.proofs.deals.deal_prepared.Goals as goal

pub returns-in_err-created-clause-worked : goal.returns-in_err-created-clause-worked
returns-in_err-created-clause-worked g c = worked_wider (lists_deal c.args.pod c.args.times.now area.Prepared) c.marked_at.ensures.worked

pub returns-in_err-created-clause-cause : goal.returns-in_err-created-clause-cause
returns-in_err-created-clause-cause g c =
    let D = g.D.Dir in
    err_same (λ e. GcCause D.observed e (D.shown c.args.dir.now) (D.shown c.marked_at.new.dir)) c.marked_at.result c.from_residual.result
    (λ e h. search (rules, h, c.from_residual.ensures, c.in_err-created.is)) c.marked_at.ensures.cause

pub returns-in_err-created-clause-ready : goal.returns-in_err-created-clause-ready
returns-in_err-created-clause-ready g c t s k m = c.marked_at.ensures.ready t c.args.times.now s k m.may

pub returns-in-Some-clause-worked : goal.returns-in-Some-clause-worked
returns-in-Some-clause-worked g c =
    worked_more (worked_wider (lists_deal c.args.pod c.args.times.now area.Prepared) c.marked_at.ensures.worked) (worked_wider (removes_deal c.args.pod c.args.times.now area.Prepared) c.deal_waiting.ensures.worked)

pub returns-in-Some-clause-cause : goal.returns-in-Some-clause-cause
returns-in-Some-clause-cause g c =
    let D = g.D.Dir in
    let old = D.shown c.args.dir.now in
    let mid = D.shown c.marked_at.new.dir in
    let new = D.shown c.deal_waiting.new.dir in
    if_err (λ e. GcCause D.observed e mid new) (λ e. GcCause D.observed e old new) c.deal_waiting.result (λ e x. cause_after (follows_work c.marked_at.ensures.worked) x) c.deal_waiting.ensures.cause

pub returns-in-Some-clause-deed : goal.returns-in-Some-clause-deed
returns-in-Some-clause-deed g c =
    let D = g.D.Dir in
    let old = D.shown c.args.dir.now in
    let mid = D.shown c.marked_at.new.dir in
    let new = D.shown c.deal_waiting.new.dir in
    let there = subst (λ (o : Option (Option ℕ)). IfSome o (λ moment. D.observed ≡ true → HeldBetween old mid (λ s. stands s.namespace (pod_spot c.args.pod area.Prepared) ≡ true))) c.in-Some.is c.in_ok-created.ensures.there in
    if_ok (λ deed. (deed ≡ Kept phase.Prepared) ⊎ (D.observed ≡ true → DeedCause c.args.pod area.Prepared deed mid.process mid.trace new.trace)) (λ deed. D.observed ≡ true → DeedCause c.args.pod area.Prepared deed old.process old.trace new.trace) c.deal_waiting.result
    (λ deed x t. waited_deed c.args.pod old new deed t (follows_work c.marked_at.ensures.worked) (follows_work c.deal_waiting.ensures.worked) (there t) x) c.deal_waiting.ensures.deed

pub returns-in-Some-clause-aged : goal.returns-in-Some-clause-aged
returns-in-Some-clause-aged g c =
    let D = g.D.Dir in
    let old = D.shown c.args.dir.now in
    let mid = D.shown c.marked_at.new.dir in
    let new = D.shown c.deal_waiting.new.dir in
    let shows = subst (λ (o : Option (Option ℕ)). IfSome o (λ moment. D.observed ≡ true → Showed c.args.pod area.Prepared (codes "created-") moment old.process old.trace mid.trace)) c.in-Some.is c.in_ok-created.ensures.shown in
    if_ok (λ deed. WaitsBy (is_ripe c.args.times.now c.args.times.expire c.in-Some.created) deed) (λ deed. D.observed ≡ true → WaitedByAge c.args.times c.args.pod deed old.process old.trace new.trace) c.deal_waiting.result
    (λ deed x t. waited_so c.args.times c.args.pod old c.in-Some.created deed t (follows_work c.deal_waiting.ensures.worked) (shows t) x) c.deal_waiting.ensures.aged

pub returns-in-Some-clause-by_other_process : goal.returns-in-Some-clause-by_other_process
returns-in-Some-clause-by_other_process g c =
    let D = g.D.Dir in
    let old = D.shown c.args.dir.now in
    let mid = D.shown c.marked_at.new.dir in
    let new = D.shown c.deal_waiting.new.dir in
    let notes = subst (λ (o : Option (Option ℕ)). IfSome o (λ moment. D.observed ≡ true → (now : ℕ) → codes "created-" ≡ codes "created-" → Given (MayRemove now) old (λ s. NotesMark c.args.pod moment s mid))) c.in-Some.is c.in_ok-created.ensures.noted in
    if_ok (λ deed. LeavesIfObserved D.observed (Ripens c.args.pod c.in-Some.created c.args.times.now c.args.times.expire) c.args.pod area.Prepared deed mid new) (λ deed. LeavesIfObserved D.observed (MaySweepPods c.args.times.now c.args.times.expire) c.args.pod area.Prepared deed old new) c.deal_waiting.result
    (λ deed x t. busy_waited c.args.pod c.in-Some.created deed new t (follows_work c.marked_at.ensures.worked) (notes t c.args.times.now refl) (x t)) c.deal_waiting.ensures.by_other_process

pub returns-in-Some-clause-ready : goal.returns-in-Some-clause-ready
returns-in-Some-clause-ready g c t =
    let D = g.D.Dir in
    let old = D.shown c.args.dir.now in
    let mid = D.shown c.marked_at.new.dir in
    let notes = subst (λ (o : Option (Option ℕ)). IfSome o (λ moment. D.observed ≡ true → (now : ℕ) → codes "created-" ≡ codes "created-" → Given (MayRemove now) old (λ s. NotesMark c.args.pod moment s mid))) c.in-Some.is c.in_ok-created.ensures.noted in
    ready_waited c.args.pod c.in-Some.created (notes t c.args.times.now refl) (c.deal_waiting.ensures.ready t)

pub returns-in-None-clause-worked : goal.returns-in-None-clause-worked
returns-in-None-clause-worked g c = worked_wider (lists_deal c.args.pod c.args.times.now area.Prepared) c.marked_at.ensures.worked

pub returns-in-None-clause-deed : goal.returns-in-None-clause-deed
returns-in-None-clause-deed g c = gone_deed (g.D.Dir.shown c.args.dir.now) (g.D.Dir.shown c.marked_at.new.dir) area.Prepared (gone_waiting c.args.pod) (λ t. c.marked_at.ensures.absent (c.in_ok-created.was ∙ ap Ok c.in-None.is) t)

pub returns-in-None-clause-aged : goal.returns-in-None-clause-aged
returns-in-None-clause-aged g c t = record { waits = λ p is. cc; ripe = λ is. cc; left = λ is. inl (c.marked_at.ensures.absent (c.in_ok-created.was ∙ ap Ok c.in-None.is) t) }

pub returns-in-None-clause-by_other_process : goal.returns-in-None-clause-by_other_process
returns-in-None-clause-by_other_process g c t s k m = left_gone

pub returns-in-None-clause-ready : goal.returns-in-None-clause-ready
returns-in-None-clause-ready g c t s k m = c.marked_at.ensures.ready t c.args.times.now s k m.may

pub returns-in-Some-clause-left_untouched : goal.returns-in-Some-clause-left_untouched
returns-in-Some-clause-left_untouched g c =
    let D = g.D.Dir in
    let old = D.shown c.args.dir.now in
    let mid = D.shown c.marked_at.new.dir in
    let new = D.shown c.deal_waiting.new.dir in
    if_ok (λ deed. LetBe D.observed c.args.pod area.Prepared deed mid new) (λ deed. LetBe D.observed c.args.pod area.Prepared deed old new) c.deal_waiting.result
    (λ deed x t. let_listed (c.marked_at.ensures.worked.extends t) c.marked_at.ensures.worked.same (x t)) c.deal_waiting.ensures.left_untouched

pub returns-in-None-clause-left_untouched : goal.returns-in-None-clause-left_untouched
returns-in-None-clause-left_untouched g c t = let_left (took_lists c.args.pod area.Prepared (c.marked_at.ensures.worked.extends t))

pub returns-in_err-created-clause-lawful : goal.returns-in_err-created-clause-lawful
returns-in_err-created-clause-lawful g c =
    let D = g.D.Dir in
    let new = D.shown c.marked_at.new.dir in
    err_same (λ e. GcNeverStray D.observed e new) c.marked_at.result c.from_residual.result (λ e h. search (rules, h, c.from_residual.ensures, c.in_err-created.is))
    (if_err (λ e. e ≡ fault.Stray → ⊥) (λ e. GcNeverStray D.observed e new) c.marked_at.result (λ e never is. absurd (never is)) c.marked_at.ensures.never)
