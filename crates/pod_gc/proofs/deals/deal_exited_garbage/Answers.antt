use Rattle.std.proofs.Common.{◌≡◌, rules, ℕ, true, codes, Option, Ok, IfSome, ap, subst, ◌∙◌}
use Rattle.plain_laws.proofs.Results.{if_ok, if_err, err_same}
use Rattle.dir_model.specs.declared.area.Area.TheVariants as area
use Rattle.folder_building.proofs.Working.{worked_more, worked_wider}
use Rattle.pod_locks.proofs.Calls.{follows_work}
use Rattle.pod_gc.specs.RemovalHolding.{MayRemove}
use Rattle.pod_gc.specs.Causes.{GcCause}
use Rattle.pod_gc.specs.Ages.{Showed, is_young}
use Rattle.pod_gc.specs.Deeds.{DeedCause, RestsBy, RestedByAge, LetBe, LeavesIfObserved}
use Rattle.pod_gc.proofs.Steps.{lists_deal, cause_after, rested_so, deed_later, busy_later, ready_later, gone_deed, left_gone}
use Rattle.pod_gc.proofs.Untouched.{let_left, took_lists, let_listed}
use Rattle.pod_gc.specs.declared.gc_error.GcError.TheVariants as fault
use Rattle.pod_gc.specs.Causes.{GcStrayByApp}
use Rattle.pod_gc.proofs.Rounds.{may_kept}
use Rattle.pod_gc.proofs.Lawful.{by_app_later}
use Rattle.pod_gc.proofs.deals.deal_exited_garbage.Goals as goal

pub returns-in_err-marked-clause-worked : goal.returns-in_err-marked-clause-worked
returns-in_err-marked-clause-worked g c = worked_wider (lists_deal c.args.pod c.args.times.now area.ExitedGarbage) c.marked_at.ensures.worked

pub returns-in_err-marked-clause-cause : goal.returns-in_err-marked-clause-cause
returns-in_err-marked-clause-cause g c =
    let D = g.D.Dir in
    err_same (λ e. GcCause D.observed e (D.shown c.args.dir.now) (D.shown c.marked_at.new.dir)) c.marked_at.result c.from_residual.result
    (λ e h. search (rules, h, c.from_residual.ensures, c.in_err-marked.is)) c.marked_at.ensures.cause

pub returns-in_err-marked-clause-ready : goal.returns-in_err-marked-clause-ready
returns-in_err-marked-clause-ready g c t = c.marked_at.ensures.ready t c.args.times.now

pub returns-in-Some-clause-worked : goal.returns-in-Some-clause-worked
returns-in-Some-clause-worked g c = worked_more (worked_wider (lists_deal c.args.pod c.args.times.now area.ExitedGarbage) c.marked_at.ensures.worked) c.deal_rested.ensures.worked

pub returns-in-Some-clause-cause : goal.returns-in-Some-clause-cause
returns-in-Some-clause-cause g c =
    let D = g.D.Dir in
    let old = D.shown c.args.dir.now in
    let mid = D.shown c.marked_at.new.dir in
    let new = D.shown c.deal_rested.new.dir in
    if_err (λ e. GcCause D.observed e mid new) (λ e. GcCause D.observed e old new) c.deal_rested.result (λ e x. cause_after (follows_work c.marked_at.ensures.worked) x) c.deal_rested.ensures.cause

pub returns-in-Some-clause-deed : goal.returns-in-Some-clause-deed
returns-in-Some-clause-deed g c =
    let D = g.D.Dir in
    let old = D.shown c.args.dir.now in
    let mid = D.shown c.marked_at.new.dir in
    let new = D.shown c.deal_rested.new.dir in
    if_ok (λ deed. D.observed ≡ true → DeedCause c.args.pod area.ExitedGarbage deed mid.process mid.trace new.trace) (λ deed. D.observed ≡ true → DeedCause c.args.pod area.ExitedGarbage deed old.process old.trace new.trace) c.deal_rested.result
    (λ deed x t. deed_later new t (follows_work c.marked_at.ensures.worked) (x t)) c.deal_rested.ensures.deed

pub returns-in-Some-clause-aged : goal.returns-in-Some-clause-aged
returns-in-Some-clause-aged g c =
    let D = g.D.Dir in
    let old = D.shown c.args.dir.now in
    let mid = D.shown c.marked_at.new.dir in
    let new = D.shown c.deal_rested.new.dir in
    let shows = subst (λ (o : Option (Option ℕ)). IfSome o (λ moment. D.observed ≡ true → Showed c.args.pod area.ExitedGarbage (codes "marked-") moment old.process old.trace mid.trace)) c.in-Some.is c.in_ok-marked.ensures.shown in
    if_ok (λ deed. RestsBy (is_young c.args.times.now c.args.times.grace c.in-Some.marked) deed) (λ deed. D.observed ≡ true → RestedByAge c.args.times c.args.pod deed old.process old.trace new.trace) c.deal_rested.result
    (λ deed x t. rested_so c.args.times c.args.pod old c.in-Some.marked deed t (follows_work c.deal_rested.ensures.worked) (shows t) x) c.deal_rested.ensures.aged

pub returns-in-Some-clause-by_other_process : goal.returns-in-Some-clause-by_other_process
returns-in-Some-clause-by_other_process g c =
    let D = g.D.Dir in
    let old = D.shown c.args.dir.now in
    let mid = D.shown c.marked_at.new.dir in
    let new = D.shown c.deal_rested.new.dir in
    if_ok (λ deed. LeavesIfObserved D.observed (MayRemove c.args.times.now) c.args.pod area.ExitedGarbage deed mid new) (λ deed. LeavesIfObserved D.observed (MayRemove c.args.times.now) c.args.pod area.ExitedGarbage deed old new) c.deal_rested.result
    (λ deed x t. busy_later deed new t (follows_work c.marked_at.ensures.worked) (c.marked_at.ensures.ready t c.args.times.now) (x t)) c.deal_rested.ensures.by_other_process

pub returns-in-Some-clause-ready : goal.returns-in-Some-clause-ready
returns-in-Some-clause-ready g c t = ready_later (c.marked_at.ensures.ready t c.args.times.now) (c.deal_rested.ensures.ready t)

pub returns-in-None-clause-worked : goal.returns-in-None-clause-worked
returns-in-None-clause-worked g c = worked_wider (lists_deal c.args.pod c.args.times.now area.ExitedGarbage) c.marked_at.ensures.worked

pub returns-in-None-clause-deed : goal.returns-in-None-clause-deed
returns-in-None-clause-deed g c = gone_deed (g.D.Dir.shown c.args.dir.now) (g.D.Dir.shown c.marked_at.new.dir) area.ExitedGarbage (λ s h. h) (λ t. c.marked_at.ensures.absent (c.in_ok-marked.was ∙ ap Ok c.in-None.is) t)

pub returns-in-None-clause-aged : goal.returns-in-None-clause-aged
returns-in-None-clause-aged g c t = record { rests = λ p is. cc; over = λ is. cc }

pub returns-in-None-clause-by_other_process : goal.returns-in-None-clause-by_other_process
returns-in-None-clause-by_other_process g c t s k m = left_gone

pub returns-in-None-clause-ready : goal.returns-in-None-clause-ready
returns-in-None-clause-ready g c t = c.marked_at.ensures.ready t c.args.times.now

pub returns-in-Some-clause-left_untouched : goal.returns-in-Some-clause-left_untouched
returns-in-Some-clause-left_untouched g c =
    let D = g.D.Dir in
    let old = D.shown c.args.dir.now in
    let mid = D.shown c.marked_at.new.dir in
    let new = D.shown c.deal_rested.new.dir in
    if_ok (λ deed. LetBe D.observed c.args.pod area.ExitedGarbage deed mid new) (λ deed. LetBe D.observed c.args.pod area.ExitedGarbage deed old new) c.deal_rested.result
    (λ deed x t. let_listed (c.marked_at.ensures.worked.extends t) c.marked_at.ensures.worked.same (x t)) c.deal_rested.ensures.left_untouched

pub returns-in-None-clause-left_untouched : goal.returns-in-None-clause-left_untouched
returns-in-None-clause-left_untouched g c t = let_left (took_lists c.args.pod area.ExitedGarbage (c.marked_at.ensures.worked.extends t))

pub returns-in_err-marked-clause-lawful : goal.returns-in_err-marked-clause-lawful
returns-in_err-marked-clause-lawful g c =
    let D = g.D.Dir in
    let old = D.shown c.args.dir.now in
    let new = D.shown c.marked_at.new.dir in
    err_same (λ e. GcStrayByApp D.observed e (MayRemove c.args.times.now) old new) c.marked_at.result c.from_residual.result (λ e h. search (rules, h, c.from_residual.ensures, c.in_err-marked.is))
    (if_err (λ e. e ≡ fault.Stray → ⊥) (λ e. GcStrayByApp D.observed e (MayRemove c.args.times.now) old new) c.marked_at.result (λ e never is. absurd (never is)) c.marked_at.ensures.never)

pub returns-in-Some-clause-lawful : goal.returns-in-Some-clause-lawful
returns-in-Some-clause-lawful g c =
    let D = g.D.Dir in
    let old = D.shown c.args.dir.now in
    let mid = D.shown c.marked_at.new.dir in
    let new = D.shown c.deal_rested.new.dir in
    if_err (λ e. GcStrayByApp D.observed e (MayRemove c.args.times.now) mid new) (λ e. GcStrayByApp D.observed e (MayRemove c.args.times.now) old new) c.deal_rested.result
    (λ e x is. by_app_later new (λ s z. may_kept) (follows_work c.marked_at.ensures.worked) (λ t. c.marked_at.ensures.ready t c.args.times.now) (x is)) c.deal_rested.ensures.lawful
