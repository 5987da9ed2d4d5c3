use Rattle.std.proofs.Common.{◌≡◌, inr, ℕ, List, true, Ok, Err, sym, ap, subst}
use Rattle.folder_building.proofs.Working.{worked_more, worked_wider}
use Rattle.pod_locks.proofs.Calls.{follows_work}
use Rattle.pod_gc.specs.declared.gc_error.GcError.{GcError}
use Rattle.pod_gc.specs.Causes.{GcCause}
use Rattle.pod_gc.proofs.Steps.{cause_after}
use Rattle.pod_gc.specs.Told.{AddsTold, AddsShown}
use Rattle.pod_gc.proofs.InTurn.{pass_more}
use Rattle.pod_gc.proofs.Asking.{lists_sweep, some_sweep}
use Rattle.pod_gc.proofs.Listing.{ready_area, worked_area, area_cause}
use Rattle.pod_gc.proofs.Telling.{adds_shown}
use Rattle.pod_gc.specs.Ended.{EndsAmongBetween, EndsListingBetween}
use Rattle.pod_gc.proofs.Ending.{ends_listed}
use Rattle.std.proofs.Common.{◌∙◌}
use Rattle.plain_laws.proofs.Results.{if_ok, if_err}
use Rattle.pod_gc.specs.Causes.{GcStrayByApp}
use Rattle.pod_gc.specs.Sweeping.{MayPassPods}
use Rattle.pod_gc.proofs.InTurn.{pass_kept}
use Rattle.pod_gc.proofs.Lawful.{by_app_later, area_never}
use Rattle.pod_gc.proofs.passes.pass_listed.Goals as goal

pub returns-in-Ok-clause-worked : goal.returns-in-Ok-clause-worked
returns-in-Ok-clause-worked g c =
    let now = c.args.times.now in
    let place = c.args.place in
    worked_more (worked_wider (lists_sweep now place c.requires.stage) (worked_area place (Ok c.in-Ok.names) c.in-Ok.ensures.called)) (worked_wider (some_sweep now place c.as_slice.result.now c.requires.stage) c.deal_each.ensures.worked)

pub returns-in-Ok-clause-cause : goal.returns-in-Ok-clause-cause
returns-in-Ok-clause-cause g c =
    let D = g.D.Dir in
    let old = D.shown c.args.dir.now in
    let mid = D.shown c.names_of.new.dir in
    let new = D.shown c.deal_each.new.dir in
    if_err (λ e. GcCause D.observed e mid new) (λ e. GcCause D.observed e old new) c.deal_each.result (λ e x. cause_after (follows_work (worked_area c.args.place (Ok c.in-Ok.names) c.in-Ok.ensures.called)) x) c.deal_each.ensures.cause

pub returns-in-Ok-clause-answer_holds : goal.returns-in-Ok-clause-answer_holds
returns-in-Ok-clause-answer_holds g c =
    let D = g.D.Dir in
    let times = c.args.times in
    let place = c.args.place in
    let names = c.in-Ok.names in
    let old = D.shown c.args.dir.now in
    let mid = D.shown c.names_of.new.dir in
    let new = D.shown c.deal_each.new.dir in
    let before = c.args.lines.now.items in
    let after = c.deal_each.new.lines.items in
    let shown = c.as_slice.result.now in
    if_ok (λ done. D.observed ≡ true → AddsTold times place shown mid new before after) (λ done. D.observed ≡ true → AddsShown times place old new before after) c.deal_each.result
    (λ done told t. adds_shown old mid new times place names before after t c.in-Ok.ensures.called c.in-Ok.ensures.ordered (c.in-Ok.ensures.shows t) (ready_area place (Ok names) c.requires.stage c.in-Ok.ensures.called t)
    (subst (λ (ns : List (List ℕ)). AddsTold times place ns mid new before after) c.as_slice.ensures (told t))) c.deal_each.ensures.answer_holds

pub returns-in-Ok-clause-ready : goal.returns-in-Ok-clause-ready
returns-in-Ok-clause-ready g c t = pass_more (ready_area c.args.place (Ok c.in-Ok.names) c.requires.stage c.in-Ok.ensures.called t) (c.deal_each.ensures.ready t)

pub returns-in-Err-clause-worked : goal.returns-in-Err-clause-worked
returns-in-Err-clause-worked g c = worked_wider (lists_sweep c.args.times.now c.args.place c.requires.stage) (worked_area c.args.place (Err c.in-Err.error) c.in-Err.ensures.called)

pub returns-in-Err-clause-cause : goal.returns-in-Err-clause-cause
returns-in-Err-clause-cause g c =
    let D = g.D.Dir in
    subst (λ (x : GcError). GcCause D.observed x (D.shown c.args.dir.now) (D.shown c.names_of.new.dir)) (sym c.listing_fault.ensures)
    (area_cause c.args.place c.in-Err.error c.in-Err.ensures.refusals (λ is. c.in-Err.ensures.cause (ap Err is)))

pub returns-in-Err-clause-ready : goal.returns-in-Err-clause-ready
returns-in-Err-clause-ready g c t = ready_area c.args.place (Err c.in-Err.error) c.requires.stage c.in-Err.ensures.called t

pub returns-in-Ok-clause-ended : goal.returns-in-Ok-clause-ended
returns-in-Ok-clause-ended g c =
    let D = g.D.Dir in
    let times = c.args.times in
    let place = c.args.place in
    let names = c.in-Ok.names in
    let old = D.shown c.args.dir.now in
    let mid = D.shown c.names_of.new.dir in
    let new = D.shown c.deal_each.new.dir in
    if_err (λ e. D.observed ≡ true → EndsAmongBetween times place c.as_slice.result.now mid new) (λ e. D.observed ≡ true → EndsListingBetween times place old new) c.deal_each.result
    (λ e x t. ends_listed old mid new times place names t c.in-Ok.ensures.called c.in-Ok.ensures.ordered (c.in-Ok.ensures.shows t) (ready_area place (Ok names) c.requires.stage c.in-Ok.ensures.called t)
    (subst (λ (ns : List (List ℕ)). EndsAmongBetween times place ns mid new) c.as_slice.ensures (x t))) c.deal_each.ensures.ended

pub returns-in-Err-clause-ended : goal.returns-in-Err-clause-ended
returns-in-Err-clause-ended g c t = inr ((worked_area c.args.place (Err c.in-Err.error) c.in-Err.ensures.called).extends t)

pub returns-in-Ok-clause-lawful : goal.returns-in-Ok-clause-lawful
returns-in-Ok-clause-lawful g c =
    let D = g.D.Dir in
    let old = D.shown c.args.dir.now in
    let mid = D.shown c.names_of.new.dir in
    let new = D.shown c.deal_each.new.dir in
    if_err (λ e. GcStrayByApp D.observed e (MayPassPods c.args.place c.args.times.now c.args.times.expire) mid new) (λ e. GcStrayByApp D.observed e (MayPassPods c.args.place c.args.times.now c.args.times.expire) old new) c.deal_each.result
    (λ e x is. by_app_later new (λ s z. pass_kept) (follows_work (worked_area c.args.place (Ok c.in-Ok.names) c.in-Ok.ensures.called)) (ready_area c.args.place (Ok c.in-Ok.names) c.requires.stage c.in-Ok.ensures.called) (x is)) c.deal_each.ensures.lawful

pub returns-in-Err-clause-lawful : goal.returns-in-Err-clause-lawful
returns-in-Err-clause-lawful g c is = absurd (area_never c.args.place c.in-Err.error c.in-Err.ensures.refusals (sym c.listing_fault.ensures ∙ is))
