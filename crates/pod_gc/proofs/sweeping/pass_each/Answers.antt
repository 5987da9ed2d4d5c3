use Rattle.std.proofs.Common.{rules, ◌≡◌, ◌+◌, ◌∷◌, ◌++◌, [], List, true, take, drop, get_or, take-append-drop, append_assoc, ap, subst, sym, ◌∙◌}
use Rattle.std.proofs.lemmas.List.{take_more}
use Rattle.plain_laws.proofs.Results.{if_err, err_same}
use Rattle.dir_model.specs.declared.area.Area.{Area}
use Rattle.dir_model.specs.declared.area.Area.TheVariants.{Embryo}
use Rattle.folder_building.proofs.Working.{worked_none, worked_more}
use Rattle.pod_locks.proofs.Calls.{follows_work}
use Rattle.pod_gc.specs.Causes.{GcCause}
use Rattle.pod_gc.specs.Told.{places, AddsSwept}
use Rattle.pod_gc.proofs.Steps.{cause_after}
use Rattle.pod_gc.proofs.Sweeps.{all_none, all_more, swept_none, swept_more, stage_at}
use Rattle.pod_gc.specs.Ended.{EndsPassBetween, EndsSweepBetween}
use Rattle.pod_gc.proofs.Ending.{ends_sweep}
use Rattle.pod_gc.specs.Causes.{GcStrayByApp}
use Rattle.pod_gc.specs.Sweeping.{MaySweepAll}
use Rattle.pod_gc.proofs.Sweeps.{all_kept}
use Rattle.pod_gc.proofs.Lawful.{by_app_later}
use Rattle.pod_gc.proofs.sweeping.pass_each.Goals as goal

pub places-init : goal.places-init
places-init g c = record { worked = worked_none; swept = λ t. swept_none c.args.times c.args.lines.now.items (g.D.Dir.shown c.args.dir.now); ready = λ t. all_none }

pub pass-requires-clause-stage : goal.pass-requires-clause-stage
pass-requires-clause-stage g c = stage_at c.places.place-index

pub places-preserved : goal.places-preserved
places-preserved g c =
    let D = g.D.Dir in
    let old = D.shown c.args.dir.now in
    let mid = D.shown c.places.dir in
    let new = D.shown c.pass.new.dir in
    let i = c.places.place-index in
    let inv = c.places.invariant in
    let more : take (i + 1) places ≡ take i places ++ get_or places i Embryo ∷ [] = take_more places i Embryo c.places-test.true in
    record {
      worked = worked_more inv.worked c.pass.ensures.worked;
      swept = λ t. subst (λ (l : List Area). AddsSwept c.args.times l old new c.args.lines.now.items c.pass.new.lines.items) (sym more)
          (swept_more old mid new c.args.times (take i places) (get_or places i Embryo) c.args.lines.now.items c.places.lines.items c.pass.new.lines.items (follows_work inv.worked) (inv.ready t) (inv.swept t) (c.in_ok-pass.ensures.answer_holds t));
      ready = λ t. all_more (inv.ready t) (c.pass.ensures.ready t);
    }

pub returns-in_err-pass-clause-worked : goal.returns-in_err-pass-clause-worked
returns-in_err-pass-clause-worked g c = worked_more c.places.invariant.worked c.pass.ensures.worked

pub returns-in_err-pass-clause-cause : goal.returns-in_err-pass-clause-cause
returns-in_err-pass-clause-cause g c =
    let D = g.D.Dir in
    let old = D.shown c.args.dir.now in
    let mid = D.shown c.places.dir in
    let new = D.shown c.pass.new.dir in
    err_same (λ e. GcCause D.observed e old new) c.pass.result c.from_residual.result
    (λ e h. search (rules, h, c.from_residual.ensures, c.in_err-pass.is))
    (if_err (λ e. GcCause D.observed e mid new) (λ e. GcCause D.observed e old new) c.pass.result (λ e x. cause_after (follows_work c.places.invariant.worked) x) c.pass.ensures.cause)

pub returns-in_err-pass-clause-ready : goal.returns-in_err-pass-clause-ready
returns-in_err-pass-clause-ready g c t = all_more (c.places.invariant.ready t) (c.pass.ensures.ready t)

pub returns-in_err-pass-clause-ended : goal.returns-in_err-pass-clause-ended
returns-in_err-pass-clause-ended g c =
    let D = g.D.Dir in
    let old = D.shown c.args.dir.now in
    let mid = D.shown c.places.dir in
    let new = D.shown c.pass.new.dir in
    let times = c.args.times in
    let i = c.places.place-index in
    let inv = c.places.invariant in
    let here = get_or places i Embryo in
    let more : take (i + 1) places ≡ take i places ++ here ∷ [] = take_more places i Embryo c.places-test.true in
    let whole : (take i places ++ here ∷ []) ++ drop (i + 1) places ≡ places = ap (λ (l : List Area). l ++ drop (i + 1) places) (sym more) ∙ take-append-drop (i + 1) places in
    err_same (λ e. D.observed ≡ true → EndsSweepBetween times old new) c.pass.result c.from_residual.result
    (λ e h. search (rules, h, c.from_residual.ensures, c.in_err-pass.is))
    (if_err (λ e. D.observed ≡ true → EndsPassBetween times here mid new) (λ e. D.observed ≡ true → EndsSweepBetween times old new) c.pass.result
    (λ e x t. ends_sweep old mid new times (take i places) (drop (i + 1) places) here c.args.lines.now.items c.places.lines.items (sym whole ∙ append_assoc (take i places) (here ∷ []) (drop (i + 1) places)) (follows_work inv.worked) (inv.ready t) (inv.swept t) (x t))
    c.pass.ensures.ended)

pub returns-in_err-pass-clause-lawful : goal.returns-in_err-pass-clause-lawful
returns-in_err-pass-clause-lawful g c =
    let D = g.D.Dir in
    let old = D.shown c.args.dir.now in
    let mid = D.shown c.places.dir in
    let new = D.shown c.pass.new.dir in
    err_same (λ e. GcStrayByApp D.observed e (MaySweepAll c.args.times.now c.args.times.expire) old new) c.pass.result c.from_residual.result (λ e h. search (rules, h, c.from_residual.ensures, c.in_err-pass.is))
    (if_err (λ e. GcStrayByApp D.observed e (MaySweepAll c.args.times.now c.args.times.expire) mid new) (λ e. GcStrayByApp D.observed e (MaySweepAll c.args.times.now c.args.times.expire) old new) c.pass.result (λ e x is. by_app_later new (λ s z. all_kept) (follows_work c.places.invariant.worked) c.places.invariant.ready (x is)) c.pass.ensures.lawful)
