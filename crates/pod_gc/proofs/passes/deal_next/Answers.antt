use Rattle.std.proofs.Common.{◌≡◌, ◌∷◌, [], ◌++◌, rules, true, Some, None, sym, subst}
use Rattle.plain_laws.proofs.Results.{if_ok, if_err, err_same}
use Rattle.dir_model.specs.Pods.{pod_of_text}
use Rattle.folder_building.proofs.Working.{worked_none, worked_wider}
use Rattle.pod_gc.specs.declared.gc_error.GcError.{GcError}
use Rattle.pod_gc.specs.declared.gc_error.GcError.TheVariants as fault
use Rattle.pod_gc.specs.Causes.{GcCause}
use Rattle.pod_gc.specs.Told.{AddsTold}
use Rattle.pod_gc.proofs.InTurn.{no_memory, pass_none}
use Rattle.pod_gc.proofs.Telling.{alone_pod, adds_pod, adds_other}
use Rattle.pod_gc.proofs.Ending.{whenever}
use Rattle.pod_gc.specs.Causes.{GcStrayByApp}
use Rattle.pod_gc.specs.Sweeping.{MayPassPods}
use Rattle.pod_gc.proofs.Lawful.{memory_never}
use Rattle.pod_gc.proofs.passes.deal_next.Goals as goal

pub returns-in-None-clause-worked : goal.returns-in-None-clause-worked
returns-in-None-clause-worked g c = worked_none

pub returns-in-None-clause-answer_holds : goal.returns-in-None-clause-answer_holds
returns-in-None-clause-answer_holds g c t =
    let none : pod_of_text c.args.name.now ≡ None = search (rules, c.parse.ensures.is, c.as_str.ensures, c.in-None.is) in
    adds_other c.args.times c.args.place c.args.name.now c.args.lines.now.items (g.D.Dir.shown c.args.dir.now) none

pub returns-in-None-clause-ready : goal.returns-in-None-clause-ready
returns-in-None-clause-ready g c t = pass_none

pub returns-in_err-deed-in-Some-clause-worked : goal.returns-in_err-deed-in-Some-clause-worked
returns-in_err-deed-in-Some-clause-worked g c =
    let some : pod_of_text c.args.name.now ≡ Some c.in-Some.id = search (rules, c.parse.ensures.is, c.as_str.ensures, c.in-Some.is) in
    worked_wider (alone_pod c.args.times.now c.args.place c.args.name.now c.in-Some.id some) c.deal.ensures.worked

pub returns-in_err-deed-in-Some-clause-cause : goal.returns-in_err-deed-in-Some-clause-cause
returns-in_err-deed-in-Some-clause-cause g c =
    let D = g.D.Dir in
    err_same (λ e. GcCause D.observed e (D.shown c.args.dir.now) (D.shown c.deal.new.dir)) c.deal.result c.from_residual.result
    (λ e h. search (rules, h, c.from_residual.ensures, c.in_err-deed-in-Some.is)) c.deal.ensures.cause

pub returns-in_ok-deed-in-Some-clause-worked : goal.returns-in_ok-deed-in-Some-clause-worked
returns-in_ok-deed-in-Some-clause-worked g c =
    let some : pod_of_text c.args.name.now ≡ Some c.in-Some.id = search (rules, c.parse.ensures.is, c.as_str.ensures, c.in-Some.is) in
    worked_wider (alone_pod c.args.times.now c.args.place c.args.name.now c.in-Some.id some) c.deal.ensures.worked

pub returns-in_ok-deed-in-Some-clause-cause : goal.returns-in_ok-deed-in-Some-clause-cause
returns-in_ok-deed-in-Some-clause-cause g c =
    let D = g.D.Dir in
    let old = D.shown c.args.dir.now in
    let new = D.shown c.deal.new.dir in
    if_err (λ e. e ≡ fault.NoMemory) (λ e. GcCause D.observed e old new) c.push.result (λ e is. subst (λ (x : GcError). GcCause D.observed x old new) (sym is) (no_memory D.observed old new)) c.push.ensures.memory

pub returns-in_ok-deed-in-Some-clause-answer_holds : goal.returns-in_ok-deed-in-Some-clause-answer_holds
returns-in_ok-deed-in-Some-clause-answer_holds g c =
    let D = g.D.Dir in
    let old = D.shown c.args.dir.now in
    let new = D.shown c.deal.new.dir in
    let before = c.args.lines.now.items in
    let after = c.push.new.lines.items in
    let some : pod_of_text c.args.name.now ≡ Some c.in-Some.id = search (rules, c.parse.ensures.is, c.as_str.ensures, c.in-Some.is) in
    if_ok (λ done. after ≡ before ++ record { place = c.args.place; pod = Some c.in-Some.id; deed = c.in_ok-deed-in-Some.deed } ∷ []) (λ done. D.observed ≡ true → AddsTold c.args.times c.args.place (c.args.name.now ∷ []) old new before after) c.push.result
    (λ done adds t. adds_pod old new c.args.times c.args.place c.args.name.now c.in-Some.id c.in_ok-deed-in-Some.deed before after some adds (c.deal.ensures.worked.extends t) (c.in_ok-deed-in-Some.ensures.dealt t) (c.in_ok-deed-in-Some.ensures.by_other_process t)) c.push.ensures.items

pub returns-in_err-deed-in-Some-clause-ended : goal.returns-in_err-deed-in-Some-clause-ended
returns-in_err-deed-in-Some-clause-ended g c =
    whenever c.from_residual.result (λ t. record { pod = c.in-Some.id; name_is = search (rules, c.parse.ensures.is, c.as_str.ensures, c.in-Some.is); turn = c.deal.ensures.worked.extends t })

pub returns-in_ok-deed-in-Some-clause-ended : goal.returns-in_ok-deed-in-Some-clause-ended
returns-in_ok-deed-in-Some-clause-ended g c =
    whenever c.push.result (λ t. record { pod = c.in-Some.id; name_is = search (rules, c.parse.ensures.is, c.as_str.ensures, c.in-Some.is); turn = c.deal.ensures.worked.extends t })

pub returns-in_err-deed-in-Some-clause-lawful : goal.returns-in_err-deed-in-Some-clause-lawful
returns-in_err-deed-in-Some-clause-lawful g c =
    let D = g.D.Dir in
    err_same (λ e. GcStrayByApp D.observed e (MayPassPods c.args.place c.args.times.now c.args.times.expire) (D.shown c.args.dir.now) (D.shown c.deal.new.dir)) c.deal.result c.from_residual.result
    (λ e h. search (rules, h, c.from_residual.ensures, c.in_err-deed-in-Some.is)) c.deal.ensures.lawful

pub returns-in_ok-deed-in-Some-clause-lawful : goal.returns-in_ok-deed-in-Some-clause-lawful
returns-in_ok-deed-in-Some-clause-lawful g c =
    let D = g.D.Dir in
    if_err (λ e. e ≡ fault.NoMemory) (λ e. GcStrayByApp D.observed e (MayPassPods c.args.place c.args.times.now c.args.times.expire) (D.shown c.args.dir.now) (D.shown c.deal.new.dir)) c.push.result (λ e memory is. absurd (memory_never memory is)) c.push.ensures.memory
