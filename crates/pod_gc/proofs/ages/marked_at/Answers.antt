use Rattle.std.proofs.Common.{rules, Ok, Err, [], sym, ap, subst, ◌∙◌}
use Rattle.dir_model.specs.declared.request.DirError.TheVariants.{Missing}
use Rattle.pod_gc.specs.declared.gc_error.GcError.{GcError}
use Rattle.pod_gc.specs.Causes.{GcCause}
use Rattle.pod_gc.specs.Ages.{moment_among}
use Rattle.pod_gc.proofs.Marking.{with_root, worked_listing, showed, listed_none, listed_there, listing_cause, ready_listed, notes_mark}
use Rattle.pod_gc.proofs.Lawful.{listing_never}
use Rattle.pod_gc.proofs.ages.marked_at.Goals as goal

pub returns-in-Ok-clause-worked : goal.returns-in-Ok-clause-worked
returns-in-Ok-clause-worked g c = worked_listing c.args.pod c.args.area (Ok c.in-Ok.items) (with_root c.args.pod c.args.area c.of_pod.ensures c.in-Ok.ensures.called)

pub returns-in-Ok-clause-shown : goal.returns-in-Ok-clause-shown
returns-in-Ok-clause-shown g c t =
    showed c.of_pod.result (g.D.Dir.shown c.args.dir.now) (g.D.Dir.shown c.items_of.new.dir) c.in-Ok.items c.args.pod c.args.area c.args.text.now c.greatest.result c.of_pod.ensures (c.greatest.ensures ∙ ap (moment_among c.args.text.now) c.as_slice.ensures) (c.in-Ok.ensures.shows t)
    ((worked_listing c.args.pod c.args.area (Ok c.in-Ok.items) (with_root c.args.pod c.args.area c.of_pod.ensures c.in-Ok.ensures.called)).extends t)

pub returns-in-Ok-clause-ready : goal.returns-in-Ok-clause-ready
returns-in-Ok-clause-ready g c t now = ready_listed c.args.pod c.args.area (Ok c.in-Ok.items) c.requires.marks (with_root c.args.pod c.args.area c.of_pod.ensures c.in-Ok.ensures.called) t

pub returns-in-Ok-clause-noted : goal.returns-in-Ok-clause-noted
returns-in-Ok-clause-noted g c t now named =
    notes_mark c.in-Ok.items c.args.pod c.args.area c.args.text.now c.greatest.result c.requires.marks named (c.greatest.ensures ∙ ap (moment_among c.args.text.now) c.as_slice.ensures) (with_root c.args.pod c.args.area c.of_pod.ensures c.in-Ok.ensures.called) t

pub returns-in-Err-Missing-clause-worked : goal.returns-in-Err-Missing-clause-worked
returns-in-Err-Missing-clause-worked g c =
    let e = rw c.in-Err-Missing.field-0-is at c.in-Err-Missing.ensures in
    worked_listing c.args.pod c.args.area (Err Missing) (with_root c.args.pod c.args.area c.of_pod.ensures e.called)

pub returns-in-Err-Missing-clause-absent : goal.returns-in-Err-Missing-clause-absent
returns-in-Err-Missing-clause-absent g c is t =
    let e = rw c.in-Err-Missing.field-0-is at c.in-Err-Missing.ensures in
    listed_none c.args.pod c.args.area (with_root c.args.pod c.args.area c.of_pod.ensures e.called) t

pub returns-in-Err-Missing-clause-ready : goal.returns-in-Err-Missing-clause-ready
returns-in-Err-Missing-clause-ready g c t now =
    let e = rw c.in-Err-Missing.field-0-is at c.in-Err-Missing.ensures in
    ready_listed c.args.pod c.args.area (Err Missing) c.requires.marks (with_root c.args.pod c.args.area c.of_pod.ensures e.called) t

pub returns-in-Err-clause-worked : goal.returns-in-Err-clause-worked
returns-in-Err-clause-worked g c = worked_listing c.args.pod c.args.area (Err c.in-Err.error) (with_root c.args.pod c.args.area c.of_pod.ensures c.in-Err.ensures.called)

pub returns-in-Err-clause-cause : goal.returns-in-Err-clause-cause
returns-in-Err-clause-cause g c =
    let D = g.D.Dir in
    subst (λ (x : GcError). GcCause D.observed x (D.shown c.args.dir.now) (D.shown c.items_of.new.dir)) (sym c.listing_fault.ensures)
    (listing_cause c.of_pod.result [] c.in-Err.error (λ is. search (rules, is, c.in-Err.error-is)) c.in-Err.ensures.refusals (λ is. c.in-Err.ensures.cause (ap Err is)))

pub returns-in-Err-clause-ready : goal.returns-in-Err-clause-ready
returns-in-Err-clause-ready g c t now = ready_listed c.args.pod c.args.area (Err c.in-Err.error) c.requires.marks (with_root c.args.pod c.args.area c.of_pod.ensures c.in-Err.ensures.called) t

pub returns-in-Ok-clause-there : goal.returns-in-Ok-clause-there
returns-in-Ok-clause-there g c t = listed_there c.args.pod c.args.area (with_root c.args.pod c.args.area c.of_pod.ensures c.in-Ok.ensures.called) t

pub returns-in-Err-clause-never : goal.returns-in-Err-clause-never
returns-in-Err-clause-never g c is = listing_never c.of_pod.result [] c.in-Err.error (λ is. search (rules, is, c.in-Err.error-is)) c.in-Err.ensures.refusals (sym c.listing_fault.ensures ∙ is)
