use Rattle.std.proofs.Common.{inl, sym, subst}
use Rattle.pod_report.specs.declared.inspect.Inspection.{Inspection}
use Rattle.pod_report.specs.Inspections.{InspectionTells}
use Rattle.pod_report.specs.OwnReadings.{InspectionSees}
use Rattle.pod_report.proofs.Asking.{asks_more, asks_wider, visits_inspect}
use Rattle.pod_report.proofs.Going.{conforming_before}
use Rattle.pod_report.proofs.InspectionRounds.{inspection_moved, inspection_met}
use Rattle.pod_report.proofs.OwnReadings.{seen_here, moved_here}
use Rattle.pod_report.proofs.Reading.{looks_phase}
use Rattle.pod_report.proofs.inspect.inspect.Goals as goal

pub returns-in-Ok-Some-clause-only : goal.returns-in-Ok-Some-clause-only
returns-in-Ok-Some-clause-only g c = let e = c.read_phase.ensures in asks_more (asks_wider (visits_inspect c.args.pod) (looks_phase c.args.pod e.same e.faults e.local e.extends e.known)) c.see_status.ensures.only

pub returns-in-Ok-None-clause-only : goal.returns-in-Ok-None-clause-only
returns-in-Ok-None-clause-only g c = let e = c.read_phase.ensures in asks_more (asks_wider (visits_inspect c.args.pod) (looks_phase c.args.pod e.same e.faults e.local e.extends e.known)) c.see_status.ensures.only

pub returns-in-Err-see_status-clause-only : goal.returns-in-Err-see_status-clause-only
returns-in-Err-see_status-clause-only g c = let e = c.read_phase.ensures in asks_more (asks_wider (visits_inspect c.args.pod) (looks_phase c.args.pod e.same e.faults e.local e.extends e.known)) c.see_status.ensures.only

pub returns-in-Ok-Gone-clause-only : goal.returns-in-Ok-Gone-clause-only
returns-in-Ok-Gone-clause-only g c = let e = c.read_phase.ensures in asks_wider (visits_inspect c.args.pod) (looks_phase c.args.pod e.same e.faults e.local e.extends e.known)

pub returns-in-Err-clause-only : goal.returns-in-Err-clause-only
returns-in-Err-clause-only g c = let e = c.read_phase.ensures in asks_wider (visits_inspect c.args.pod) (looks_phase c.args.pod e.same e.faults e.local e.extends e.known)

pub returns-in-Ok-Some-clause-round : goal.returns-in-Ok-Some-clause-round
returns-in-Ok-Some-clause-round g c t conforming =
    let D = g.D.Dir in
    let old = D.shown c.args.dir.now in
    let mid = D.shown c.read_phase.new.dir in
    let new = D.shown c.see_status.new.dir in
    let e = rw c.in-Ok-At.field-0-is at c.in-Ok-At.ensures in
    let s = rw c.in-Ok-Some.field-0-is at c.in-Ok-Some.ensures in
    let before = conforming_before mid new t c.see_status.ensures.only conforming in
    let on = c.see_status.ensures.only.extends t in
    inspection_met c.args.pod c.in-Ok-At.phase old mid new c.read_phase.ensures.same on.more on.grown conforming c.in-Ok-At.area (e.read t).stage (e.exact t before) c.in-Ok-Some.status (s.seen t)

pub returns-in-Ok-None-clause-round : goal.returns-in-Ok-None-clause-round
returns-in-Ok-None-clause-round g c t conforming =
    let D = g.D.Dir in
    let old = D.shown c.args.dir.now in
    let mid = D.shown c.read_phase.new.dir in
    let new = D.shown c.see_status.new.dir in
    let e = rw c.in-Ok-At.field-0-is at c.in-Ok-At.ensures in
    let s = rw c.in-Ok-None.field-0-is at c.in-Ok-None.ensures in
    let before = conforming_before mid new t c.see_status.ensures.only conforming in
    let on = c.see_status.ensures.only.extends t in
    subst (λ (r : Inspection). InspectionTells c.args.pod r old new) (sym c.moved_on.ensures)
    (inspection_moved c.args.pod c.in-Ok-At.phase old mid new c.read_phase.ensures.same on.more on.grown conforming c.in-Ok-At.area (e.read t).stage (e.exact t before) (s.seen t))

pub returns-in-Ok-Some-clause-seen : goal.returns-in-Ok-Some-clause-seen
returns-in-Ok-Some-clause-seen g c t =
    let D = g.D.Dir in
    let e = rw c.in-Ok-At.field-0-is at c.in-Ok-At.ensures in
    let s = rw c.in-Ok-Some.field-0-is at c.in-Ok-Some.ensures in
    let first = c.read_phase.ensures.extends t in
    seen_here c.args.pod (D.shown c.args.dir.now) (D.shown c.read_phase.new.dir) (D.shown c.see_status.new.dir) t first.more first.grown c.read_phase.ensures.same c.see_status.ensures.only
    c.in-Ok-At.phase c.in-Ok-At.area c.in-Ok-Some.status (e.read t) (s.seen t)

pub returns-in-Ok-None-clause-seen : goal.returns-in-Ok-None-clause-seen
returns-in-Ok-None-clause-seen g c t =
    let D = g.D.Dir in
    let old = D.shown c.args.dir.now in
    let new = D.shown c.see_status.new.dir in
    let e = rw c.in-Ok-At.field-0-is at c.in-Ok-At.ensures in
    let s = rw c.in-Ok-None.field-0-is at c.in-Ok-None.ensures in
    let first = c.read_phase.ensures.extends t in
    subst (λ (r : Inspection). InspectionSees c.args.pod r old new) (sym c.moved_on.ensures)
    (moved_here c.args.pod old (D.shown c.read_phase.new.dir) new t first.more first.grown c.read_phase.ensures.same c.see_status.ensures.only c.in-Ok-At.phase c.in-Ok-At.area (e.read t) (s.seen t))

pub returns-in-Ok-Gone-clause-seen : goal.returns-in-Ok-Gone-clause-seen
returns-in-Ok-Gone-clause-seen g c t = let e = rw c.in-Ok-Gone.field-0-is at c.in-Ok-Gone.ensures in inl (e.read t)
