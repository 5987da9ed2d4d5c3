use Rattle.std.proofs.Common.{inl, sym, subst}
use Rattle.pod_report.proofs.Asking.{asks_more}
use Rattle.pod_report.specs.declared.attempt.Round.{Round}
use Rattle.pod_report.specs.SeenManifests.{RoundSees}
use Rattle.pod_report.specs.Rounds.{IsKnownRound, RoundTells}
use Rattle.pod_report.proofs.OwnReadings.{round_seen}
use Rattle.pod_report.proofs.Results.{known_round}
use Rattle.pod_report.proofs.Reading.{looks_phase}
use Rattle.pod_report.proofs.Meeting.{round_tells}
use Rattle.pod_report.proofs.Going.{conforming_before}
use Rattle.pod_report.proofs.attempt.attempt.Goals as goal

pub returns-in-Ok-clause-only : goal.returns-in-Ok-clause-only
returns-in-Ok-clause-only g c = let e = c.read_phase.ensures in asks_more (looks_phase c.args.pod e.same e.faults e.local e.extends e.known) c.see_manifest.ensures.only

pub returns-in-Err-see_manifest-clause-only : goal.returns-in-Err-see_manifest-clause-only
returns-in-Err-see_manifest-clause-only g c = let e = c.read_phase.ensures in asks_more (looks_phase c.args.pod e.same e.faults e.local e.extends e.known) c.see_manifest.ensures.only

pub returns-in-Ok-Gone-clause-only : goal.returns-in-Ok-Gone-clause-only
returns-in-Ok-Gone-clause-only g c = let e = c.read_phase.ensures in looks_phase c.args.pod e.same e.faults e.local e.extends e.known

pub returns-in-Err-clause-only : goal.returns-in-Err-clause-only
returns-in-Err-clause-only g c = let e = c.read_phase.ensures in looks_phase c.args.pod e.same e.faults e.local e.extends e.known

pub returns-in-Ok-clause-round : goal.returns-in-Ok-clause-round
returns-in-Ok-clause-round g c t conforming =
    let D = g.D.Dir in
    let old = D.shown c.args.dir.now in
    let mid = D.shown c.read_phase.new.dir in
    let new = D.shown c.see_manifest.new.dir in
    let e = rw c.in-Ok-At.field-0-is at c.in-Ok-At.ensures in
    let before = conforming_before mid new t c.see_manifest.ensures.only conforming in
    let on = c.see_manifest.ensures.only.extends t in
    subst (λ (r : Round). RoundTells c.args.pod r old new) (sym c.round_of.ensures)
    (round_tells c.args.pod c.in-Ok-At.phase old mid new c.read_phase.ensures.same on.more on.grown conforming c.in-Ok-At.area c.in-Ok.sight (e.read t).stage (e.exact t before) (c.in-Ok.ensures.seen t))

pub returns-in-Ok-clause-manifest : goal.returns-in-Ok-clause-manifest
returns-in-Ok-clause-manifest g c = subst IsKnownRound (sym c.round_of.ensures) (known_round c.in-Ok-At.phase c.in-Ok-At.area c.in-Ok.sight c.in-Ok.ensures.manifest)

pub returns-in-Ok-clause-seen : goal.returns-in-Ok-clause-seen
returns-in-Ok-clause-seen g c t =
    let D = g.D.Dir in
    let old = D.shown c.args.dir.now in
    let new = D.shown c.see_manifest.new.dir in
    let e = rw c.in-Ok-At.field-0-is at c.in-Ok-At.ensures in
    let first = c.read_phase.ensures.extends t in
    subst (λ (r : Round). RoundSees c.args.pod r old new) (sym c.round_of.ensures)
    (round_seen c.args.pod old (D.shown c.read_phase.new.dir) new t first.more first.grown c.read_phase.ensures.same c.see_manifest.ensures.only c.in-Ok-At.phase c.in-Ok-At.area c.in-Ok.sight (e.read t) (c.in-Ok.ensures.seen t))

pub returns-in-Ok-Gone-clause-seen : goal.returns-in-Ok-Gone-clause-seen
returns-in-Ok-Gone-clause-seen g c t = let e = rw c.in-Ok-Gone.field-0-is at c.in-Ok-Gone.ensures in inl (e.read t)
