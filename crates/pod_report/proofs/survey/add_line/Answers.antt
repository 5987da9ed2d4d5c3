use Rattle.std.proofs.Common.{◌≡◌, ◌++◌, ◌∷◌, [], inl, inr, refl, true}
use Rattle.plain_laws.proofs.Results.{if_ok}
use Rattle.lifecycle.specs.Executions.{IsConforming}
use Rattle.pod_report.proofs.Asking.{asks_wider}
use Rattle.pod_report.specs.SeenLines.{AddsSeen}
use Rattle.pod_report.specs.Snapshot.{AddsPodLine}
use Rattle.pod_report.proofs.Going.{visits_survey}
use Rattle.pod_report.proofs.Telling.{line_added}
use Rattle.pod_report.proofs.survey.add_line.Goals as goal

pub returns-in-Ok-Some-clause-only : goal.returns-in-Ok-Some-clause-only
returns-in-Ok-Some-clause-only g c = asks_wider (visits_survey c.args.pod) c.line_of.ensures.only

pub returns-in-Ok-None-clause-only : goal.returns-in-Ok-None-clause-only
returns-in-Ok-None-clause-only g c = asks_wider (visits_survey c.args.pod) c.line_of.ensures.only

pub returns-in-Err-clause-only : goal.returns-in-Err-clause-only
returns-in-Err-clause-only g c = asks_wider (visits_survey c.args.pod) c.line_of.ensures.only

pub returns-in-Ok-Some-clause-answer_holds : goal.returns-in-Ok-Some-clause-answer_holds
returns-in-Ok-Some-clause-answer_holds g c =
    let D = g.D.Dir in
    let old = D.shown c.args.dir.now in
    let new = D.shown c.line_of.new.dir in
    let e = rw c.in-Ok-Some.field-0-is at c.in-Ok-Some.ensures in
    let before = c.args.lines.now.items in
    let after = c.push.new.lines.items in
    if_ok (λ done. after ≡ before ++ c.in-Ok-Some.line ∷ []) (λ done. D.observed ≡ true → IsConforming new.trace → AddsPodLine c.args.pod before after old new) c.push.result
    (λ done is t conforming. line_added c.args.pod before after c.in-Ok-Some.line old new is (e.answer_holds t conforming)) c.push.ensures.items

pub returns-in-Ok-None-clause-answer_holds : goal.returns-in-Ok-None-clause-answer_holds
returns-in-Ok-None-clause-answer_holds g c t conforming = let e = rw c.in-Ok-None.field-0-is at c.in-Ok-None.ensures in inl (refl, e.answer_holds t conforming)

pub returns-in-Ok-Some-clause-seen : goal.returns-in-Ok-Some-clause-seen
returns-in-Ok-Some-clause-seen g c =
    let D = g.D.Dir in
    let old = D.shown c.args.dir.now in
    let new = D.shown c.line_of.new.dir in
    let e = rw c.in-Ok-Some.field-0-is at c.in-Ok-Some.ensures in
    let before = c.args.lines.now.items in
    let after = c.push.new.lines.items in
    if_ok (λ done. after ≡ before ++ c.in-Ok-Some.line ∷ []) (λ done. D.observed ≡ true → AddsSeen c.args.pod before after old new) c.push.result
    (λ done is t. let l = e.seen t in inr (c.in-Ok-Some.line, is, l.0, l.1)) c.push.ensures.items

pub returns-in-Ok-None-clause-seen : goal.returns-in-Ok-None-clause-seen
returns-in-Ok-None-clause-seen g c t = let e = rw c.in-Ok-None.field-0-is at c.in-Ok-None.ensures in inl (refl, e.seen t)
