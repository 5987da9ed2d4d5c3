use Rattle.pod_report.proofs.Asking.{asks_more}
use Rattle.pod_report.proofs.Going.{conforming_before}
use Rattle.pod_report.proofs.SeenLines.{seen_taken}
use Rattle.pod_report.proofs.Telling.{tells_taken}
use Rattle.pod_report.proofs.survey.lines_of.Goals as goal

pub pods-preserved : goal.pods-preserved
pods-preserved g c =
    let D = g.D.Dir in
    let old = D.shown c.args.dir.now in
    let mid = D.shown c.pods.dir in
    let new = D.shown c.add_line.new.dir in
    record {
      only = asks_more c.pods.invariant.only c.add_line.ensures.only;
      seen = λ t. seen_taken old mid new t c.pods.invariant.only c.add_line.ensures.only c.args.pods.now c.pods.pod-index _ c.pods.lines.items c.add_line.new.lines.items (c.pods.invariant.seen t) c.pods-test.true (c.in_ok-add_line.ensures.seen t);
      told = λ t conforming.
          let a = c.pods.invariant.only.extends t in
          let b = c.add_line.ensures.only.extends t in
          tells_taken c.args.pods.now c.pods.pod-index _ c.pods.lines.items c.add_line.new.lines.items old mid new c.pods.invariant.only.same a.more b.more a.grown b.grown
          (c.pods.invariant.told t (conforming_before mid new t c.add_line.ensures.only conforming)) c.pods-test.true (c.in_ok-add_line.ensures.answer_holds t conforming);
    }
