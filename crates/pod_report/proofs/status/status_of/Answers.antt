use Rattle.std.proofs.Common.{arith, ◌≡◌, ◌+◌, ℕ, suc, subst}
use Rattle.plain_laws.proofs.Numbers.{one_further}
use Rattle.dir_model.specs.Trace.{state_after}
use Rattle.dir_model.proofs.Chains.{extends_wider}
use Rattle.pod_lookup.proofs.Shown.{conforms}
use Rattle.pod_report.specs.Rounds.{HasLeft}
use Rattle.pod_report.proofs.Asking.{asks_more}
use Rattle.pod_report.proofs.Going.{conforming_before, gone_after}
use Rattle.pod_report.proofs.InspectionRounds.{status_after}
use Rattle.pod_report.proofs.OwnReadings.{seen_after, missed_after}
use Rattle.pod_report.proofs.QuietLines.{nowhere_before}
use Rattle.pod_report.proofs.QuietStatus.{status_before}
use Rattle.pod_report.proofs.QuietSurvey.{inspect_calm}
use Rattle.pod_report.proofs.Results.{outside_unanswered}
use Rattle.pod_report.proofs.SequentialStatus.{status_is, nowhere_is}
use Rattle.pod_report.proofs.status.status_of.Goals as goal

pub rounds-preserved : goal.rounds-preserved
rounds-preserved g c =
    let D = g.D.Dir in
    let mid = D.shown c.rounds.dir in
    let new = D.shown c.inspect.new.dir in
    let i = c.rounds.invariant in
    let e = rw c.in-Ok-Missed.field-0-is at c.in-Ok-Missed.ensures in
    record {
      only = asks_more i.only c.inspect.ensures.only;
      left = λ t conforming.
          let l = i.left t (conforming_before mid new t c.inspect.ensures.only conforming) in
          let m = e.round t conforming c.rounds._round l.0 in
          (subst (λ (n : ℕ). HasLeft c.args.pod n new) (one_further c.rounds._round) m.left, let most = m.most in omega (arith, most));
    }

pub returns-in-Ok-Met-clause-only : goal.returns-in-Ok-Met-clause-only
returns-in-Ok-Met-clause-only g c = asks_more c.rounds.invariant.only c.inspect.ensures.only

pub returns-in-Ok-Gone-clause-only : goal.returns-in-Ok-Gone-clause-only
returns-in-Ok-Gone-clause-only g c = asks_more c.rounds.invariant.only c.inspect.ensures.only

pub returns-in-Err-clause-only : goal.returns-in-Err-clause-only
returns-in-Err-clause-only g c = asks_more c.rounds.invariant.only c.inspect.ensures.only

pub returns-in-Ok-Met-clause-answer_holds : goal.returns-in-Ok-Met-clause-answer_holds
returns-in-Ok-Met-clause-answer_holds g c t conforming =
    let D = g.D.Dir in
    let e = rw c.in-Ok-Met.field-0-is at c.in-Ok-Met.ensures in
    status_after c.args.pod (D.shown c.args.dir.now) (D.shown c.rounds.dir) (D.shown c.inspect.new.dir) t c.rounds.invariant.only c.in-Ok-Met.status (e.round t conforming)

pub returns-in-Ok-Gone-clause-nowhere : goal.returns-in-Ok-Gone-clause-nowhere
returns-in-Ok-Gone-clause-nowhere g c is t conforming =
    let D = g.D.Dir in
    let e = rw c.in-Ok-Gone.field-0-is at c.in-Ok-Gone.ensures in
    gone_after c.args.pod (D.shown c.args.dir.now) (D.shown c.rounds.dir) (D.shown c.inspect.new.dir) t c.rounds.invariant.only (e.round t conforming)

pub returns-in-Ok-Met-clause-seen : goal.returns-in-Ok-Met-clause-seen
returns-in-Ok-Met-clause-seen g c t =
    let D = g.D.Dir in
    let e = rw c.in-Ok-Met.field-0-is at c.in-Ok-Met.ensures in
    seen_after c.args.pod (D.shown c.args.dir.now) (D.shown c.rounds.dir) (D.shown c.inspect.new.dir) t c.rounds.invariant.only c.in-Ok-Met.status (e.seen t)

pub returns-in-Ok-Gone-clause-seen : goal.returns-in-Ok-Gone-clause-seen
returns-in-Ok-Gone-clause-seen g c t =
    let D = g.D.Dir in
    let e = rw c.in-Ok-Gone.field-0-is at c.in-Ok-Gone.ensures in
    missed_after c.args.pod (D.shown c.args.dir.now) (D.shown c.rounds.dir) (D.shown c.inspect.new.dir) t c.rounds.invariant.only (e.seen t)

pub returns-in-Ok-Met-clause-quiet : goal.returns-in-Ok-Met-clause-quiet
returns-in-Ok-Met-clause-quiet g c t conforming quiet idle told =
    let D = g.D.Dir in
    let e = rw c.in-Ok-Met.field-0-is at c.in-Ok-Met.ensures in
    let ext = extends_wider (inspect_calm c.args.pod) ((asks_more c.rounds.invariant.only c.inspect.ensures.only).extends t) in
    status_is (D.shown c.args.dir.now).trace (conforms (D.shown c.args.dir.now).trace (D.shown c.inspect.new.dir).trace ext.more ext.grown conforming) c.args.pod c.in-Ok-Met.status
    (status_before conforming ext quiet idle c.args.pod c.in-Ok-Met.status
    (status_after c.args.pod (D.shown c.args.dir.now) (D.shown c.rounds.dir) (D.shown c.inspect.new.dir) t c.rounds.invariant.only c.in-Ok-Met.status (e.round t conforming)))

pub returns-in-Ok-Gone-clause-quiet : goal.returns-in-Ok-Gone-clause-quiet
returns-in-Ok-Gone-clause-quiet g c t conforming quiet idle told =
    let D = g.D.Dir in
    let e = rw c.in-Ok-Gone.field-0-is at c.in-Ok-Gone.ensures in
    nowhere_is (state_after (D.shown c.args.dir.now).trace) c.args.pod
    (nowhere_before conforming (extends_wider (inspect_calm c.args.pod) ((asks_more c.rounds.invariant.only c.inspect.ensures.only).extends t)) quiet idle c.args.pod
    (gone_after c.args.pod (D.shown c.args.dir.now) (D.shown c.rounds.dir) (D.shown c.inspect.new.dir) t c.rounds.invariant.only (e.round t conforming)))

pub returns-in-Err-clause-quiet : goal.returns-in-Err-clause-quiet
returns-in-Err-clause-quiet g c t conforming quiet idle told = absurd (outside_unanswered c.in-Err.error c.in-Err.ensures.kind told)
