use Rattle.std.proofs.Common.{Err, inl, refl, sym, subst, Option, ◌∙◌}
use Rattle.pod_build.proofs.Handing.{nothing_handed}
use Rattle.rkt_cli.specs.declared.line.Line.{Line}
use Rattle.command_outcomes.specs.Moments.{sink_at}
use Rattle.rkt_cli.specs.Between.{RunBetween}
use Rattle.rkt_cli.specs.Lines.{IsLineRead, line_of_arguments}
use Rattle.rkt_words.specs.declared.error.WordsError.{WordsError}
use Rattle.rkt_cli.specs.Links.{LinksIn}
use Rattle.rkt_cli.proofs.Acting.{acted, forgotten, kept_seen, not_read}
use Rattle.rkt_cli.proofs.Ends.{absurd_number}
use Rattle.rkt_cli.proofs.Linked.{forgotten_links, link_answered, links_run, unread_links}
use Rattle.rkt_cli.proofs.top.run.Goals as goal

pub returns-in-Ok-clause-ran : goal.returns-in-Ok-clause-ran
returns-in-Ok-clause-ran g c =
    subst (λ (l : Option Line). RunBetween g.D.Dir g.B.Bundle g.S.Spawner g.O.Sink g.E.Sink l c.args.now c.args.draw.now c.report.result
    (c.args.dir.now, c.args.bundle.now, c.args.spawner.now, c.args.out.now, c.args.err.now) (c.carry_out-answer.new.dir, c.carry_out-answer.new.bundle, c.carry_out-answer.new.spawner, c.print-end.new.out, c.report.new.err)) (sym c.in-Ok.ensures.line)
    (acted c.in-Ok.line c.args.now c.args.draw.now _ _ c.carry_out-answer.result c.print-end.result c.report.result c.report.ensures.status c.print-end.ensures.well
    c.carry_out-answer.ensures.acts c.print-end.ensures.printed (kept_seen c.carry_out-answer.result (sink_at g.O.Sink) c.args.out.now c.print-end.new.out c.print-end.ensures.unwritten) c.report.ensures.said)

pub returns-in-Err-Usage-clause-ran : goal.returns-in-Err-Usage-clause-ran
returns-in-Err-Usage-clause-ran g c = not_read c.args.now c.args.draw.now _ _ _ (line_of_arguments c.args.words.now) (inl (record { is = c.refuse.ensures.status; outside = refl; spawner = refl; out = refl; reported = c.refuse.ensures.said }))
    (subst (λ (e : WordsError). IsLineRead (line_of_arguments c.args.words.now) (Err e)) c.in-Err-Usage.field-0-is c.in-Err-Usage.ensures.line)

pub returns-in-Err-NoMemory-clause-ran : goal.returns-in-Err-NoMemory-clause-ran
returns-in-Err-NoMemory-clause-ran g c =
    forgotten c.args.now c.args.draw.now _ _ _ (line_of_arguments c.args.words.now) (record { is = c.refuse-in-Err-NoMemory.ensures.status; outside = refl; spawner = refl; out = refl; reported = c.refuse-in-Err-NoMemory.ensures.said })

pub returns-in-Err-Usage-clause-makers : goal.returns-in-Err-Usage-clause-makers
returns-in-Err-Usage-clause-makers g c t run = nothing_handed

pub returns-in-Err-NoMemory-clause-makers : goal.returns-in-Err-NoMemory-clause-makers
returns-in-Err-NoMemory-clause-makers g c t run = nothing_handed

pub returns-in-Ok-clause-link_cause : goal.returns-in-Ok-clause-link_cause
returns-in-Ok-clause-link_cause g c at =
    c.carry_out-answer.ensures.link_cause (link_answered c.carry_out-answer.result c.print-end.result c.report.result _ _ c.report.ensures.status c.print-end.ensures.printed at)

pub returns-in-Err-Usage-clause-link_cause : goal.returns-in-Err-Usage-clause-link_cause
returns-in-Err-Usage-clause-link_cause g c at = absurd_number 13 1 (sym at ∙ c.refuse.ensures.status) refl

pub returns-in-Err-NoMemory-clause-link_cause : goal.returns-in-Err-NoMemory-clause-link_cause
returns-in-Err-NoMemory-clause-link_cause g c at = absurd_number 13 14 (sym at ∙ c.refuse-in-Err-NoMemory.ensures.status) refl

pub returns-in-Ok-clause-serves : goal.returns-in-Ok-clause-serves
returns-in-Ok-clause-serves g c l d none =
    subst (λ (x : Option Line). LinksIn x c.args.now c.args.draw.now c.report.result (g.L.Listener.shown c.args.listener.now) (g.L.Listener.shown c.carry_out-answer.new.listener) (g.D.Dir.shown c.args.dir.now) (g.D.Dir.shown c.carry_out-answer.new.dir))
    (sym c.in-Ok.ensures.line)
    (links_run c.in-Ok.line c.args.now c.args.draw.now c.carry_out-answer.result c.print-end.result c.report.result _ _ _ _ _ _ c.report.ensures.status c.print-end.ensures.printed c.print-end.ensures.empty (c.carry_out-answer.ensures.serves l d none))

-- words of which nothing came asked nothing of the listener
pub returns-in-Err-Usage-clause-serves : goal.returns-in-Err-Usage-clause-serves
returns-in-Err-Usage-clause-serves g c l d none = unread_links c.args.now c.args.draw.now c.refuse.result _ _ _ (line_of_arguments c.args.words.now)
    (subst (λ (e : WordsError). IsLineRead (line_of_arguments c.args.words.now) (Err e)) c.in-Err-Usage.field-0-is c.in-Err-Usage.ensures.line)

pub returns-in-Err-NoMemory-clause-serves : goal.returns-in-Err-NoMemory-clause-serves
returns-in-Err-NoMemory-clause-serves g c l d none = forgotten_links c.args.now c.args.draw.now c.refuse-in-Err-NoMemory.result _ _ _ (line_of_arguments c.args.words.now) c.refuse-in-Err-NoMemory.ensures.status
