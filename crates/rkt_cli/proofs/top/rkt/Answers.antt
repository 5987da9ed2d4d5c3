use Rattle.rkt_cli.specs.Lines.{line_of_arguments}
use Rattle.rkt_cli.proofs.ServedAlone.{links_alone}
use Rattle.rkt_cli.proofs.Words as words
use Rattle.headline.proofs.Reading.{pods_read}
use Rattle.headline.proofs.Holds.{headline_holds}
use Rattle.rkt_cli.proofs.Headlines.{run_begins}
use Rattle.rkt_cli.proofs.Phases.{phases}
use Rattle.rkt_cli.proofs.Strays.{strays}
use Rattle.rkt_cli.proofs.top.rkt.Goals as goal

pub returns-clause-statuses : goal.returns-clause-statuses
returns-clause-statuses g c = words.statuses c.args.now c.args.draw.now _ _ c.run.result (line_of_arguments c.args.words.now) c.run.ensures.ran

pub returns-clause-usage : goal.returns-clause-usage
returns-clause-usage g c = words.usage c.args.now c.args.draw.now _ _ c.run.result (line_of_arguments c.args.words.now) c.run.ensures.ran

pub returns-clause-unread_words : goal.returns-clause-unread_words
returns-clause-unread_words g c = words.unread c.args.now c.args.draw.now _ _ c.run.result (line_of_arguments c.args.words.now) c.run.ensures.ran

pub returns-clause-ended : goal.returns-clause-ended
returns-clause-ended g c = words.ended c.args.now c.args.draw.now _ _ c.run.result (line_of_arguments c.args.words.now) c.run.ensures.ran

pub returns-clause-tells : goal.returns-clause-tells
returns-clause-tells g c = words.told c.args.now c.args.draw.now _ _ c.run.result (line_of_arguments c.args.words.now) c.run.ensures.ran

pub returns-clause-phases : goal.returns-clause-phases
returns-clause-phases g c = phases c.args.now c.args.draw.now _ _ c.run.result (line_of_arguments c.args.words.now) c.run.ensures.ran

pub returns-clause-out : goal.returns-clause-out
returns-clause-out g c = words.written c.args.now c.args.draw.now _ _ c.run.result (line_of_arguments c.args.words.now) c.run.ensures.ran

pub returns-clause-reads : goal.returns-clause-reads
returns-clause-reads g c = words.reads c.args.now c.args.draw.now _ _ c.run.result (line_of_arguments c.args.words.now) c.run.ensures.ran

pub returns-clause-over : goal.returns-clause-over
returns-clause-over g c = words.over c.args.now c.args.draw.now _ _ c.run.result (line_of_arguments c.args.words.now) c.run.ensures.ran

pub returns-clause-headline : goal.returns-clause-headline
returns-clause-headline g c t = record {
  extends = words.asked c.args.now c.args.draw.now _ _ c.run.result (line_of_arguments c.args.words.now) c.run.ensures.ran t;
  begins = run_begins c.args.now c.args.draw.now _ _ c.run.result (line_of_arguments c.args.words.now) c.run.ensures.ran t;
  rules = words.conforms c.args.now c.args.draw.now _ _ c.run.result (line_of_arguments c.args.words.now) c.run.ensures.ran t;
  makers = c.run.ensures.makers t;
  holds = headline_holds (g.D.Dir.shown c.run.new.dir).trace;
}

pub returns-clause-as_made : goal.returns-clause-as_made
returns-clause-as_made g c t legal = pods_read (g.D.Dir.shown c.run.new.dir).trace legal

pub returns-clause-quiet : goal.returns-clause-quiet
returns-clause-quiet g c = words.quietly c.args.now c.args.draw.now _ _ c.run.result (line_of_arguments c.args.words.now) c.run.ensures.ran

pub returns-clause-lawful : goal.returns-clause-lawful
returns-clause-lawful g c t = words.lawful c.args.now c.args.draw.now _ _ c.run.result (line_of_arguments c.args.words.now) c.run.ensures.ran t

pub returns-clause-serves_alone : goal.returns-clause-serves_alone
returns-clause-serves_alone g c l d none =
    links_alone (line_of_arguments c.args.words.now) c.args.now c.args.draw.now c.run.result (g.L.Listener.shown c.args.listener.now) (g.L.Listener.shown c.run.new.listener) (g.D.Dir.shown c.args.dir.now) (g.D.Dir.shown c.run.new.dir) (c.run.ensures.serves l d none)

pub returns-clause-strays : goal.returns-clause-strays
returns-clause-strays g c t =
    strays c.args.now c.args.draw.now _ _ c.run.result (line_of_arguments c.args.words.now) t (words.ended c.args.now c.args.draw.now _ _ c.run.result (line_of_arguments c.args.words.now) c.run.ensures.ran)
