use Rattle.std.proofs.Common.{◌∙◌, arith, rules, Bool, Option, ap, subst, refl}
use Rattle.listener.specs.Connections.{Connection, past_with_current}
use Rattle.metadata.specs.Looks.{looks_in_run}
use Rattle.metadata.specs.declared.error.MetaError.TheVariants.{LinkFault}
use Rattle.pod_report.specs.Requests.{OnlyAsksFor}
use Rattle.pod_report.proofs.Asking.{asks_none}
use Rattle.metadata.proofs.Connections.{leaves_so, leaves_part}
use Rattle.metadata.proofs.service.serve_next.Goals as goal

pub returns-then-faults-before-clause-serves : goal.returns-then-faults-before-clause-serves
returns-then-faults-before-clause-serves g c l d none =
    let D = g.D.Dir in
    let L = g.L.Listener in
    let old = L.shown c.args.link.now in
    let took = c.in-Ok.ensures.recorded l in
    let left = leaves_part c.args.key.now took.0 old (L.shown c.next.new.self) (L.shown c.serve_one-served.new.link) (L.shown c.hang_up.new.self) (D.shown c.args.dir.now) (D.shown c.serve_one-served.new.dir) took.1 (took.2 ∙ ap (λ (o : Option Connection). past_with_current (L.shown c.next.new.self).faults old.past o) none) took.3 (c.hang_up.ensures.recorded l)
    LinkFault (c.serve_one-served.ensures.part l d) in
    record {
      connection = left.connection;
      past = left.past;
      current = left.current;
      address = left.address;
      asks = subst (λ (b : Bool). OnlyAsksFor b looks_in_run (D.shown c.args.dir.now) (D.shown c.serve_one-served.new.dir)) d c.serve_one-served.ensures.only;
      owes = left.owes;
      link_cause = λ is. omega (arith, c.faults-before.ensures, c.faults.ensures, c.if-faults-before.true);
      link_told = λ other. absurd (other refl);
      dir_cause = λ is. cc;
    }

pub returns-else-faults-before-clause-serves : goal.returns-else-faults-before-clause-serves
returns-else-faults-before-clause-serves g c l d none =
    let D = g.D.Dir in
    let L = g.L.Listener in
    let old = L.shown c.args.link.now in
    let took = c.in-Ok.ensures.recorded l in
    let e = c.serve_one-served.ensures in
    let left = leaves_so c.args.key.now took.0 old (L.shown c.next.new.self) (L.shown c.serve_one-served.new.link) (L.shown c.hang_up.new.self) (D.shown c.args.dir.now) (D.shown c.serve_one-served.new.dir) took.1 (took.2 ∙ ap (λ (o : Option Connection). past_with_current (L.shown c.next.new.self).faults old.past o) none) took.3 (c.hang_up.ensures.recorded l)
    c.serve_one-served.result (search rules) (e.part l d) in
    record {
      connection = left.connection;
      past = left.past;
      current = left.current;
      address = left.address;
      asks = subst (λ (b : Bool). OnlyAsksFor b looks_in_run (D.shown c.args.dir.now) (D.shown c.serve_one-served.new.dir)) d e.only;
      owes = left.owes;
      link_cause = λ is. let rose = e.link_cause is in omega (arith, rose, c.next.ensures.kept, c.hang_up.ensures.kept);
      link_told = λ other. omega (arith, c.faults-before.ensures, c.faults.ensures, c.if-faults-before.false, c.next.ensures.kept, e.kept, c.hang_up.ensures.kept);
      dir_cause = e.dir_cause;
    }

pub returns-in-Err-clause-serves : goal.returns-in-Err-clause-serves
returns-in-Err-clause-serves g c l d none =
    (record { refused = c.link_fault.ensures.refused; cause = λ is. search (rules, is); same = c.in-Err.ensures.recorded l }, refl)

pub returns-in-Err-clause-only : goal.returns-in-Err-clause-only
returns-in-Err-clause-only g c = asks_none
