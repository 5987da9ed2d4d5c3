use Rattle.std.proofs.Common.{arith, rules, ◌≡◌, ◌∙◌, inl, inr, Ok, Err, [], ◌∷◌, ◌++◌, refl, sym, ap, subst, length-append}
use Rattle.dir_trait.specs.DirCalls.{DirAt}
use Rattle.metadata.specs.declared.error.MetaError.TheVariants.{LinkFault, DirFault}
use Rattle.pod_report.proofs.Asking.{asks_none, asks_more}
use Rattle.metadata.specs.Service.{Served, first_failed_of, ServesThese}
use Rattle.metadata.proofs.Connections.{serves_then, none_current, fault_more, first_cause}
use Rattle.metadata.proofs.service.serve_many.Goals as goal

pub connections-init : goal.connections-init
connections-init g c =
    record {
      few = omega arith;
      kept = omega arith;
      only = asks_none;
      link_cause = λ is. let e : Ok tt ≡ Err LinkFault = is in cc;
      dir_cause = λ is. let e : Ok tt ≡ Err DirFault = is in cc;
      serves = λ l d none. ([], refl, refl, (refl, refl));
    }

pub connections-preserved : goal.connections-preserved
connections-preserved g c =
    let D = g.D.Dir in
    let L = g.L.Listener in
    let i = c.connections.invariant in
    let e = c.serve_next.ensures in
    let served = c.in-Ok.served in
    record {
      few = search rules;
      kept = omega (arith, i.kept, e.kept);
      only = asks_more i.only e.only;
      link_cause = λ is. first_cause c.connections.first served LinkFault (L.shown c.args.link.now).faults (L.shown c.connections.link).faults (L.shown c.serve_next.new.link).faults i.link_cause c.in-Ok.ensures.link_cause i.kept e.kept (sym c.first_of-first.ensures ∙ is);
      dir_cause = λ is. first_cause c.connections.first served DirFault (D.shown c.args.dir.now).faults (D.shown c.connections.dir).faults (D.shown c.serve_next.new.dir).faults i.dir_cause c.in-Ok.ensures.dir_cause i.only.faults e.only.faults (sym c.first_of-first.ensures ∙ is);
      serves = λ l d none.
          let s = i.serves l d none in
          let long = length-append s.0 (served ∷ []) in
          let here = none_current c.args.key.now s.0 (L.shown c.args.link.now) (L.shown c.connections.link) (D.shown c.args.dir.now) (D.shown c.connections.dir) s.3 none in (
            s.0 ++ served ∷ [],
            omega (arith, long, s.1),
            c.first_of-first.ensures ∙ (ap (λ (f : Served). first_failed_of f served) s.2 ∙ sym (fault_more s.0 served)),
            serves_then c.args.key.now s.0 served (L.shown c.args.link.now) (L.shown c.connections.link) (L.shown c.serve_next.new.link) (D.shown c.args.dir.now) (D.shown c.connections.dir) (D.shown c.serve_next.new.dir) s.3 (c.in-Ok.ensures.serves l d here),
          );
    }

pub returns-in-Err-clause-only : goal.returns-in-Err-clause-only
returns-in-Err-clause-only g c = asks_more c.connections.invariant.only c.serve_next.ensures.only

pub returns-in-Err-clause-serves : goal.returns-in-Err-clause-serves
returns-in-Err-clause-serves g c l d none =
    let D = g.D.Dir in
    let L = g.L.Listener in
    let s = c.connections.invariant.serves l d none in
    let here = none_current c.args.key.now s.0 (L.shown c.args.link.now) (L.shown c.connections.link) (D.shown c.args.dir.now) (D.shown c.connections.dir) s.3 none in
    let refused = c.in-Err.ensures.serves l d here in
    record {
      results = s.0;
      last = L.shown c.connections.link;
      these = subst (λ (at : DirAt). ServesThese c.args.key.now s.0 (L.shown c.args.link.now) (L.shown c.connections.link) (D.shown c.args.dir.now) at) (sym refused.1) s.3;
      ends = inr (search rules, refused.0);
    }

pub returns-clause-serves : goal.returns-clause-serves
returns-clause-serves g c l d none =
    let L = g.L.Listener in
    let s = c.connections.invariant.serves l d none in
    record { results = s.0; last = L.shown c.connections.link; these = s.3; ends = inl (search rules, s.2, refl) }
