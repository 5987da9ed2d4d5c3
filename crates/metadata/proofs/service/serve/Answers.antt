use Rattle.std.proofs.Common.{rules, ◌∙◌, inl, inr, refl}
use Rattle.pod_report.proofs.Asking.{asks_none}
use Rattle.metadata.proofs.service.serve.Goals as goal

pub returns-in-Ok-clause-serves : goal.returns-in-Ok-clause-serves
returns-in-Ok-clause-serves g c l d none =
    let L = g.L.Listener in
    let bound = c.in-Ok.ensures.recorded l in
    inl (record {
      bound = L.shown c.bind.new.self;
      binds = bound;
      kept = c.bind.ensures.kept;
      serves = c.serve_many.ensures.serves l d (bound.2 ∙ none);
    })

pub returns-in-Err-clause-only : goal.returns-in-Err-clause-only
returns-in-Err-clause-only g c = asks_none

pub returns-in-Err-clause-serves : goal.returns-in-Err-clause-serves
returns-in-Err-clause-serves g c l d none =
    inr (
      record {
        refused = c.link_fault.ensures.refused;
        cause = λ is. search (rules, is);
        same = c.in-Err.ensures.recorded l;
      },
      refl,
    )
