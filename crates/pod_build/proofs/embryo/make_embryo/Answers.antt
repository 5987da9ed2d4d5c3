use Rattle.std.proofs.Common.{◌≡◌, Ok, Err, ap, sym, subst, ◌∙◌}
use Rattle.dir_model.specs.declared.request.Request.TheVariants.{MakeFolder}
use Rattle.dir_trait.proofs.Calls.{with_spot}
use Rattle.pod_build.specs.declared.make_error.MakeError.{MakeError}
use Rattle.pod_build.specs.declared.make_error.MakeError.TheVariants.{Stray}
use Rattle.pod_build.specs.MakingCauses.{EmbryoCause}
use Rattle.pod_build.proofs.Calls.{worked_make, make_cause, make_plain}
use Rattle.pod_build.proofs.Knowing.{knows_made, knows_unmade}
use Rattle.pod_build.proofs.embryo.make_embryo.Goals as goal

pub returns-in-Ok-clause-worked : goal.returns-in-Ok-clause-worked
returns-in-Ok-clause-worked g c = worked_make c.args.draw (Ok tt) (with_spot MakeFolder c.of_pod-spot.ensures c.in-Ok.ensures.called)

pub returns-in-Ok-clause-made : goal.returns-in-Ok-clause-made
returns-in-Ok-clause-made g c t = knows_made {draw = c.args.draw} t (with_spot MakeFolder c.of_pod-spot.ensures c.in-Ok.ensures.called)

pub returns-in-Err-clause-worked : goal.returns-in-Err-clause-worked
returns-in-Err-clause-worked g c = worked_make c.args.draw (Err c.in-Err.error) (with_spot MakeFolder c.of_pod-spot.ensures c.in-Err.ensures.called)

pub returns-in-Err-clause-cause : goal.returns-in-Err-clause-cause
returns-in-Err-clause-cause g c =
    let D = g.D.Dir in
    let e = c.in-Err.error in
    subst (λ (x : MakeError). EmbryoCause D.observed c.args.draw x (D.shown c.args.dir.now) (D.shown c.make_folder.new.self)) (sym c.make_refusal.ensures)
    (make_cause D.observed c.args.draw (D.shown c.args.dir.now) (D.shown c.make_folder.new.self) e (λ is. c.in-Err.ensures.cause (ap Err is)) (with_spot MakeFolder c.of_pod-spot.ensures c.in-Err.ensures.called))

pub returns-in-Err-clause-left : goal.returns-in-Err-clause-left
returns-in-Err-clause-left g c t = knows_unmade {draw = c.args.draw} c.in-Err.error t (with_spot MakeFolder c.of_pod-spot.ensures c.in-Err.ensures.called)

pub returns-in-Ok-clause-makes : goal.returns-in-Ok-clause-makes
returns-in-Ok-clause-makes g c t = (with_spot MakeFolder c.of_pod-spot.ensures c.in-Ok.ensures.called).step t

pub returns-in-Err-clause-plain : goal.returns-in-Err-clause-plain
returns-in-Err-clause-plain g c h = let is : c.make_refusal.result ≡ Stray = cc in make_plain c.of_pod-spot.result c.in-Err.error c.in-Err.ensures.refusals (sym c.make_refusal.ensures ∙ is)
