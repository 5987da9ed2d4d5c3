use Rattle.std.proofs.Common.{sym, subst}
use Rattle.image_reading.proofs.Asking.{images_one}
use Rattle.image_reading.proofs.Trees.{trees_of_image}
use Rattle.pod_plan.specs.declared.plan_error.PlanError.{PlanError}
use Rattle.pod_plan.specs.RootRefusals.{IsLayRefusal}
use Rattle.pod_plan.specs.PlanRefusals.{render_refusal}
use Rattle.pod_plan.proofs.Results.{err_is}
use Rattle.pod_plan.proofs.Laid.{lay_fault, lay_lack}
use Rattle.pod_plan.proofs.laying.lay_next.Goals as goal

pub returns-in_ok-lay-in-Ok-clause-only : goal.returns-in_ok-lay-in-Ok-clause-only
returns-in_ok-lay-in-Ok-clause-only g c = images_one c.args.key c.read_map.ensures.only

pub returns-in_ok-lay-in-Ok-clause-laid : goal.returns-in_ok-lay-in-Ok-clause-laid
returns-in_ok-lay-in-Ok-clause-laid g c = record {
  map = c.in-Ok.map;
  known = c.in-Ok.ensures.known;
  lays = record {
    sound = c.in_ok-lay-in-Ok.ensures.sound;
    nodes = c.in_ok-lay-in-Ok.ensures.nodes;
    room = c.in_ok-lay-in-Ok.ensures.room;
    order = c.in_ok-lay-in-Ok.ensures.order;
    stands = c.in_ok-lay-in-Ok.ensures.stands;
  };
}

pub returns-in_err-lay-in-Ok-clause-only : goal.returns-in_err-lay-in-Ok-clause-only
returns-in_err-lay-in-Ok-clause-only g c = images_one c.args.key c.read_map.ensures.only

pub returns-in_err-lay-in-Ok-clause-refused : goal.returns-in_err-lay-in-Ok-clause-refused
returns-in_err-lay-in-Ok-clause-refused g c =
    let D = g.D.Dir in
    let old = D.shown c.args.dir.now in
    let new = D.shown c.read_map.new.dir in
    let e = c.in_err-lay-in-Ok.field-0.0 in
    err_is (λ x. IsLayRefusal D.observed c.args.key c.args.plan x old new) c.from_residual.result (render_refusal e) c.from_residual.ensures.1
    (lay_fault c.args.key c.args.plan c.in-Ok.map c.lay.result e c.in_err-lay-in-Ok.was c.lay.ensures.too_many c.in-Ok.ensures.known)

pub returns-in-Err-clause-only : goal.returns-in-Err-clause-only
returns-in-Err-clause-only g c = images_one c.args.key c.read_map.ensures.only

pub returns-in-Err-clause-refused : goal.returns-in-Err-clause-refused
returns-in-Err-clause-refused g c =
    let D = g.D.Dir in
    subst (λ (e : PlanError). IsLayRefusal D.observed c.args.key c.args.plan e (D.shown c.args.dir.now) (D.shown c.read_map.new.dir)) (sym c.store_refusal.ensures) (lay_lack D.observed c.args.key c.args.plan (D.shown c.args.dir.now) (D.shown c.read_map.new.dir) c.in-Err.error c.in-Err.ensures.lacks)

pub returns-in_ok-lay-in-Ok-clause-trees : goal.returns-in_ok-lay-in-Ok-clause-trees
returns-in_ok-lay-in-Ok-clause-trees g c = trees_of_image c.args.key c.read_map.ensures.only

pub returns-in_err-lay-in-Ok-clause-trees : goal.returns-in_err-lay-in-Ok-clause-trees
returns-in_err-lay-in-Ok-clause-trees g c = trees_of_image c.args.key c.read_map.ensures.only

pub returns-in-Err-clause-trees : goal.returns-in-Err-clause-trees
returns-in-Err-clause-trees g c = trees_of_image c.args.key c.read_map.ensures.only
