use Rattle.std.proofs.Common.{◌≡◌, true, Ok, Err, ap, sym, subst, ◌∙◌}
use Rattle.dir_model.specs.declared.area.Area.TheVariants.{Embryo, Prepare}
use Rattle.dir_model.specs.declared.request.Reply.TheVariants.{Refused}
use Rattle.dir_model.specs.declared.spot.Spot.{Spot}
use Rattle.dir_model.specs.Replies.{may_refuse}
use Rattle.dir_model.proofs.Lists.{and_both}
use Rattle.pod_build.specs.declared.make_error.MakeError.TheVariants.{Stray}
use Rattle.dir_model.specs.Spots.{pod_spot}
use Rattle.pod_build.specs.MakingRequests.{is_move_to_prepare}
use Rattle.dir_model.specs.declared.request.Request.TheVariants.{MoveFolder}
use Rattle.dir_model.proofs.Spots.{spot_self}
use Rattle.dir_trait.proofs.Calls.{with_spots}
use Rattle.pod_build.specs.declared.make_error.MakeError.{MakeError}
use Rattle.pod_build.specs.MakingCauses.{MakingWorkCause}
use Rattle.pod_build.proofs.Calls.{in_area, worked_leave, change_cause, shows_call, taken_move}
use Rattle.pod_build.proofs.Times.{answered_self}
use Rattle.pod_build.proofs.Knowing.{knows_left, knows_unleft}
use Rattle.pod_build.proofs.embryo.leave_embryo.Goals as goal

pub returns-in-Ok-clause-worked : goal.returns-in-Ok-clause-worked
returns-in-Ok-clause-worked g c = worked_leave c.args.draw (Ok tt) (with_spots (in_area c.args.draw c.of_pod-from.ensures c.area_before.ensures) c.of_pod-to.ensures c.in-Ok.ensures.called)

pub returns-in-Ok-clause-moved : goal.returns-in-Ok-clause-moved
returns-in-Ok-clause-moved g c t = knows_left {draw = c.args.draw} t (with_spots (in_area c.args.draw c.of_pod-from.ensures c.area_before.ensures) c.of_pod-to.ensures c.in-Ok.ensures.called)

pub returns-in-Err-clause-worked : goal.returns-in-Err-clause-worked
returns-in-Err-clause-worked g c = worked_leave c.args.draw (Err c.in-Err.error) (with_spots (in_area c.args.draw c.of_pod-from.ensures c.area_before.ensures) c.of_pod-to.ensures c.in-Err.ensures.called)

pub returns-in-Err-clause-cause : goal.returns-in-Err-clause-cause
returns-in-Err-clause-cause g c =
    let D = g.D.Dir in
    let e = c.in-Err.error in
    subst (λ (x : MakeError). MakingWorkCause D.observed _ x (D.shown c.args.dir.now) (D.shown c.move_folder.new.self)) (sym c.change_refusal.ensures)
    (change_cause e (λ is. c.in-Err.ensures.cause (ap Err is)))

pub returns-in-Err-clause-left : goal.returns-in-Err-clause-left
returns-in-Err-clause-left g c t = knows_unleft {draw = c.args.draw} t c.in-Err.error (with_spots (in_area c.args.draw c.of_pod-from.ensures c.area_before.ensures) c.of_pod-to.ensures c.in-Err.ensures.called)

pub returns-in-Ok-clause-brings : goal.returns-in-Ok-clause-brings
returns-in-Ok-clause-brings g c t = answered_self (is_move_to_prepare c.args.draw) (and_both _ _ (spot_self (pod_spot c.args.draw Embryo)) (spot_self (pod_spot c.args.draw Prepare))) ((with_spots (in_area c.args.draw c.of_pod-from.ensures c.area_before.ensures) c.of_pod-to.ensures c.in-Ok.ensures.called).step t)

pub returns-in-Err-clause-stray : goal.returns-in-Err-clause-stray
returns-in-Err-clause-stray g c h t =
    let e = c.in-Err.error in
    let is : c.change_refusal.result ≡ Stray = cc in
    let may = subst (λ (s : Spot). may_refuse (MoveFolder s c.of_pod-to.result) e ≡ true) (in_area c.args.draw c.of_pod-from.ensures c.area_before.ensures) c.in-Err.ensures.refusals in
    let asks = subst (λ (s : Spot). may_refuse (MoveFolder (pod_spot c.args.draw Embryo) s) e ≡ true) c.of_pod-to.ensures may in
    shows_call (MoveFolder (pod_spot c.args.draw Embryo) (pod_spot c.args.draw Prepare)) (Refused e 0) tt (taken_move c.args.draw (pod_spot c.args.draw Prepare) e asks (sym c.change_refusal.ensures ∙ is)) ((with_spots (in_area c.args.draw c.of_pod-from.ensures c.area_before.ensures) c.of_pod-to.ensures c.in-Err.ensures.called).step t)
