use Rattle.std.proofs.Common.{◌≡◌, true, Ok, Err, ap, sym, subst, ◌∙◌}
use Rattle.dir_model.specs.declared.area.Area.TheVariants.{Prepare}
use Rattle.dir_model.specs.declared.spot.Spot.{Spot}
use Rattle.dir_model.specs.Replies.{may_refuse}
use Rattle.pod_build.specs.declared.make_error.MakeError.TheVariants.{Stray}
use Rattle.dir_model.specs.Spots.{pod_spot}
use Rattle.pod_build.specs.MakingRequests.{shows_changed}
use Rattle.dir_model.specs.declared.request.Request.TheVariants.{MoveFolder}
use Rattle.dir_trait.proofs.Calls.{with_spots}
use Rattle.pod_build.specs.declared.make_error.MakeError.{MakeError}
use Rattle.pod_build.specs.MakingCauses.{MakingWorkCause}
use Rattle.pod_build.proofs.Calls.{in_area, before_handed, worked_hand, change_cause, changed_move}
use Rattle.pod_build.proofs.Times.{answered_self}
use Rattle.pod_build.proofs.Knowing.{knows_handed, knows_unhanded}
use Rattle.pod_build.proofs.Handing.{hands_made}
use Rattle.pod_build.proofs.filling.hand_over.Goals as goal

pub returns-in-Ok-clause-worked : goal.returns-in-Ok-clause-worked
returns-in-Ok-clause-worked g c = worked_hand c.args.draw c.args.to (Ok tt) (with_spots (in_area c.args.draw c.of_pod-from.ensures (c.area_before.ensures ∙ before_handed c.args.to c.requires.handed)) c.of_pod-there.ensures c.in-Ok.ensures.called)

pub returns-in-Ok-clause-handed : goal.returns-in-Ok-clause-handed
returns-in-Ok-clause-handed g c t plan = knows_handed {draw = c.args.draw} t c.args.to plan (with_spots (in_area c.args.draw c.of_pod-from.ensures (c.area_before.ensures ∙ before_handed c.args.to c.requires.handed)) c.of_pod-there.ensures c.in-Ok.ensures.called)

pub returns-in-Err-clause-worked : goal.returns-in-Err-clause-worked
returns-in-Err-clause-worked g c = worked_hand c.args.draw c.args.to (Err c.in-Err.error) (with_spots (in_area c.args.draw c.of_pod-from.ensures (c.area_before.ensures ∙ before_handed c.args.to c.requires.handed)) c.of_pod-there.ensures c.in-Err.ensures.called)

pub returns-in-Err-clause-cause : goal.returns-in-Err-clause-cause
returns-in-Err-clause-cause g c =
    let D = g.D.Dir in
    let e = c.in-Err.error in
    subst (λ (x : MakeError). MakingWorkCause D.observed _ x (D.shown c.args.dir.now) (D.shown c.move_folder.new.self)) (sym c.change_refusal.ensures)
    (change_cause e (λ is. c.in-Err.ensures.cause (ap Err is)))

pub returns-in-Err-clause-left : goal.returns-in-Err-clause-left
returns-in-Err-clause-left g c t plan = knows_unhanded {draw = c.args.draw} t c.args.to plan c.in-Err.error (with_spots (in_area c.args.draw c.of_pod-from.ensures (c.area_before.ensures ∙ before_handed c.args.to c.requires.handed)) c.of_pod-there.ensures c.in-Err.ensures.called)

pub returns-in-Ok-clause-whole : goal.returns-in-Ok-clause-whole
returns-in-Ok-clause-whole g c t plan = hands_made {draw = c.args.draw} t c.args.to plan c.in-Ok.ensures.called

pub returns-in-Err-clause-whole : goal.returns-in-Err-clause-whole
returns-in-Err-clause-whole g c t plan = hands_made {draw = c.args.draw} t c.args.to plan c.in-Err.ensures.called

pub returns-in-Err-clause-stray : goal.returns-in-Err-clause-stray
returns-in-Err-clause-stray g c h t =
    let e = c.in-Err.error in
    let is : c.change_refusal.result ≡ Stray = cc in
    let may = subst (λ (s : Spot). may_refuse (MoveFolder s c.of_pod-there.result) e ≡ true) (in_area c.args.draw c.of_pod-from.ensures (c.area_before.ensures ∙ before_handed c.args.to c.requires.handed)) c.in-Err.ensures.refusals in
    let asks = subst (λ (s : Spot). may_refuse (MoveFolder (pod_spot c.args.draw Prepare) s) e ≡ true) c.of_pod-there.ensures may in
    answered_self (shows_changed c.args.draw) (changed_move c.args.draw c.args.to e c.requires.handed asks (sym c.change_refusal.ensures ∙ is)) ((with_spots (in_area c.args.draw c.of_pod-from.ensures (c.area_before.ensures ∙ before_handed c.args.to c.requires.handed)) c.of_pod-there.ensures c.in-Err.ensures.called).step t)
