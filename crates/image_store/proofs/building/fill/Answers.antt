use Rattle.std.proofs.Common.{false, Err, ap, refl, subst}
use Rattle.dir_model.specs.declared.spot.Spot.{Spot}
use Rattle.folder_building.specs.Work.{builds_at, either}
use Rattle.image_store.specs.Requests.{building_spot}
use Rattle.image_store.specs.Causes.{bundle_source_at}
use Rattle.image_store.proofs.Changes.{was_stray}
use Rattle.image_store.proofs.Fillings.{worked_fill, has_filled, has_begun}
use Rattle.image_store.proofs.Refusals.{fill_cause}
use Rattle.image_store.proofs.Unlikes.{place_inside}
use Rattle.image_store.proofs.building.fill.Goals as goal
use Rattle.dir_trait.specs.Effects.{OnlyAsks}

pub build_refusal-requires : goal.build_refusal-requires
build_refusal-requires g c place is = place_inside (c.in-Err.ensures.unlike place (ap Err is))

pub returns-in-Ok-clause-worked : goal.returns-in-Ok-clause-worked
returns-in-Ok-clause-worked g c =
    let D = g.D.Dir in
    worked_fill (building_spot c.args.draw) (subst (λ (s : Spot). OnlyAsks D.observed (either (builds_at s) (λ r. false)) (D.shown c.args.dir.now) (D.shown c.carry_out-filled.new.dir)) c.building_spot-spot.ensures c.carry_out-filled.ensures.worked)

pub returns-in-Err-clause-worked : goal.returns-in-Err-clause-worked
returns-in-Err-clause-worked g c =
    let D = g.D.Dir in
    worked_fill (building_spot c.args.draw) (subst (λ (s : Spot). OnlyAsks D.observed (either (builds_at s) (λ r. false)) (D.shown c.args.dir.now) (D.shown c.carry_out-filled.new.dir)) c.building_spot-spot.ensures c.carry_out-filled.ensures.worked)

pub returns-in-Ok-clause-done : goal.returns-in-Ok-clause-done
returns-in-Ok-clause-done g c t intent hs imports under k = has_filled c.args.draw intent hs c.args.plan.now _ c.building_spot-spot.ensures t k c.in-Ok.ensures.done refl

pub returns-in-Err-clause-left : goal.returns-in-Err-clause-left
returns-in-Err-clause-left g c t intent hs imports under k = has_begun c.args.draw intent hs c.args.plan.now _ c.building_spot-spot.result c.building_spot-spot.ensures k (c.in-Err.ensures.refused t) refl

pub returns-in-Err-clause-cause : goal.returns-in-Err-clause-cause
returns-in-Err-clause-cause g c =
    fill_cause (g.B.Bundle.shown c.args.bundle.now).faults _ (bundle_source_at g.B.Bundle.observed (g.B.Bundle.shown c.args.bundle.now).tree c.args.path.now) c.args.plan.now c.in-Err.error c.build_refusal.result c.build_refusal.ensures
    (λ is. c.in-Err.ensures.fault (ap Err is)) (λ place is. c.in-Err.ensures.unlike place (ap Err is)) (λ is t. was_stray c.args.draw c.building_spot-spot.ensures (c.in-Err.ensures.stray (ap Err is) t))
