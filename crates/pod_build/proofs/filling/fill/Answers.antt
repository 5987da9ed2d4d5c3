use Rattle.std.proofs.Common.{◌≡◌, Err, ap, refl, sym, subst, ◌∙◌}
use Rattle.pod_build.specs.declared.make_error.MakeError.TheVariants.{Stray}
use Rattle.dir_model.specs.declared.spot.Spot.{Spot}
use Rattle.folder_building.specs.Sources.{reads_image_files}
use Rattle.folder_building.specs.Work.{builds_at, either}
use Rattle.pod_build.specs.declared.make_error.MakeError.{MakeError}
use Rattle.pod_build.specs.MakingCauses.{MakingWorkCause}
use Rattle.pod_build.proofs.Calls.{fill_cause, pod_changed, build_stray}
use Rattle.pod_build.proofs.Knowing.{has_filled, has_begun}
use Rattle.pod_build.proofs.TreesUnread.{filled_unread}
use Rattle.pod_build.proofs.filling.fill.Goals as goal
use Rattle.dir_trait.specs.Effects.{OnlyAsks}

pub returns-in-Ok-clause-worked : goal.returns-in-Ok-clause-worked
returns-in-Ok-clause-worked g c =
    let D = g.D.Dir in
    subst (λ (s : Spot). OnlyAsks D.observed (either (builds_at s) reads_image_files) (D.shown c.args.dir.now) (D.shown c.carry_out.new.dir)) c.of_pod-spot.ensures c.carry_out.ensures.worked

pub returns-in-Err-clause-worked : goal.returns-in-Err-clause-worked
returns-in-Err-clause-worked g c =
    let D = g.D.Dir in
    subst (λ (s : Spot). OnlyAsks D.observed (either (builds_at s) reads_image_files) (D.shown c.args.dir.now) (D.shown c.carry_out.new.dir)) c.of_pod-spot.ensures c.carry_out.ensures.worked

pub returns-in-Ok-clause-filled : goal.returns-in-Ok-clause-filled
returns-in-Ok-clause-filled g c t to intent hs may owns k = has_filled c.args.draw to c.args.plan.now _ intent hs may owns c.of_pod-spot.ensures t k c.in-Ok.ensures.done refl

pub returns-in-Err-clause-left : goal.returns-in-Err-clause-left
returns-in-Err-clause-left g c t to intent hs may owns k = has_begun c.args.draw to c.args.plan.now _ intent hs may owns c.of_pod-spot.ensures k (c.in-Err.ensures.refused t) refl

pub returns-in-Err-clause-cause : goal.returns-in-Err-clause-cause
returns-in-Err-clause-cause g c =
    let D = g.D.Dir in
    let e = c.in-Err.error in
    subst (λ (x : MakeError). MakingWorkCause D.observed c.args.plan.now x (D.shown c.args.dir.now) (D.shown c.carry_out.new.dir)) (sym c.build_refusal.ensures)
    (fill_cause c.args.plan.now _ e (λ is. c.in-Err.ensures.fault (ap Err is)) (λ is. c.in-Err.ensures.source (ap Err is)) (λ place is. c.in-Err.ensures.unlike place (ap Err is)) (λ place is t. c.in-Err.ensures.lacks place (ap Err is) t))

pub returns-in-Err-clause-stray : goal.returns-in-Err-clause-stray
returns-in-Err-clause-stray g c h t =
    let D = g.D.Dir in
    let is : c.build_refusal.result ≡ Stray = cc in
    pod_changed c.args.draw c.of_pod-spot.result (D.shown c.args.dir.now) (D.shown c.carry_out.new.dir) c.of_pod-spot.ensures (c.in-Err.ensures.stray (ap Err (build_stray c.in-Err.error (sym c.build_refusal.ensures ∙ is))) t)

pub returns-in-Ok-clause-had : goal.returns-in-Ok-clause-had
returns-in-Ok-clause-had g c = c.in-Ok.ensures.had

pub returns-in-Ok-clause-trees : goal.returns-in-Ok-clause-trees
returns-in-Ok-clause-trees g c free = filled_unread c.of_pod-spot.result c.args.plan.now free c.carry_out.ensures.copies

pub returns-in-Err-clause-trees : goal.returns-in-Err-clause-trees
returns-in-Err-clause-trees g c free = filled_unread c.of_pod-spot.result c.args.plan.now free c.carry_out.ensures.copies
