use Rattle.std.proofs.Common.{rules, ◌≡◌, ◌+◌, ◌∷◌, ◌++◌, [], take, refl, ap, sym, ◌∙◌}
use Rattle.std.proofs.lemmas.List.{take_more}
use Rattle.plain_laws.proofs.Results.{passed_on}
use Rattle.image_reading.proofs.Asking.{images_none, images_more}
use Rattle.image_reading.proofs.Trees.{trees_none, trees_more}
use Rattle.pod_plan.specs.PlanRefusals.{IsStoreLack, LacksManifestAt, LacksAmong}
use Rattle.pod_plan.proofs.Results.{lack_wider}
use Rattle.pod_plan.proofs.Lacks.{manifest_at_after, lack_among}
use Rattle.pod_plan.proofs.Again.{again_start, again_more, manifests_later}
use Rattle.pod_plan.proofs.images.read_each.Goals as goal

pub images-init : goal.images-init
images-init g c = record { only = images_none; trees = trees_none; read = again_start _ _ refl (search rules) (search rules) }

pub images-preserved : goal.images-preserved
images-preserved g c =
    let listed = c.args.listed.now in
    let i = c.images.image-index in
    let image = c.image-item.result in
    let more : take (i + 1) listed ≡ take i listed ++ image ∷ [] = take_more listed i image c.images-test.true ∙ ap (λ l. take i listed ++ l ∷ []) (sym c.image-item.is) in
    record {
      only = images_more c.images.invariant.only c.read_next.ensures.only;
      trees = trees_more c.images.invariant.trees c.read_next.ensures.trees;
      read = again_more c.images.invariant.only c.read_next.ensures.only (take i listed) (take (i + 1) listed) image c.images.read c.read_next.new.read more c.images.invariant.read c.in_ok-read_next.ensures.read;
    }

pub returns-in_err-read_next-clause-lacks : goal.returns-in_err-read_next-clause-lacks
returns-in_err-read_next-clause-lacks g c =
    let D = g.D.Dir in
    let old = D.shown c.args.dir.now in
    let mid = D.shown c.images.dir in
    let new = D.shown c.read_next.new.dir in
    let listed = c.args.listed.now in
    let image = c.image-item.result in
    let again = c.images.invariant.read in
    passed_on (IsStoreLack D.observed (λ path. LacksManifestAt image.key path mid new)) (IsStoreLack D.observed (λ path. LacksAmong listed path old new)) c.read_next.result c.from_residual.result
    (λ e h. search (rules, h, c.from_residual.ensures, c.in_err-read_next.is))
    (λ e is. lack_wider D.observed (λ path. LacksManifestAt image.key path mid new) (λ path. LacksAmong listed path old new) e
    (λ t path lacks. lack_among listed c.images.image-index image c.images-test.true c.image-item.is new c.images.read again.same (manifests_later t c.read_next.ensures.only c.images.read again) path (manifest_at_after t image.key path new c.images.invariant.only lacks)) is)
    c.read_next.ensures.lacks

pub returns-in_err-read_next-clause-trees : goal.returns-in_err-read_next-clause-trees
returns-in_err-read_next-clause-trees g c = trees_more c.images.invariant.trees c.read_next.ensures.trees
