use Rattle.std.proofs.Common.{rules, get_or, sym, ◌∙◌}
use Rattle.plain_laws.proofs.Results.{passed_on}
use Rattle.image_reading.proofs.Asking.{images_none, images_more}
use Rattle.image_reading.proofs.Trees.{trees_none, trees_more}
use Rattle.pod_plan.specs.RootRefusals.{IsLayRefusal, IsRenderingRefusal}
use Rattle.pod_plan.proofs.Laid.{wanted_within, wanted_key, still_open, none_left, none_laid, laid_more, laid_refused, rendered, next_inside}
use Rattle.pod_plan.proofs.PickedTrees.{trees_of_node}
use Rattle.pod_plan.proofs.laying.read_rendering.Goals as goal

pub returns-in_err-plan-clause-only : goal.returns-in_err-plan-clause-only
returns-in_err-plan-clause-only g c = images_none

pub returns-in_err-plan-clause-trees : goal.returns-in_err-plan-clause-trees
returns-in_err-plan-clause-trees g c = trees_none

pub maps-init : goal.maps-init
maps-init g c = record {
  only = images_none;
  trees = trees_none;
  sound = c.in_ok-plan.ensures.sound;
  nodes = c.in_ok-plan.ensures.nodes;
  laid = none_laid c.args.images.now c.args.tree.now.nodes c.in_ok-plan.plan c.in_ok-plan.ensures.order c.in_ok-plan.ensures.room c.in_ok-plan.ensures.stands;
}

pub bounds-images-image : goal.bounds-images-image
bounds-images-image g c =
    wanted_within c.args.images.now c.args.tree.now.nodes c.maps.plan c.in-Some.image c.requires.tree c.maps.invariant.sound c.maps.invariant.nodes (sym c.in-Some.is ∙ c.wanted.ensures)

pub maps-preserved : goal.maps-preserved
maps-preserved g c =
    let images = c.args.images.now in
    let nodes = c.args.tree.now.nodes in
    let plan = c.maps.plan in
    let image = c.in-Some.image in
    let before = c.maps.invariant in
    let wanted = sym c.in-Some.is ∙ c.wanted.ensures in
    let within = wanted_within images nodes plan image c.requires.tree before.sound before.nodes wanted in
    let laid = c.in_ok-plan-2.ensures.laid in
    record {
      only = images_more before.only c.lay_next.ensures.only;
      trees = trees_more before.trees (trees_of_node images nodes plan.next (get_or images image c.index-images-image.result).key (next_inside nodes plan before.sound before.nodes)
          (wanted_key images nodes plan image c.index-images-image.result within before.nodes wanted) c.lay_next.ensures.trees);
      sound = laid.lays.sound;
      nodes = laid.lays.nodes ∙ before.nodes;
      laid = laid_more images nodes c.lay_next.ensures.only before.only c.requires.once plan before.sound before.nodes before.laid (get_or images image c.index-images-image.result).key
          (wanted_key images nodes plan image c.index-images-image.result within before.nodes wanted) c.in_ok-plan-2.plan laid;
    }

pub returns-in_err-plan-2-clause-refused : goal.returns-in_err-plan-2-clause-refused
returns-in_err-plan-2-clause-refused g c =
    let D = g.D.Dir in
    let old = D.shown c.args.dir.now in
    let mid = D.shown c.maps.dir in
    let new = D.shown c.lay_next.new.dir in
    let images = c.args.images.now in
    let nodes = c.args.tree.now.nodes in
    let plan = c.maps.plan in
    let image = c.in-Some.image in
    let before = c.maps.invariant in
    let wanted = sym c.in-Some.is ∙ c.wanted.ensures in
    let within = wanted_within images nodes plan image c.requires.tree before.sound before.nodes wanted in
    let key = (get_or images image c.index-images-image.result).key in
    passed_on (λ e. IsLayRefusal D.observed key plan e mid new) (λ e. IsRenderingRefusal D.observed images nodes e old new) c.lay_next.result c.from_residual-in_err-plan-2.result
    (λ e h. search (rules, h, c.from_residual-in_err-plan-2.ensures, c.in_err-plan-2.is))
    (λ e h. laid_refused images nodes c.lay_next.ensures.only before.only c.requires.once plan before.sound before.nodes before.laid key (wanted_key images nodes plan image c.index-images-image.result within before.nodes wanted)
    (still_open plan image wanted) e h)
    c.lay_next.ensures.refused

pub returns-clause-rendered : goal.returns-clause-rendered
returns-clause-rendered g c =
    rendered c.args.images.now c.args.tree.now.nodes c.requires.once c.maps.plan c.maps.invariant.nodes c.maps.invariant.laid (none_left c.maps.plan (sym c.in_default.is ∙ c.wanted.ensures)) c.finish.result
    c.finish.ensures.rendering c.finish.ensures.sourced c.finish.ensures.sources

pub returns-in_err-plan-2-clause-trees : goal.returns-in_err-plan-2-clause-trees
returns-in_err-plan-2-clause-trees g c =
    let images = c.args.images.now in
    let nodes = c.args.tree.now.nodes in
    let plan = c.maps.plan in
    let image = c.in-Some.image in
    let before = c.maps.invariant in
    let wanted = sym c.in-Some.is ∙ c.wanted.ensures in
    let within = wanted_within images nodes plan image c.requires.tree before.sound before.nodes wanted in
    trees_more before.trees (trees_of_node images nodes plan.next (get_or images image c.index-images-image.result).key (next_inside nodes plan before.sound before.nodes)
    (wanted_key images nodes plan image c.index-images-image.result within before.nodes wanted) c.lay_next.ensures.trees)
