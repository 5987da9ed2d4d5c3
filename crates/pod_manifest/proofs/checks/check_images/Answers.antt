use Rattle.std.proofs.Common.{map, take, ◌∙◌, arith}
use Rattle.std.proofs.lemmas.Result.{err_from_is_err_and}
use Rattle.pod_manifest.specs.Generation.{name_of, picked}
use Rattle.pod_manifest.proofs.Apps.{left_more, names_more, none_left, refused}
use Rattle.pod_manifest.proofs.checks.check_images.Goals as goal

pub returns-in_err-check_image : goal.returns-in_err-check_image
returns-in_err-check_image c =
    let p = err_from_is_err_and c.from_residual.result c.from_residual.ensures.1 in
    let names = map name_of (picked c.args.list.now (take c.loop-pick.pick-index c.args.picks.now)) in
    let within = c.requires c.loop-pick.pick-index 0 c.loop-pick-test.true in
    let refusal = refused c.args.list.now c.args.picks.now c.loop-pick.pick-index c.index-list-pick.result c.loop-pick-test.true within
    c.index-list-pick.is _ c.loop-pick.invariant.left c.in_err-check_image.field-0.0
    (c.in_err-check_image.ensures.fault names c.loop-pick.invariant.seen) in
    rw (p.1, p.2) refusal

pub loop-pick-preserved : goal.loop-pick-preserved
loop-pick-preserved c =
    let names = map name_of (picked c.args.list.now (take c.loop-pick.pick-index c.args.picks.now)) in
    let within = c.requires c.loop-pick.pick-index 0 c.loop-pick-test.true in
    record {
      left = c.loop-pick.invariant.left
          ∙ left_more c.args.list.now c.args.picks.now c.loop-pick.pick-index c.index-list-pick.result c.loop-pick-test.true within
          c.index-list-pick.is (c.in_ok-check_image.ensures.fault names c.loop-pick.invariant.seen);
      seen = names_more c.args.list.now c.args.picks.now c.loop-pick.pick-index c.index-list-pick.result c.loop-pick-test.true within
          c.index-list-pick.is c.check_image.new.seen (c.in_ok-check_image.ensures.seen names c.loop-pick.invariant.seen);
    }

pub returns : goal.returns
returns c =
    c.loop-pick.invariant.left
    ∙ none_left c.args.list.now c.args.picks.now c.loop-pick.pick-index
    (map name_of (picked c.args.list.now (take c.loop-pick.pick-index c.args.picks.now))) (omega arith)
