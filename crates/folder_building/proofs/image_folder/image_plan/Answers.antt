use Rattle.std.proofs.Common.{rules}
use Rattle.folder_building.proofs.Images.{answers_plan, answers_image}
use Rattle.folder_building.proofs.image_folder.image_plan.Goals as goal

pub returns-clause-plan : goal.returns-clause-plan
returns-clause-plan c =
    answers_plan c.args.manifest.now c.args.id.bytes c.args.listing.now c.args.now (λ plan. plan.items) c.tree_plan.result c.as_slice-lines.ensures.kind
    (search (rules, c.tree_plan.ensures.entries, c.in_ok-given_file.ensures, c.in_ok-given_file-2.ensures, c.in_ok-given_file-3.ensures, c.in_ok-mark_file.ensures, c.in_ok-root.ensures, c.in_ok-id_file.ensures, c.in_ok-write.ensures, c.in_ok-push.ensures, c.in_ok-push-2.ensures, c.in_ok-push-3.ensures, c.in_ok-push-4.ensures, c.in_ok-push-5.ensures)) c.tree_plan.ensures.plan

pub returns-clause-image : goal.returns-clause-image
returns-clause-image c =
    answers_image c.args.manifest.now c.args.id.bytes c.args.listing.now c.args.now (λ plan. plan.items) c.tree_plan.result c.as_slice-lines.ensures.kind
    (search (rules, c.tree_plan.ensures.entries, c.in_ok-given_file.ensures, c.in_ok-given_file-2.ensures, c.in_ok-given_file-3.ensures, c.in_ok-mark_file.ensures, c.in_ok-root.ensures, c.in_ok-id_file.ensures, c.in_ok-write.ensures, c.in_ok-push.ensures, c.in_ok-push-2.ensures, c.in_ok-push-3.ensures, c.in_ok-push-4.ensures, c.in_ok-push-5.ensures)) c.tree_plan.ensures.tree
