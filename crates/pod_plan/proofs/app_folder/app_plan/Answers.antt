use Rattle.std.proofs.Common.{rules, ap, ◌∙◌}
use Rattle.dir_model.specs.Trees.{app_root}
use Rattle.pod_plan.proofs.AppFiles.{answers_entries, answers_kind}
use Rattle.pod_plan.proofs.app_folder.app_plan.Goals as goal

pub returns-clause-entries : goal.returns-clause-entries
returns-clause-entries c =
    answers_entries c.args.images.now c.args.app.now (λ new. new.items) c.root_plan.result c.args.plan.items c.in_ok-plan.plan.items c.in_ok-plan-2.plan.items c.in_ok-plan.ensures c.in_ok-plan-2.ensures c.root_plan.ensures.entries

pub returns-clause-kind : goal.returns-clause-kind
returns-clause-kind c =
    answers_kind c.args.images.now c.args.app.now (λ new. new.items) c.root_plan.result c.as_str-2.result.now (c.as_str-2.ensures ∙ (c.in_ok-root.ensures ∙ ap app_root c.as_str.ensures.text)) (search (rules, c.as_str.ensures.kind)) c.as_slice-lines.ensures.kind c.root_plan.ensures.plan c.root_plan.ensures.tree
