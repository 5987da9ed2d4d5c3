use Rattle.std.proofs.Common.{◌≡◌, rules, ap, ◌∙◌, [], ◌∷◌, ◌++◌}
use Rattle.dir_model.specs.Trees.{app_root}
use Rattle.tree_digest.specs.Listings.{listing_text}
use Rattle.folder_building.specs.declared.plan.Content.TheVariants.{Directory}
use Rattle.folder_building.specs.TreePlans.{plan_entry_at}
use Rattle.folder_building.specs.ImagePlans.{given_file}
use Rattle.pod_plan.specs.PodFiles.{stage_directory, tree_file}
use Rattle.pod_plan.proofs.FolderPlans.{three_more}
use Rattle.pod_plan.proofs.app_folder.stage_plan.Goals as goal

pub returns : goal.returns
returns c =
    let app = c.args.app.now in
    three_more c.args.plan.items c.push.new.self.items c.push-2.new.self.items c.push-3.new.self.items (plan_entry_at (stage_directory app.name) Directory) (given_file (tree_file app.name) (listing_text app.listing)) (plan_entry_at (app_root app.name) Directory)
    (let a : c.push.new.self.items ≡ c.args.plan.items ++ c.directory.result ∷ [] = search (rules, c.in_ok-push.ensures) in
    a ∙ ap (λ e. c.args.plan.items ++ e ∷ []) (c.directory.ensures ∙ ap (λ p. plan_entry_at p Directory) (c.in_ok-joined.ensures ∙ ap stage_directory c.as_str-name.ensures.text)))
    (let a : c.push-2.new.self.items ≡ c.push.new.self.items ++ c.in_ok-given_file.field-0 ∷ [] = search (rules, c.in_ok-push-2.ensures) in
    a ∙ ap (λ e. c.push.new.self.items ++ e ∷ []) (c.in_ok-given_file.ensures ∙ (ap (λ p. given_file p c.as_slice.result.now) (c.in_ok-tree.ensures ∙ ap tree_file c.as_str-name.ensures.text) ∙ ap (given_file (tree_file app.name)) (c.as_slice.ensures.value ∙ c.in_ok-text.ensures))))
    (let a : c.push-3.new.self.items ≡ c.push-2.new.self.items ++ c.directory-2.result ∷ [] = search (rules, c.in_ok-push-3.ensures) in
    a ∙ ap (λ e. c.push-2.new.self.items ++ e ∷ []) (c.directory-2.ensures ∙ ap (λ p. plan_entry_at p Directory) (c.in_ok-around.ensures ∙ ap app_root c.as_str-name.ensures.text)))
