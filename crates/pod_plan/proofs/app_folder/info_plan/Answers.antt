use Rattle.std.proofs.Common.{◌≡◌, rules, ap, ◌∙◌, [], ◌∷◌, ◌++◌}
use Rattle.folder_building.specs.declared.plan.Content.TheVariants.{Directory}
use Rattle.folder_building.specs.TreePlans.{plan_entry_at}
use Rattle.folder_building.specs.ImagePlans.{given_file}
use Rattle.pod_plan.specs.PodFiles.{info_directory, app_manifest_path}
use Rattle.pod_plan.proofs.FolderPlans.{two_more}
use Rattle.pod_plan.proofs.app_folder.info_plan.Goals as goal

pub returns : goal.returns
returns c =
    let app = c.args.app.now in
    two_more c.args.plan.items c.push.new.self.items c.push-2.new.self.items (plan_entry_at (info_directory app.name) Directory) (given_file (app_manifest_path app.name) app.manifest)
    (let a : c.push.new.self.items ≡ c.args.plan.items ++ c.directory.result ∷ [] = search (rules, c.in_ok-push.ensures) in
    a ∙ ap (λ e. c.args.plan.items ++ e ∷ []) (c.directory.ensures ∙ ap (λ p. plan_entry_at p Directory) (c.in_ok-joined.ensures ∙ ap info_directory c.as_str-name.ensures.text)))
    (let a : c.push-2.new.self.items ≡ c.push.new.self.items ++ c.in_ok-given_file.field-0 ∷ [] = search (rules, c.in_ok-push-2.ensures) in
    a ∙ ap (λ e. c.push.new.self.items ++ e ∷ []) (c.in_ok-given_file.ensures ∙ (ap (λ p. given_file p c.as_slice.result.now) (c.in_ok-manifest.ensures ∙ ap app_manifest_path c.as_str-name.ensures.text) ∙ ap (given_file (app_manifest_path app.name)) c.as_slice.ensures)))
