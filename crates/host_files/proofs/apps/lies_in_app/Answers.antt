use Rattle.std.proofs.Common.{ap, sym, ◌∙◌}
use Rattle.dir_model.specs.Trees.{is_within}
use Rattle.host_files.proofs.apps.lies_in_app.Goals as goal

pub returns-in_ok-app_root-in-Some : goal.returns-in_ok-app_root-in-Some
returns-in_ok-app_root-in-Some c = λ h. record {
  app = c.in-Some.app.now;
  within = ap (λ r. is_within r c.args.inner.now) (sym (c.as_str.ensures.value ∙ c.in_ok-app_root-in-Some.ensures)) ∙ (sym c.is_within.ensures ∙ h);
}
