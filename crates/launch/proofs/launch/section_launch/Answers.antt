use Rattle.std.proofs.Common.{List, sym, ap, ◌∙◌}
use Rattle.app_section.specs.declared.env_var.EnvVar.{EnvVar}
use Rattle.app_section.specs.AppData.{app_data}
use Rattle.path_map.specs.Entries.{entry_at}
use Rattle.launch.specs.Environment.{environment_of}
use Rattle.launch.specs.Launches.{words_in}
use Rattle.launch.proofs.launch.section_launch.Goals as goal

pub returns-in-Ok-clause-launch : goal.returns-in-Ok-clause-launch
returns-in-Ok-clause-launch c = record {
  environment = c.in-Ok.ensures ∙ ap (λ (vs : List EnvVar). environment_of vs c.args.name.now c.args.address.now c.args.token.now) c.as_slice-2.ensures;
  directory = c.in_ok-directory.ensures.value;
  pre_start = c.in_ok-pre_start.ensures.found;
  main = ap (words_in (app_data c.args.app.now) (entry_at c.args.tree.now)) (sym c.as_slice.ensures) ∙ c.in_ok-main.ensures.found;
  post_stop = c.in_ok-post_stop.ensures.found;
}
