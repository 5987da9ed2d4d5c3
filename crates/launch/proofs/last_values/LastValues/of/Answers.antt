use Rattle.std.proofs.Common.{Some, cond, take, length, get_or, sym, ap, ◌∙◌, arith, ◌<◌}
use Rattle.std.proofs.lemmas.List.{take_more}
use Rattle.app_section.specs.declared.env_var.EnvVar.{EnvVar}
use Rattle.launch.specs.Environment.{last_value, is_variable_named}
use Rattle.launch.specs.LastValues.{kept_value_at}
use Rattle.launch.proofs.Given.{last_value-push}
use Rattle.launch.proofs.last_values.LastValues.of.Goals as goal

pub variables-preserved : goal.variables-preserved
variables-preserved c name =
    let vs = c.args.variables.now in
    let i = c.variables.variable-index in
    let v = get_or vs i c.variable-item.result in
    let inside : i < length vs = omega arith in
    c.in_ok-put.ensures name
    ∙ (ap (λ (x : EnvVar). cond (is_variable_named x name) (Some x.value) (kept_value_at c.variables.last name)) c.variable-item.is
    ∙ (ap (cond (is_variable_named v name) (Some v.value)) (c.variables.invariant name)
    ∙ (sym (last_value-push name (take i vs) v) ∙ ap (last_value name) (sym (take_more vs i c.variable-item.result inside)))))
