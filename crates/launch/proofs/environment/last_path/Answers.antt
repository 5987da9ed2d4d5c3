use Rattle.std.proofs.Common.{◌≡◌, ◌+◌, Some, cond, List, ℕ, bytes_eq, take, length, get_or, option_map, sym, ap, ◌∙◌, arith, ◌<◌}
use Rattle.std.proofs.lemmas.List.{take_more}
use Rattle.app_section.specs.declared.env_var.EnvVar.{EnvVar}
use Rattle.launch.specs.Environment.{last_value, is_variable_named, path_name}
use Rattle.launch.proofs.Given.{last_value-push}
use Rattle.launch.proofs.environment.last_path.Goals as goal
use Rattle.launch.proofs.environment.last_path.Goals.{then-eq, else-eq}

pub variables-preserved : goal.variables-preserved
variables-preserved c =
    let vs = c.args.variables.now in
    let i = c.variables.variable-index in
    let v = get_or vs i c.variable-item.result in
    let inside : i < length vs = omega arith in
    let after : last_value path_name (take (i + 1) vs) ≡ cond (is_variable_named v path_name) (Some v.value) (last_value path_name (take i vs)) =
    ap (last_value path_name) (take_more vs i c.variable-item.result inside) ∙ last_value-push path_name (take i vs) v in
    let named : is_variable_named v path_name ≡ c.eq.result =
    ap (λ (bs : List ℕ). bytes_eq bs path_name) (sym (c.as_str.ensures ∙ ap (λ (e : EnvVar). e.name) c.variable-item.is)) ∙ sym c.eq.ensures in
    elim c.if-eq.branch [
      | then-eq w ↦ ap (option_map (λ x. x.now.value)) w.last-is
          ∙ (ap (λ (e : EnvVar). Some e.value) c.variable-item.is
          ∙ sym (after ∙ ap (λ b. cond b (Some v.value) (last_value path_name (take i vs))) (named ∙ w.if-eq.true)))
      | else-eq w ↦ ap (option_map (λ x. x.now.value)) w.last-is
          ∙ (c.variables.invariant ∙ sym (after ∙ ap (λ b. cond b (Some v.value) (last_value path_name (take i vs))) (named ∙ w.if-eq.false)))
    ]
