use Rattle.std.proofs.Common.{◌≡◌, ◌++◌, None, cond, bytes_eq, List, ℕ, map, take, length, get_or, sym, ap, ◌∙◌, arith, ◌<◌}
use Rattle.std.proofs.lemmas.List.{take_more}
use Rattle.app_section.specs.declared.env_var.EnvVar.{EnvVar}
use Rattle.launch.specs.Environment.{has_variable, last_value, variable_if_unreserved, variable_of}
use Rattle.launch.specs.LastValues.{kept_value_at}
use Rattle.launch.proofs.Given.{given_of, given-push, left-push, has_last}
use Rattle.launch.proofs.environment.given.Goals as goal

pub variables-preserved : goal.variables-preserved
variables-preserved c =
    let vs = c.args.variables.now in
    let i = c.variables.variable-index in
    let v = get_or vs i c.variable-item.result in
    let inside : i < length vs = omega arith in
    let more = take_more vs i c.variable-item.result inside in
    let name : c.as_str.result.now ≡ v.name = c.as_str.ensures ∙ ap (λ (e : EnvVar). e.name) c.variable-item.is in
    record {
      words = c.in_ok-words.ensures.words
          ∙ (ap (λ (n : List ℕ). c.variables.words ++ variable_if_unreserved n (kept_value_at c.variables.values n)) name
          ∙ (ap (λ (l : List (List ℕ)). l ++ variable_if_unreserved v.name (kept_value_at c.variables.values v.name)) c.variables.invariant.words
          ∙ (sym (given-push vs (take i vs) v (kept_value_at c.variables.values v.name) (c.variables.invariant.left v.name) (has_last vs i c.variable-item.result inside))
          ∙ ap (λ (l : List EnvVar). map variable_of (given_of vs l)) (sym more))));
      left = λ other free. c.in_ok-words.ensures.rest other free
          ∙ (ap (λ (n : List ℕ). cond (bytes_eq n other) None (kept_value_at c.variables.values other)) name
          ∙ (ap (cond (bytes_eq v.name other) None) (c.variables.invariant.left other free)
          ∙ (left-push vs (take i vs) v other ∙ ap (λ (l : List EnvVar). cond (has_variable other l) None (last_value other vs)) (sym more))));
    }
