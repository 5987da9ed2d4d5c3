use Rattle.std.proofs.Common.{◌≡◌, ◌∷◌, ◌++◌, [], List, ℕ, IfOk, map, subst, ap, ◌∙◌, append_assoc}
use Rattle.launch.specs.Environment.{variables_from_manifest, default_path_if_unset, variable, variable_of, app_name_variable, metadata_url, metadata_address}
use Rattle.launch.proofs.environment.environment.Goals as goal

pub returns : goal.returns
returns c =
    let vs = c.args.variables.now in
    let first : List (List ℕ) = map variable_of (variables_from_manifest vs) in
    let app = variable app_name_variable c.args.app.now in
    let metadata = variable metadata_url (metadata_address c.args.address.now c.args.token.now) in
    subst (λ (whole : List (List ℕ)). IfOk c.with_variable-2.result (λ words. words ≡ whole))
    (ap (λ (url : List ℕ). c.in_ok-words-3.words ++ variable metadata_url url ∷ []) (c.as_str.ensures.value ∙ c.in_ok-url.ensures)
    ∙ (ap (λ (l : List (List ℕ)). l ++ metadata ∷ []) (c.in_ok-words-3.ensures ∙ ap (λ (l : List (List ℕ)). l ++ app ∷ []) (c.in_ok-words-2.ensures ∙ ap (λ (l : List (List ℕ)). l ++ default_path_if_unset vs) c.in_ok-words.ensures))
    ∙ (append_assoc (first ++ default_path_if_unset vs) (app ∷ []) (metadata ∷ []) ∙ append_assoc first (default_path_if_unset vs) (app ∷ metadata ∷ []))))
    c.with_variable-2.ensures
