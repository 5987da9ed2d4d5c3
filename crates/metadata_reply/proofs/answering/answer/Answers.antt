use Rattle.std.proofs.Common.{◌≡◌, ◌∙◌, List, ℕ, true, false, not, ap, sym}
use Rattle.std.specs.Option.{is_none, is_some}
use Rattle.metadata_reply.specs.Answers.{view_app_names}
use Rattle.metadata_reply.specs.Resources.{lookup, table}
use Rattle.metadata_reply.specs.Targets.{token_of, target_path}
use Rattle.metadata_reply.specs.Views.{view_data}
use Rattle.manifests.specs.declared.runtime_app.RuntimeApp.{RuntimeApp}
use Rattle.metadata_reply.proofs.Lookups.{names}
use Rattle.metadata_reply.proofs.Replies.{replies, names_seen}
use Rattle.metadata_reply.proofs.answering.answer.Goals as goal

pub returns : goal.returns
returns c =
    let request = c.args.request.now in
    let v = view_data c.in-Some.pod.now in
    let target : c.as_bytes-target.result.now ≡ request.target = c.as_bytes-target.ensures.value ∙ c.as_str.ensures in
    let there : is_some c.token_of.result ≡ true = c.is_none.ensures ∙ ap not c.if-is_none.false in
    let some : false ≡ is_none (token_of request.target) = sym (ap not (sym (ap is_some (c.token_of.ensures ∙ ap token_of target)) ∙ there)) in
    let paths : lookup c.path_of.result.now (table (names c.as_slice.result.now)) ≡ lookup (target_path request.target) (table (names c.as_slice.result.now)) = ap (λ (p : List ℕ). lookup p (table (names c.as_slice.result.now))) (c.path_of.ensures ∙ ap target_path target) in
    let apps : lookup (target_path request.target) (table (names c.as_slice.result.now)) ≡ lookup (target_path request.target) (table (names c.in-Some.pod.now.manifest.apps)) = ap (λ (xs : List RuntimeApp). lookup (target_path request.target) (table (names xs))) c.as_slice.ensures in
    let seen : lookup (target_path request.target) (table (names c.in-Some.pod.now.manifest.apps)) ≡ lookup (target_path request.target) (table (view_app_names v)) = ap (λ (ns : List (List ℕ)). lookup (target_path request.target) (table ns)) (names_seen c.in-Some.pod.now.manifest.apps) in
    let is : c.resource_at-resource.result ≡ lookup (target_path request.target) (table (view_app_names v)) = c.resource_at-resource.ensures ∙ (paths ∙ (apps ∙ seen)) in
    rw c.in-Some.is (replies c.asked.result request c.args.key.now v c.resource_at-resource.result c.if-not-request.false some is c.asked.ensures)
