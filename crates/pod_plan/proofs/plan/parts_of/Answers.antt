use Rattle.std.proofs.Common.{◌≡◌, ◌<◌, List, ℕ, length, sym, ap, subst, ◌∙◌}
use Rattle.std.specs.List.{All}
use Rattle.manifests.specs.declared.runtime_app.RuntimeApp.{RuntimeApp}
use Rattle.pod_plan.specs.declared.app_root.Root.{Root}
use Rattle.pod_plan.specs.Plans.{apps_with}
use Rattle.pod_plan.proofs.plan.parts_of.Goals as goal

pub apps_with-requires : goal.apps_with-requires
apps_with-requires c =
    let ready = c.requires.ready in
    let many : length c.args.choice.picks ≡ length c.as_slice.result.now = ap (λ (ps : List ℕ). length ps) (sym c.as_slice.ensures) in
    record {
      within = subst (λ (ps : List ℕ). All (λ i. i < length c.args.manifests.now) ps) (sym c.as_slice.ensures) ready.within;
      named = ap (λ (ns : List RuntimeApp). length ns) c.as_slice-named.ensures ∙ (ready.named ∙ many);
      roots = ap (λ (rs : List Root). length rs) c.into_vec.ensures ∙ (ready.rooted ∙ many);
    }

pub returns-in-Ok : goal.returns-in-Ok
returns-in-Ok c =
    let manifests = c.args.manifests.now in
    let choice = c.args.choice in
    record {
      written = c.in_ok-text.ensures.text_of_manifest;
      made = c.in-Ok.ensures
          ∙ (ap (λ (ps : List ℕ). apps_with manifests ps c.as_slice-named.result.now c.into_vec.result.items) c.as_slice.ensures
          ∙ (ap (λ (ns : List RuntimeApp). apps_with manifests choice.picks ns c.into_vec.result.items) c.as_slice-named.ensures
          ∙ ap (λ (rs : List Root). apps_with manifests choice.picks choice.manifest.apps rs) c.into_vec.ensures));
    }
