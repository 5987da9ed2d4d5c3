use Rattle.std.proofs.Common.{◌≡◌, List, ℕ, length, map, ap, ◌∙◌}
use Rattle.plain_laws.proofs.Results.{ok_both}
use Rattle.dep_match.specs.declared.stored.Stored.{Stored}
use Rattle.pod_plan.specs.PodPlans.{pod_entries}
use Rattle.pod_plan.specs.Pods.{files_of, MakesPod}
use Rattle.pod_plan.specs.Plans.{folders, apps_of, IsPlanOf}
use Rattle.pod_plan.proofs.Ready.{names_differ}
use Rattle.pod_plan.proofs.Plans.{plan_is}
use Rattle.pod_plan.proofs.plan.plan_of.Goals as goal

pub pod_plan-requires : goal.pod_plan-requires
pod_plan-requires c =
    record { names = names_differ c.as_slice-2.result.now (length c.args.read.now.manifests.items) c.args.choice c.args.roots c.as_slice-apps.result.now (c.as_slice-apps.ensures.value ∙ c.in_ok-parts.ensures.made) c.requires.ready }

pub returns-clause-made : goal.returns-clause-made
returns-clause-made c =
    let images = c.args.read.now.images.items in
    let manifests = c.args.read.now.manifests.items in
    let choice = c.args.choice in
    let roots = c.args.roots in
    let now = c.args.now in
    let token = c.args.token.now in
    let bytes = c.deref.result.now in
    let names = c.as_slice-3.result.now in
    let apps = c.as_slice-apps.result.now in
    let named : names ≡ folders images = c.as_slice-3.ensures.value ∙ (c.in_ok-folders.ensures ∙ ap (λ (xs : List Stored). folders xs) c.as_slice.ensures.value) in
    let made : apps ≡ apps_of manifests choice roots = c.as_slice-apps.ensures.value ∙ (c.in_ok-parts.ensures.made ∙ ap (λ (ms : List (List ℕ)). apps_of ms choice roots) c.as_slice-2.ensures.value) in
    ok_both (λ plan. plan.items ≡ pod_entries now token bytes names apps) (λ plan. MakesPod now token bytes (map files_of apps) plan.items) (λ plan. IsPlanOf images manifests choice roots now token plan.items) c.pod_plan.result
    (λ plan entries makes. plan_is images manifests choice roots now token plan.items c.in_ok-parts.parts.text.items bytes names apps c.deref.ensures.value named made c.in_ok-parts.ensures.written entries makes)
    c.pod_plan.ensures.entries c.pod_plan.ensures.pod
