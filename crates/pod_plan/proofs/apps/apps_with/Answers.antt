use Rattle.std.proofs.Common.{rules, arith, ◌<◌, ◌∷◌, ◌++◌, [], List, ℕ, length, get_or, refl, ap, ◌∙◌}
use Rattle.std.specs.Vec.Iter.{into_iter_items}
use Rattle.std.proofs.lemmas.List.{get_or_read}
use Rattle.pod_plan.specs.Plans.{app_with_root}
use Rattle.pod_plan.proofs.Picked.{none_made, made_more}
use Rattle.pod_plan.proofs.apps.apps_with.Goals as goal

pub picks-init : goal.picks-init
picks-init c = none_made c.args.manifests.now c.args.picks.now c.args.named.now c.args.roots.items (into_iter_items c.into_iter-left.result) c.new-apps.result.items (search rules) c.new-apps.ensures.items c.requires.roots

pub picks-preserved : goal.picks-preserved
picks-preserved c =
    let manifests = c.args.manifests.now in
    let picks = c.args.picks.now in
    let i = c.picks.place in
    let pick = get_or picks i 0 in
    let app = c.index-named-place.result in
    let within : i < length picks = search (rules, c.picks-test.true) in
    let known : i < length c.args.named.now = omega (arith, c.requires.named) in
    made_more manifests picks c.args.named.now c.args.roots.items i pick app c.in-Some.root (into_iter_items c.picks.left) (into_iter_items c.next.new.self) c.picks.apps.items c.add_app.new.apps.items
    within known refl c.index-named-place.is c.in-Some.ensures.cases.0
    (c.in_ok-add_app.ensures ∙ ap (λ (m : List ℕ). c.picks.apps.items ++ app_with_root app m c.in-Some.root ∷ []) (get_or_read manifests pick c.index-manifests-pick.result (c.requires.within i 0 within) c.index-manifests-pick.is []))
    c.picks.invariant
