use Rattle.std.proofs.Common.{◌≡◌, true, codes, List, [], ◌∷◌, ◌++◌, map, sym, subst}
use Rattle.std.specs.List.{flat_map}
use Rattle.folder_building.specs.declared.plan.PlanEntry.{PlanEntry}
use Rattle.folder_building.specs.Plans.{is_plan}
use Rattle.folder_building.specs.ImagePlans.{given_file}
use Rattle.pod_plan.specs.PodPlans.{pod_head_entries, app_entries, pod_entries, ComesInTurn, MakesWhole}
use Rattle.pod_plan.specs.Pods.{files_of, MakesPod}
use Rattle.pod_plan.proofs.PodFolders.{in_parts, each_ok, pod_is_plan, makes_pod, comes_in_turn, makes_whole}
use Rattle.pod_plan.proofs.pod_folder.pod_plan.Goals as goal

pub returns-clause-entries : goal.returns-clause-entries
returns-clause-entries c =
    let last = given_file (codes "pod") c.args.manifest.now in
    each_ok (λ new. new.items ≡ c.in_ok-plan-2.plan.items ++ last ∷ []) (λ new. new.items ≡ pod_entries c.args.now c.args.token.now c.args.manifest.now c.args.images.now c.args.apps.now)
    (λ new is. in_parts (pod_head_entries c.args.now c.args.token.now) (flat_map (app_entries c.args.images.now) c.args.apps.now) c.in_ok-plan.plan.items c.in_ok-plan-2.plan.items new.items last c.in_ok-plan.ensures c.in_ok-plan-2.ensures.entries is)
    c.add_manifest.result c.add_manifest.ensures

pub returns-clause-plan : goal.returns-clause-plan
returns-clause-plan c =
    each_ok (λ new. new.items ≡ pod_entries c.args.now c.args.token.now c.args.manifest.now c.args.images.now c.args.apps.now) (λ new. is_plan new.items ≡ true)
    (λ new is. subst (λ (l : List PlanEntry). is_plan l ≡ true) (sym is) (pod_is_plan c.args.now c.args.token.now c.args.manifest.now c.args.images.now c.args.apps.now c.in_ok-plan-2.ensures.kind c.requires.names))
    c.add_manifest.result (returns-clause-entries c)

pub returns-clause-pod : goal.returns-clause-pod
returns-clause-pod c =
    each_ok (λ new. new.items ≡ pod_entries c.args.now c.args.token.now c.args.manifest.now c.args.images.now c.args.apps.now) (λ new. MakesPod c.args.now c.args.token.now c.args.manifest.now (map files_of c.args.apps.now) new.items)
    (λ new is. subst (MakesPod c.args.now c.args.token.now c.args.manifest.now (map files_of c.args.apps.now)) (sym is) (makes_pod c.args.now c.args.token.now c.args.manifest.now c.args.images.now c.args.apps.now c.in_ok-plan-2.ensures.kind c.requires.names))
    c.add_manifest.result (returns-clause-entries c)

pub returns-clause-turn : goal.returns-clause-turn
returns-clause-turn c =
    each_ok (λ new. new.items ≡ pod_entries c.args.now c.args.token.now c.args.manifest.now c.args.images.now c.args.apps.now) (λ new. ComesInTurn c.args.now new.items)
    (λ new is. subst (ComesInTurn c.args.now) (sym is) (comes_in_turn c.args.now c.args.token.now c.args.manifest.now c.args.images.now c.args.apps.now c.in_ok-plan-2.ensures.kind c.requires.names))
    c.add_manifest.result (returns-clause-entries c)

pub returns-clause-whole : goal.returns-clause-whole
returns-clause-whole c =
    each_ok (λ new. new.items ≡ pod_entries c.args.now c.args.token.now c.args.manifest.now c.args.images.now c.args.apps.now) (λ new. MakesWhole new.items)
    (λ new is. subst MakesWhole (sym is) (makes_whole c.args.now c.args.token.now c.args.manifest.now c.args.images.now c.args.apps.now c.in_ok-plan-2.ensures.kind c.requires.names))
    c.add_manifest.result (returns-clause-entries c)
