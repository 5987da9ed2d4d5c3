use Rattle.std.proofs.Common.{◌≡◌, ℕ, List, None, refl, subst}
use Rattle.manifests.specs.PodData.{pod_data}
use Rattle.pod_manifest.specs.Generation.{first_refusal, pod_of}
use Rattle.pod_plan.specs.Choices.{AreTrees}
use Rattle.pod_plan.proofs.ChosenPods.{pod_made}
use Rattle.pod_plan.proofs.choice.choose_picked.Goals as goal

pub returns-in-Ok-clause-pod : goal.returns-in-Ok-clause-pod
returns-in-Ok-clause-pod c =
    let list = c.args.list.now in
    let options = c.args.options.now in
    pod_made list options c.args.picks c.in_ok-trees.trees c.in-Ok.manifest _
    (subst (λ (ps : List ℕ). AreTrees list ps c.in_ok-trees.trees) c.as_slice.ensures c.in_ok-trees.ensures.trees)
    (subst (λ (ps : List ℕ). first_refusal list ps options ≡ None) c.as_slice-2.ensures c.in-Ok.ensures.accepted)
    (subst (λ (ps : List ℕ). pod_data c.in-Ok.manifest ≡ pod_of list ps options) c.as_slice-2.ensures c.in-Ok.ensures.ok)
    refl refl refl
