-- The pod of some images, put together from its parts.
use Rattle.std.proofs.Common.{◌≡◌, ℕ, List, None, sym, subst, ap, ◌∙◌}
use Rattle.manifests.specs.PodData.{pod_data}
use Rattle.manifests.specs.declared.pod_manifest.PodManifest.{PodManifest}
use Rattle.dep_match.specs.declared.dep_tree.DepTree.{DepTree}
use Rattle.dep_match.specs.declared.stored.Stored.{Stored}
use Rattle.pod_manifest.specs.Generation.{first_refusal, pod_of}
use Rattle.pod_manifest.specs.Wishes.{Wishes}
use Rattle.pod_plan.specs.Choices.{AreTrees, IsChosenPod}
use Rattle.pod_plan.specs.declared.choice.Choice.{Choice}

pub pod_made : (list : List Stored) (options : Wishes) (picks : List ℕ) (trees : List DepTree) (pod : PodManifest) (c : Choice)
    → AreTrees list picks trees → first_refusal list picks options ≡ None → pod_data pod ≡ pod_of list picks options
    → c.picks ≡ picks → c.trees ≡ trees → c.manifest ≡ pod → IsChosenPod list options c
pod_made list options picks trees pod c are none is same grown kept = record {
  accepted = subst (λ (ps : List ℕ). first_refusal list ps options ≡ None) (sym same) none;
  manifest = ap pod_data kept ∙ (is ∙ ap (λ (ps : List ℕ). pod_of list ps options) (sym same));
  dependencies = subst (λ (ps : List ℕ). AreTrees list ps c.trees) (sym same) (subst (λ (ts : List DepTree). AreTrees list picks ts) (sym grown) are);
}
