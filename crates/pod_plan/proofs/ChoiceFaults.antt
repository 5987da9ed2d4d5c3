-- Where one of several has a fault, it is the first.
use Rattle.std.proofs.Common.{◌≡◌, ℕ, ◌+◌, ◌<◌, List, take, drop, get_or, length, Some, None, sym, subst}
use Rattle.ac_types.specs.declared.image_ref.ImageRef.{ImageRef}
use Rattle.dep_match.specs.declared.dep_tree.DepTree.{DepTree}
use Rattle.dep_match.specs.declared.stored.Stored.{Stored}
use Rattle.dep_match.specs.Dependencies.{dependency_tree}
use Rattle.pod_manifest.specs.Wishes.{Wishes}
use Rattle.pod_plan.specs.Choices.{best_of, ArePicks, AreTrees, IsNoTree, IsPickRefusal, IsChoiceTreeRefusal, IsPodRefusal, IsChoiceRefused}
use Rattle.pod_plan.specs.declared.choice_error.ChoiceError.{ChoiceError}
use Rattle.pod_plan.specs.declared.choice_error.ChoiceError.TheVariants.{NoMatch, DepError, NoMemory}
use Rattle.pod_plan.proofs.Mapped.{split_at, mapped_length, all_some, all_ok}

pub unmatched : (list : List Stored) (refs : List ImageRef) (i : ℕ) (wanted : ImageRef) (picks : List ℕ) (place : ℕ) → i < length refs → wanted ≡ get_or refs i wanted → place ≡ length picks
    → ArePicks list (take i refs) picks → (e : ChoiceError) → (e ≡ NoMatch place) × (best_of list wanted ≡ None) → IsPickRefusal list refs e
unmatched list refs i wanted picks place more is placed before e (error, none) =
    subst (IsPickRefusal list refs) (sym error) (record {
      before = take i refs;
      wanted = wanted;
      after = drop (i + 1) refs;
      is = split_at refs i wanted wanted more is;
      at = subst (λ (n : ℕ). place ≡ n) (mapped_length (best_of list) Some (take i refs) picks before) placed;
      none = none;
      earlier = all_some (best_of list) (take i refs) picks before;
    })

pub without_tree : (list : List Stored) (picks : List ℕ) (i pick : ℕ) (trees : List DepTree) → i < length picks → pick ≡ get_or picks i 0 → AreTrees list (take i picks) trees
    → (e : ChoiceError) → IsNoTree list pick e → IsChoiceTreeRefusal list picks e
without_tree list picks i pick trees more is before (DepError fault) x = record {
  before = take i picks;
  pick = pick;
  after = drop (i + 1) picks;
  is = split_at picks i 0 pick more is;
  faulty = x;
  earlier = all_ok (dependency_tree list) (λ (t : DepTree). t.nodes) (take i picks) trees before;
}
without_tree list picks i pick trees more is before NoMemory x = tt
without_tree list picks i pick trees more is before e x = absurd x

-- the images' tree faults are the pod's
pub trees_refusal : (list : List Stored) (options : Wishes) (picks : List ℕ) (e : ChoiceError) → IsChoiceTreeRefusal list picks e → IsPodRefusal list options picks e
trees_refusal list options picks (DepError fault) x = x
trees_refusal list options picks NoMemory x = tt
trees_refusal list options picks e x = absurd x

-- the pod's refusal is that of the references
pub pod_refusal : (list : List Stored) (refs : List ImageRef) (options : Wishes) (picks : List ℕ) → ArePicks list refs picks
    → (e : ChoiceError) → IsPodRefusal list options picks e → IsChoiceRefused list refs options e
pod_refusal list refs options picks are (NoMatch place) x = absurd x
pod_refusal list refs options picks are NoMemory x = tt
pod_refusal list refs options picks are e x = (picks, are, x)

pub picks_refusal : (list : List Stored) (refs : List ImageRef) (options : Wishes) (e : ChoiceError) → IsPickRefusal list refs e → IsChoiceRefused list refs options e
picks_refusal list refs options (NoMatch place) x = x
picks_refusal list refs options NoMemory x = tt
picks_refusal list refs options e x = absurd x
