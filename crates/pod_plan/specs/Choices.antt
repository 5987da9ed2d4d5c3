-- Which pod some references make of the images of a list, and why they make none.
use Rattle.std.specs.Prelude.{◌≡◌, ℕ, List, ◌∷◌, ◌++◌, length, map, Option, Some, None, IsSome, Ok, Err, IsOk}
use Rattle.std.specs.List.{All}
use Rattle.ac_types.specs.declared.image_ref.ImageRef.{ImageRef}
use Rattle.manifests.specs.PodData.{pod_data}
use Rattle.dep_match.specs.declared.dep_error.DepError.{DepError}
use Rattle.dep_match.specs.declared.dep_tree.DepTree.{DepTree}
use Rattle.dep_match.specs.declared.stored.Stored.{Stored}
use Rattle.dep_match.specs.Dependencies.{dependency_tree}
use Rattle.dep_match.specs.Selection.{best_match, matches}
use Rattle.pod_manifest.specs.Generation.{pod_of, first_refusal}
use Rattle.pod_manifest.specs.Wishes.{Wishes}
use Rattle.pod_plan.specs.declared.choice.Choice.{Choice}
use Rattle.pod_plan.specs.declared.choice_error.ChoiceError.{ChoiceError}
use Rattle.pod_plan.specs.declared.choice_error.ChoiceError.TheVariants as choice

-- the best image for a reference
abbrev pub best_of : List Stored → ImageRef → Option ℕ
best_of list wanted = best_match (matches wanted) list

-- the best image for each reference, in order
abbrev pub ArePicks : List Stored → List ImageRef → List ℕ → Type 0
ArePicks list refs picks = map (best_of list) refs ≡ map Some picks

-- no image matches the reference at this place, and it is the first such
pub record IsUnmatched (list : List Stored) (refs : List ImageRef) (place : ℕ) : Type 0 where
  pub before : List ImageRef
  pub wanted : ImageRef
  pub after : List ImageRef
  pub is : refs ≡ before ++ wanted ∷ after
  pub at : place ≡ length before
  pub none : best_of list wanted ≡ None
  pub earlier : All (λ r. IsSome (best_of list r)) before

-- a reference has no image, or memory ran out
abbrev pub IsPickRefusal : List Stored → List ImageRef → ChoiceError → Type 0
IsPickRefusal list refs (choice.NoMatch place) = IsUnmatched list refs place
IsPickRefusal list refs choice.NoMemory = Unit {0}
IsPickRefusal list refs error = ⊥

-- the tree of dependencies of each image, in order
abbrev pub AreTrees : List Stored → List ℕ → List DepTree → Type 0
AreTrees list picks trees = map (dependency_tree list) picks ≡ map (λ (t : DepTree). Ok t.nodes) trees

-- the tree of one of the images has this fault, and it is the first that has one
pub record IsTreeFault (list : List Stored) (picks : List ℕ) (fault : DepError) : Type 0 where
  pub before : List ℕ
  pub pick : ℕ
  pub after : List ℕ
  pub is : picks ≡ before ++ pick ∷ after
  pub faulty : dependency_tree list pick ≡ Err fault
  pub earlier : All (λ i. IsOk (dependency_tree list i)) before

-- this image has no tree, for that fault; or memory ran out
abbrev pub IsNoTree : List Stored → ℕ → ChoiceError → Type 0
IsNoTree list pick (choice.DepError fault) = dependency_tree list pick ≡ Err fault
IsNoTree list pick choice.NoMemory = Unit {0}
IsNoTree list pick error = ⊥

-- one of them has no tree, or memory ran out
abbrev pub IsChoiceTreeRefusal : List Stored → List ℕ → ChoiceError → Type 0
IsChoiceTreeRefusal list picks (choice.DepError fault) = IsTreeFault list picks fault
IsChoiceTreeRefusal list picks choice.NoMemory = Unit {0}
IsChoiceTreeRefusal list picks error = ⊥

-- the pod of the images at its places: the tree of dependencies of each, and the manifest
pub record IsChosenPod (list : List Stored) (options : Wishes) (c : Choice) : Type 0 where
  pub accepted : first_refusal list c.picks options ≡ None
  pub manifest : pod_data c.manifest ≡ pod_of list c.picks options
  pub dependencies : AreTrees list c.picks c.trees

-- the images at these places make none, for the first reason: a fault in the dependencies of one, or a refusal of the
-- manifest; or memory ran out
abbrev pub IsPodRefusal : List Stored → Wishes → List ℕ → ChoiceError → Type 0
IsPodRefusal list options picks (choice.NoMatch place) = ⊥
IsPodRefusal list options picks (choice.DepError fault) = IsTreeFault list picks fault
IsPodRefusal list options picks (choice.GenError refusal) = (trees : List DepTree) × AreTrees list picks trees × (first_refusal list picks options ≡ Some refusal)
IsPodRefusal list options picks choice.NoMemory = Unit {0}

-- the pod of the references' best images
abbrev pub IsChoice : List Stored → List ImageRef → Wishes → Choice → Type 0
IsChoice list refs options c = ArePicks list refs c.picks × IsChosenPod list options c

-- a reference has no image, or else those images make no pod; or memory ran out
abbrev pub IsChoiceRefused : List Stored → List ImageRef → Wishes → ChoiceError → Type 0
IsChoiceRefused list refs options (choice.NoMatch place) = IsUnmatched list refs place
IsChoiceRefused list refs options choice.NoMemory = Unit {0}
IsChoiceRefused list refs options error = (picks : List ℕ) × ArePicks list refs picks × IsPodRefusal list options picks error
