-- For one list of images there is one reason why references make no pod of them, and none where they make one.
use Rattle.std.proofs.Common.{arith, ◌≡◌, ℕ, true, false, Option, Some, None, IsSome, IsOk, List, [], ◌∷◌, ◌++◌, length, map, refl, sym, ap, subst, ◌∙◌}
use Rattle.std.specs.List.{All}
use Rattle.std.proofs.lemmas.Grind.{common_steps}
use Rattle.std.proofs.lemmas.List.Elements.{All-head, All-tail}
use Rattle.ac_types.specs.declared.image_ref.ImageRef.{ImageRef}
use Rattle.dep_match.specs.declared.dep_error.DepError.{DepError}
use Rattle.dep_match.specs.declared.dep_tree.DepTree.{DepTree}
use Rattle.dep_match.specs.declared.stored.Stored.{Stored}
use Rattle.dep_match.specs.Dependencies.{dependency_tree}
use Rattle.pod_plan.specs.declared.choice.Choice.{Choice}
use Rattle.pod_plan.specs.declared.choice_error.ChoiceError.{ChoiceError}
use Rattle.pod_plan.specs.declared.choice_error.ChoiceError.TheVariants as choice
use Rattle.pod_plan.specs.Choices.{best_of, ArePicks, AreTrees, IsChoice, IsChoiceRefused, IsTreeFault, IsUnmatched}
use Rattle.pod_plan.proofs.Mapped.{all_ok, all_some}
use Rattle.pod_manifest.specs.Generation.{first_refusal}
use Rattle.pod_manifest.specs.Wishes.{Wishes}

module _ {X : Type 0} where
  heads : (a b : X) (xs ys : List X) → a ∷ xs ≡ b ∷ ys → a ≡ b
  heads a b xs ys is = cc

  tails : (a b : X) (xs ys : List X) → a ∷ xs ≡ b ∷ ys → xs ≡ ys
  tails a b xs ys is = cc

  longer : (a b : X) (xs ys : List X) → length xs ≡ length ys → length (a ∷ xs) ≡ length (b ∷ ys)
  longer a b xs ys same = grind (arith, common_steps)

  -- the first element that isn't good is one
  first_one : (Good : X → Type 0) (front back : List X) (a b : X) (xs ys : List X) → front ++ a ∷ xs ≡ back ++ b ∷ ys → (Good a → ⊥) → (Good b → ⊥) → All Good front → All Good back →
      (length front ≡ length back) × (a ≡ b)
  first_one Good [] [] a b xs ys is bad worse good better = (refl, heads a b xs ys is)
  first_one Good [] (d ∷ back) a b xs ys is bad worse good better = absurd (bad (subst Good (sym (heads a d xs (back ++ b ∷ ys) is)) (All-head Good d back better)))
  first_one Good (c ∷ front) [] a b xs ys is bad worse good better = absurd (worse (subst Good (heads c b (front ++ a ∷ xs) ys is) (All-head Good c front good)))
  first_one Good (c ∷ front) (d ∷ back) a b xs ys is bad worse good better =
      let rest = first_one Good front back a b xs ys (tails c d (front ++ a ∷ xs) (back ++ b ∷ ys) is) bad worse (All-tail Good c front good) (All-tail Good d back better) in
      (longer c d front back rest.0, rest.1)

  -- where all are good, each is
  good_at : (Good : X → Type 0) (front : List X) (a : X) (xs : List X) → All Good (front ++ a ∷ xs) → Good a
  good_at Good [] a xs all = All-head Good a xs all
  good_at Good (c ∷ front) a xs all = good_at Good front a xs (All-tail Good c (front ++ a ∷ xs) all)

  one_some : (xs ys : List X) → map Some xs ≡ map Some ys → xs ≡ ys
  one_some [] [] is = refl
  one_some [] (y ∷ ys) is = cc
  one_some (x ∷ xs) [] is = cc
  one_some (x ∷ xs) (y ∷ ys) is =
      let first : Some x ≡ Some y = cc in
      let same : x ≡ y = cc in
      let rest : map Some xs ≡ map Some ys = cc in
      ap (λ (z : X). z ∷ xs) same ∙ ap (λ (l : List X). y ∷ l) (one_some xs ys rest)

module _ (images : List Stored) (refs : List ImageRef) (wishes : Wishes) where
  abbrev Matched : ImageRef → Type 0
  Matched r = IsSome (best_of images r)

  abbrev HasTree : ℕ → Type 0
  HasTree i = IsOk (dependency_tree images i)

  unmatched : (place : ℕ) (x : IsUnmatched images refs place) → Matched x.wanted → ⊥
  unmatched place x h = let clash : false ≡ true = subst (λ (o : Option ℕ). IsSome o) x.none h in cc

  -- each reference has an image
  never_unmatched : (place : ℕ) (picks : List ℕ) → IsUnmatched images refs place → ArePicks images refs picks → ⊥
  never_unmatched place picks x are =
      unmatched place x (good_at Matched x.before x.wanted x.after (subst (λ (l : List ImageRef). All Matched l) x.is (all_some (best_of images) refs picks are)))

  faulty : (picks : List ℕ) (fault : DepError) (x : IsTreeFault images picks fault) → HasTree x.pick → ⊥
  faulty picks fault x h = let clash = subst (λ o. IsOk o) x.faulty h in cc

  -- each image has a tree
  never_faulty : (picks : List ℕ) (fault : DepError) (trees : List DepTree) → IsTreeFault images picks fault → AreTrees images picks trees → ⊥
  never_faulty picks fault trees x are =
      faulty picks fault x (good_at HasTree x.before x.pick x.after (subst (λ (l : List ℕ). All HasTree l) x.is (all_ok (dependency_tree images) (λ (t : DepTree). t.nodes) picks trees are)))

  pub one_pick : (a b : List ℕ) → ArePicks images refs a → ArePicks images refs b → a ≡ b
  one_pick a b x y = one_some a b (sym x ∙ y)

  one_fault : (a b : List ℕ) (f g : DepError) → a ≡ b → IsTreeFault images a f → IsTreeFault images b g → f ≡ g
  one_fault a b f g same x y =
      let first = first_one HasTree x.before y.before x.pick y.pick x.after y.after (sym x.is ∙ (same ∙ y.is)) (faulty a f x) (faulty b g y) x.earlier y.earlier in
      let both = sym x.faulty ∙ (ap (dependency_tree images) first.1 ∙ y.faulty) in
      cc

  pub one_reason : (r q : ChoiceError) → IsChoiceRefused images refs wishes r → IsChoiceRefused images refs wishes q → (r ≡ choice.NoMemory → ⊥) → (q ≡ choice.NoMemory → ⊥) → r ≡ q
  one_reason (choice.NoMatch p) (choice.NoMatch k) x y a b =
      let first = first_one Matched x.before y.before x.wanted y.wanted x.after y.after (sym x.is ∙ y.is) (unmatched p x) (unmatched k y) x.earlier y.earlier in
      ap choice.NoMatch (x.at ∙ (first.0 ∙ sym y.at))
  one_reason (choice.NoMatch p) (choice.DepError g) x y a b = absurd (never_unmatched p y.0 x y.1)
  one_reason (choice.NoMatch p) (choice.GenError g) x y a b = absurd (never_unmatched p y.0 x y.1)
  one_reason (choice.DepError f) (choice.NoMatch k) x y a b = absurd (never_unmatched k x.0 y x.1)
  one_reason (choice.DepError f) (choice.DepError g) x y a b = ap choice.DepError (one_fault x.0 y.0 f g (one_pick x.0 y.0 x.1 y.1) x.2 y.2)
  one_reason (choice.DepError f) (choice.GenError g) x y a b = absurd (never_faulty y.0 f y.2.0 (subst (λ (l : List ℕ). IsTreeFault images l f) (one_pick x.0 y.0 x.1 y.1) x.2) y.2.1)
  one_reason (choice.GenError f) (choice.NoMatch k) x y a b = absurd (never_unmatched k x.0 y x.1)
  one_reason (choice.GenError f) (choice.DepError g) x y a b = absurd (never_faulty x.0 g x.2.0 (subst (λ (l : List ℕ). IsTreeFault images l g) (one_pick y.0 x.0 y.1 x.1) y.2) x.2.1)
  one_reason (choice.GenError f) (choice.GenError g) x y a b =
      let both : Some f ≡ Some g = sym x.2.2 ∙ (ap (λ (l : List ℕ). first_refusal images l wishes) (one_pick x.0 y.0 x.1 y.1) ∙ y.2.2) in
      let same : f ≡ g = cc in
      ap choice.GenError same
  one_reason choice.NoMemory q x y a b = absurd (a refl)
  one_reason r choice.NoMemory x y a b = absurd (b refl)

  -- and none where they make a pod
  pub no_reason : (pod : Choice) → IsChoice images refs wishes pod → (r : ChoiceError) → IsChoiceRefused images refs wishes r → r ≡ choice.NoMemory
  no_reason pod c (choice.NoMatch p) x = absurd (never_unmatched p pod.picks x c.0)
  no_reason pod c (choice.DepError f) x = absurd (never_faulty pod.picks f pod.trees (subst (λ (l : List ℕ). IsTreeFault images l f) (one_pick x.0 pod.picks x.1 c.0) x.2) c.1.dependencies)
  no_reason pod c (choice.GenError f) x =
      let both : Some f ≡ None = sym x.2.2 ∙ (ap (λ (l : List ℕ). first_refusal images l wishes) (one_pick x.0 pod.picks x.1 c.0) ∙ c.1.accepted) in
      cc
  no_reason pod c choice.NoMemory x = refl
