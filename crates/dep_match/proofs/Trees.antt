-- A loop that grows the trees of dependencies one after the other.
use Rattle.std.proofs.Common.{◌≡◌, inl, inr, ℕ, zero, suc, ◌<◌, ◌≤◌, ◌+◌, ◌-◌, List, [], ◌∷◌, ◌++◌, length, drop, get_or, Result, Ok, Err, refl, sym, ap, ◌∙◌, subst, arith, add-zero}
use Rattle.std.proofs.lemmas.List.{drop_more, drop_all, append_assoc, append-nil, length-append}
use Rattle.manifest_parts.specs.declared.dependency.Dependency.{Dependency}
use Rattle.dep_match.specs.Dependencies.{and_then, branches, with_root, subtree, next_image, dependencies_at, IsFault}
use Rattle.dep_match.specs.declared.dep_error.DepError.{DepError}
use Rattle.dep_match.specs.declared.dep_tree.DepNode.{DepNode}
use Rattle.dep_match.specs.declared.stored.Stored.{Stored}

-- how the tree of a dependency grows
abbrev pub Grows : Type 0
Grows = ℕ → Dependency → Result (List DepNode) DepError

-- what is made so far, before what is still to be made
abbrev pub behind : List ℕ → List DepNode → Result (List ℕ × List DepNode) DepError → Result (List ℕ × List DepNode) DepError
behind numbers nodes rest = and_then rest (λ r. Ok (numbers ++ r.0, nodes ++ r.1))

pub record IsGrownTo (grow : Grows) (first : ℕ) (ds : List Dependency) (numbers : List ℕ) (nodes : List DepNode) (i : ℕ) : Type 0 where
  pub same : branches grow first ds ≡ behind numbers nodes (branches grow (first + length nodes) (drop i ds))
  pub few : first + length nodes ≤ 256

behind_none : (rest : Result (List ℕ × List DepNode) DepError) → rest ≡ behind [] [] rest
behind_none (Ok r) = refl
behind_none (Err e) = refl

pub grown_none : (grow : Grows) (first : ℕ) (ds : List Dependency) → first ≤ 256 → IsGrownTo grow first ds [] [] 0
grown_none grow first ds few = record {
  same = behind_none (branches grow first ds) ∙ ap (λ (n : ℕ). behind [] [] (branches grow n ds)) (sym (add-zero first));
  few = omega arith;
}

-- the next tree comes behind what is made
behind_more : (numbers : List ℕ) (nodes : List DepNode) (n : ℕ) (more : List DepNode) (rest : Result (List ℕ × List DepNode) DepError)
    → behind numbers nodes (and_then rest (λ r. Ok (n ∷ r.0, more ++ r.1))) ≡ behind (numbers ++ n ∷ []) (nodes ++ more) rest
behind_more numbers nodes n more (Err e) = refl
behind_more numbers nodes n more (Ok r) =
    ap (λ (ns : List ℕ). Ok (ns, nodes ++ (more ++ r.1))) (sym (append_assoc numbers (n ∷ []) r.0))
    ∙ ap (λ (ms : List DepNode). Ok ((numbers ++ n ∷ []) ++ r.0, ms)) (sym (append_assoc nodes more r.1))

-- the branches, of which that of a dependency is next
next_branch : (grow : Grows) (first : ℕ) (ds : List Dependency) (numbers : List ℕ) (nodes : List DepNode) (i : ℕ) (d : Dependency)
    → i < length ds → d ≡ get_or ds i d → IsGrownTo grow first ds numbers nodes i
    → branches grow first ds ≡ behind numbers nodes
    (and_then (grow (first + length nodes) d) (λ made.
    and_then (branches grow (first + length nodes + length made) (drop (i + 1) ds)) (λ r. Ok ((first + length nodes) ∷ r.0, made ++ r.1))))
next_branch grow first ds numbers nodes i d within is far =
    let cut : drop i ds ≡ d ∷ drop (i + 1) ds =
    drop_more ds i d within ∙ ap (λ (e : Dependency). e ∷ drop (i + 1) ds) (sym is) in
    far.same ∙ ap (λ (rest : List Dependency). behind numbers nodes (branches grow (first + length nodes) rest)) cut

grown_more : (grow : Grows) (first : ℕ) (ds : List Dependency) (numbers : List ℕ) (nodes : List DepNode) (i : ℕ) (d : Dependency)
    (made : List DepNode) {numbers_now : List ℕ} {nodes_now : List DepNode} → i < length ds → d ≡ get_or ds i d
    → grow (first + length nodes) d ≡ Ok made → first + length nodes + length made ≤ 256
    → numbers_now ≡ numbers ++ (first + length nodes) ∷ [] → nodes_now ≡ nodes ++ made
    → IsGrownTo grow first ds numbers nodes i → IsGrownTo grow first ds numbers_now nodes_now (i + 1)
grown_more grow first ds numbers nodes i d made {numbers_now} {nodes_now} within is grown few numbers_are nodes_are far =
    let n = first + length nodes in
    let count : n + length made ≡ first + length (nodes ++ made) = omega (arith, length-append nodes made) in
    let same : branches grow first ds ≡ behind (numbers ++ n ∷ []) (nodes ++ made) (branches grow (first + length (nodes ++ made)) (drop (i + 1) ds)) =
    next_branch grow first ds numbers nodes i d within is far
    ∙ ap (λ (g : Result (List DepNode) DepError). behind numbers nodes
    (and_then g (λ ms. and_then (branches grow (n + length ms) (drop (i + 1) ds)) (λ r. Ok (n ∷ r.0, ms ++ r.1))))) grown
    ∙ behind_more numbers nodes n made (branches grow (n + length made) (drop (i + 1) ds))
    ∙ ap (λ (m : ℕ). behind (numbers ++ n ∷ []) (nodes ++ made) (branches grow m (drop (i + 1) ds))) count in
    let there : IsGrownTo grow first ds (numbers ++ n ∷ []) (nodes ++ made) (i + 1) = record { same = same; few = omega (arith, count) } in
    let P : List ℕ → Type 0 = λ ns. IsGrownTo grow first ds ns nodes_now (i + 1) in
    let Q : List DepNode → Type 0 = λ ms. IsGrownTo grow first ds (numbers ++ n ∷ []) ms (i + 1) in
    subst P (sym numbers_are) (subst Q (sym nodes_are) there)

-- the same, where the number is known by an equation
pub grown_next : (grow : Grows) (first : ℕ) (ds : List Dependency) (numbers : List ℕ) (nodes : List DepNode) (i : ℕ) (d : Dependency)
    (made : List DepNode) (n : ℕ) {numbers_now : List ℕ} {nodes_now : List DepNode} → i < length ds → d ≡ get_or ds i d
    → n ≡ first + length nodes → grow n d ≡ Ok made → n + length made ≤ 256
    → numbers_now ≡ numbers ++ n ∷ [] → nodes_now ≡ nodes ++ made
    → IsGrownTo grow first ds numbers nodes i → IsGrownTo grow first ds numbers_now nodes_now (i + 1)
grown_next grow first ds numbers nodes i d made n within is n_is grown few numbers_are nodes_are far =
    grown_more grow first ds numbers nodes i d made within is (ap (λ (m : ℕ). grow m d) (sym n_is) ∙ grown) (omega arith)
    (numbers_are ∙ ap (λ (m : ℕ). numbers ++ m ∷ []) n_is) nodes_are far

grown_fault : (grow : Grows) (first : ℕ) (ds : List Dependency) (numbers : List ℕ) (nodes : List DepNode) (i : ℕ) (d : Dependency)
    (e : DepError) → i < length ds → d ≡ get_or ds i d → grow (first + length nodes) d ≡ Err e
    → IsGrownTo grow first ds numbers nodes i → branches grow first ds ≡ Err e
grown_fault grow first ds numbers nodes i d e within is grown far =
    let n = first + length nodes in
    next_branch grow first ds numbers nodes i d within is far
    ∙ ap (λ (g : Result (List DepNode) DepError). behind numbers nodes
    (and_then g (λ ms. and_then (branches grow (n + length ms) (drop (i + 1) ds)) (λ r. Ok (n ∷ r.0, ms ++ r.1))))) grown

grown_all : (grow : Grows) (first : ℕ) (ds : List Dependency) (numbers : List ℕ) (nodes : List DepNode) (i : ℕ)
    → length ds ≤ i → IsGrownTo grow first ds numbers nodes i → branches grow first ds ≡ Ok (numbers, nodes)
grown_all grow first ds numbers nodes i past far =
    far.same
    ∙ ap (λ (rest : List Dependency). behind numbers nodes (branches grow (first + length nodes) rest)) (drop_all i ds past)
    ∙ ap (λ (ns : List ℕ). Ok (ns, nodes ++ [])) (append-nil numbers)
    ∙ ap (λ (ms : List DepNode). Ok (numbers, ms)) (append-nil nodes)

-- the tree of a dependency, below the way to its dependent
abbrev pub grow_below : ℕ → List Stored → List ℕ → Grows
grow_below levels images way n d = and_then (next_image images way levels n d) (subtree levels images way n)

step : (levels : ℕ) (images : List Stored) (above : List ℕ) (made i : ℕ) → 0 < levels
    → subtree levels images above made i
    ≡ with_root i (branches (grow_below (levels - 1) images (above ++ i ∷ [])) (made + 1) (dependencies_at images i))
unfolding subtree
step zero images above made i some = absurd (omega arith)
step (suc levels) images above made i some =
    let e : levels ≡ suc levels - 1 = omega arith in
    ap (λ (n : ℕ). with_root i (branches (grow_below n images (above ++ i ∷ [])) (made + 1) (dependencies_at images i))) e

-- the tree of an image whose branches are all made
pub tree_made : (levels : ℕ) (images : List Stored) (above way : List ℕ) (made i : ℕ) (ds : List Dependency) (numbers : List ℕ)
    (nodes all : List DepNode) (k : ℕ) → 0 < levels → way ≡ above ++ i ∷ [] → ds ≡ dependencies_at images i → length ds ≤ k
    → all ≡ record { image = i; children = numbers } ∷ nodes
    → IsGrownTo (grow_below (levels - 1) images way) (made + 1) ds numbers nodes k
    → subtree levels images above made i ≡ Ok all
tree_made levels images above way made i ds numbers nodes all k some way_is ds_are past all_are far =
    step levels images above made i some
    ∙ ap (λ (w : List ℕ). with_root i (branches (grow_below (levels - 1) images w) (made + 1) (dependencies_at images i))) (sym way_is)
    ∙ ap (λ (e : List Dependency). with_root i (branches (grow_below (levels - 1) images way) (made + 1) e)) (sym ds_are)
    ∙ ap (with_root i) (grown_all (grow_below (levels - 1) images way) (made + 1) ds numbers nodes k past far)
    ∙ ap (λ (a : List DepNode). Ok a) (sym all_are)

-- the fault of an image one of whose branches has it
pub tree_fault : (levels : ℕ) (images : List Stored) (above way : List ℕ) (made i : ℕ) (ds : List Dependency) (numbers : List ℕ)
    (nodes : List DepNode) (k : ℕ) (d : Dependency) (n : ℕ) (e : DepError) → 0 < levels → way ≡ above ++ i ∷ []
    → ds ≡ dependencies_at images i → k < length ds → d ≡ get_or ds k d → n ≡ made + 1 + length nodes
    → IsGrownTo (grow_below (levels - 1) images way) (made + 1) ds numbers nodes k
    → IsFault (grow_below (levels - 1) images way n d) e
    → IsFault (subtree levels images above made i) e
tree_fault levels images above way made i ds numbers nodes k d n e some way_is ds_are within is n_is far (inl none) = inl none
tree_fault levels images above way made i ds numbers nodes k d n e some way_is ds_are within is n_is far (inr fault) = inr
    (step levels images above made i some
    ∙ ap (λ (w : List ℕ). with_root i (branches (grow_below (levels - 1) images w) (made + 1) (dependencies_at images i))) (sym way_is)
    ∙ ap (λ (x : List Dependency). with_root i (branches (grow_below (levels - 1) images way) (made + 1) x)) (sym ds_are)
    ∙ ap (with_root i) (grown_fault (grow_below (levels - 1) images way) (made + 1) ds numbers nodes k d e within is
    (ap (λ (m : ℕ). grow_below (levels - 1) images way m d) (sym n_is) ∙ fault) far))

-- the fault of a dependency's image, and that of the image's own tree
pub image_fault : (levels : ℕ) (images : List Stored) (way : List ℕ) (n : ℕ) (d : Dependency) (e : DepError)
    → IsFault (next_image images way levels n d) e → IsFault (grow_below levels images way n d) e
image_fault levels images way n d e (inl none) = inl none
image_fault levels images way n d e (inr fault) =
    inr (ap (λ (r : Result ℕ DepError). and_then r (subtree levels images way n)) fault)

pub subtree_is : (levels : ℕ) (images : List Stored) (way : List ℕ) (n : ℕ) (d : Dependency) (i : ℕ)
    → next_image images way levels n d ≡ Ok i → grow_below levels images way n d ≡ subtree levels images way n i
subtree_is levels images way n d i found = ap (λ (r : Result ℕ DepError). and_then r (subtree levels images way n)) found

pub below_fault : (levels : ℕ) (images : List Stored) (way : List ℕ) (n : ℕ) (d : Dependency) (i : ℕ) (e : DepError)
    → next_image images way levels n d ≡ Ok i → IsFault (subtree levels images way n i) e → IsFault (grow_below levels images way n d) e
below_fault levels images way n d i e found (inl none) = inl none
below_fault levels images way n d i e found (inr fault) = inr (subtree_is levels images way n d i found ∙ fault)
