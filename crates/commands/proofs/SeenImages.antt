-- Lists of images of which the same is seen make pods of the same trees, and none for the same reasons.
use Rattle.std.proofs.Common.{◌≡◌, ℕ, ◌+◌, Bool, true, false, not, ◌&&◌, ◌||◌, zero, suc, Option, Some, None, IsSome, Ok, Err, IsOk, Result, List, [], ◌∷◌, ◌++◌, cond, length, map, take, refl, sym, ap, subst, ◌∙◌}
use Rattle.std.specs.Prelude.{◌==◌, nat_le, nat_lt, slice_index_or, option_map, if◌then◌else◌}
use Rattle.std.specs.List.{All, cons_option, filter, filter_map, list_all, list_any, position, prefix_len, slice_get}
use Rattle.std.specs.Option.{option_or}
use Rattle.std.specs.Ordering.{nat_cmp, ordering_then, is_gt}
use Rattle.std.specs.Cmp.Lexicographic.{slice_cmp}
use Rattle.std.specs.Str.{bytes_eq}
use Rattle.std.proofs.Math.Path.{fun_ext}
use Rattle.std.proofs.lemmas.List.{length-map}
use Rattle.ac_types.specs.declared.image_ref.ImageRef.{ImageRef}
use Rattle.ac_types.specs.declared.image_ref.ImageRef.TheVariants.{Named, ById}
use Rattle.ac_types.specs.declared.label.Label.{Label}
use Rattle.ac_types.specs.declared.store_key.StoreKey.{StoreKey}
use Rattle.app_section.specs.AppData.{AppData, app_data}
use Rattle.app_section.specs.declared.app.App.{App}
use Rattle.manifest_parts.specs.declared.dependency.Dependency.{Dependency}
use Rattle.path_map.specs.declared.listed.Listed.{Listed}
use Rattle.dep_match.specs.declared.dep_error.DepError.{DepError}
use Rattle.dep_match.specs.declared.dep_error.DepError.TheVariants.{Cycle, TooDeep, TooMany}
use Rattle.dep_match.specs.declared.dep_tree.DepNode.{DepNode}
use Rattle.dep_match.specs.declared.dep_tree.DepTree.{DepTree}
use Rattle.dep_match.specs.declared.refusals.TheConstants.{MAX_DEPTH, MAX_NODES}
use Rattle.dep_match.specs.declared.stored.Stored.{Stored}
use Rattle.dep_match.specs.Copies.{StoredData, stored_data}
use Rattle.dep_match.specs.Dependencies.{and_then, branches, dependencies_at, dependency_tree, key_at, next_image, subtree, unless_faulty, with_root}
use Rattle.dep_match.specs.Selection.{best_match, digits_of, has_id, has_label, matches_dependency}
use Rattle.pod_plan.specs.declared.choice_error.ChoiceError.{ChoiceError}
use Rattle.pod_plan.specs.declared.choice_error.ChoiceError.TheVariants as choice
use Rattle.pod_plan.specs.Choices.{best_of, ArePicks, AreTrees, IsChoiceRefused, IsTreeFault, IsUnmatched}
use Rattle.pod_manifest.specs.AppNames.{app_name}
use Rattle.pod_manifest.specs.Generation.{app_fault, first_fault, first_refusal, mount_fault, name_of, picked, words_fault}
use Rattle.pod_manifest.specs.Wishes.{Wishes}
use Rattle.pod_manifest.specs.declared.gen_error.GenError.{GenError}
use Rattle.pod_manifest.specs.declared.gen_error.GenError.TheVariants.{TooManyApps, NoApp}
use Rattle.pod_manifest.specs.declared.refusals.TheConstants.{MAX_APPS}
use Rattle.render.specs.Assembly.{whitelist_of}

-- what is read of each image
map_seen : {B : Type 0} (f : StoredData → B) (xs : List Stored) → map (λ (s : Stored). f (stored_data s)) xs ≡ map f (map stored_data xs)
map_seen f [] = refl
map_seen {B} f (x ∷ xs) = ap (λ (l : List B). f (stored_data x) ∷ l) (map_seen f xs)

get_seen : (xs : List Stored) (i : ℕ) → option_map stored_data (slice_get xs i) ≡ slice_get (map stored_data xs) i
get_seen [] i = refl
get_seen (x ∷ xs) zero = refl
get_seen (x ∷ xs) (suc i) = get_seen xs i

-- the best match
prefix_seen : (p : StoredData → Bool) (xs : List Stored) → prefix_len (λ (s : Stored). p (stored_data s)) xs ≡ prefix_len p (map stored_data xs)
prefix_seen p [] = refl
prefix_seen p (x ∷ xs) = rw (prefix_seen p xs) refl

position_seen : (p : StoredData → Bool) (xs : List Stored) → position (λ (s : Stored). p (stored_data s)) xs ≡ position p (map stored_data xs)
position_seen p xs = rw (prefix_seen (λ d. not (p d)) xs, length-map xs stored_data) refl

any_seen : (p test : StoredData → Bool) (xs : List Stored) → list_any (λ (m : Stored). p (stored_data m)) (filter (λ (s : Stored). test (stored_data s)) xs) ≡ list_any p (filter test (map stored_data xs))
any_seen p test [] = refl
any_seen p test (x ∷ xs) = by (test (stored_data x)) (any_seen p test xs)
  where
    by : (b : Bool) → list_any (λ (m : Stored). p (stored_data m)) (filter (λ (s : Stored). test (stored_data s)) xs) ≡ list_any p (filter test (map stored_data xs)) →
        list_any (λ (m : Stored). p (stored_data m)) (cond b (x ∷ filter (λ (s : Stored). test (stored_data s)) xs) (filter (λ (s : Stored). test (stored_data s)) xs))
        ≡ list_any p (cond b (stored_data x ∷ filter test (map stored_data xs)) (filter test (map stored_data xs)))
    by true e = ap (λ (c : Bool). p (stored_data x) || c) e
    by false e = e

abbrev outranks_seen : StoredData → StoredData → Bool
outranks_seen a b = is_gt (ordering_then (nat_cmp a.moment b.moment) (slice_cmp nat_cmp a.key.bytes b.key.bytes))

abbrev best_seen : (StoredData → Bool) → List StoredData → Option ℕ
best_seen test ds = position (λ (d : StoredData). test d && not (list_any (λ (m : StoredData). outranks_seen m d) (filter test ds))) ds

best_is : (test : StoredData → Bool) (xs : List Stored) → best_match (λ (s : Stored). test (stored_data s)) xs ≡ best_seen test (map stored_data xs)
best_is test xs =
    let first : StoredData → Bool = λ d. test d && not (list_any (λ (m : Stored). outranks_seen (stored_data m) d) (filter (λ (s : Stored). test (stored_data s)) xs)) in
    let last : StoredData → Bool = λ d. test d && not (list_any (λ (m : StoredData). outranks_seen m d) (filter test (map stored_data xs))) in
    let same : first ≡ last = fun_ext (λ (d : StoredData). ap (λ (c : Bool). test d && not c) (any_seen (λ m. outranks_seen m d) test xs)) in
    position_seen first xs ∙ ap (λ (p : StoredData → Bool). position p (map stored_data xs)) same

abbrev called : List ℕ → List Label → StoredData → Bool
called name labels d = bytes_eq d.manifest.name name && list_all (λ (l : Label). has_label d.manifest.labels l) labels

-- the first refusal of a manifest
abbrev app_seen : List (List ℕ) → List ℕ → Option AppData → Option GenError
app_seen names name None = Some (NoApp name)
app_seen names name (Some app) = words_fault names (app_name name) app.exec

abbrev first_seen : List (List ℕ) → List StoredData → Option GenError
first_seen names [] = None
first_seen names (d ∷ ds) = option_or (app_seen names d.manifest.name d.manifest.app) (first_seen (names ++ app_name d.manifest.name ∷ []) ds)

app_is : (names : List (List ℕ)) (image : Stored) (o : Option App) → app_fault names image o ≡ app_seen names image.manifest.name (option_map app_data o)
app_is names image None = refl
app_is names image (Some app) = refl

first_is : (names : List (List ℕ)) (xs : List Stored) → first_fault names xs ≡ first_seen names (map stored_data xs)
first_is names [] = refl
first_is names (x ∷ xs) =
    ap (λ (o : Option GenError). option_or o (first_fault (names ++ name_of x ∷ []) xs)) (app_is names x x.manifest.app)
    ∙ ap (λ (o : Option GenError). option_or (app_seen names x.manifest.name (option_map app_data x.manifest.app)) o) (first_is (names ++ name_of x ∷ []) xs)

cons_seen : (o : Option Stored) (l : List Stored) → map stored_data (cons_option o l) ≡ cons_option (option_map stored_data o) (map stored_data l)
cons_seen None l = refl
cons_seen (Some x) l = refl

picked_is : (xs : List Stored) (picks : List ℕ) → map stored_data (picked xs picks) ≡ filter_map (slice_get (map stored_data xs)) picks
picked_is xs [] = refl
picked_is xs (p ∷ picks) =
    cons_seen (slice_get xs p) (picked xs picks)
    ∙ (ap (λ (o : Option StoredData). cons_option o (map stored_data (picked xs picks))) (get_seen xs p)
    ∙ ap (λ (l : List StoredData). cons_option (slice_get (map stored_data xs) p) l) (picked_is xs picks))

-- the fault where an image is found
abbrev found_fault : List ℕ → ℕ → ℕ → ℕ → StoreKey → Result ℕ DepError
found_fault way levels made i key =
    if list_any (λ k. k == i) way then Err (Cycle key)
    else if levels == 0 then Err TooDeep
    else if nat_le MAX_NODES made then Err TooMany
    else Ok i

module _ (xs ys : List Stored) (same : map stored_data xs ≡ map stored_data ys) where
  each_same : {B : Type 0} (f : StoredData → B) → map (λ (s : Stored). f (stored_data s)) xs ≡ map (λ (s : Stored). f (stored_data s)) ys
  each_same f = map_seen f xs ∙ (ap (map f) same ∙ sym (map_seen f ys))

  pub same_key_at : (i : ℕ) → key_at xs i ≡ key_at ys i
  same_key_at i = ap (λ (ks : List StoreKey). slice_index_or ks i (record { bytes = [] })) (each_same (λ (d : StoredData). d.key))

  same_needs : (i : ℕ) → dependencies_at xs i ≡ dependencies_at ys i
  same_needs i = ap (λ (ds : List (List Dependency)). slice_index_or ds i []) (each_same (λ (d : StoredData). d.manifest.dependencies))

  pub same_whitelist : (i : ℕ) → whitelist_of xs i ≡ whitelist_of ys i
  same_whitelist i = ap (λ (ls : List (List Listed)). slice_index_or ls i []) (each_same (λ (d : StoredData). d.manifest.path_whitelist))

  best_same : (test : StoredData → Bool) → best_match (λ (s : Stored). test (stored_data s)) xs ≡ best_match (λ (s : Stored). test (stored_data s)) ys
  best_same test = best_is test xs ∙ (ap (best_seen test) same ∙ sym (best_is test ys))

  pub same_best : (wanted : ImageRef) → best_of xs wanted ≡ best_of ys wanted
  same_best (Named name labels) = best_same (called name labels)
  same_best (ById digits len) = best_same (λ (d : StoredData). bytes_eq (take len (digits_of d.id)) (take len digits))

  same_next : (d : Dependency) → best_match (matches_dependency d) xs ≡ best_match (matches_dependency d) ys
  same_next d = best_same (λ (s : StoredData). called d.image_name d.labels s && has_id d.image_id s.id)

  -- the trees of dependencies
  same_fault : (way : List ℕ) (levels made : ℕ) (name : List ℕ) (o : Option ℕ) → unless_faulty xs way levels made name o ≡ unless_faulty ys way levels made name o
  same_fault way levels made name None = refl
  same_fault way levels made name (Some i) = ap (found_fault way levels made i) (same_key_at i)

  next_same : (way : List ℕ) (levels made : ℕ) (d : Dependency) → next_image xs way levels made d ≡ next_image ys way levels made d
  next_same way levels made d =
      ap (λ (o : Option ℕ). unless_faulty xs way levels made d.image_name o) (same_next d) ∙ same_fault way levels made d.image_name (best_match (matches_dependency d) ys)

  same_subtree : (levels : ℕ) (above : List ℕ) (made i : ℕ) → subtree levels xs above made i ≡ subtree levels ys above made i
  unfolding subtree
  same_subtree zero above made i = refl
  same_subtree (suc levels) above made i =
      let way : List ℕ = above ++ i ∷ [] in
      let first : ℕ → Dependency → Result (List DepNode) DepError = λ n d. and_then (next_image xs way levels n d) (subtree levels xs way n) in
      let last : ℕ → Dependency → Result (List DepNode) DepError = λ n d. and_then (next_image ys way levels n d) (subtree levels ys way n) in
      let one : (n : ℕ) (d : Dependency) → first n d ≡ last n d = λ n d.
      ap (λ (r : Result ℕ DepError). and_then r (subtree levels xs way n)) (next_same way levels n d)
      ∙ ap (λ (f : ℕ → Result (List DepNode) DepError). and_then (next_image ys way levels n d) f) (fun_ext (λ (j : ℕ). same_subtree levels way n j)) in
      let grow : first ≡ last = fun_ext (λ (n : ℕ). fun_ext (λ (d : Dependency). one n d)) in
      ap (λ (g : ℕ → Dependency → Result (List DepNode) DepError). with_root i (branches g (made + 1) (dependencies_at xs i))) grow
      ∙ ap (λ (ds : List Dependency). with_root i (branches last (made + 1) ds)) (same_needs i)

  pub same_dependencies : (i : ℕ) → dependency_tree xs i ≡ dependency_tree ys i
  same_dependencies i = same_subtree MAX_DEPTH [] 0 i

  -- the refusals
  same_first : (picks : List ℕ) → first_fault [] (picked xs picks) ≡ first_fault [] (picked ys picks)
  same_first picks =
      first_is [] (picked xs picks)
      ∙ (ap (first_seen []) (picked_is xs picks ∙ (ap (λ (ds : List StoredData). filter_map (slice_get ds) picks) same ∙ sym (picked_is ys picks))) ∙ sym (first_is [] (picked ys picks)))

  same_manifest : (picks : List ℕ) (wishes : Wishes) → first_refusal xs picks wishes ≡ first_refusal ys picks wishes
  same_manifest picks wishes = ap (λ (o : Option GenError). if nat_lt MAX_APPS (length picks) then Some TooManyApps else option_or o (mount_fault wishes)) (same_first picks)

  pub same_picks : (refs : List ImageRef) (picks : List ℕ) → ArePicks xs refs picks → ArePicks ys refs picks
  same_picks refs picks are = subst (λ (f : ImageRef → Option ℕ). map f refs ≡ map Some picks) (fun_ext same_best) are

  pub same_trees : (picks : List ℕ) (trees : List DepTree) → AreTrees xs picks trees → AreTrees ys picks trees
  same_trees picks trees are = subst (λ (f : ℕ → Result (List DepNode) DepError). map f picks ≡ map (λ (t : DepTree). Ok t.nodes) trees) (fun_ext same_dependencies) are

  same_unmatched : (refs : List ImageRef) (place : ℕ) → IsUnmatched xs refs place → IsUnmatched ys refs place
  same_unmatched refs place x = record {
    before = x.before;
    wanted = x.wanted;
    after = x.after;
    is = x.is;
    at = x.at;
    none = sym (same_best x.wanted) ∙ x.none;
    earlier = subst (λ (f : ImageRef → Option ℕ). All (λ r. IsSome (f r)) x.before) (fun_ext same_best) x.earlier;
  }

  same_tree_fault : (picks : List ℕ) (fault : DepError) → IsTreeFault xs picks fault → IsTreeFault ys picks fault
  same_tree_fault picks fault x = record {
    before = x.before;
    pick = x.pick;
    after = x.after;
    is = x.is;
    faulty = sym (same_dependencies x.pick) ∙ x.faulty;
    earlier = subst (λ (f : ℕ → Result (List DepNode) DepError). All (λ i. IsOk (f i)) x.before) (fun_ext same_dependencies) x.earlier;
  }

  pub same_refused : (refs : List ImageRef) (wishes : Wishes) (reason : ChoiceError) → IsChoiceRefused xs refs wishes reason → IsChoiceRefused ys refs wishes reason
  same_refused refs wishes (choice.NoMatch place) x = same_unmatched refs place x
  same_refused refs wishes (choice.DepError fault) x = (x.0, same_picks refs x.0 x.1, same_tree_fault x.0 fault x.2)
  same_refused refs wishes (choice.GenError refusal) x = (x.0, same_picks refs x.0 x.1, (x.2.0, same_trees x.0 x.2.0 x.2.1, sym (same_manifest x.0 wishes) ∙ x.2.2))
  same_refused refs wishes choice.NoMemory x = tt
