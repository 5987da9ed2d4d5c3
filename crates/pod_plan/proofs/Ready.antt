-- What a choice has: an image and a root for each app, and a name for each that no other has.
use Rattle.std.proofs.Common.{◌≡◌, ◌<◌, ℕ, suc, Bool, true, false, List, [], ◌∷◌, Option, Some, None, Ok, length, map, refl, sym, ap, subst, ◌∙◌}
use Rattle.std.specs.Prelude.{bytes_eq, nat_lt, if◌then◌else◌}
use Rattle.std.specs.List.{All, IsDistinct, cons_option}
use Rattle.std.specs.Option.{option_or}
use Rattle.std.proofs.lemmas.List.{length-map}
use Rattle.std.proofs.lemmas.List.Elements.{All-nil, All-cons, All-head, All-tail}
use Rattle.plain_laws.proofs.Lists.{head_of, tail_of, position_within}
use Rattle.ac_types.specs.declared.image_ref.ImageRef.{ImageRef}
use Rattle.manifests.specs.declared.runtime_app.RuntimeApp.{RuntimeApp}
use Rattle.manifests.specs.PodData.{PodData, RuntimeAppData, runtime_app_data}
use Rattle.dep_match.specs.declared.stored.Stored.{Stored}
use Rattle.dep_match.specs.declared.dep_tree.DepTree.{DepTree}
use Rattle.dep_match.specs.Dependencies.{dependency_tree}
use Rattle.pod_manifest.specs.declared.gen_error.GenError.TheVariants.{TooManyApps}
use Rattle.pod_manifest.specs.declared.refusals.TheConstants.{MAX_APPS}
use Rattle.pod_manifest.specs.Generation.{app_of, picked, name_of, first_fault, first_refusal, mount_fault}
use Rattle.pod_manifest.specs.Wishes.{Wishes}
use Rattle.pod_manifest.proofs.AppsApart.{neither, names_apart}
use Rattle.pod_plan.specs.declared.choice.Choice.{Choice}
use Rattle.pod_plan.specs.Choices.{best_of, ArePicks, IsChosenPod, IsChoice}
use Rattle.pod_plan.proofs.Mapped.{mapped_length}
use Rattle.pod_plan.specs.declared.pod_app.PodApp.{PodApp}
use Rattle.dir_trait.specs.DirCalls.{DirAt}
use Rattle.pod_plan.specs.declared.app_root.Root.{Root}
use Rattle.pod_plan.specs.Roots.{IsRootAsRead, AreImageRoots}
use Rattle.pod_plan.specs.Plans.{apps_with, apps_of, IsChoiceReady}
use Rattle.pod_plan.proofs.Zips.{zip_length, found_at}

best_within : (list : List Stored) (wanted : ImageRef) (i : ℕ) → best_of list wanted ≡ Some i → i < length list
best_within list wanted i is = position_within _ list i is

-- each image that was picked is in the list
pub picks_within : (list : List Stored) (refs : List ImageRef) (picks : List ℕ) → ArePicks list refs picks → All (λ i. i < length list) picks
picks_within list refs [] is = All-nil (λ i. i < length list)
picks_within list [] (p ∷ picks) is = let no : ⊥ = cc in absurd no
picks_within list (r ∷ refs) (p ∷ picks) is =
    All-cons (λ i. i < length list) p picks (best_within list r p (head_of (best_of list r) (Some p) (map (best_of list) refs) (map Some picks) is))
    (picks_within list refs picks (tail_of (best_of list r) (Some p) (map (best_of list) refs) (map Some picks) is))

picked_length : (list : List Stored) (picks : List ℕ) → All (λ i. i < length list) picks → length (picked list picks) ≡ length picks
picked_length list [] within = refl
picked_length list (p ∷ picks) within =
    let here = found_at list p (All-head (λ i. i < length list) p picks within) in
    ap (λ (o : Option Stored). length (cons_option o (picked list picks))) here.1 ∙ ap suc (picked_length list picks (All-tail (λ i. i < length list) p picks within))

apps_have_names : (options : Wishes) (named : List RuntimeApp) (images : List Stored) → map runtime_app_data named ≡ map (app_of options) images → map (λ (a : RuntimeApp). a.name) named ≡ map name_of images
apps_have_names options [] [] is = refl
apps_have_names options [] (i ∷ images) is = let no : ⊥ = cc in absurd no
apps_have_names options (a ∷ named) [] is = let no : ⊥ = cc in absurd no
apps_have_names options (a ∷ named) (i ∷ images) is =
    let first : a.name ≡ name_of i = ap (λ (d : RuntimeAppData). d.name) (head_of (runtime_app_data a) (app_of options i) (map runtime_app_data named) (map (app_of options) images) is) in
    let rest = apps_have_names options named images (tail_of (runtime_app_data a) (app_of options i) (map runtime_app_data named) (map (app_of options) images) is) in
    ap (λ (n : List ℕ). n ∷ map (λ (x : RuntimeApp). x.name) named) first ∙ ap (λ (ns : List (List ℕ)). name_of i ∷ ns) rest

pub no_fault : (list : List Stored) (picks : List ℕ) (options : Wishes) → first_refusal list picks options ≡ None → first_fault [] (picked list picks) ≡ None
no_fault list picks options none = by (nat_lt MAX_APPS (length picks)) none
  where
    by : (many : Bool) → (if many then Some TooManyApps else option_or (first_fault [] (picked list picks)) (mount_fault options)) ≡ None → first_fault [] (picked list picks) ≡ None
    by true is = let no : ⊥ = cc in absurd no
    by false is = (neither (first_fault [] (picked list picks)) (mount_fault options) is).0

-- the apps of the manifest are those of the images that were picked
pub apps_are : {list : List Stored} {options : Wishes} (choice : Choice) → IsChosenPod list options choice → map runtime_app_data choice.manifest.apps ≡ map (app_of options) (picked list choice.picks)
apps_are choice pod = ap (λ (p : PodData). p.apps) pod.manifest

module _ {list : List Stored} (refs : List ImageRef) (options : Wishes) (choice : Choice) (chosen : IsChoice list refs options choice) (count : ℕ) (many : count ≡ length list) where
  pub is_ready : (observed : Bool) (a b : DirAt) (roots : List Root) → AreImageRoots observed list a b choice.trees roots → IsChoiceReady count choice roots
  is_ready observed a b roots rooted =
      let within = picks_within list refs choice.picks chosen.0 in
      let pod = chosen.1 in
      let apps = apps_are choice pod in
      record {
        within = subst (λ (n : ℕ). All (λ i. i < n) choice.picks) (sym many) within;
        named = sym (length-map choice.manifest.apps runtime_app_data) ∙ (ap (λ (xs : List RuntimeAppData). length xs) apps ∙ (length-map (picked list choice.picks) (app_of options) ∙ picked_length list choice.picks within));
        rooted = zip_length (IsRootAsRead observed list a b) choice.trees roots rooted ∙ mapped_length (dependency_tree list) (λ (t : DepTree). Ok t.nodes) choice.picks choice.trees pod.dependencies;
        names = subst (λ (ns : List (List ℕ)). IsDistinct bytes_eq ns) (sym (apps_have_names options choice.manifest.apps (picked list choice.picks) apps))
            (names_apart [] (picked list choice.picks) (no_fault list choice.picks options pod.accepted)).1;
      }

-- the apps that are made have the names of the manifest's
names_with : (manifests : List (List ℕ)) (picks : List ℕ) (named : List RuntimeApp) (roots : List Root) → length named ≡ length picks → length roots ≡ length picks
    → map (λ (app : PodApp). app.name) (apps_with manifests picks named roots) ≡ map (λ (a : RuntimeApp). a.name) named
names_with manifests [] [] roots n r = refl
names_with manifests [] (a ∷ named) roots n r = let no : ⊥ = cc in absurd no
names_with manifests (p ∷ picks) [] roots n r = let no : ⊥ = cc in absurd no
names_with manifests (p ∷ picks) (a ∷ named) [] n r = let no : ⊥ = cc in absurd no
names_with manifests (p ∷ picks) (a ∷ named) (root ∷ roots) n r = ap (λ (ns : List (List ℕ)). a.name ∷ ns) (names_with manifests picks named roots (cc) (cc))

pub names_differ : (manifests : List (List ℕ)) (count : ℕ) (choice : Choice) (roots : List Root) (apps : List PodApp) → apps ≡ apps_of manifests choice roots → IsChoiceReady count choice roots → IsDistinct bytes_eq (map (λ (app : PodApp). app.name) apps)
names_differ manifests count choice roots apps are ready =
    subst (λ (ns : List (List ℕ)). IsDistinct bytes_eq ns) (sym (ap (map (λ (app : PodApp). app.name)) are ∙ names_with manifests choice.picks choice.manifest.apps roots ready.named ready.rooted)) ready.names
