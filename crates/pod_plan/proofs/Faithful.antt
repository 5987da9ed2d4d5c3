-- The pod of a plan is made of the images that were read.
use Rattle.std.proofs.Common.{◌≡◌, ◌<◌, ℕ, Bool, true, List, [], ◌∷◌, Option, Some, None, Ok, length, map, get_or, refl, sym, ap, subst, ◌∙◌}
use Rattle.std.specs.List.{All, AllZip, AllByRecursion, slice_get, cons_option}
use Rattle.std.proofs.lemmas.List.Elements.{All-nil, All-cons, All-head, All-tail, All-map}
use Rattle.plain_laws.proofs.Lists.{head_of, tail_of}
use Rattle.ac_types.specs.declared.image_ref.ImageRef.{ImageRef}
use Rattle.path_map.specs.Entries.{Entries}
use Rattle.tree_digest.specs.Listings.{entries_of, lines_of}
use Rattle.manifest_parts.specs.PartRules.{IsImageId}
use Rattle.manifests.specs.declared.runtime_app.RuntimeApp.{RuntimeApp}
use Rattle.manifests.specs.ImageData.{image_data}
use Rattle.manifests.specs.ManifestRules.{IsPodManifest}
use Rattle.manifests.specs.PodData.{RuntimeAppData, pod_data, runtime_app_data}
use Rattle.manifests.proofs.Manifests.{image_manifest_given}
use Rattle.dep_match.specs.declared.stored.Stored.{Stored}
use Rattle.dep_match.specs.declared.dep_tree.DepTree.{DepTree}
use Rattle.dep_match.specs.Dependencies.{dependency_tree}
use Rattle.render.specs.Assembly.{own_whitelist, IsAssembly}
use Rattle.dir_trait.specs.DirCalls.{DirAt}
use Rattle.folder_building.specs.declared.plan.PlanEntry.{PlanEntry}
use Rattle.image_reading.specs.Files.{IsImageManifestOf}
use Rattle.image_reading.specs.Images.{ReadsImage}
use Rattle.image_reading.specs.Store.{ReadsStore}
use Rattle.pod_manifest.specs.Generation.{app_of, picked}
use Rattle.pod_manifest.specs.Inputs.{IsImage}
use Rattle.pod_manifest.specs.Wishes.{Wishes}
use Rattle.pod_manifest.proofs.Picks.{all_picked}
use Rattle.pod_manifest.proofs.PodManifests.{pod_good}
use Rattle.pod_plan.specs.Choices.{AreTrees}
use Rattle.pod_plan.specs.Pods.{files_of, IsPod}
use Rattle.pod_plan.specs.Readings.{ReadsManifestBytes, HaveManifests}
use Rattle.pod_plan.specs.declared.app_root.Root.{Root}
use Rattle.pod_plan.specs.Roots.{IsRootAsRead, AreImageRoots}
use Rattle.pod_plan.specs.Plans.{app_with_root, apps_with, apps_of, PlansChoice}
use Rattle.pod_plan.specs.FaithfulPods.{StoreRead, IsRootOf, IsAppOf, read_between, PlansFaithfully}
use Rattle.pod_plan.proofs.Zips.{zip_at, found_at}
use Rattle.pod_plan.proofs.Keys.{one_with_id}
use Rattle.pod_plan.proofs.Ready.{picks_within, no_fault, apps_are}

-- the entries of the lines of a map are the map's
entries_again : (map : Entries) → entries_of (lines_of map) ≡ map
entries_again [] = refl
entries_again (e ∷ map) = ap (λ (es : Entries). e ∷ es) (entries_again map)

module _ {observed : Bool} (told : observed ≡ true) {old new : DirAt} (images : List Stored) (manifests : List (List ℕ)) (listed : ReadsStore images old new) (bytes : HaveManifests images manifests old new) where
  abbrev read : StoreRead
  read = read_between images old new

  -- ---- an app's root
  root_of : (place : ℕ) (t : DepTree) (root : Root) → dependency_tree images place ≡ Ok t.nodes → IsRootAsRead observed images old new t root → IsRootOf read place (entries_of root.listing)
  root_of place t root made is =
      let own = is.rendered.own in
      let whole : root.rendering.map ≡ entries_of root.listing = sym (ap entries_of is.listing ∙ entries_again root.rendering.map) in
      record {
        nodes = t.nodes;
        tree = made;
        own = own;
        each = λ n inside. (is.rendered.read n inside).read told;
        rendered = subst (λ (es : Entries). IsAssembly t.nodes (own_whitelist t.nodes images) own (length t.nodes) 0 es) whole is.rendered.rendering;
      }

  -- ---- an app
  app_is : (options : Wishes) (place : ℕ) (image : Stored) (named : RuntimeApp) (t : DepTree) (root : Root) → slice_get images place ≡ Some image → runtime_app_data named ≡ app_of options image
      → dependency_tree images place ≡ Ok t.nodes → IsRootAsRead observed images old new t root → IsAppOf read (app_of options image) (files_of (app_with_root named (get_or manifests place []) root))
  app_is options place image named t root at same made is =
      let m = zip_at (λ x b. ReadsManifestBytes x b old new) images manifests place image [] bytes at in
      record {
        place = place;
        image = image;
        of_image = record { there = at; has_id = refl; only = one_with_id images listed place image at };
        name = ap (λ (d : RuntimeAppData). d.name) same;
        manifest = record { bytes = m.bytes; few = m.few; read = m.read; holds = m.holds.0 };
        says = subst (λ (b : List ℕ). IsImageManifestOf image.manifest b) m.holds.0 m.holds.1;
        root = root_of place t root made is;
      }

  each_app : (options : Wishes) (picks : List ℕ) (ts : List DepTree) (named : List RuntimeApp) (roots : List Root) → All (λ i. i < length images) picks → AreTrees images picks ts → AreImageRoots observed images old new ts roots
      → map runtime_app_data named ≡ map (app_of options) (picked images picks) → AllZip (IsAppOf read) (map (app_of options) (picked images picks)) (map files_of (apps_with manifests picks named roots))
  each_app options [] ts named roots within are rooted same = tt
  each_app options (p ∷ picks) [] named roots within are rooted same = let no : ⊥ = cc in absurd no
  each_app options (p ∷ picks) (t ∷ ts) named [] within are rooted same = absurd rooted
  each_app options (p ∷ picks) (t ∷ ts) [] (root ∷ roots) within are rooted same = by (slice_get images p) (found_at images p (All-head (λ i. i < length images) p picks within)).1 same
    where
      by : (o : Option Stored) → o ≡ Some (found_at images p (All-head (λ i. i < length images) p picks within)).0 → [] ≡ map (app_of options) (cons_option o (picked images picks))
          → AllZip (IsAppOf read) (map (app_of options) (cons_option o (picked images picks))) []
      by None is h = let no : ⊥ = cc in absurd no
      by (Some image) is h = let no : ⊥ = cc in absurd no
  each_app options (p ∷ picks) (t ∷ ts) (a ∷ named) (root ∷ roots) within are rooted same = by (slice_get images p) refl same (each_app options picks ts named roots (All-tail (λ i. i < length images) p picks within)
      (tail_of (dependency_tree images p) (Ok t.nodes) (map (dependency_tree images) picks) (map (λ (x : DepTree). Ok x.nodes) ts) are) rooted.1)
    where
      here : p < length images
      here = All-head (λ i. i < length images) p picks within

      by : (o : Option Stored) → slice_get images p ≡ o → map runtime_app_data (a ∷ named) ≡ map (app_of options) (cons_option o (picked images picks))
          → (map runtime_app_data named ≡ map (app_of options) (picked images picks) → AllZip (IsAppOf read) (map (app_of options) (picked images picks)) (map files_of (apps_with manifests picks named roots)))
          → AllZip (IsAppOf read) (map (app_of options) (cons_option o (picked images picks))) (files_of (app_with_root a (get_or manifests p []) root) ∷ map files_of (apps_with manifests picks named roots))
      by None is h rest = let found = (found_at images p here).1 in let no : ⊥ = cc in absurd no
      by (Some image) is h rest =
          let first = head_of (runtime_app_data a) (app_of options image) (map runtime_app_data named) (map (app_of options) (picked images picks)) h in
          let others = tail_of (runtime_app_data a) (app_of options image) (map runtime_app_data named) (map (app_of options) (picked images picks)) h in
          let made = head_of (dependency_tree images p) (Ok t.nodes) (map (dependency_tree images) picks) (map (λ (x : DepTree). Ok x.nodes) ts) are in
          (app_is options p image a t root is first made rooted.0, rest others)

  -- ---- the manifest
  all_of : (P : Stored → Type 0) → ((image : Stored) → ReadsImage image old new → P image) → (xs : List Stored) → AllByRecursion (λ x. ReadsImage x old new) xs → All P xs
  all_of P f [] all = All-nil P
  all_of P f (x ∷ xs) all = All-cons P x xs (f x all.0) (all_of P f xs all.1)

  image_good : (image : Stored) → ReadsImage image old new → IsImage image
  image_good image r = image_manifest_given r.manifest.bytes (image_data image.manifest) r.manifest.holds

  id_good : (image : Stored) → ReadsImage image old new → IsImageId image.id
  id_good image r = r.id.holds.kind

  module _ {refs : List ImageRef} {options : Wishes} {now : ℕ} {token : List ℕ} {plan : List PlanEntry} (p : PlansChoice observed images manifests refs options now token plan old new) where
    manifest_good : IsPodManifest (pod_data p.choice.manifest)
    manifest_good =
        let there = picked images p.choice.picks in
        subst IsPodManifest (sym p.chosen.1.manifest)
        (pod_good options there (no_fault images p.choice.picks options p.chosen.1.accepted) p.wishes
        (All-map (λ (a : RuntimeAppData). IsImageId a.image.id) (app_of options) there (all_picked (λ (i : Stored). IsImageId i.id) images p.choice.picks (all_of (λ (i : Stored). IsImageId i.id) id_good images listed.read.each)))
        (all_picked IsImage images p.choice.picks (all_of IsImage image_good images listed.read.each)))

    apps_good : AllZip (IsAppOf read) (pod_data p.choice.manifest).apps (map files_of (apps_of manifests p.choice p.roots))
    apps_good =
        let same = apps_are p.choice p.chosen.1 in
        subst (λ (apps : List RuntimeAppData). AllZip (IsAppOf read) apps (map files_of (apps_of manifests p.choice p.roots))) (sym same)
        (each_app options p.choice.picks p.choice.trees p.choice.manifest.apps p.roots (picks_within images refs p.choice.picks p.chosen.0) p.chosen.1.dependencies p.rooted same)

    pub plans_faithfully : PlansFaithfully refs options now token plan old new
    plans_faithfully = record {
      images = images;
      listed = listed;
      choice = p.choice;
      chosen = p.chosen;
      manifests = manifests;
      roots = p.roots;
      rooted = subst (λ (b : Bool). AreImageRoots b images old new p.choice.trees p.roots) told p.rooted;
      planned = p.planned;
      makes = λ entries made. record {
        kind = manifest_good;
        apps = map files_of (apps_of manifests p.choice p.roots);
        each = apps_good;
        pod = subst (λ (text : List ℕ). IsPod now token text (map files_of (apps_of manifests p.choice p.roots)) entries) (p.planned.written manifest_good) (p.planned.makes entries made);
      };
    }
