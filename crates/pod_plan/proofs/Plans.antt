-- The plan of a choice, and why there is none.
use Rattle.std.proofs.Common.{◌≡◌, inl, inr, Bool, true, ℕ, List, map, refl, ap, subst, ◌∙◌}
use Rattle.serde_json.specs.Written.{compact_text}
use Rattle.ac_types.specs.declared.image_ref.ImageRef.{ImageRef}
use Rattle.manifests.specs.PodData.{pod_data}
use Rattle.manifests.specs.ManifestRules.{IsPodManifest}
use Rattle.manifests.specs.PodObject.{pod_object}
use Rattle.dep_match.specs.declared.stored.Stored.{Stored}
use Rattle.dir_trait.specs.DirCalls.{DirAt}
use Rattle.dir_trait.specs.Effects.{OnlyAsksAndKeeps}
use Rattle.folder_building.specs.declared.plan.PlanEntry.{PlanEntry}
use Rattle.image_reading.specs.declared.error.StoreError.{StoreError}
use Rattle.image_reading.specs.declared.error.StoreError.TheVariants as store
use Rattle.image_reading.specs.Store.{ReadsStore}
use Rattle.pod_manifest.specs.Wishes.{Wishes}
use Rattle.pod_plan.specs.declared.choice.Choice.{Choice}
use Rattle.pod_plan.specs.declared.choice_error.ChoiceError.{ChoiceError}
use Rattle.pod_plan.specs.declared.choice_error.ChoiceError.TheVariants as choice
use Rattle.pod_plan.specs.declared.pod_app.PodApp.{PodApp}
use Rattle.pod_plan.specs.PodPlans.{pod_entries}
use Rattle.pod_plan.specs.Pods.{files_of, MakesPod}
use Rattle.pod_plan.specs.declared.plan_error.PlanError.{PlanError}
use Rattle.pod_plan.specs.declared.plan_error.PlanError.TheVariants.{Damaged, NoMatch, DepError, GenError, RenderError, ListingError, DirFault, NoMemory}
use Rattle.dir_model.specs.declared.request.Request.{Request}
use Rattle.pod_plan.specs.Choices.{IsChoice, IsChoiceRefused}
use Rattle.pod_plan.specs.declared.app_root.Root.{Root}
use Rattle.pod_plan.specs.PlanRefusals.{IsStoreLack, ReadsLackingPart, plan_store_refusal, choice_refusal}
use Rattle.pod_plan.specs.RootRefusals.{IsRootsRefusal}
use Rattle.pod_plan.specs.NoPlans.{LacksImageRoot, IsUnplanned, HasNoPlan, IsNoPlan}
use Rattle.pod_plan.specs.Plans.{folders, apps_of, IsPlanOf, PlansChoice}
use Rattle.pod_plan.proofs.Rooted.{roots_since, refusals_since}

module _ (images : List Stored) (manifests : List (List ℕ)) (choice : Choice) (roots : List Root) (now : ℕ) (token : List ℕ) (plan : List PlanEntry) where
  -- the plan that was made of the parts
  pub plan_is : (text bytes : List ℕ) (names : List (List ℕ)) (apps : List PodApp) → bytes ≡ text → names ≡ folders images → apps ≡ apps_of manifests choice roots
      → (IsPodManifest (pod_data choice.manifest) → text ≡ compact_text (pod_object (pod_data choice.manifest)))
      → plan ≡ pod_entries now token bytes names apps → MakesPod now token bytes (map files_of apps) plan → IsPlanOf images manifests choice roots now token plan
  plan_is text bytes names apps b n a written is makes = record {
    text = text;
    written = written;
    entries = is ∙ (ap (λ (x : List ℕ). pod_entries now token x names apps) b ∙ (ap (λ (x : List (List ℕ)). pod_entries now token text x apps) n ∙ ap (λ (x : List PodApp). pod_entries now token text (folders images) x) a));
    makes = subst (λ (x : List PodApp). MakesPod now token text (map files_of x) plan) a (subst (λ (x : List ℕ). MakesPod now token x (map files_of apps) plan) b makes);
  }

module _ (observed : Bool) {asks : Request → Bool} {Keeps : DirAt → DirAt → Type 0} (a b c : DirAt) (ab : OnlyAsksAndKeeps observed asks Keeps a b) where
  -- the plan of what was read since
  pub choice_since : {images : List Stored} {manifests : List (List ℕ)} {refs : List ImageRef} {options : Wishes} {now : ℕ} {token : List ℕ} {plan : List PlanEntry}
      → PlansChoice observed images manifests refs options now token plan b c → PlansChoice observed images manifests refs options now token plan a c
  choice_since {images} p = record {
    choice = p.choice;
    wishes = p.wishes;
    chosen = p.chosen;
    roots = p.roots;
    rooted = roots_since observed images a b c ab p.choice.trees p.roots p.rooted;
    planned = p.planned;
  }

  root_lacks_since : (images : List Stored) (refs : List ImageRef) (options : Wishes) (e : PlanError) → LacksImageRoot observed images refs options e b c → LacksImageRoot observed images refs options e a c
  root_lacks_since images refs options e l = record { choice = l.choice; chosen = l.chosen; lacks = refusals_since observed images a b c ab l.choice.trees e l.lacks }

  unplanned_since : (images : List Stored) (refs : List ImageRef) (options : Wishes) (e : PlanError) → IsUnplanned observed images refs options e b c → IsUnplanned observed images refs options e a c
  unplanned_since images refs options (Damaged path) u = root_lacks_since images refs options (Damaged path) u
  unplanned_since images refs options (RenderError error) u = root_lacks_since images refs options (RenderError error) u
  unplanned_since images refs options (ListingError error) u = root_lacks_since images refs options (ListingError error) u
  unplanned_since images refs options DirFault u = tt
  unplanned_since images refs options NoMemory u = tt
  unplanned_since images refs options (NoMatch place) u = u
  unplanned_since images refs options (DepError fault) u = u
  unplanned_since images refs options (GenError refusal) u = u

  -- the images that were read have no plan
  pub none_planned : (images : List Stored) → (observed ≡ true → ReadsStore images a c) → (refs : List ImageRef) (options : Wishes) (e : PlanError) → IsUnplanned observed images refs options e b c → IsNoPlan observed refs options a c e
  none_planned images listed refs options e u = by e (unplanned_since images refs options e u)
    where
      none : (x : PlanError) → IsUnplanned observed images refs options x a c → HasNoPlan observed refs options x a c
      none x h = record { images = images; listed = listed; none = h }

      by : (x : PlanError) → IsUnplanned observed images refs options x a c → IsNoPlan observed refs options a c x
      by (Damaged path) h = λ t. inr (none (Damaged path) h)
      by DirFault h = tt
      by NoMemory h = tt
      by x h = none x h

-- they make no pod
pub unchosen : (observed : Bool) (a b : DirAt) (images : List Stored) (refs : List ImageRef) (options : Wishes) (reason : ChoiceError) → IsChoiceRefused images refs options reason → IsUnplanned observed images refs options (choice_refusal reason) a b
unchosen observed a b images refs options (choice.NoMatch place) h = record { reason = choice.NoMatch place; is = refl; refused = h }
unchosen observed a b images refs options (choice.DepError fault) h = record { reason = choice.DepError fault; is = refl; refused = h }
unchosen observed a b images refs options (choice.GenError refusal) h = record { reason = choice.GenError refusal; is = refl; refused = h }
unchosen observed a b images refs options choice.NoMemory h = tt

-- or a root of it can't be made
pub unrooted : (observed : Bool) (a b : DirAt) (images : List Stored) (refs : List ImageRef) (options : Wishes) (c : Choice) → IsChoice images refs options c → (e : PlanError) → IsRootsRefusal observed images c.trees e a b → IsUnplanned observed images refs options e a b
unrooted observed a b images refs options c chosen (Damaged path) h = record { choice = c; chosen = chosen; lacks = h }
unrooted observed a b images refs options c chosen (RenderError error) h = record { choice = c; chosen = chosen; lacks = h }
unrooted observed a b images refs options c chosen (ListingError error) h = record { choice = c; chosen = chosen; lacks = h }
unrooted observed a b images refs options c chosen DirFault h = tt
unrooted observed a b images refs options c chosen NoMemory h = tt
unrooted observed a b images refs options c chosen (NoMatch place) h = absurd h.faulty
unrooted observed a b images refs options c chosen (DepError fault) h = absurd h.faulty
unrooted observed a b images refs options c chosen (GenError refusal) h = absurd h.faulty

-- the images couldn't be read
pub none_read : (observed : Bool) (refs : List ImageRef) (options : Wishes) (old new : DirAt) (e : StoreError) → IsStoreLack observed (λ path. ReadsLackingPart path old new) e → IsNoPlan observed refs options old new (plan_store_refusal e)
none_read observed refs options old new (store.Damaged path) lack = λ t. inl (lack t)
none_read observed refs options old new store.DirFault lack = tt
none_read observed refs options old new store.NoMemory lack = tt
none_read observed refs options old new e lack = absurd lack
