-- Which refusals a prepare has, and what is said of them.
use Rattle.std.proofs.Common.{◌≡◌, inl, inr, ◌<◌, ℕ, Bool, true, false, List, length, refl, sym, ap, subst, ◌∙◌}
use Rattle.ac_types.specs.declared.image_ref.ImageRef.{ImageRef}
use Rattle.dir_model.specs.declared.area.Area.{Area}
use Rattle.dir_model.specs.declared.area.Area.TheVariants.{Embryo, Images}
use Rattle.dir_model.specs.declared.intent.Draw.{Draw}
use Rattle.dir_model.specs.declared.pod.PodId.{PodId}
use Rattle.dir_trait.specs.DirCalls.{DirAt}
use Rattle.dir_files.specs.declared.lock_error.LockError.{LockError}
use Rattle.dir_files.specs.declared.lock_error.LockError.TheVariants as lock
use Rattle.folder_building.specs.declared.plan.PlanEntry.{PlanEntry}
use Rattle.dep_match.specs.declared.stored.Stored.{Stored}
use Rattle.dep_match.specs.declared.dep_error.DepError.{DepError}
use Rattle.dep_match.specs.declared.dep_error.DepError.TheVariants as dep
use Rattle.pod_manifest.specs.declared.gen_error.GenError.{GenError}
use Rattle.pod_manifest.specs.declared.gen_error.GenError.TheVariants as gen
use Rattle.pod_manifest.specs.Wishes.{Wishes}
use Rattle.render.specs.declared.render_error.RenderError.{RenderError}
use Rattle.render.specs.declared.render_error.RenderError.TheVariants as render
use Rattle.tree_digest.specs.declared.listing_error.ListingError.{ListingError}
use Rattle.tree_digest.specs.declared.listing_error.ListingError.TheVariants as listing
use Rattle.pod_plan.specs.declared.choice_error.ChoiceError.{ChoiceError}
use Rattle.pod_plan.specs.declared.choice_error.ChoiceError.TheVariants as choice
use Rattle.pod_plan.specs.Choices.{IsUnmatched, IsChoiceRefused as IsNoPod}
use Rattle.pod_plan.specs.declared.plan_error.PlanError.{PlanError}
use Rattle.pod_plan.specs.declared.plan_error.PlanError.TheVariants as plan
use Rattle.pod_plan.specs.PlanRefusals.{choice_refusal, IsNoChoice}
use Rattle.pod_plan.specs.NoPlans.{IsNoPlan}
use Rattle.pod_build.specs.declared.make_error.MakeError.{MakeError}
use Rattle.pod_build.specs.declared.make_error.MakeError.TheVariants as make
use Rattle.pod_build.specs.declared.error.BuildError.{BuildError}
use Rattle.pod_build.specs.declared.error.BuildError.TheVariants as build
use Rattle.pod_build.specs.Refusals.{gate_refusal, plan_refusal, IsMakeRefusal}
use Rattle.pod_build.specs.Causes.{IsBuildRefused}
use Rattle.command_outcomes.specs.declared.refusal.Refusal.{Refusal}
use Rattle.command_outcomes.specs.declared.refusal.Refusal.TheVariants.{Busy, BadManifest, NoDependency, Cycle, Limit, DirFault, NoMemory, Taken}
use Rattle.commands.specs.Prepare.{RefusesPod}
use Rattle.commands.specs.References.{AreReferences}
use Rattle.commands.specs.PrepareRefusals.{prepare_refusal, dependency_refusal, pod_manifest_refusal, root_refusal, root_listing_refusal, refusal_of_build, IsSaidOfBuild}
use Rattle.commands.proofs.Words.{place_within}
use Rattle.commands.specs.Wants.{Wants}

-- what is said of a choice of images
abbrev pub is_of_choice : Refusal → Bool
is_of_choice (BadManifest name number) = true
is_of_choice (NoDependency name) = true
is_of_choice (Cycle key) = true
is_of_choice (Limit number) = true
is_of_choice NoMemory = true
is_of_choice refusal = false

dependency_chosen : (e : DepError) → is_of_choice (dependency_refusal e) ≡ true
dependency_chosen (dep.NoDependency name) = refl
dependency_chosen (dep.Cycle key) = refl
dependency_chosen dep.TooDeep = refl
dependency_chosen dep.TooMany = refl
dependency_chosen dep.NoMemory = refl

manifest_chosen : (e : GenError) → is_of_choice (pod_manifest_refusal e) ≡ true
manifest_chosen gen.TooManyApps = refl
manifest_chosen (gen.NoApp name) = refl
manifest_chosen (gen.NoExec name) = refl
manifest_chosen (gen.AppTwice name) = refl
manifest_chosen (gen.NoVolume name) = refl
manifest_chosen gen.NoMemory = refl

root_chosen : (e : RenderError) → is_of_choice (root_refusal e) ≡ true
root_chosen render.TooManyEntries = refl
root_chosen render.NoMemory = refl

listing_chosen : (e : ListingError) → is_of_choice (root_listing_refusal e) ≡ true
listing_chosen (listing.BadLine n) = refl
listing_chosen (listing.NotSorted n) = refl
listing_chosen (listing.NoParent n) = refl
listing_chosen (listing.TooMany limit) = refl
listing_chosen (listing.FileTooLong n) = refl
listing_chosen listing.NoMemory = refl

choice_apart : (said r : Refusal) {X : Type 0} → is_of_choice said ≡ true → is_of_choice r ≡ false → said ≡ r → X
choice_apart said r chosen other is = let clash : true ≡ false = sym chosen ∙ (ap is_of_choice is ∙ other) in cc

choice_allowed : (r : Refusal) → is_of_choice r ≡ true → prepare_refusal r ≡ true
choice_allowed (BadManifest name number) h = refl
choice_allowed (NoDependency name) h = refl
choice_allowed (Cycle key) h = refl
choice_allowed (Limit number) h = refl
choice_allowed NoMemory h = refl
choice_allowed r h = let clash : false ≡ true = h in cc

-- of what a refusal was said
pub fault_of : (words : List (List ℕ)) (e : BuildError) → refusal_of_build words e ≡ DirFault → e ≡ build.DirFault
fault_of words build.DirFault is = refl
fault_of words (build.DepError e) is = choice_apart (dependency_refusal e) DirFault (dependency_chosen e) refl is
fault_of words (build.GenError e) is = choice_apart (pod_manifest_refusal e) DirFault (manifest_chosen e) refl is
fault_of words (build.RenderError e) is = choice_apart (root_refusal e) DirFault (root_chosen e) refl is
fault_of words (build.ListingError e) is = choice_apart (root_listing_refusal e) DirFault (listing_chosen e) refl is
fault_of words e is = cc

pub busy_of : (words : List (List ℕ)) (e : BuildError) (area : Area) → refusal_of_build words e ≡ Busy area → e ≡ build.Busy area
busy_of words (build.Busy here) area is = let same : here ≡ area = cc in ap build.Busy same
busy_of words (build.DepError e) area is = choice_apart (dependency_refusal e) (Busy area) (dependency_chosen e) refl is
busy_of words (build.GenError e) area is = choice_apart (pod_manifest_refusal e) (Busy area) (manifest_chosen e) refl is
busy_of words (build.RenderError e) area is = choice_apart (root_refusal e) (Busy area) (root_chosen e) refl is
busy_of words (build.ListingError e) area is = choice_apart (root_listing_refusal e) (Busy area) (listing_chosen e) refl is
busy_of words e area is = cc

pub said_fault : (words : List (List ℕ)) (e : BuildError) (r : Refusal) → IsSaidOfBuild words e r → r ≡ DirFault → e ≡ build.DirFault
said_fault words e r (inl said) is = fault_of words e (sym said ∙ is)
said_fault words e r (inr said) is = let clash : NoMemory ≡ DirFault = sym said ∙ is in cc

-- the locks that it may be refused
gate_area : (reason : LockError) (area : Area) → build.Busy area ≡ gate_refusal reason → prepare_refusal (Busy area) ≡ true
gate_area lock.Busy area is = let same : area ≡ Images = cc in ap (λ (a : Area). prepare_refusal (Busy a)) same
gate_area lock.DirFault area is = cc
gate_area lock.NoMemory area is = cc

plan_area : (reason : PlanError) (area : Area) {X : Type 0} → build.Busy area ≡ plan_refusal reason → X
plan_area (plan.Damaged path) area is = cc
plan_area (plan.NoMatch place) area is = cc
plan_area (plan.DepError e) area is = cc
plan_area (plan.GenError e) area is = cc
plan_area (plan.RenderError e) area is = cc
plan_area (plan.ListingError e) area is = cc
plan_area plan.DirFault area is = cc
plan_area plan.NoMemory area is = cc

make_area : (entries : List PlanEntry) (draw : PodId) (reason : MakeError) (area : Area) → IsMakeRefusal entries draw reason (build.Busy area) → prepare_refusal (Busy area) ≡ true
make_area entries draw make.Busy area is = let same : area ≡ Embryo = cc in ap (λ (a : Area). prepare_refusal (Busy a)) same
make_area entries draw make.Taken area is = cc
make_area entries draw (make.Unlike place) area is = absurd is
make_area entries draw make.DirFault area is = cc
make_area entries draw make.Stray area is = cc
make_area entries draw make.NoMemory area is = cc

pub busy_area : {observed : Bool} {refs : List ImageRef} {options : Wishes} (draw : Draw) {now : ℕ} {e : BuildError} {a b : DirAt} → IsBuildRefused observed refs options draw now e a b → (area : Area) → e ≡ build.Busy area → prepare_refusal (Busy area) ≡ true
busy_area draw (inl x) area is = gate_area x.0 area (sym is ∙ x.1)
busy_area draw (inr (free, inl x)) area is = plan_area x.3.0 area (sym is ∙ x.3.1)
busy_area draw (inr (free, inr x)) area is = make_area x.0 draw.uuid x.2.3.0 area (subst (λ (error : BuildError). IsMakeRefusal x.0 draw.uuid x.2.3.0 error) is x.2.3.1)

-- so each is one that the command may have
error_allowed : (words : List (List ℕ)) (e : BuildError) → ((area : Area) → e ≡ build.Busy area → prepare_refusal (Busy area) ≡ true) → prepare_refusal (refusal_of_build words e) ≡ true
error_allowed words (build.Busy area) locks = locks area refl
error_allowed words (build.DepError e) locks = choice_allowed (dependency_refusal e) (dependency_chosen e)
error_allowed words (build.GenError e) locks = choice_allowed (pod_manifest_refusal e) (manifest_chosen e)
error_allowed words (build.RenderError e) locks = choice_allowed (root_refusal e) (root_chosen e)
error_allowed words (build.ListingError e) locks = choice_allowed (root_listing_refusal e) (listing_chosen e)
error_allowed words e locks = refl

pub refusal_allowed : (words : List (List ℕ)) (e : BuildError) (r : Refusal) → IsSaidOfBuild words e r → ((area : Area) → e ≡ build.Busy area → prepare_refusal (Busy area) ≡ true) → prepare_refusal r ≡ true
refusal_allowed words e r (inl said) locks = ap prepare_refusal said ∙ error_allowed words e locks
refusal_allowed words e r (inr said) locks = ap prepare_refusal said

-- the place of a reference that no image matches
gate_place : (reason : LockError) (place : ℕ) {X : Type 0} → build.NoMatch place ≡ gate_refusal reason → X
gate_place lock.Busy place is = cc
gate_place lock.DirFault place is = cc
gate_place lock.NoMemory place is = cc

make_place : (entries : List PlanEntry) (draw : PodId) (reason : MakeError) (place : ℕ) {X : Type 0} → IsMakeRefusal entries draw reason (build.NoMatch place) → X
make_place entries draw make.Busy place is = cc
make_place entries draw make.Taken place is = cc
make_place entries draw (make.Unlike at) place is = absurd is
make_place entries draw make.DirFault place is = cc
make_place entries draw make.Stray place is = cc
make_place entries draw make.NoMemory place is = cc

choice_place : (words : List (List ℕ)) {images : List Stored} {refs : List ImageRef} {options : Wishes} (place : ℕ) → AreReferences words refs → IsNoChoice images refs options (plan.NoMatch place) → place < length words
choice_place words {images} {refs} {options} place are x = by x.reason x.is x.refused
  where
    by : (reason : ChoiceError) → plan.NoMatch place ≡ choice_refusal reason → IsNoPod images refs options reason → place < length words
    by (choice.NoMatch at) is refused = let same : at ≡ place = cc in place_within words refs are (subst (λ (n : ℕ). IsUnmatched images refs n) same refused)
    by (choice.DepError e) is refused = cc
    by (choice.GenError e) is refused = cc
    by choice.NoMemory is refused = cc

plan_place : (words : List (List ℕ)) (observed : Bool) (refs : List ImageRef) (options : Wishes) (a b : DirAt) (reason : PlanError) (place : ℕ) → AreReferences words refs → build.NoMatch place ≡ plan_refusal reason → IsNoPlan observed refs options a b reason → place < length words
plan_place words observed refs options a b (plan.NoMatch at) place are is x = let same : at ≡ place = cc in subst (λ (n : ℕ). n < length words) same (choice_place words at are x.none)
plan_place words observed refs options a b (plan.Damaged path) place are is x = cc
plan_place words observed refs options a b (plan.DepError e) place are is x = cc
plan_place words observed refs options a b (plan.GenError e) place are is x = cc
plan_place words observed refs options a b (plan.RenderError e) place are is x = cc
plan_place words observed refs options a b (plan.ListingError e) place are is x = cc
plan_place words observed refs options a b plan.DirFault place are is x = cc
plan_place words observed refs options a b plan.NoMemory place are is x = cc

pub no_match_within : (words : List (List ℕ)) (observed : Bool) (refs : List ImageRef) (options : Wishes) (draw : Draw) {now : ℕ} {e : BuildError} {a b : DirAt} → AreReferences words refs → IsBuildRefused observed refs options draw now e a b
    → (place : ℕ) → e ≡ build.NoMatch place → place < length words
no_match_within words observed refs options draw are (inl x) place is = gate_place x.0 place (sym is ∙ x.1)
no_match_within words observed refs options draw are (inr (free, inl x)) place is = plan_place words observed refs options x.0 x.1 x.3.0 place are (sym is ∙ x.3.1) x.3.2
no_match_within words observed refs options draw are (inr (free, inr x)) place is = make_place x.0 draw.uuid x.2.3.0 place (subst (λ (error : BuildError). IsMakeRefusal x.0 draw.uuid x.2.3.0 error) is x.2.3.1)

-- the name that is taken is the drawn one
gate_pod : (reason : LockError) (pod : PodId) {X : Type 0} → build.Taken pod ≡ gate_refusal reason → X
gate_pod lock.Busy pod is = cc
gate_pod lock.DirFault pod is = cc
gate_pod lock.NoMemory pod is = cc

plan_pod : (reason : PlanError) (pod : PodId) {X : Type 0} → build.Taken pod ≡ plan_refusal reason → X
plan_pod (plan.Damaged path) pod is = cc
plan_pod (plan.NoMatch place) pod is = cc
plan_pod (plan.DepError e) pod is = cc
plan_pod (plan.GenError e) pod is = cc
plan_pod (plan.RenderError e) pod is = cc
plan_pod (plan.ListingError e) pod is = cc
plan_pod plan.DirFault pod is = cc
plan_pod plan.NoMemory pod is = cc

make_pod : (entries : List PlanEntry) (draw : PodId) (reason : MakeError) (pod : PodId) → IsMakeRefusal entries draw reason (build.Taken pod) → pod ≡ draw
make_pod entries draw make.Busy pod is = cc
make_pod entries draw make.Taken pod is = cc
make_pod entries draw (make.Unlike place) pod is = absurd is
make_pod entries draw make.DirFault pod is = cc
make_pod entries draw make.Stray pod is = cc
make_pod entries draw make.NoMemory pod is = cc

taken_of : (words : List (List ℕ)) (e : BuildError) (pod : PodId) → Taken pod ≡ refusal_of_build words e → e ≡ build.Taken pod
taken_of words (build.Taken here) pod is = let same : here ≡ pod = cc in ap build.Taken same
taken_of words (build.DepError e) pod is = choice_apart (dependency_refusal e) (Taken pod) (dependency_chosen e) refl (sym is)
taken_of words (build.GenError e) pod is = choice_apart (pod_manifest_refusal e) (Taken pod) (manifest_chosen e) refl (sym is)
taken_of words (build.RenderError e) pod is = choice_apart (root_refusal e) (Taken pod) (root_chosen e) refl (sym is)
taken_of words (build.ListingError e) pod is = choice_apart (root_listing_refusal e) (Taken pod) (listing_chosen e) refl (sym is)
taken_of words e pod is = cc

pub taken_own : {observed : Bool} {wants : Wants} {now : ℕ} {draw : Draw} {pod : PodId} {old new : DirAt} → RefusesPod observed wants now draw old new (Taken pod) → pod ≡ draw.uuid
taken_own {wants} {now} {draw} {pod} x = by x.cause.2
  where
    is : x.error ≡ build.Taken pod
    is = taken_of wants.images x.error pod x.is

    by : {observed : Bool} {a b : DirAt} → IsBuildRefused observed x.cause.0 wants.wishes draw now x.error a b → pod ≡ draw.uuid
    by (inl y) = gate_pod y.0 pod (sym is ∙ y.1)
    by (inr (free, inl y)) = plan_pod y.3.0 pod (sym is ∙ y.3.1)
    by (inr (free, inr y)) = make_pod y.0 draw.uuid y.2.3.0 pod (subst (λ (error : BuildError). IsMakeRefusal y.0 draw.uuid y.2.3.0 error) is y.2.3.1)
