-- Which refusals are told as stray answers.
use Rattle.std.proofs.Common.{◌≡◌, ℕ, Bool, true, List, refl, subst}
use Rattle.dep_match.specs.declared.dep_error.DepError.{DepError}
use Rattle.dep_match.specs.declared.dep_error.DepError.TheVariants as dep
use Rattle.dir_model.specs.declared.intent.Draw.{Draw}
use Rattle.dir_model.specs.declared.pod.PodId.{PodId}
use Rattle.dir_trait.specs.DirCalls.{DirAt}
use Rattle.lifecycle.specs.Executions.{IsConforming}
use Rattle.pod_build.specs.declared.error.BuildError.{BuildError}
use Rattle.pod_build.specs.declared.error.BuildError.TheVariants as build
use Rattle.pod_build.specs.Causes.{IsBuildRefused}
use Rattle.pod_build.proofs.Lawful.{never_refused}
use Rattle.pod_locks.specs.declared.claim_error.ClaimError.{ClaimError}
use Rattle.pod_locks.specs.declared.claim_error.ClaimError.TheVariants as claim
use Rattle.pod_manifest.specs.declared.gen_error.GenError.{GenError}
use Rattle.pod_manifest.specs.declared.gen_error.GenError.TheVariants as gen
use Rattle.render.specs.declared.render_error.RenderError.{RenderError}
use Rattle.render.specs.declared.render_error.RenderError.TheVariants as render
use Rattle.stage1.specs.declared.error.RunError.{RunError}
use Rattle.stage1.specs.declared.error.RunError.TheVariants as run
use Rattle.tree_digest.specs.declared.listing_error.ListingError.{ListingError}
use Rattle.tree_digest.specs.declared.listing_error.ListingError.TheVariants as listing
use Rattle.command_outcomes.specs.declared.refusal.Refusal.TheVariants.{Stray}
use Rattle.commands.specs.Prepare.{RefusesPod}
use Rattle.commands.specs.PrepareRefusals.{refusal_of_build}
use Rattle.commands.specs.References.{OfReferences}
use Rattle.commands.specs.RunRefusals.{claim_refusal, run_refusal}
use Rattle.commands.specs.Strays.{NeverComes}
use Rattle.commands.specs.Wants.{Wants}

pub build_stray : (words : List (List ℕ)) (e : BuildError) → Stray ≡ refusal_of_build words e → e ≡ build.Stray
build_stray words (build.Busy area) is = cc
build_stray words (build.Damaged path) is = cc
build_stray words (build.NoMatch place) is = cc
build_stray words (build.DepError fault) is = by fault is
  where
    by : (fault : DepError) → Stray ≡ refusal_of_build words (build.DepError fault) → build.DepError fault ≡ build.Stray
    by (dep.NoDependency name) is = cc
    by (dep.Cycle key) is = cc
    by dep.TooDeep is = cc
    by dep.TooMany is = cc
    by dep.NoMemory is = cc
build_stray words (build.GenError refusal) is = by refusal is
  where
    by : (refusal : GenError) → Stray ≡ refusal_of_build words (build.GenError refusal) → build.GenError refusal ≡ build.Stray
    by gen.TooManyApps is = cc
    by (gen.NoApp name) is = cc
    by (gen.NoExec name) is = cc
    by (gen.AppTwice name) is = cc
    by (gen.NoVolume name) is = cc
    by gen.NoMemory is = cc
build_stray words (build.RenderError refusal) is = by refusal is
  where
    by : (refusal : RenderError) → Stray ≡ refusal_of_build words (build.RenderError refusal) → build.RenderError refusal ≡ build.Stray
    by render.TooManyEntries is = cc
    by render.NoMemory is = cc
build_stray words (build.ListingError refusal) is = by refusal is
  where
    by : (refusal : ListingError) → Stray ≡ refusal_of_build words (build.ListingError refusal) → build.ListingError refusal ≡ build.Stray
    by (listing.TooMany limit) is = cc
    by (listing.BadLine n) is = cc
    by (listing.NotSorted n) is = cc
    by (listing.NoParent n) is = cc
    by (listing.FileTooLong n) is = cc
    by listing.NoMemory is = cc
build_stray words (build.Taken pod) is = cc
build_stray words build.DirFault is = cc
build_stray words build.NoMemory is = cc
build_stray words build.Stray is = refl

pub claim_stray : (pod : PodId) (e : ClaimError) → Stray ≡ claim_refusal pod e → e ≡ claim.Stray
claim_stray pod claim.NoPod is = cc
claim_stray pod (claim.WrongPhase phase) is = cc
claim_stray pod claim.NoManifest is = cc
claim_stray pod (claim.Busy other which) is = cc
claim_stray pod claim.DirFault is = cc
claim_stray pod claim.NoMemory is = cc
claim_stray pod claim.Stray is = refl

pub run_stray : (pod : PodId) (e : RunError) → Stray ≡ run_refusal pod e → e ≡ run.Stray
run_stray pod run.NoManifest is = cc
run_stray pod (run.Damaged path) is = cc
run_stray pod (run.NoProgram app word) is = cc
run_stray pod run.SpawnFault is = cc
run_stray pod run.DirFault is = cc
run_stray pod run.NoMemory is = cc
run_stray pod run.Stray is = refl

-- a pod isn't made for a stray answer
module _ (now : ℕ) (draw : Draw) where
  pub built : (wants : Wants) (error : BuildError) {a b : DirAt} → OfReferences wants.images (λ refs. IsBuildRefused true refs wants.wishes draw now error a b) → error ≡ build.Stray → IsConforming b.trace → ⊥
  built wants error {a} {b} cause same part = never_refused draw (subst (λ (e : BuildError). IsBuildRefused true cause.0 wants.wishes draw now e a b) same cause.2) refl part

  pub pod_never : {observed : Bool} (wants : Wants) (old new : DirAt) → RefusesPod observed wants now draw old new Stray → observed ≡ true → NeverComes new.trace
  pod_never wants old new r told conforming = built wants r.error (subst (λ (b : Bool). OfReferences wants.images (λ refs. IsBuildRefused b refs wants.wishes draw now r.error old new)) told r.cause)
      (build_stray wants.images r.error r.is) conforming
