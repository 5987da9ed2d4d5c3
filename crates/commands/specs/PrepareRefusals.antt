-- What is said of a pod that isn't prepared.
use Rattle.std.specs.Prelude.{◌≡◌, ◌⊎◌, ℕ, Bool, true, List, [], unwrap_or, slice_get}
use Rattle.ac_types.specs.Ids.{id_text}
use Rattle.dir_model.specs.declared.area.Area.TheVariants.{Embryo, Images}
use Rattle.dep_match.specs.declared.dep_error.DepError.{DepError}
use Rattle.dep_match.specs.declared.dep_error.DepError.TheVariants as dep
use Rattle.dep_match.specs.declared.refusals.TheConstants.{MAX_DEPTH, MAX_NODES}
use Rattle.pod_manifest.specs.declared.gen_error.GenError.{GenError}
use Rattle.pod_manifest.specs.declared.gen_error.GenError.TheVariants as gen
use Rattle.pod_manifest.specs.declared.refusals.TheConstants.{APP_TWICE, NO_EXEC, NO_APP, NO_VOLUME, MAX_APPS}
use Rattle.render.specs.declared.render_error.RenderError.{RenderError}
use Rattle.render.specs.declared.render_error.RenderError.TheVariants as render
use Rattle.render.specs.declared.refusals.TheConstants.{MAX_ENTRIES}
use Rattle.tree_digest.specs.declared.listing_error.ListingError.{ListingError}
use Rattle.tree_digest.specs.declared.listing_error.ListingError.TheVariants as listing
use Rattle.pod_build.specs.declared.error.BuildError.{BuildError}
use Rattle.pod_build.specs.declared.error.BuildError.TheVariants as build
use Rattle.command_outcomes.specs.declared.refusal.Refusal.{Refusal}
use Rattle.command_outcomes.specs.declared.refusal.Refusal.TheVariants.{Busy, BadManifest, NoImage, NoDependency, Cycle, Limit, DirFault, NoMemory, Damaged, Taken, Stray}
use Rattle.command_outcomes.specs.Ends.{is_common}

-- the refusals that `prepare` may have: of the locks it takes those of images and embryo
abbrev pub prepare_refusal : Refusal → Bool
prepare_refusal (Busy Images) = true
prepare_refusal (Busy Embryo) = true
prepare_refusal (BadManifest name number) = true
prepare_refusal (NoImage word) = true
prepare_refusal (NoDependency name) = true
prepare_refusal (Cycle key) = true
prepare_refusal (Limit number) = true
prepare_refusal (Damaged path) = true
prepare_refusal (Taken pod) = true
prepare_refusal Stray = true
prepare_refusal refusal = is_common refusal

-- the dependencies of an image: the first that no image is, the image that depends on itself, or the limit that was passed
abbrev pub dependency_refusal : DepError → Refusal
dependency_refusal (dep.NoDependency name) = NoDependency name
dependency_refusal (dep.Cycle key) = Cycle (id_text key.bytes)
dependency_refusal dep.TooDeep = Limit MAX_DEPTH
dependency_refusal dep.TooMany = Limit MAX_NODES
dependency_refusal dep.NoMemory = NoMemory

-- the pod's manifest, by the name of the image, of the app or of the volume
abbrev pub pod_manifest_refusal : GenError → Refusal
pod_manifest_refusal gen.TooManyApps = Limit MAX_APPS
pod_manifest_refusal (gen.NoApp name) = BadManifest name NO_APP
pod_manifest_refusal (gen.NoExec name) = BadManifest name NO_EXEC
pod_manifest_refusal (gen.AppTwice name) = BadManifest name APP_TWICE
pod_manifest_refusal (gen.NoVolume name) = BadManifest name NO_VOLUME
pod_manifest_refusal gen.NoMemory = NoMemory

-- an app's root, and its listing, which is only ever too large
abbrev pub root_refusal : RenderError → Refusal
root_refusal render.TooManyEntries = Limit MAX_ENTRIES
root_refusal render.NoMemory = NoMemory

abbrev pub root_listing_refusal : ListingError → Refusal
root_listing_refusal (listing.TooMany limit) = Limit limit
root_listing_refusal error = NoMemory

-- the word at this place, as it was given
abbrev pub word_at : List (List ℕ) → ℕ → List ℕ
word_at words place = unwrap_or (slice_get words place) []

-- the refusal of a pod for these words
abbrev pub refusal_of_build : List (List ℕ) → BuildError → Refusal
refusal_of_build words (build.Busy area) = Busy area
refusal_of_build words (build.Damaged path) = Damaged path
refusal_of_build words (build.NoMatch place) = NoImage (word_at words place)
refusal_of_build words (build.DepError fault) = dependency_refusal fault
refusal_of_build words (build.GenError refusal) = pod_manifest_refusal refusal
refusal_of_build words (build.RenderError refusal) = root_refusal refusal
refusal_of_build words (build.ListingError refusal) = root_listing_refusal refusal
refusal_of_build words (build.Taken pod) = Taken pod
refusal_of_build words build.DirFault = DirFault
refusal_of_build words build.Stray = Stray
refusal_of_build words build.NoMemory = NoMemory

-- that is said, or that memory ran out
abbrev pub IsSaidOfBuild : List (List ℕ) → BuildError → Refusal → Type 0
IsSaidOfBuild words error refusal = (refusal ≡ refusal_of_build words error) ⊎ (refusal ≡ NoMemory)
