-- The command `validate`.
use Rattle.std.specs.Prelude.{◌≡◌, ◌⊎◌, ◌≤◌, ◌+◌, ℕ, Bool, true, false, List, take, Option, Some, None, option_map, Ok, Err}
use Rattle.dir_trait.specs.Bundles.{BundleTree, bytes_of_node, AsksBundleOnly, request_at}
use Rattle.dir_trait.specs.declared.bundle.BundleAction.TheVariants.{Read}
use Rattle.dir_trait.specs.declared.bundle.BundleError.{BundleError}
use Rattle.dir_trait.specs.declared.bundle.BundleError.TheVariants.{Missing, Failed}
use Rattle.dir_trait.specs.declared.bundle.BundleError.TheVariants as bundle_error
use Rattle.ac_types.specs.declared.fault.ReadError.{ReadError}
use Rattle.ac_types.specs.declared.fault.ReadError.TheVariants.{Bad}
use Rattle.ac_types.specs.declared.fault.ReadError.TheVariants as read_error
use Rattle.ac_types.specs.FaultNumbers.{number_of}
use Rattle.ac_types.specs.Outcomes.{reads, fails}
use Rattle.ac_types.specs.Outcomes as reading
use Rattle.manifests.specs.DocumentData.{DocumentData, any_manifest}
use Rattle.command_outcomes.specs.declared.refusal.Refusal.{Refusal}
use Rattle.command_outcomes.specs.declared.refusal.Refusal.TheVariants.{BadManifest, BundleFault, NoMemory, NoFile}
use Rattle.command_outcomes.specs.Moments.{BundleSeen, CommandOutcome}
use Rattle.commands.specs.Texts.{valid_text}
use Rattle.manifests.specs.ManifestSize.{most_of_manifest}

-- the refusals that it may have
abbrev pub validate_refusal : Refusal → Bool
validate_refusal (BadManifest path number) = true
validate_refusal BundleFault = true
validate_refusal NoMemory = true
validate_refusal (NoFile path) = true
validate_refusal refusal = false

-- what the reading of a manifest comes to: its line, or the path and the number of its first fault
abbrev pub manifest_outcome : reading.Outcome DocumentData → CommandOutcome
manifest_outcome (reads manifest) = Ok (valid_text manifest)
manifest_outcome (fails path kind) = Err (BadManifest path (number_of kind))

-- the refusal of a reading
abbrev pub reading_refusal : ReadError → Refusal
reading_refusal (Bad fault) = BadManifest fault.path (number_of fault.kind)
reading_refusal read_error.NoMemory = NoMemory

-- the refusal of a bundle that gave no bytes, or want of memory
abbrev pub IsRefusalOf : List ℕ → BundleError → Refusal → Type 0
IsRefusalOf path Missing refusal = (refusal ≡ NoFile path) ⊎ (refusal ≡ NoMemory)
IsRefusalOf path Failed refusal = refusal ≡ BundleFault
IsRefusalOf path bundle_error.NoMemory refusal = refusal ≡ NoMemory

-- what a file at a path comes to, which may be missing
abbrev pub file_outcome : List ℕ → Option (List ℕ) → CommandOutcome
file_outcome path None = Err (NoFile path)
file_outcome path (Some bytes) = manifest_outcome (any_manifest bytes)

-- the file's first bytes were read, and judged
pub record ValidateSays (path : List ℕ) (old : BundleSeen) (o : CommandOutcome) : Type 0 where
  pub found : Option (List ℕ)
  pub told : old.observed ≡ true → found ≡ option_map (take most_of_manifest) (bytes_of_node (old.tree path))
  pub is : o ≡ file_outcome path found

-- it asks for that file alone, and for no more of it
pub record ReadsFileAlone (path : List ℕ) (old new : BundleSeen) : Type 0 where
  pub given : new.given ≤ old.given + most_of_manifest
  pub asked : old.observed ≡ true → AsksBundleOnly (request_at Read path) old.asked new.asked

-- what it comes to where nothing fails: the judgement of the whole file
abbrev pub sequential_validate : List ℕ → BundleTree → CommandOutcome
sequential_validate path tree = file_outcome path (bytes_of_node (tree path))
