-- A file that `validate` read, or couldn't.
use Rattle.std.proofs.Common.{◌≡◌, ◌⊎◌, inl, inr, ℕ, true, false, List, take, Option, Some, None, option_map, IsSomeAnd, Err, refl, sym, ap, ◌∙◌}
use Rattle.dir_trait.specs.Bundles.{bytes_of_node}
use Rattle.dir_trait.specs.declared.bundle.BundleError.{BundleError}
use Rattle.dir_trait.specs.declared.bundle.BundleError.TheVariants.{Missing, Failed}
use Rattle.dir_trait.specs.declared.bundle.BundleError.TheVariants as bundle_error
use Rattle.manifests.specs.DocumentData.{any_manifest}
use Rattle.command_outcomes.specs.declared.refusal.Refusal.{Refusal}
use Rattle.command_outcomes.specs.declared.refusal.Refusal.TheVariants.{BundleFault, NoMemory}
use Rattle.command_outcomes.specs.Moments.{BundleSeen, CommandOutcome}
use Rattle.command_outcomes.specs.Ends.{is_own_end}
use Rattle.commands.specs.Validate.{ValidateSays, IsRefusalOf, manifest_outcome}
use Rattle.manifests.specs.ManifestSize.{most_of_manifest}

front_of : (bytes : List ℕ) (file : Option (List ℕ)) → IsSomeAnd file (λ f. bytes ≡ take most_of_manifest f) → Some bytes ≡ option_map (take most_of_manifest) file
front_of bytes None read = absurd read
front_of bytes (Some f) read = ap Some read

pub was_read : (path bytes : List ℕ) (old : BundleSeen) (o : CommandOutcome) → (o ≡ manifest_outcome (any_manifest bytes)) ⊎ (o ≡ Err NoMemory) → (old.observed ≡ true → IsSomeAnd (bytes_of_node (old.tree path)) (λ f. bytes ≡ take most_of_manifest f)) → is_own_end o ≡ true → ValidateSays path old o
was_read path bytes old o (inl e) read own = record { found = Some bytes; told = λ t. front_of bytes (bytes_of_node (old.tree path)) (read t); is = e }
was_read path bytes old o (inr e) read own = let clash : true ≡ false = sym own ∙ ap is_own_end e in cc

refused_end : (r refusal : Refusal) {X : Type 0} → r ≡ refusal → is_own_end (Err r) ≡ true → is_own_end (Err refusal) ≡ false → X
refused_end r refusal e own other = let clash : true ≡ false = sym own ∙ (ap (λ (x : Refusal). is_own_end (Err x)) e ∙ other) in cc

pub was_refused : (path : List ℕ) (old : BundleSeen) (error : BundleError) (r : Refusal) → IsRefusalOf path error r → (error ≡ Missing → old.observed ≡ true → bytes_of_node (old.tree path) ≡ None) → is_own_end (Err r) ≡ true → ValidateSays path old (Err r)
was_refused path old Missing r (inl e) none own = record { found = None; told = λ t. sym (ap (option_map (take most_of_manifest)) (none refl t)); is = ap Err e }
was_refused path old Missing r (inr e) none own = refused_end r NoMemory e own refl
was_refused path old Failed r e none own = refused_end r BundleFault e own refl
was_refused path old bundle_error.NoMemory r e none own = refused_end r NoMemory e own refl
