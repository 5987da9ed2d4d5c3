-- What the bytes of a token's file tell.
use Rattle.std.proofs.Common.{◌≡◌, ◌≤◌, ◌∙◌, ℕ, Bool, true, false, bytes_eq, List, length, sym}
use Rattle.std.proofs.lemmas.Slice.Eq.{bytes_eq-Decides}
use Rattle.dir_model.specs.declared.pod.PodId.{PodId}
use Rattle.dir_trait.specs.DirCalls.{DirAt}
use Rattle.dir_files.specs.Reads.{ReadsUp}
use Rattle.pod_files.specs.Files.{most_of_token}
use Rattle.pod_files.specs.Places.{pod_file, token_name}
use Rattle.pod_files.proofs.Reading.{taken_so, not_taken}
use Rattle.metadata.specs.PodViews.{TellsDigits}

pub tells_digits : {observed : Bool} {old new : DirAt} (pod : PodId) (digits kept bytes : List ℕ) → bytes ≡ kept → length kept ≤ most_of_token → (observed ≡ true → ReadsUp (pod_file pod token_name) most_of_token old new kept) → (b : Bool) → b ≡ bytes_eq bytes digits → observed ≡ true → TellsDigits pod digits b old new
tells_digits pod digits kept bytes same few read true is = taken_so (pod_file pod token_name) most_of_token kept bytes same few read (λ b. b ≡ digits) ((bytes_eq-Decides bytes digits).0 (sym is))
tells_digits pod digits kept bytes same few read false is = not_taken (pod_file pod token_name) most_of_token kept bytes same few read (λ b. b ≡ digits → ⊥) (λ one. let e : true ≡ false = sym ((bytes_eq-Decides bytes digits).1 one) ∙ sym is in cc)
