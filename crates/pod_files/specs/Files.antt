-- The files that every pod in run has: its manifest and its token.
use Rattle.std.specs.Prelude.{◌≡◌, ℕ, ◌==◌, Bool, true, false, ◌&&◌, ◌||◌, nat_le, List, length}
use Rattle.std.specs.List.{list_all}
use Rattle.ac_types.specs.Outcomes.{reads}
use Rattle.manifests.specs.PodData.{PodData}
use Rattle.manifests.specs.PodForm.{pod_manifest}
use Rattle.dir_model.specs.declared.pod.PodId.{PodId}
use Rattle.dir_trait.specs.DirCalls.{DirAt}
use Rattle.image_reading.specs.Files.{ReadsFile, LacksFile}
use Rattle.pod_files.specs.Places.{pod_file, pod_manifest_name, token_name}
use Rattle.manifests.specs.ManifestSize.{most_of_manifest}

-- the bytes are those of a pod manifest with this data
abbrev pub IsManifestOf : PodData → List ℕ → Type 0
IsManifestOf manifest bytes = pod_manifest bytes ≡ reads manifest

abbrev pub IsNoManifest : List ℕ → Type 0
IsNoManifest bytes = (manifest : PodData) → IsManifestOf manifest bytes → ⊥

-- a lower-case hex digit
abbrev pub is_digit : ℕ → Bool
is_digit b = (nat_le 48 b && nat_le b 57) || (nat_le 97 b && nat_le b 102)

-- 32 of them
abbrev pub is_token : List ℕ → Bool
is_token bytes = (length bytes == 32) && list_all is_digit bytes

abbrev pub IsTokenOf : List ℕ → List ℕ → Type 0
IsTokenOf token bytes = (token ≡ bytes) × (is_token bytes ≡ true)

abbrev pub IsNoToken : List ℕ → Type 0
IsNoToken bytes = is_token bytes ≡ false

-- one byte more than a token
abbrev pub most_of_token : ℕ
most_of_token = 33

-- what was read
abbrev pub ReadsPodManifest : PodId → PodData → DirAt → DirAt → Type 0
ReadsPodManifest pod manifest old new = ReadsFile (pod_file pod pod_manifest_name) most_of_manifest (IsManifestOf manifest) old new

abbrev pub ReadsNoPodManifest : PodId → DirAt → DirAt → Type 0
ReadsNoPodManifest pod old new = LacksFile (pod_file pod pod_manifest_name) most_of_manifest IsNoManifest old new

abbrev pub ReadsToken : PodId → List ℕ → DirAt → DirAt → Type 0
ReadsToken pod token old new = ReadsFile (pod_file pod token_name) most_of_token (IsTokenOf token) old new

abbrev pub ReadsNoToken : PodId → DirAt → DirAt → Type 0
ReadsNoToken pod old new = LacksFile (pod_file pod token_name) most_of_token IsNoToken old new
