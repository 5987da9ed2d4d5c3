-- The files of a pod, by their paths in its folder.
use Rattle.std.specs.Prelude.{ℕ, Bool, ◌||◌, cond, bytes_eq, codes, List, [], ◌∷◌, ◌++◌}
use Rattle.std.specs.List.{list_any}
use Rattle.hex.specs.Hex.{encode_lower}
use Rattle.dir_model.specs.Paths.{lies_below}
use Rattle.dir_model.specs.Trees.{app_root}
use Rattle.dir_rules.specs.Marks.{created_mark, status_directory}

-- what the file `token` holds: two lower-case hex digits for each byte
abbrev pub token_text : List ℕ → List ℕ
token_text token = encode_lower token

-- the directory of an app's image, with its manifest
abbrev pub info_directory : List ℕ → List ℕ
info_directory name = codes "appsinfo/" ++ name

abbrev pub app_manifest_path : List ℕ → List ℕ
app_manifest_path name = codes "appsinfo/" ++ (name ++ codes "/manifest")

-- the directory of an app's root, with the root's listing
abbrev pub stage_directory : List ℕ → List ℕ
stage_directory name = codes "stage1/rootfs/opt/stage2/" ++ name

abbrev pub tree_file : List ℕ → List ℕ
tree_file name = codes "stage1/rootfs/opt/stage2/" ++ (name ++ codes "/tree")

-- the directories that a pod has whatever its apps are, each behind the one that it lies in
abbrev pub shared_directories : List (List ℕ)
shared_directories =
    codes "appsinfo" ∷ codes "stage1" ∷ codes "stage1/rootfs" ∷ codes "stage1/rootfs/opt" ∷ codes "stage1/rootfs/opt/stage2"
    ∷ codes "stage1/rootfs/rkt" ∷ status_directory ∷ []

abbrev pub is_path_among : List (List ℕ) → List ℕ → Bool
is_path_among paths path = list_any (bytes_eq path) paths

-- a directory, or else a file, that a pod has whatever its apps are
abbrev pub is_shared_place : ℕ → Bool → List ℕ → Bool
is_shared_place now directory path =
    cond directory (is_path_among shared_directories path) (is_path_among (created_mark now ∷ codes "token" ∷ codes "pod" ∷ []) path)

-- a directory, or else a file, of an app: beside its root, the root, and anything below it
abbrev pub is_app_place : List ℕ → Bool → List ℕ → Bool
is_app_place name directory path =
    cond directory (is_path_among (info_directory name ∷ stage_directory name ∷ app_root name ∷ []) path) (is_path_among (app_manifest_path name ∷ tree_file name ∷ []) path)
    || lies_below path (app_root name)

-- a directory, or else a file, of a pod with these apps
abbrev pub is_pod_path : ℕ → List (List ℕ) → Bool → List ℕ → Bool
is_pod_path now names directory path = is_shared_place now directory path || list_any (λ name. is_app_place name directory path) names
