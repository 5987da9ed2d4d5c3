-- Where the roots of a pod in run stand, and the paths of its files.
use Rattle.std.specs.Prelude.{ℕ, List, ◌++◌, codes}
use Rattle.dir_model.specs.declared.pod.PodId.{PodId}
use Rattle.dir_model.specs.Pods.{pod_text}
use Rattle.spawner.specs.declared.call.RootPlace.{RootPlace}
use Rattle.pod_files.specs.Places.{run_spot, pod_file, pod_manifest_name, token_name}

-- the listing of an app's root
abbrev pub tree_path : List ℕ → List ℕ
tree_path app = codes "stage1/rootfs/opt/stage2/" ++ (app ++ codes "/tree")

-- a path in the pod's folder as it is told: behind the pod's uuid
abbrev pub told_path : PodId → List ℕ → List ℕ
told_path pod path = pod_text pod.bytes ++ (codes "/" ++ path)

-- the root of an app
abbrev pub app_root_of : PodId → List ℕ → RootPlace
app_root_of pod app = record { spot = run_spot pod; app = app }
