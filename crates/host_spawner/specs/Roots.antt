-- Where the roots of apps stand.
use Rattle.std.specs.Prelude.{ℕ, List, ◌++◌, codes}
use Rattle.host_files.specs.Places.{folder_path}
use Rattle.spawner.specs.declared.call.RootPlace.{RootPlace}

-- an app's root stands in its pod's folder
abbrev pub root_path : List ℕ → RootPlace → List ℕ
root_path base root = folder_path base root.spot ++ codes "/stage1/rootfs/opt/stage2/" ++ root.app ++ codes "/rootfs"

-- what an absolute path of the app names
abbrev pub below_root : List ℕ → List ℕ → List ℕ
below_root root path = root ++ path
