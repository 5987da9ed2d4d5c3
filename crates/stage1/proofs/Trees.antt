-- The path of the listing of an app's root.
use Rattle.std.proofs.Common.{◌≡◌, ℕ, true, codes, List, ◌++◌, refl}
use Rattle.dir_model.specs.Paths.{is_path}
use Rattle.ac_types.specs.Names.{IsAcName}
use Rattle.dir_laws.proofs.Names.{app_name, plain_behind, stage2_path}
use Rattle.stage1.specs.AppPlaces.{tree_path}

-- the listing of an app's root
pub tree_form : (app : List ℕ) → IsAcName app → is_path (tree_path app) ≡ true
tree_form app is =
    let name = app_name app is in
    plain_behind (codes "stage1/rootfs/opt/stage2/" ++ app) (codes "tree") (plain_behind (codes "stage1/rootfs/opt/stage2") app stage2_path refl name.some name.short name.plain) refl refl refl refl
