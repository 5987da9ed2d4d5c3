-- The paths of notes are paths.
use Rattle.std.proofs.Common.{arith, ◌≡◌, ◌≤◌, ℕ, true, nat_le, List, ◌++◌, length, length-append, refl}
use Rattle.std.proofs.lemmas.Bool.Decides.{nat_tests}
use Rattle.dir_model.specs.Paths.{is_path}
use Rattle.dir_model.specs.Trees.{mark_prefix}
use Rattle.dir_rules.specs.Marks.{status_directory}
use Rattle.ac_types.specs.Names.{IsAcName}
use Rattle.dir_laws.proofs.Names.{app_name, plain_path, plain_behind, status_path as directory_form}
use Rattle.spawner.specs.Conditions.{start_mark}
use Rattle.stage1.specs.Notes.{status_path}

within : (n : ℕ) → n ≤ 208 → nat_le n 255 ≡ true
within n h = grind (arith, nat_tests)

pub mark_form : (app : List ℕ) → IsAcName app → is_path (start_mark app) ≡ true
mark_form app is =
    let name = app_name app is in
    let short : length (mark_prefix ++ app) ≤ 208 = omega (arith, length-append mark_prefix app, name.small) in
    plain_path (start_mark app) refl (within (length (mark_prefix ++ app)) short) name.plain

pub status_form : (app : List ℕ) → IsAcName app → is_path (status_path app) ≡ true
status_form app is =
    let name = app_name app is in
    plain_behind status_directory app directory_form refl name.some name.short name.plain
