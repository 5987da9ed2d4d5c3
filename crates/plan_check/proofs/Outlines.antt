-- What a plan's outline has, the plan has.
use Rattle.std.proofs.Common.{◌≡◌, Bool, true, false, not, ◌&&◌, ◌||◌, cond, bytes_eq, ℕ, List, [], ◌∷◌, refl, ap, ◌∙◌}
use Rattle.std.specs.List.{list_any}
use Rattle.dir_model.specs.declared.tree.TreeNode.TheVariants.{Dir, Piece}
use Rattle.dir_model.proofs.Lists.{any_of_map}
use Rattle.dir_rules.specs.Rules.{is_dir, has_path_among, has_dir_among}
use Rattle.folder_building.specs.declared.plan.PlanEntry.{PlanEntry}
use Rattle.folder_building.specs.Plans.{is_file, outline_of, planned_entries}

pub path_in : (path : List ℕ) (plan : List PlanEntry) → has_path_among path (planned_entries plan) ≡ list_any (λ e. bytes_eq e.path path) plan
path_in path plan = any_of_map outline_of (λ e. bytes_eq e.path path) plan

is_dir_outline : (b : Bool) → is_dir (cond b (Piece []) Dir) ≡ not b
is_dir_outline true = refl
is_dir_outline false = refl

dirs_in : (path : List ℕ) (plan : List PlanEntry) → list_any (λ e. is_dir (outline_of e).node && bytes_eq e.path path) plan ≡ list_any (λ e. not (is_file e.content) && bytes_eq e.path path) plan
dirs_in path [] = refl
dirs_in path (e ∷ es) =
    ap (λ b. (b && bytes_eq e.path path) || list_any (λ x. is_dir (outline_of x).node && bytes_eq x.path path) es) (is_dir_outline (is_file e.content))
    ∙ ap (λ b. (not (is_file e.content) && bytes_eq e.path path) || b) (dirs_in path es)

pub dir_in : (path : List ℕ) (plan : List PlanEntry) → has_dir_among path (planned_entries plan) ≡ list_any (λ e. not (is_file e.content) && bytes_eq e.path path) plan
dir_in path plan = any_of_map outline_of (λ e. is_dir e.node && bytes_eq e.path path) plan ∙ dirs_in path plan
