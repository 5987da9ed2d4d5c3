-- What a walk has still to come to.
use Rattle.std.specs.Prelude.{ℕ, Bool, true, false, List}
use Rattle.dir_trait.specs.declared.bundle.BundleKind.{BundleKind}
use Rattle.dir_trait.specs.declared.bundle.BundleKind.TheVariants.{Dir, File, Link, Other}
use Rattle.dir_trait.specs.declared.bundle.BundleItem.{BundleItem}
use Rattle.bundle_image.specs.declared.task.Task.{Task}
use Rattle.bundle_image.specs.Walks.{in_directory}

-- an item of the directory
abbrev pub walk_task_of : List ℕ → BundleItem → Task
walk_task_of directory item = record { path = in_directory directory item.name; kind = item.kind }

abbrev pub is_dir_kind : BundleKind → Bool
is_dir_kind Dir = true
is_dir_kind File = false
is_dir_kind Link = false
is_dir_kind Other = false
