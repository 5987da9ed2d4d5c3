use Rattle.std.proofs.Common.{◌≡◌, take, map}
use Rattle.std.specs.List.{AllByRecursion}
use Rattle.dir_model.specs.Names.{IsFileName}
use Rattle.bundle_image.specs.Tasks.{walk_task_of}
use Rattle.bundle_image.proofs.task.children.Given as goal

abbrev pub invariant-items : goal.invariant-items
invariant-items l = record {
  tasks : l.tasks.items ≡ map (walk_task_of l.directory) (take l.item-index l.items);
  named : AllByRecursion (λ item. IsFileName item.name) (take l.item-index l.items);
}
