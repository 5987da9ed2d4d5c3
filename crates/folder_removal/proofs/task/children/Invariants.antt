use Rattle.std.proofs.Common.{◌≡◌, true, take, map}
use Rattle.std.specs.List.{list_all}
use Rattle.folder_removal.specs.Tasks.{deletion_task_of, has_plain_name, is_short_task}
use Rattle.folder_removal.proofs.task.children.Given as goal

abbrev pub invariant-items : goal.invariant-items
invariant-items l = record {
  are : l.tasks.items ≡ map (deletion_task_of l.directory) (take l.item-index l.items);
  plain : list_all has_plain_name (take l.item-index l.items) ≡ true;
  short : list_all is_short_task l.tasks.items ≡ true;
}
