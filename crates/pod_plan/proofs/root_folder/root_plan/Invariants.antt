use Rattle.std.proofs.Common.{◌≡◌}
use Rattle.std.specs.Vec.Iter.{into_iter_items}
use Rattle.pod_plan.proofs.Roots.{IsAt}
use Rattle.pod_plan.proofs.root_folder.root_plan.Given as goal

abbrev pub invariant-lines : goal.invariant-lines
invariant-lines l = record {
  place : l.place ≡ l.line-index;
  at : IsAt l.images l.app l.lines l.line-index l.fn.plan.items (into_iter_items l.made) l.plan.items;
}
