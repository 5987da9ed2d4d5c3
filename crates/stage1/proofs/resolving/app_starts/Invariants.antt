use Rattle.std.proofs.Common.{◌≡◌, ◌+◌, take, drop, length}
use Rattle.std.specs.Vec.Iter.{into_iter_items, into_iter_len}
use Rattle.stage1.specs.Starts.{AreStarts}
use Rattle.stage1.proofs.resolving.app_starts.Given as goal

abbrev pub invariant-apps : goal.invariant-apps
invariant-apps l = record {
  left : into_iter_items l.left ≡ drop l.app-index l.fn.roots.items;
  many : into_iter_len l.left + l.app-index ≡ length l.fn.roots.items;
  are : AreStarts l.pod l.address l.token (take l.app-index l.apps) (take l.app-index l.fn.roots.items) l.starts.items;
}
