use Rattle.std.proofs.Common.{◌≡◌, take}
use Rattle.dir_model.specs.Trees.{content}
use Rattle.dir_state.proofs.trees.content.Given as goal

abbrev pub invariant-entries : goal.invariant-entries
invariant-entries l = l.bytes.items ≡ content (take l.entry-index l.entries) l.folder l.path
