use Rattle.std.proofs.Common.{take}
use Rattle.commands.specs.References.{AreReferences}
use Rattle.commands.proofs.wanted.refs_of.Given as goal

abbrev pub invariant-words : goal.invariant-words
invariant-words l = AreReferences (take l.word-index l.words) l.refs.items
