use Rattle.std.proofs.Common.{◌≡◌, take}
use Rattle.commands.proofs.wanted.texts_of.Given as goal

abbrev pub invariant-words : goal.invariant-words
invariant-words l = l.texts.items ≡ take l.place l.words
