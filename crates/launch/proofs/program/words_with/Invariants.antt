use Rattle.std.proofs.Common.{◌≡◌, ◌∷◌, take}
use Rattle.launch.proofs.program.words_with.Given as goal

abbrev pub invariant-arguments : goal.invariant-arguments
invariant-arguments l = l.words ≡ l.path ∷ take l.word-index l.arguments
