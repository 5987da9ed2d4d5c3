use Rattle.std.proofs.Common.{◌≡◌, map, take, string_bytes}
use Rattle.spawner.proofs.words.Words.copy.Given as goal

abbrev pub invariant-texts : goal.invariant-texts
invariant-texts l = map string_bytes l.texts.items ≡ map string_bytes (take l.text-index l.text-items)
