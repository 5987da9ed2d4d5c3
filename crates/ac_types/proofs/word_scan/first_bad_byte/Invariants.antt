use Rattle.std.proofs.Common.{take}
use Rattle.ac_types.specs.Separators.{separates}
use Rattle.ac_types.proofs.Words.{IsScanned}
use Rattle.ac_types.proofs.word_scan.first_bad_byte.Given as goal

abbrev pub invariant-loop-i : goal.invariant-loop-i
invariant-loop-i l =
    IsScanned (separates l.separators) l.in_word (take l.i l.bytes)
