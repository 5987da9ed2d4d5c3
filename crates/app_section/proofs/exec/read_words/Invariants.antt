use Rattle.ac_types.proofs.EachElement.{IsReadUpTo}
use Rattle.app_section.specs.ExecForm.{word}
use Rattle.app_section.proofs.exec.read_words.Given as goal

abbrev pub invariant-loop-i : goal.invariant-loop-i
invariant-loop-i l = IsReadUpTo word l.at l.list l.words l.i
