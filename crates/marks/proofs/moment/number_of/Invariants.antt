use Rattle.std.proofs.Common.{◌≡◌, ◌≤◌, take}
use Rattle.dir_rules.specs.Marks.{number_of}
use Rattle.marks.proofs.Texts.{most}
use Rattle.marks.proofs.moment.number_of.Given as goal

abbrev pub invariant-digits : goal.invariant-digits
invariant-digits l = (l.number ≡ number_of (take l.digit-index l.digits)) × (l.number ≤ most l.digit-index)
