use Rattle.std.proofs.Common.{◌≡◌}
use Rattle.dir_model.specs.Local.{nothing_local}
use Rattle.histories.proofs.meeting.met.Given as goal

abbrev pub invariant-lines : goal.invariant-lines
invariant-lines l = l.dir.local ≡ nothing_local
