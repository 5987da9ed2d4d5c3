use Rattle.std.proofs.Common.{take}
use Rattle.stage1.specs.Runs.{AreEnds}
use Rattle.stage1.proofs.running.ends_of.Given as goal

abbrev pub invariant-apps : goal.invariant-apps
invariant-apps l = AreEnds (take l.place l.apps) (take l.place l.statuses) l.ends.items
