use Rattle.std.proofs.Common.{rules}
use Rattle.lifecycle.proofs.Replays.{tells, shows}
use Rattle.lifecycle.proofs.pods.pods_after.Goals as goal

pub returns-clause-states : goal.returns-clause-states
returns-clause-states c = tells c.in_ok-pods.pods.items c.args.history.now.items (search (rules, c.in_ok-pods.ensures, c.as_slice.ensures))

pub returns-clause-shown : goal.returns-clause-shown
returns-clause-shown c = shows c.in_ok-pods.pods.items c.args.history.now.items (search (rules, c.in_ok-pods.ensures, c.as_slice.ensures))
