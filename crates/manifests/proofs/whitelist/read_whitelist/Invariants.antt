use Rattle.manifests.proofs.WhitelistSteps.{IsListedUpTo}
use Rattle.manifests.proofs.whitelist.read_whitelist.Given as goal

abbrev pub invariant-loop-i : goal.invariant-loop-i
invariant-loop-i l = IsListedUpTo l.at l.list l.paths l.i
