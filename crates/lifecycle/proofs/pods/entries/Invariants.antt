use Rattle.std.proofs.Common.{◌≡◌, ◌++◌, drop}
use Rattle.lifecycle.specs.Watch.{made_pod_entries}
use Rattle.lifecycle.proofs.pods.entries.Given as goal

abbrev pub invariant-events : goal.invariant-events
invariant-events l = l.pods.items ++ made_pod_entries l.events (drop l.event-index l.events) ≡ made_pod_entries l.events l.events
