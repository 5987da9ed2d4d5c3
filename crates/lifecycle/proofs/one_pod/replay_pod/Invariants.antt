use Rattle.std.proofs.Common.{◌≡◌, drop}
use Rattle.lifecycle.specs.Watch.{watch, watch_from}
use Rattle.lifecycle.proofs.one_pod.replay_pod.Given as goal

abbrev pub invariant-events : goal.invariant-events
invariant-events l = watch_from l.name (record { state = l.state; grips = l.grips.items }) (drop l.event-index l.events) ≡ watch l.name l.events
