-- A pod's age along a trace.
use Rattle.std.proofs.Common.{◌≡◌, ◌≤◌, ◌++◌}
use Rattle.lifecycle.specs.PodMachine.{pod_progress}
