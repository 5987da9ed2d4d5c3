use Rattle.std.proofs.Common.{◌≡◌, ◌≢◌, ◌≤◌, ◌<◌, length, take}
use Rattle.memory_spawner.specs.SpawnerMemories.{ok_starts_of}
use Rattle.memory_spawner.proofs.starts.start_at.Given as goal

abbrev pub invariant-calls : goal.invariant-calls
invariant-calls l =
    (l.count ≡ length (ok_starts_of (take l.call-index l.calls)))
    × (l.count ≤ l.call-index)
    × (l.start ≢ 0 → l.count < l.start)
