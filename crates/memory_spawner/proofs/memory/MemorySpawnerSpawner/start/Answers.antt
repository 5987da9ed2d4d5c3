use Rattle.std.proofs.Common.{rules, ◌≡◌, length, subst}
use Rattle.memory_spawner.specs.SpawnerMemories.{ok_starts_of, AreNumbered}
use Rattle.memory_spawner.proofs.Numbers.{unanswered}
use Rattle.memory_spawner.proofs.memory.MemorySpawnerSpawner.start.Goals as goal

pub returns-in-Ok-answer-clause-fresh : goal.returns-in-Ok-answer-clause-fresh
returns-in-Ok-answer-clause-fresh g c = λ _.
    let same : c.self.inside.calls.items ≡ c.args.self.now.calls = search rules in
    let number : c.in-Ok-try_from.number ≡ length (ok_starts_of c.args.self.now.calls) = search rules in
    unanswered (length (ok_starts_of c.args.self.now.calls)) c.args.self.now.calls _ number (subst AreNumbered same c.self.invariant)
