use Rattle.std.proofs.Common.{rules, ◌∙◌, List, sym, ap, subst}
use Rattle.spawner.specs.declared.call.SpawnCall.{SpawnCall}
use Rattle.memory_spawner.specs.SpawnerMemories.{SpawnerMemory, AreNumbered, with_call}
use Rattle.memory_spawner.proofs.Numbers.{numbered_more, below_unless}
use Rattle.memory_spawner.proofs.Replies.{answered_here}
use Rattle.memory_spawner.proofs.memory.MemorySpawner.answer.Goals as goal

pub invariant_of-self-else-fails : goal.invariant_of-self-else-fails
invariant_of-self-else-fails c =
    subst AreNumbered (sym c.in-Ok.ensures.items) (numbered_more c.self.inside.calls.items _ c.self.invariant (below_unless c.args.fails _ c.args.reply c.reply_unless-reply.result c.reply_unless-reply.ensures (search rules)))

abbrev made : SpawnerMemory → SpawnerMemory
made m = m

pub returns-clause-answers : goal.returns-clause-answers
returns-clause-answers c =
    let grown = ap (λ (items : List SpawnCall). made (record { calls = items; faults = c.self.inside.faults; counted = c.self.inside.counted; ends = c.self.inside.ends.items; failing = c.self.inside.failing.items })) c.in-Ok.ensures.items in
    answered_here c.args.fails c.args.self.now _ c.args.request c.args.reply c.reply_unless-reply.result c.if-fails.false c.requires.answered c.reply_unless-reply.ensures (grown ∙ ap (λ (m : SpawnerMemory). with_call m c.args.request c.reply_unless-reply.result) c.self.view_is)
