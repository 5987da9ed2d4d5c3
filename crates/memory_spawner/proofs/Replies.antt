-- What a call that was answered shows.
use Rattle.std.proofs.Common.{◌≡◌, Bool, true, false, cond, refl, sym, ap, subst, ◌∙◌}
use Rattle.spawner.specs.declared.call.SpawnError.TheVariants.{Failed, NoMemory}
use Rattle.spawner.specs.declared.call.SpawnRequest.{SpawnRequest}
use Rattle.spawner.specs.declared.call.SpawnReply.{SpawnReply}
use Rattle.spawner.specs.declared.call.SpawnReply.TheVariants.{Done, Started, Ended, Refused}
use Rattle.spawner.specs.Calls.{Tells}
use Rattle.memory_spawner.specs.SpawnerMemories.{SpawnerMemory, spawner_of_memory, with_count, is_spawner_failure_due, is_refusal, with_call, after_reply, SpawnerMemoryAnswers, Spawns}

-- it was counted before
pub spawned : (old mid new : SpawnerMemory) (fails : Bool) (request : SpawnRequest) (told reply : SpawnReply) → fails ≡ is_spawner_failure_due old → mid ≡ with_count old → SpawnerMemoryAnswers fails mid request told reply new → Spawns old request told reply new
spawned old mid new fails request told reply is counted answered = subst (λ f. SpawnerMemoryAnswers f (with_count old) request told reply new) is (subst (λ m. SpawnerMemoryAnswers fails m request told reply new) counted answered)

-- memory ran out before it was noted
pub spawned_short : (old new : SpawnerMemory) (request : SpawnRequest) (told : SpawnReply) → new ≡ with_count old → Spawns old request told (Refused NoMemory) new
spawned_short old new request told counted = record { replied = tt; after = counted }

tells_after : (m : SpawnerMemory) (request : SpawnRequest) (reply : SpawnReply) → Tells (spawner_of_memory m) request reply (spawner_of_memory (after_reply (with_count m) request reply))
tells_after m request Done = record { noted = refl; same = refl }
tells_after m request (Started child) = record { noted = refl; same = refl }
tells_after m request (Ended status) = record { noted = refl; same = refl }
tells_after m request (Refused Failed) = record { noted = refl; same = refl }
tells_after m request (Refused NoMemory) = record { noted = refl; same = refl }

pub tells : (old new : SpawnerMemory) (request : SpawnRequest) (told reply : SpawnReply) → Spawns old request told reply new → Tells (spawner_of_memory old) request reply (spawner_of_memory new)
tells old new request told reply h = subst (λ m. Tells (spawner_of_memory old) request reply (spawner_of_memory m)) (sym h.after) (tells_after old request reply)

-- a reply that is no refusal is noted
pub answered : (m new : SpawnerMemory) (request : SpawnRequest) (reply : SpawnReply) → is_refusal reply ≡ false → new ≡ with_call m request reply → SpawnerMemoryAnswers false m request reply reply new
answered m new request Done told is = record { replied = (refl, refl); after = is }
answered m new request (Started child) told is = record { replied = (refl, refl); after = is }
answered m new request (Ended status) told is = record { replied = (refl, refl); after = is }
answered m new request (Refused error) told is = cc

pub answered_here : (fails : Bool) (m new : SpawnerMemory) (request : SpawnRequest) (reply noted : SpawnReply) → fails ≡ false → is_refusal reply ≡ false → noted ≡ cond fails (Refused Failed) reply → new ≡ with_call m request noted → SpawnerMemoryAnswers fails m request reply reply new
answered_here true m new request reply noted calm told is grown = cc
answered_here false m new request reply noted calm told is grown = answered m new request reply told (grown ∙ ap (with_call m request) is)
