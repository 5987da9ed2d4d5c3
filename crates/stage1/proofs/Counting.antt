-- How often children are started and waited for in calls one after the other.
use Rattle.std.proofs.Common.{arith, ◌≡◌, ◌+◌, List, [], ◌++◌, filter, length, length-append, refl, ap, ◌∙◌}
use Rattle.std.proofs.lemmas.List.Elements.{filter-append}
use Rattle.spawner.specs.declared.call.Child.{Child}
use Rattle.spawner.specs.declared.call.SpawnCall.{SpawnCall}
use Rattle.spawner.specs.Calls.{answers}
use Rattle.stage1.specs.Cutting.{count_of_starts, waits_for, waits_on, AreWaitedFor}

pub starts_more : (child : Child) (xs ys : List SpawnCall) → count_of_starts child (xs ++ ys) ≡ count_of_starts child xs + count_of_starts child ys
starts_more child xs ys = ap length (filter-append (λ c. answers child c.reply) xs ys) ∙ length-append (filter (λ c. answers child c.reply) xs) (filter (λ c. answers child c.reply) ys)

pub waits_more : (child : Child) (xs ys : List SpawnCall) → waits_for child (xs ++ ys) ≡ waits_for child xs + waits_for child ys
waits_more child xs ys = ap length (filter-append (λ c. waits_on child c.request) xs ys) ∙ length-append (filter (λ c. waits_on child c.request) xs) (filter (λ c. waits_on child c.request) ys)

-- what was started was waited for, in one part and in the next
pub waited_none : AreWaitedFor []
waited_none child = refl

pub waited_more : (xs ys : List SpawnCall) → AreWaitedFor xs → AreWaitedFor ys → AreWaitedFor (xs ++ ys)
waited_more xs ys p q child = omega (arith, starts_more child xs ys, waits_more child xs ys, p child, q child)
