-- Numbers of children.
use Rattle.std.proofs.Common.{◌≡◌, ℕ, ◌+◌, ◌≤◌, Bool, true, false, cond, List, [], ◌∷◌, ◌++◌, length, refl, sym, ap, ◌∙◌, arith, subst}
use Rattle.std.proofs.lemmas.Bool.Decides.{nat_tests}
use Rattle.std.specs.List.{list_all}
use Rattle.spawner.specs.declared.call.Child.{Child}
use Rattle.spawner.specs.declared.call.SpawnError.TheVariants.{Failed}
use Rattle.spawner.specs.declared.call.SpawnReply.{SpawnReply}
use Rattle.spawner.specs.declared.call.SpawnReply.TheVariants.{Done, Started, Ended, Refused}
use Rattle.spawner.specs.declared.call.SpawnCall.{SpawnCall}
use Rattle.spawner.specs.Calls.{answers, has_started}
use Rattle.dir_model.proofs.Lists.{and_left, and_right, and_both, filter_past, filter_push, or_none}
use Rattle.memory_spawner.specs.SpawnerMemories.{is_started, is_start, ok_starts_of, is_below, AreNumbered}

below_more : (n m : ℕ) (reply : SpawnReply) → n ≤ m → is_below n reply ≡ true → is_below m reply ≡ true
below_more n m (Started child) more h = grind (arith, nat_tests, more, h)
below_more n m Done more h = refl
below_more n m (Ended status) more h = refl
below_more n m (Refused error) more h = refl

all_more : (n m : ℕ) (calls : List SpawnCall) → n ≤ m → list_all (λ (c : SpawnCall). is_below n c.reply) calls ≡ true → list_all (λ (c : SpawnCall). is_below m c.reply) calls ≡ true
all_more n m [] more h = refl
all_more n m (c ∷ calls) more h = and_both _ _ (below_more n m c.reply more (and_left _ _ h)) (all_more n m calls more (and_right _ _ h))

all_push : {X : Type 0} (p : X → Bool) (xs : List X) (y : X) → list_all p xs ≡ true → p y ≡ true → list_all p (xs ++ y ∷ []) ≡ true
all_push p [] y h last = and_both _ _ last refl
all_push p (x ∷ xs) y h last = and_both _ _ (and_left _ _ h) (all_push p xs y (and_right _ _ h) last)

length_push : {X : Type 0} (xs : List X) (y : X) → length (xs ++ y ∷ []) ≡ length xs + 1
length_push [] y = refl
length_push (x ∷ xs) y = let rest : length (xs ++ y ∷ []) ≡ length xs + 1 = length_push xs y in omega (arith, rest)

-- the new call's child has the next number at most
pub numbered_more : (calls : List SpawnCall) (c : SpawnCall) → AreNumbered calls → is_below (length (ok_starts_of calls) + 1) c.reply ≡ true → AreNumbered (calls ++ c ∷ [])
numbered_more calls c h last = by c.reply refl
  where
    n : ℕ
    n = length (ok_starts_of calls)

    with_bound : (k : ℕ) → length (ok_starts_of (calls ++ c ∷ [])) ≡ k → n ≤ k → is_below k c.reply ≡ true → AreNumbered (calls ++ c ∷ [])
    with_bound k e more below = subst (λ b. list_all (λ (x : SpawnCall). is_below b x.reply) (calls ++ c ∷ []) ≡ true) (sym e) (all_push (λ (x : SpawnCall). is_below k x.reply) calls c (all_more n k calls more h) below)

    same : is_start c ≡ false → is_below n c.reply ≡ true → AreNumbered (calls ++ c ∷ [])
    same other below = with_bound n (ap length (filter_past is_start calls c other)) (omega arith) below

    by : (reply : SpawnReply) → c.reply ≡ reply → AreNumbered (calls ++ c ∷ [])
    by (Started child) e = with_bound (n + 1) (ap length (filter_push is_start calls c (ap is_started e)) ∙ length_push (ok_starts_of calls) c) (omega arith) last
    by Done e = same (ap is_started e) (ap (is_below n) e)
    by (Ended status) e = same (ap is_started e) (ap (is_below n) e)
    by (Refused error) e = same (ap is_started e) (ap (is_below n) e)

not_it : (n : ℕ) (child : Child) (reply : SpawnReply) → child.number ≡ n → is_below n reply ≡ true → answers child reply ≡ false
not_it n child (Started other) is h = grind (arith, nat_tests, is, h)
not_it n child Done is h = refl
not_it n child (Ended status) is h = refl
not_it n child (Refused error) is h = refl

-- no child has the next number
pub unanswered : (n : ℕ) (calls : List SpawnCall) (child : Child) → child.number ≡ n → list_all (λ (c : SpawnCall). is_below n c.reply) calls ≡ true → has_started child calls ≡ false
unanswered n [] child is h = refl
unanswered n (c ∷ calls) child is h = or_none _ _ (not_it n child c.reply is (and_left _ _ h)) (unanswered n calls child is (and_right _ _ h))

pub below_unless : (fails : Bool) (n : ℕ) (reply result : SpawnReply) → result ≡ cond fails (Refused Failed) reply → is_below n reply ≡ true → is_below n result ≡ true
below_unless true n reply result is h = ap (is_below n) is
below_unless false n reply result is h = ap (is_below n) is ∙ h
