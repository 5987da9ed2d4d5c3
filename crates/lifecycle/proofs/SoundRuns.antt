-- Every run keeps its open handles sound.
use Rattle.std.proofs.Common.{arith, ◌≡◌, ◌<◌, ◌≤◌, ℕ, Bool, true, false, not, ◌||◌, ◌==◌, Some, List, [], ◌∷◌, ◌++◌, length, map, filter, refl, ap}
use Rattle.std.specs.List.{list_any}
use Rattle.std.proofs.lemmas.Bool.Decides.{nat_tests}
use Rattle.std.proofs.lemmas.Bool.{and_parts}
use Rattle.dir_model.specs.declared.spot.Spot.{Spot}
use Rattle.dir_model.specs.declared.request.Request.{Request}
use Rattle.dir_model.specs.declared.request.Request.TheVariants.{Begin, MakeFolder, MoveFolder, Open, OpenArea, TryLock, Close, RemoveFolder, Finish, Kill}
use Rattle.dir_model.specs.declared.request.Reply.{Reply}
use Rattle.dir_model.specs.declared.request.Reply.TheVariants.{Done, Opened, Refused}
use Rattle.dir_model.specs.Locks.{is_handle}
use Rattle.dir_model.specs.State.{Namespace, DirState, lives, has_begun, has_ended, folder_at}
use Rattle.dir_model.specs.Trace.{namespace_replied, opened, opened_gate, moved, removed}
use Rattle.dir_model.specs.Replies.{is_reply}
use Rattle.dir_model.specs.declared.intent.Start.{Start}
use Rattle.lifecycle.proofs.Lists.{in_filter, no_less}
use Rattle.lifecycle.proofs.Handles.{Sound, fewer, more, lock_sound, lock_free, open_fresh, gate_fresh, is_due}
use Rattle.dir_model.proofs.Lists.{and_both, any_push, not_true}

pub grown_by : {X : Type 0} (xs : List X) (y : X) → length xs ≤ length (xs ++ y ∷ [])
grown_by [] y = omega arith
grown_by (x ∷ xs) y = omega (arith, grown_by xs y)

pub mapped_by : {X : Type 0} (f : X → X) (xs : List X) → length xs ≤ length (map f xs)
mapped_by f [] = omega arith
mapped_by f (x ∷ xs) = omega (arith, mapped_by f xs)

within_if : (n : Namespace) (spot : Spot) (f : ℕ) → folder_at n spot ≡ Some f → f < length n.folders
within_if n spot f h = grind (arith, nat_tests)

none_more : {X : Type 0} (t : X → Bool) (xs : List X) (y : X) → list_any t xs ≡ false → t y ≡ false →
    list_any t (xs ++ y ∷ []) ≡ false
none_more t [] y h k = rw k refl
none_more t (x ∷ xs) y h k = by (t x) h (λ l. none_more t xs y l k)
  where
    by : (b : Bool) → (b || list_any t xs) ≡ false → (list_any t xs ≡ false → list_any t (xs ++ y ∷ []) ≡ false) →
        (b || list_any t (xs ++ y ∷ [])) ≡ false
    by true l go = cc
    by false l go = go l

lives_begun : (n : Namespace) (b : Start) (q : ℕ) → lives n q ≡ true → lives (record n { begun = n.begun ++ b ∷ [] }) q ≡ true
lives_begun n b q h =
    let k = and_parts (has_begun n q) (not (has_ended n q)) h in
    and_both (list_any (λ start. start.process == q) (n.begun ++ b ∷ [])) (not (has_ended n q))
    (any_push (λ start. start.process == q) n.begun b k.0) k.1

pub lives_on : (n : Namespace) (p q : ℕ) → lives n q ≡ true → (q == p) ≡ false →
    lives (record n { openings = filter (λ o. not (o.process == p)) n.openings; ended = n.ended ++ p ∷ [] }) q ≡ true
lives_on n p q h apart =
    let k = and_parts (has_begun n q) (not (has_ended n q)) h in
    and_both (has_begun n q) (not (list_any (λ r. r == q) (n.ended ++ p ∷ []))) k.0
    (ap not (none_more (λ r. r == q) n.ended p (not_true (has_ended n q) k.1) (turn p q apart)))
  where
    turn : (x y : ℕ) → (y == x) ≡ false → (x == y) ≡ false
    turn x y e = grind (arith, nat_tests)

ended_sound : (n : Namespace) (p : ℕ) → Sound n →
    Sound (record n { openings = filter (λ o. not (o.process == p)) n.openings; ended = n.ended ++ p ∷ [] })
ended_sound n p s = fewer n (record n {
  openings = filter (λ o. not (o.process == p)) n.openings;
  ended =
      n.ended ++ p ∷ [];
}) s (λ a i. (in_filter (λ o. not (o.process == p)) a n.openings i).0)
    (λ a i. let k = in_filter (λ o. not (o.process == p)) a n.openings i in
    lives_on n p a.process (s.living a k.0) (not_true (a.process == p) k.1)) (no_less (length n.folders))

pub step_sound : (n : DirState) (p : ℕ) (request : Request) (reply : Reply) → is_due n.namespace p request ≡ true →
    is_reply n p request reply ≡ true → Sound n.namespace → Sound (namespace_replied n.namespace p request reply)
step_sound n p request (Refused error left) may is s = s
step_sound n p (Begin intent) Done may is s =
    fewer n.namespace (record n.namespace { begun = n.namespace.begun ++ record { process = p; intent = intent } ∷ [] })
    s (λ a i. i) (λ a i. lives_begun n.namespace (record { process = p; intent = intent }) a.process (s.living a i))
    (no_less (length n.namespace.folders))
step_sound n p (MakeFolder spot) Done may is s =
    fewer n.namespace (record n.namespace { folders = n.namespace.folders ++ Some spot ∷ [] }) s (λ a i. i)
    (λ a i. s.living a i) (grown_by n.namespace.folders (Some spot))
step_sound n p (MoveFolder from to) Done may is s =
    fewer n.namespace (record n.namespace { folders = map (moved from to) n.namespace.folders }) s (λ a i. i)
    (λ a i. s.living a i) (mapped_by (moved from to) n.namespace.folders)
step_sound n p (RemoveFolder spot) Done may is s =
    fewer n.namespace (record n.namespace { folders = map (removed spot) n.namespace.folders }) s (λ a i. i)
    (λ a i. s.living a i) (mapped_by (removed spot) n.namespace.folders)
step_sound n p (TryLock h m) Done may is s = lock_sound n.namespace p h m s (lock_free n p h m is)
step_sound n p (Close h) Done may is s =
    fewer n.namespace (record n.namespace { openings = filter (λ o. not (is_handle p h o)) n.namespace.openings }) s
    (λ a i. (in_filter (λ o. not (is_handle p h o)) a n.namespace.openings i).0)
    (λ a i. s.living a (in_filter (λ o. not (is_handle p h o)) a n.namespace.openings i).0)
    (no_less (length n.namespace.folders))
step_sound n p Finish Done may is s = ended_sound n.namespace p s
step_sound n p Kill Done may is s = ended_sound n.namespace p s
step_sound n p (Open spot which) Done may is s = s
step_sound n p (OpenArea area) Done may is s = s
step_sound n p (Open spot which) (Opened h) may is s =
    more n.namespace (opened n.namespace p h spot which) s (open_fresh n p spot which h is) refl may
    (λ f e. within_if n.namespace spot f e)
step_sound n p (OpenArea area) (Opened h) may is s =
    more n.namespace (opened_gate p h area) s (gate_fresh n p area h is) refl may (λ f e. absurd (cc))
step_sound n p _ (Opened h) may is s = s
step_sound n p request reply may is s = s
