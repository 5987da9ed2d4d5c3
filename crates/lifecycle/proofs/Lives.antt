-- Who has begun, and who lives.
use Rattle.std.proofs.Common.{◌≡◌, ℕ, Bool, true, false, not, ◌&&◌, ◌==◌, List, [], ◌∷◌, ◌++◌, refl, ap}
use Rattle.std.specs.List.{list_any}
use Rattle.std.proofs.lemmas.Bool.{and_parts}
use Rattle.plain_laws.proofs.Booleans.{clash}
use Rattle.dir_model.specs.declared.request.Request.{Request}
use Rattle.dir_model.specs.declared.request.Request.TheVariants.{Begin, Open, OpenArea, Finish, Kill}
use Rattle.dir_model.specs.declared.request.Reply.{Reply}
use Rattle.dir_model.specs.declared.request.Reply.TheVariants.{Done, Opened, Refused}
use Rattle.dir_model.specs.State.{Namespace, DirState, lives, has_begun, has_ended}
use Rattle.dir_model.specs.Trace.{namespace_replied}
use Rattle.dir_model.specs.Replies.{is_reply}
use Rattle.dir_model.specs.Calls.{event}
use Rattle.dir_rules.specs.Standing.{standing_replied, stood}
use Rattle.dir_rules.specs.declared.standing.Standing.{Standing}
use Rattle.lifecycle.proofs.Lists.{in_any, last_in}
use Rattle.lifecycle.proofs.Handles.{is_due}
use Rattle.lifecycle.proofs.Opens.{any_unpushed}
use Rattle.dir_model.proofs.Lists.{and_both, any_push, not_true, same_self}

pub begun_stays : (n : Namespace) (p q : ℕ) (request : Request) (reply : Reply) → has_begun n q ≡ true →
    has_begun (namespace_replied n p request reply) q ≡ true
begun_stays n p q request (Refused e left) h = h
begun_stays n p q (Open spot which) (Opened g) h = h
begun_stays n p q (OpenArea a) (Opened g) h = h
begun_stays n p q request (Opened g) h = h
begun_stays n p q (Begin intent) Done h =
    any_push (λ start. start.process == q) n.begun (record { process = p; intent = intent }) h
begun_stays n p q request Done h = h
begun_stays n p q request reply h = h

pub unborn_before : (n : Namespace) (p q : ℕ) (request : Request) (reply : Reply) →
    has_begun (namespace_replied n p request reply) q ≡ false → has_begun n q ≡ false
unborn_before n p q request reply h = by (has_begun n q) refl
  where
    by : (b : Bool) → has_begun n q ≡ b → has_begun n q ≡ false
    by false e = e
    by true e = clash (has_begun (namespace_replied n p request reply) q) (begun_stays n p q request reply e) h

living_begun : (n : Namespace) (p : ℕ) (request : Request) (reply : Reply) → lives n p ≡ true →
    has_begun (namespace_replied n p request reply) p ≡ true
living_begun n p request reply h = begun_stays n p p request reply (and_parts (has_begun n p) (not (has_ended n p)) h).0

-- who takes a step has begun
pub begun_me : (n : DirState) (p : ℕ) (request : Request) (reply : Reply) → is_due n.namespace p request ≡ true →
    is_reply n p request reply ≡ true → has_begun (namespace_replied n.namespace p request reply) p ≡ true
begun_me n p (Begin intent) Done may is =
    in_any (λ start. start.process == p) (record { process = p; intent = intent })
    (n.namespace.begun ++ record { process = p; intent = intent } ∷ [])
    (last_in n.namespace.begun (record { process = p; intent = intent })) (same_self p)
begun_me n p (Begin intent) (Refused e left) may is = refusing (left == 0) is
  where
    refusing : {X : Type 0} (b : Bool) → (b && false) ≡ true → X
    refusing true h = absurd (cc)
    refusing false h = absurd (cc)
begun_me n p (Begin intent) (Opened h) may is = absurd (cc)
begun_me n p (Begin intent) reply may is = absurd (cc)
begun_me n p request reply may is = living_begun n.namespace p request reply may

off_before : (t : ℕ → Bool) (xs : List ℕ) (y : ℕ) → not (list_any t (xs ++ y ∷ [])) ≡ true → not (list_any t xs) ≡ true
off_before t xs y h = by (list_any t xs) refl
  where
    by : (b : Bool) → list_any t xs ≡ b → not (list_any t xs) ≡ true
    by false e = ap not e
    by true e = clash (list_any t (xs ++ y ∷ [])) (any_push t xs y e) (not_true (list_any t (xs ++ y ∷ [])) h)

-- another's step makes nobody live
pub lived : (n : Namespace) (p q : ℕ) (request : Request) (reply : Reply) → (p == q) ≡ false →
    lives (namespace_replied n p request reply) q ≡ true → lives n q ≡ true
lived n p q request (Refused e left) off h = h
lived n p q (Open spot which) (Opened g) off h = h
lived n p q (OpenArea a) (Opened g) off h = h
lived n p q request (Opened g) off h = h
lived n p q (Begin intent) Done off h =
    let x = and_parts (list_any (λ start. start.process == q) (n.begun ++ record { process = p; intent = intent } ∷ []))
    (not (has_ended n q)) h in
    and_both (has_begun n q) (not (has_ended n q)) (any_unpushed (λ start. start.process == q) n.begun
    (record { process = p; intent = intent }) off x.0) x.1
lived n p q Finish Done off h =
    let x = and_parts (has_begun n q) (not (list_any (λ r. r == q) (n.ended ++ p ∷ []))) h in
    and_both (has_begun n q) (not (has_ended n q)) x.0 (off_before (λ r. r == q) n.ended p x.1)
lived n p q Kill Done off h =
    let x = and_parts (has_begun n q) (not (list_any (λ r. r == q) (n.ended ++ p ∷ []))) h in
    and_both (has_begun n q) (not (has_ended n q)) x.0 (off_before (λ r. r == q) n.ended p x.1)
lived n p q request Done off h = h
lived n p q request reply off h = h

pub saw_other : (p q : ℕ) (k : Standing) (request : Request) (reply : Reply) → (p == q) ≡ false →
    stood q k (event p request reply) ≡ k
saw_other p q k request reply off = rw off refl

pub saw_me : (p : ℕ) (k : Standing) (request : Request) (reply : Reply) →
    stood p k (event p request reply) ≡ standing_replied k request reply
saw_me p k Kill Done = rw (same_self p) refl
saw_me p k Kill (Opened h) = rw (same_self p) refl
saw_me p k Kill (Refused e left) = rw (same_self p) refl
saw_me p k request reply = rw (same_self p) refl
