-- What a process knows of locks and places is a part of what it knows, and their rules a part of its rules.
use Rattle.std.proofs.Common.{◌≡◌, ℕ, Bool, true, false, ◌||◌, cond, Option, Some, None, List, [], ◌∷◌, refl, ap, subst, ◌∙◌}
use Rattle.dir_model.specs.declared.event.Event.{Event}
use Rattle.dir_model.specs.declared.request.Request.{Request}
use Rattle.dir_model.specs.declared.request.Reply.{Reply}
use Rattle.dir_rules.specs.declared.standing.Standing.{Standing}
use Rattle.dir_rules.specs.declared.standing.Held.{Held}
use Rattle.dir_rules.specs.declared.seen.Seen.{Seen}
use Rattle.dir_model.specs.Calls.{is_foreign}
use Rattle.dir_rules.specs.Standing.{looked_by, standing_replied, stood, standing_from, standing_of}
use Rattle.dir_rules.specs.LockRules.{keeps_lock_rules_from, lock_rules_allow}
use Rattle.dir_rules.specs.Rules.{allows, content_rules_allow}
use Rattle.dir_rules.specs.Conforms.{nothing_seen, seen_replied, seen_after_event, seen_after, seen_of}
use Rattle.dir_model.proofs.Lists.{and_left, and_both}
use Rattle.dir_rules.proofs.Tied.{kept_before}

pub standing_next : (s : Seen) (request : Request) (reply : Reply) → (seen_replied s request reply).standing ≡ standing_replied s.standing request reply
standing_next s request reply = refl

pub allowed_asks : (s : Seen) (request : Request) → allows s request ≡ true → lock_rules_allow s.standing request ≡ true
allowed_asks s request h = and_left (lock_rules_allow s.standing request) (content_rules_allow s request) h

pub standing_saw : (me : ℕ) (s : Seen) (e : Event) → (seen_after_event me s e).standing ≡ stood me s.standing e
standing_saw me s e = by (is_foreign me e)
  where
    by : (b : Bool) → (cond b s (seen_replied s e.request e.reply)).standing ≡ cond b s.standing (standing_replied s.standing e.request e.reply)
    by true = refl
    by false = refl

pub standing_after : (me : ℕ) (s : Seen) (es : List Event) → (seen_after me s es).standing ≡ standing_from me s.standing es
standing_after me s [] = refl
standing_after me s (e ∷ es) = standing_after me (seen_after_event me s e) es ∙ ap (λ (t : Standing). standing_from me t es) (standing_saw me s e)

pub standing_is : (p : ℕ) (trace : List Event) → (seen_of p trace).standing ≡ standing_of p trace
standing_is p trace = standing_after p nothing_seen trace

-- its own request was allowed
pub rule_at : (me : ℕ) (s : Seen) (e : Event) (es : List Event) → (seen_after me s (e ∷ es)).kept ≡ true → (is_foreign me e || allows s e.request) ≡ true
rule_at me s e es h = by (is_foreign me e) (kept_before me (seen_after_event me s e) es h)
  where
    by : (b : Bool) → (cond b s (seen_replied s e.request e.reply)).kept ≡ true → (b || allows s e.request) ≡ true
    by true k = refl
    by false k = and_left (allows s e.request) s.kept k

pub keeps_after : (me : ℕ) (s : Seen) (es : List Event) → (seen_after me s es).kept ≡ true → keeps_lock_rules_from me s.standing es ≡ true
keeps_after me s [] h = refl
keeps_after me s (e ∷ es) h = and_both (is_foreign me e || lock_rules_allow s.standing e.request) (keeps_lock_rules_from me (stood me s.standing e) es) (by (is_foreign me e) (rule_at me s e es h)) (subst (λ (t : Standing). keeps_lock_rules_from me t es ≡ true) (standing_saw me s e) (keeps_after me (seen_after_event me s e) es h))
  where
    by : (b : Bool) → (b || allows s e.request) ≡ true → (b || lock_rules_allow s.standing e.request) ≡ true
    by true k = refl
    by false k = allowed_asks s e.request k

-- where it looked is no handle
pub looked_holdings : (o : Option Held) (s : Standing) → (looked_by o s).holdings ≡ s.holdings
looked_holdings None s = refl
looked_holdings (Some h) s = refl
