-- Who lives after steps among which it didn't begin lived before them, and began as it had begun.
use Rattle.std.proofs.Common.{◌≡◌, ℕ, Bool, true, false, not, ◌&&◌, ◌||◌, cond, List, [], ◌∷◌, refl, sym, ap, subst, ◌∙◌}
use Rattle.std.specs.List.{AllByRecursion}
use Rattle.dir_model.specs.declared.event.Event.{Event}
use Rattle.dir_model.specs.Calls.{is_begin, is_foreign}
use Rattle.dir_model.proofs.Lists.{not_true}
use Rattle.dir_rules.specs.declared.seen.Seen.{Seen}
use Rattle.dir_rules.specs.Conforms.{seen_after_event, seen_after, seen_replied}
use Rattle.lifecycle.proofs.Draws.{same_intent}

-- and what it began as stays
pub intent_kept : (p : ℕ) (s : Seen) (es : List Event) → AllByRecursion (λ e. (is_foreign p e || not (is_begin e.request)) ≡ true) es → (seen_after p s es).standing.intent ≡ s.standing.intent
intent_kept p s [] all = refl
intent_kept p s (e ∷ es) all = intent_kept p (seen_after_event p s e) es all.1 ∙ by (is_foreign p e) refl all.0
  where
    by : (b : Bool) → is_foreign p e ≡ b → (b || not (is_begin e.request)) ≡ true → (seen_after_event p s e).standing.intent ≡ s.standing.intent
    by true f off = ap (λ b. (cond b s (seen_replied s e.request e.reply)).standing.intent) f
    by false f off = ap (λ b. (cond b s (seen_replied s e.request e.reply)).standing.intent) f ∙ same_intent s.standing e.request e.reply (not_true (is_begin e.request) off)
