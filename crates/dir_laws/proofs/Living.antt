-- Who lives at the end of a stretch lived before it, and wasn't killed meanwhile.
use Rattle.std.proofs.Common.{◌≡◌, ℕ, Bool, true, false, not, ◌||◌, ◌==◌, List, [], ◌∷◌, ◌++◌, refl, sym, ap, subst, ◌∙◌}
use Rattle.std.specs.List.{list_any, AllByRecursion}
use Rattle.plain_laws.proofs.Booleans.{clash}
use Rattle.dir_model.specs.declared.event.Event.{Event}
use Rattle.dir_model.specs.declared.request.Request.{Request}
use Rattle.dir_model.specs.declared.request.Request.TheVariants.{Begin, Open, OpenArea, Finish, Kill}
use Rattle.dir_model.specs.declared.request.Reply.{Reply}
use Rattle.dir_model.specs.declared.request.Reply.TheVariants.{Done, Opened, Refused}
use Rattle.dir_model.specs.Calls.{is_begin, is_kill, is_foreign, is_allowed, is_run_from, event}
use Rattle.dir_model.specs.Replies.{is_reply}
use Rattle.dir_model.specs.State.{Namespace, DirState, lives, has_begun, has_ended}
use Rattle.dir_model.specs.Trace.{namespace_replied, without_process, state_next, states_next}
use Rattle.dir_model.proofs.Allowed.{allowed_reply}
use Rattle.dir_model.proofs.Lists.{and_both, and_left, and_right, and_false, any_push, any_last, not_true, same_self, same_number}
use Rattle.dir_rules.proofs.Tied.{lived_before}

ended_was : (p q : ℕ) (n : Namespace) → lives (without_process n q) p ≡ true → lives n p ≡ true
ended_was p q n now = and_both (has_begun n p) (not (has_ended n p)) (and_left (has_begun n p) _ now) (by (has_ended n p) refl)
  where
    later : not (list_any (λ x. x == p) (n.ended ++ q ∷ [])) ≡ true
    later = and_right (has_begun n p) (not (list_any (λ x. x == p) (n.ended ++ q ∷ []))) now

    by : (b : Bool) → has_ended n p ≡ b → not b ≡ true
    by false e = refl
    by true e = clash (not (list_any (λ x. x == p) (n.ended ++ q ∷ []))) later (ap not (any_push (λ x. x == p) n.ended q e))

one_was : (p : ℕ) (n : Namespace) (q : ℕ) (request : Request) (reply : Reply) → not (is_begin request) ≡ true → lives (namespace_replied n q request reply) p ≡ true → lives n p ≡ true
one_was p n q (Begin intent) reply off now = cc
one_was p n q Finish Done off now = ended_was p q n now
one_was p n q Kill Done off now = ended_was p q n now
one_was p n q request Done off now = now
one_was p n q (Open spot which) (Opened handle) off now = now
one_was p n q (OpenArea area) (Opened handle) off now = now
one_was p n q request (Opened handle) off now = now
one_was p n q request reply off now = now

-- after steps among which it didn't begin
pub lived_first : (me : ℕ) (s : DirState) (es : List Event) → AllByRecursion (λ e. (is_foreign me e || not (is_begin e.request)) ≡ true) es → lives (states_next s es).namespace me ≡ true → lives s.namespace me ≡ true
lived_first p s [] all now = now
lived_first p s (e ∷ es) all now = by (is_foreign p e) refl all.0 (lived_first p (state_next s e) es all.1 now)
  where
    by : (b : Bool) → is_foreign p e ≡ b → (b || not (is_begin e.request)) ≡ true → lives (state_next s e).namespace p ≡ true → lives s.namespace p ≡ true
    by true f off then = lived_before p s (e ∷ []) (f, tt) then
    by false f off then = one_was p s.namespace e.process e.request e.reply off then

-- a kill that comes ends its process
pub killed : (s : DirState) (me : ℕ) (request : Request) (reply : Reply) → is_kill request ≡ true → is_reply s me request reply ≡ true → lives (state_next s (event me request reply)).namespace me ≡ true → ⊥
killed s me Kill Done kill r alive =
    let ended : list_any (λ p. p == me) (s.namespace.ended ++ me ∷ []) ≡ true = any_last (λ p. p == me) s.namespace.ended me (same_self me) in
    let e : true ≡ false = sym ended ∙ not_true (list_any (λ p. p == me) (s.namespace.ended ++ me ∷ [])) (and_right (has_begun s.namespace me) (not (list_any (λ p. p == me) (s.namespace.ended ++ me ∷ []))) alive) in
    cc
killed s me Kill (Refused error left) kill r alive = let e : true ≡ false = sym r ∙ and_false (left == 0) in cc
killed s me Kill reply kill r alive = cc
killed s me request reply kill r alive = cc

-- who lives at the end wasn't killed meanwhile
pub apart : (me : ℕ) (s : DirState) (es : List Event) → is_run_from s es ≡ true → AllByRecursion (λ e. is_foreign me e ≡ true) es → lives (states_next s es).namespace me ≡ true → AllByRecursion (λ e. (e.process == me) ≡ false) es
apart me s [] run f alive = tt
apart me s (e ∷ es) run f alive = (by (e.process == me) refl f.0 (lived_before me (state_next s e) es f.1 alive), apart me (state_next s e) es (and_right (is_allowed s e) (is_run_from (state_next s e) es) run) f.1 alive)
  where
    by : (b : Bool) → (e.process == me) ≡ b → (not b || is_kill e.request) ≡ true → lives (state_next s e).namespace me ≡ true → (e.process == me) ≡ false
    by false is h here = is
    by true is h here =
        let p : e.process ≡ me = same_number e.process me is in
        let allowed = and_left (is_allowed s e) (is_run_from (state_next s e) es) run in
        absurd (killed s me e.request e.reply h (allowed_reply s me e.request e.reply (subst (λ (q : ℕ). is_allowed s (event q e.request e.reply) ≡ true) p allowed)) (subst (λ (q : ℕ). lives (state_next s (event q e.request e.reply)).namespace me ≡ true) p here))
