-- While a process lives, the handles that it knows to be open by its events are those that the state has open.
use Rattle.std.proofs.Common.{arith, ◌≡◌, inl, ℕ, Bool, true, false, not, ◌||◌, ◌==◌, cond, List, [], ◌∷◌, ◌++◌, refl, sym, ap, subst, ◌∙◌, append_assoc, append-nil}
use Rattle.std.specs.List.{list_any, AllByRecursion}
use Rattle.plain_laws.proofs.Booleans.{over}
use Rattle.dir_model.specs.declared.event.Event.{Event}
use Rattle.dir_model.specs.declared.request.Request.{Request}
use Rattle.dir_model.specs.declared.request.Request.TheVariants.{Begin, Kill}
use Rattle.dir_model.specs.declared.request.Reply.{Reply}
use Rattle.dir_model.specs.declared.request.Reply.TheVariants.{Done, Opened}
use Rattle.dir_model.specs.Paths.{is_well_formed}
use Rattle.dir_model.specs.State.{Namespace, DirState, empty_state, has_begun, lives}
use Rattle.dir_model.specs.Trace.{namespace_replied, state_next, states_next, state_after}
use Rattle.dir_model.specs.Calls.{IsRun, is_allowed, is_begin, is_foreign, is_kill, event, Interference}
use Rattle.dir_model.specs.Local.{Local, nothing_local, holdings_in, local_replied}
use Rattle.dir_model.proofs.Lists.{and_left, and_right, not_true, any_last, same_number}
use Rattle.dir_model.proofs.Chains.{states_next-append, state_after-push, run_from-right, run-left}
use Rattle.dir_model.proofs.Allowed.{allowed_step}
use Rattle.dir_model.proofs.Begun.{unborn_holds_nothing}
use Rattle.dir_model.proofs.Holdings.{replied_same, others_same}
use Rattle.dir_rules.specs.declared.standing.Standing.{Standing}
use Rattle.dir_rules.specs.declared.seen.Seen.{Seen}
use Rattle.dir_rules.specs.Standing.{standing_replied}
use Rattle.dir_rules.specs.Conforms.{nothing_seen, seen_of}
use Rattle.dir_rules.proofs.Tied.{seen_after-append, others_unseen, own_seen, lived_before, Lives}
use Rattle.dir_rules.proofs.Unborn.{unborn_saw_nothing}
use Rattle.dir_trait.specs.DirCalls.{DirAt}
use Rattle.dir_trait.specs.Knowledge.{SameHandles}
use Rattle.dir_trait.proofs.Knowing.{knows_call}

abbrev pub SameOpen : ℕ → List Event → Type 0
SameOpen me h = SameHandles (seen_of me h).standing.holdings (holdings_in (state_after h).namespace me)

-- its own kill leaves it living only where it wasn't done
kill_keeps : (n : Namespace) (me p : ℕ) (request : Request) (reply : Reply) → (p == me) ≡ true → is_kill request ≡ true →
    lives (namespace_replied n p request reply) me ≡ true → holdings_in (namespace_replied n p request reply) me ≡ holdings_in n me
kill_keeps n me p Kill Done is kill now = over (list_any (λ q. q == me) (n.ended ++ p ∷ [])) (any_last (λ q. q == me) n.ended p is)
    (and_right (has_begun n me) (not (list_any (λ q. q == me) (n.ended ++ p ∷ []))) now)
kill_keeps n me p Kill (Opened handle) is kill now = refl
kill_keeps n me p Kill reply is kill now = refl
kill_keeps n me p _ reply is kill now = cc

-- what it has open stays while others step
foreign_keeps : (me : ℕ) (s : DirState) (e : Event) → is_foreign me e ≡ true → lives (state_next s e).namespace me ≡ true →
    holdings_in (state_next s e).namespace me ≡ holdings_in s.namespace me
foreign_keeps me s e f now = by (e.process == me) refl f
  where
    by : (b : Bool) → (e.process == me) ≡ b → (not b || is_kill e.request) ≡ true → holdings_in (state_next s e).namespace me ≡ holdings_in s.namespace me
    by true is kill = kill_keeps s.namespace me e.process e.request e.reply is kill now
    by false is kill = others_same s.namespace e.process me is e.request e.reply

others_keep : (me : ℕ) (s : DirState) (es : List Event) → AllByRecursion (λ e. is_foreign me e ≡ true) es →
    lives (states_next s es).namespace me ≡ true → holdings_in (states_next s es).namespace me ≡ holdings_in s.namespace me
others_keep me s [] f now = refl
others_keep me s (e ∷ es) f now = others_keep me (state_next s e) es f.1 now ∙ foreign_keeps me s e f.0 (lived_before me (state_next s e) es f.1 now)

pub open_meanwhile : {me : ℕ} {old new : List Event} → Interference me old new → Lives me new → holdings_in (state_after new).namespace me ≡ holdings_in (state_after old).namespace me
open_meanwhile {me} {old} {new} m now =
    let is : state_after new ≡ states_next (state_after old) m.others = ap state_after m.grown ∙ states_next-append empty_state old m.others in
    ap (λ (s : DirState). holdings_in s.namespace me) is ∙ others_keep me (state_after old) m.others m.foreign (subst (λ (s : DirState). lives s.namespace me ≡ true) is now)

-- what a process has open in the state, as its answers would tell it
abbrev Told : ℕ → List Event → Local
Told me h = record nothing_local { holdings = holdings_in (state_after h).namespace me }

abbrev shows : ℕ → Local → List Event → DirAt
shows me m h = record { process = me; faults = 0; calls = 0; local = m; trace = h }

module _ (me : ℕ) (h : List Event) (request : Request) (reply : Reply) (run : IsRun (h ++ event me request reply ∷ [])) where
  allowed : is_allowed (state_after h) (event me request reply) ≡ true
  allowed = and_left (is_allowed (state_after h) (event me request reply)) true (run_from-right empty_state h (event me request reply ∷ []) run)

  begun_same : (r : Request) (answer : Reply) → is_begin r ≡ true → (s : Standing) (n : Namespace) →
      SameHandles s.holdings (holdings_in n me) → SameHandles (standing_replied s r answer).holdings (holdings_in (namespace_replied n me r answer) me)
  begun_same (Begin intent) Done b s n same = same
  begun_same (Begin intent) (Opened handle) b s n same = same
  begun_same (Begin intent) answer b s n same = same
  begun_same _ answer b s n same = cc

  -- one call, as of a directory that shows this trace
  called_same : is_begin request ≡ false → is_kill request ≡ false → SameOpen me h →
      SameHandles (standing_replied (seen_of me h).standing request reply).holdings (local_replied (Told me h) request reply).holdings
  called_same b k same =
      (knows_call {observed = true} {old = shows me (Told me h) h}
      {new = shows me (local_replied (Told me h) request reply) (h ++ event me request reply ∷ [])} {s = seen_of me h} {request = request} {reply = reply} refl
      (record { tied = record { living = λ now. record { spoils = false; same = refl }; conforms = λ kept. kept }; handles = same }) b k
      (record {
        counted = omega arith;
        same = refl;
        faults = omega arith;
        local = refl;
        step = λ t. record { before = h; meanwhile = record { others = []; foreign = tt; grown = sym (append-nil h) }; own = inl (record { allowed = allowed; grown = refl }); run = run };
      })).handles

  own_step : is_kill request ≡ false → (Lives me h → SameOpen me h) → SameOpen me (h ++ event me request reply ∷ [])
  own_step k before = by (is_begin request) refl (and_right (is_well_formed request) _ (allowed_step (state_after h) me request reply allowed))
    where
      moved : SameHandles (standing_replied (seen_of me h).standing request reply).holdings
          (holdings_in (namespace_replied (state_after h).namespace me request reply) me) → SameOpen me (h ++ event me request reply ∷ [])
      moved same test =
          ap (λ (s : Seen). list_any (λ x. test (record { handle = x.handle; target = x.target; lock = x.lock })) s.standing.holdings) (own_seen me h request reply k)
          ∙ (same test ∙ sym (ap (λ (s : DirState). list_any test (holdings_in s.namespace me)) (state_after-push h (event me request reply))))

      by : (b : Bool) → is_begin request ≡ b → cond b (not (has_begun (state_after h).namespace me))
          (lives (state_after h).namespace me) ≡ true → SameOpen me (h ++ event me request reply ∷ [])
      by true is may =
          let unborn = not_true (has_begun (state_after h).namespace me) may in
          let earlier : IsRun h = run-left h (event me request reply ∷ []) run in
          let none : SameOpen me h = λ test. ap (λ (s : Seen). list_any
          (λ x. test (record { handle = x.handle; target = x.target; lock = x.lock })) s.standing.holdings)
          (unborn_saw_nothing me h earlier unborn) ∙ sym (ap (list_any test) (unborn_holds_nothing h me earlier unborn)) in
          moved (begun_same request reply is (seen_of me h).standing (state_after h).namespace none)
      by false is may =
          moved (λ test. called_same is k (before may) test ∙ sym (ap (list_any test) (replied_same (state_after h).namespace me (Told me h) request reply k refl)))

foreign_step : (me : ℕ) (h : List Event) (e : Event) → is_foreign me e ≡ true → Lives me (h ++ e ∷ []) → (Lives me h → SameOpen me h) → SameOpen me (h ++ e ∷ [])
foreign_step me h e f now before test =
    let living : lives (state_next (state_after h) e).namespace me ≡ true = subst (λ (s : DirState). lives s.namespace me ≡ true) (state_after-push h e) now in
    ap (λ (s : Seen). list_any (λ x. test (record { handle = x.handle; target = x.target; lock = x.lock })) s.standing.holdings)
    (seen_after-append me nothing_seen h (e ∷ []) ∙ others_unseen me (seen_of me h) (e ∷ []) (f, tt))
    ∙ (before (lived_before me (state_after h) (e ∷ []) (f, tt) living) test
    ∙ sym (ap (λ (s : DirState). list_any test (holdings_in s.namespace me)) (state_after-push h e) ∙ ap (list_any test) (foreign_keeps me (state_after h) e f living)))

one_step : (me : ℕ) (h : List Event) (e : Event) → IsRun (h ++ e ∷ []) → (Lives me h → SameOpen me h) → Lives me (h ++ e ∷ []) → SameOpen me (h ++ e ∷ [])
one_step me h e run before now = by (e.process == me) (is_kill e.request) refl refl
  where
    by : (b k : Bool) → (e.process == me) ≡ b → is_kill e.request ≡ k → SameOpen me (h ++ e ∷ [])
    by false k is kill = foreign_step me h e (rw is refl) now before
    by true true is kill = foreign_step me h e (rw (is, kill) refl) now before
    by true false is kill =
        let same : e ≡ event me e.request e.reply = ap (λ (p : ℕ). event p e.request e.reply) (same_number e.process me is) in
        subst (λ (x : Event). SameOpen me (h ++ x ∷ [])) (sym same) (own_step me h e.request e.reply (subst (λ (x : Event). IsRun (h ++ x ∷ [])) same run) kill before)

along : (me : ℕ) (h es : List Event) → IsRun (h ++ es) → (Lives me h → SameOpen me h) → Lives me (h ++ es) → SameOpen me (h ++ es)
along me h [] run before now = subst (SameOpen me) (sym (append-nil h)) (before (subst (Lives me) (append-nil h) now))
along me h (e ∷ es) run before now =
    let is : h ++ e ∷ es ≡ (h ++ e ∷ []) ++ es = sym (append_assoc h (e ∷ []) es) in
    let whole : IsRun ((h ++ e ∷ []) ++ es) = subst IsRun is run in
    subst (SameOpen me) (sym is) (along me (h ++ e ∷ []) es whole (one_step me h e (run-left (h ++ e ∷ []) es whole) before) (subst (Lives me) is now))

pub open_as_seen : (me : ℕ) (h : List Event) → IsRun h → Lives me h → SameOpen me h
open_as_seen me h run now = along me [] h run (λ none test. refl) now
