-- A process that never began has seen nothing; so a begin keeps the tie.
use Rattle.dir_model.specs.Paths.{is_well_formed}
use Rattle.dir_model.proofs.Begun.{begun_stays}
use Rattle.dir_model.proofs.Allowed.{allowed_step, allowed_reply}
use Rattle.std.proofs.Common.{arith, ◌≡◌, ◌⊎◌, inl, inr, ℕ, Bool, true, false, not, ◌&&◌, ◌||◌, ◌==◌, cond, List, [], ◌∷◌, refl, sym, ap, subst, ◌∙◌}
use Rattle.std.proofs.lemmas.Bool.Decides.{nat_tests}
use Rattle.plain_laws.proofs.Booleans.{clash}
use Rattle.dir_model.specs.declared.event.Event.{Event}
use Rattle.dir_model.specs.declared.intent.Intent.{Intent}
use Rattle.dir_model.specs.declared.request.Request.{Request}
use Rattle.dir_model.specs.declared.request.Request.TheVariants.{Begin}
use Rattle.dir_model.specs.declared.request.Reply.{Reply}
use Rattle.dir_model.specs.declared.request.Reply.TheVariants.{Done, Refused}
use Rattle.dir_model.specs.declared.request.DirError.{DirError}
use Rattle.dir_rules.specs.declared.seen.Seen.{Seen}
use Rattle.dir_model.specs.State.{DirState, empty_state, lives, has_begun, has_ended}
use Rattle.dir_model.specs.Trace.{namespace_replied, state_next, states_next, state_after}
use Rattle.dir_model.specs.Calls.{Interference, IsRun, is_run_from, is_allowed, is_kill, is_foreign, CallStep, TookPlace, LeftNothing, event}
use Rattle.dir_rules.specs.Conforms.{nothing_seen, seen_replied, seen_after_event, seen_after, seen_of, Agrees, IsTied}
use Rattle.dir_model.proofs.Lists.{not_true, and_left, and_right, any_last, same_self, and_false}
use Rattle.dir_model.proofs.Chains.{states_next-append, run_before}
use Rattle.dir_rules.proofs.Tied.{meanwhile_unseen, own_seen}

unborn_all : (me : ℕ) (s : DirState) (es : List Event) → has_begun (states_next s es).namespace me ≡ false → has_begun s.namespace me ≡ false
unborn_all me s es a = by (has_begun s.namespace me) refl
  where
    by : (b : Bool) → has_begun s.namespace me ≡ b → b ≡ false
    by true is = absurd (clash (has_begun (states_next s es).namespace me) (begun_stays me s es is) a)
    by false is = refl

-- an own event of a process that isn't begun after it can't be
no_event : (me : ℕ) (s : DirState) (request : Request) (reply : Reply) → is_allowed s (event me request reply) ≡ true → has_begun (namespace_replied s.namespace me request reply) me ≡ false → ⊥
no_event me s (Begin intent) Done allowed a = clash (has_begun (namespace_replied s.namespace me (Begin intent) Done) me) (any_last (λ q. q.process == me) s.namespace.begun (record { process = me; intent = intent }) (same_self me)) a
no_event me s (Begin intent) (Refused error left) allowed a = clash ((left == 0) && false) (allowed_reply s me (Begin intent) (Refused error left) allowed) (and_false (left == 0))
no_event me s (Begin intent) reply allowed a = clash false (allowed_reply s me (Begin intent) reply allowed) refl
no_event me s request reply allowed a = clash (has_begun s.namespace me) (and_left (has_begun s.namespace me) (not (has_ended s.namespace me)) (and_right (is_well_formed request) (lives s.namespace me) (allowed_step s me request reply allowed))) (unborn_all me s (event me request reply ∷ []) a)

saw_nothing : (me : ℕ) (st : DirState) (s : Seen) (e : Event) → is_allowed st e ≡ true → has_begun (state_next st e).namespace me ≡ false → s ≡ nothing_seen → seen_after_event me s e ≡ nothing_seen
saw_nothing me st s e allowed a is = by (is_foreign me e) refl
  where
    same_process : (p : ℕ) (kill : Bool) → (not (p == me) || kill) ≡ false → p ≡ me
    same_process p kill h = by' (p == me) refl h
      where
        by' : (b : Bool) → (p == me) ≡ b → (not b || kill) ≡ false → p ≡ me
        by' true is h = grind (arith, nat_tests)
        by' false is h = cc

    by : (b : Bool) → is_foreign me e ≡ b → cond b s (seen_replied s e.request e.reply) ≡ nothing_seen
    by true f = is
    by false f =
        let p : e.process ≡ me = same_process e.process (is_kill e.request) f in
        absurd (no_event me st e.request e.reply (subst (λ (q : ℕ). is_allowed st (event q e.request e.reply) ≡ true) p allowed) (subst (λ (q : ℕ). has_begun (namespace_replied st.namespace q e.request e.reply) me ≡ false) p a))

never_saw : (me : ℕ) (st : DirState) (s : Seen) (es : List Event) → is_run_from st es ≡ true → has_begun (states_next st es).namespace me ≡ false → s ≡ nothing_seen → seen_after me s es ≡ nothing_seen
never_saw me st s [] run a is = is
never_saw me st s (e ∷ es) run a is = never_saw me (state_next st e) (seen_after_event me s e) es (and_right _ _ run) a (saw_nothing me st s e (and_left _ _ run) (unborn_all me (state_next st e) es a) is)

pub unborn_saw_nothing : (me : ℕ) (h : List Event) → IsRun h → has_begun (state_after h).namespace me ≡ false → seen_of me h ≡ nothing_seen
unborn_saw_nothing me h run a = never_saw me empty_state nothing_seen h run a refl

unborn_old : (me : ℕ) (old before : List Event) → Interference me old before → has_begun (state_after before).namespace me ≡ false → has_begun (state_after old).namespace me ≡ false
unborn_old me old before m a = unborn_all me (state_after old) m.others (subst (λ (s : DirState). has_begun s.namespace me ≡ false) (ap state_after m.grown ∙ states_next-append empty_state old m.others) a)

-- a process that has begun knows that alone
pub tied_begun : {me : ℕ} {old new : List Event} {intent : Intent} → CallStep me old (Begin intent) Done new → IsTied me new (seen_replied nothing_seen (Begin intent) Done)
tied_begun {me} {old} {new} {intent} c = by c.own
  where
    by : TookPlace c.before me (Begin intent) Done new ⊎ LeftNothing c.before me (Begin intent) Done new → IsTied me new (seen_replied nothing_seen (Begin intent) Done)
    by (inl t) =
        let nothing : seen_of me old ≡ nothing_seen = unborn_saw_nothing me old (run_before c) (unborn_old me old c.before c.meanwhile (not_true (has_begun (state_after c.before).namespace me) (allowed_step (state_after c.before) me (Begin intent) Done t.allowed))) in
        let is : seen_of me new ≡ seen_replied nothing_seen (Begin intent) Done = ap (seen_of me) t.grown ∙ own_seen me c.before (Begin intent) Done refl ∙ ap (λ (f : Seen). seen_replied f (Begin intent) Done) (meanwhile_unseen c.meanwhile ∙ nothing) in
        record {
          living = λ now. subst (λ (f : Seen). Agrees (seen_replied nothing_seen (Begin intent) Done) f) (sym is) (record { spoils = false; same = refl });
          conforms = λ kept. ap (λ (f : Seen). f.kept) is ∙ kept;
        }
    by (inr l) = let e : false ≡ true = l.late in cc

-- a begin that is refused isn't seen
pub refused_unseen : {me : ℕ} {old new : List Event} {intent : Intent} {error : DirError} {left : ℕ} → CallStep me old (Begin intent) (Refused error left) new → seen_of me new ≡ seen_of me old
refused_unseen {me} {old} {new} {intent} {error} {left} c = by c.own
  where
    by : TookPlace c.before me (Begin intent) (Refused error left) new ⊎ LeftNothing c.before me (Begin intent) (Refused error left) new → seen_of me new ≡ seen_of me old
    by (inl t) = absurd (clash ((left == 0) && false) (allowed_reply (state_after c.before) me (Begin intent) (Refused error left) t.allowed) (and_false (left == 0)))
    by (inr l) = ap (seen_of me) l.same ∙ meanwhile_unseen c.meanwhile
