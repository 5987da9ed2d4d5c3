-- No two processes drew one identity in the whole trace: then no two in a beginning of it.
use Rattle.std.proofs.Common.{◌≡◌, ◌⊎◌, inl, inr, ℕ, Bool, true, false, not, ◌||◌, ◌==◌, cond, Option, Some, None, List, [], ◌∷◌, ◌++◌, map, refl, sym, ap, subst, ◌∙◌}
use Rattle.std.proofs.lemmas.Bool.{and_parts}
use Rattle.plain_laws.proofs.Booleans.{clash}
use Rattle.plain_laws.proofs.Texts.{same_text}
use Rattle.dir_model.specs.declared.event.Event.{Event}
use Rattle.dir_model.specs.declared.spot.Mode.TheVariants.{Shared, Exclusive}
use Rattle.dir_model.specs.declared.area.Area.TheVariants as area
use Rattle.dir_model.specs.declared.request.Request.{Request}
use Rattle.dir_model.specs.declared.request.Request.TheVariants.{Begin, MakeFolder, Open, OpenArea, TryLock}
use Rattle.dir_model.specs.declared.request.Reply.{Reply}
use Rattle.dir_model.specs.declared.request.Reply.TheVariants.{Done, Opened, Refused}
use Rattle.dir_rules.specs.declared.standing.Held.{Held}
use Rattle.dir_rules.specs.declared.standing.Standing.{Standing}
use Rattle.dir_model.specs.State.{DirState, empty_state, has_begun, lives}
use Rattle.dir_model.specs.Trace.{state_next, states_next, state_after}
use Rattle.dir_model.specs.Replies.{is_reply}
use Rattle.dir_model.specs.Calls.{is_begin, is_kill, is_foreign, is_allowed, is_run_from, IsRun, may_step}
use Rattle.dir_rules.specs.Standing.{nothing_standing, draws, draws_by, shares_area, find_held, held_with_mode, looked_by, standing_replied, stood, standing_from, standing_of}
use Rattle.dir_model.specs.Areas.{is_stage}
use Rattle.dir_model.proofs.Chains.{run_from-left, run_from-right, run-left}
use Rattle.lifecycle.specs.Executions.{IsDrawnOnce, IsConforming}
use Rattle.lifecycle.proofs.Handles.{is_due}
use Rattle.lifecycle.proofs.Lives.{begun_stays, begun_me}
use Rattle.dir_model.specs.declared.intent.Intent.{Intent}
use Rattle.dir_model.specs.Paths.{is_well_formed}
use Rattle.dir_model.specs.Pods.{pod_text}
use Rattle.dir_rules.proofs.Tied.{conforms-left}
use Rattle.dir_model.proofs.Lists.{not_true, same_number}
use Rattle.dir_model.proofs.Allowed.{allowed_parts}

pub standing_split : (p : ℕ) (s : Standing) (xs ys : List Event) → standing_from p s (xs ++ ys) ≡ standing_from p
    (standing_from p s xs) ys
standing_split p s [] ys = refl
standing_split p s (x ∷ xs) ys = standing_split p (stood p s x) xs ys

pub same_intent : (s : Standing) (request : Request) (reply : Reply) → is_begin request ≡ false →
    (standing_replied s request reply).intent ≡ s.intent
same_intent s (Begin intent) reply off = cc
same_intent s request (Refused e left) off = refl
same_intent s (MakeFolder spot) Done off = by (is_stage spot.area)
  where
    by : (b : Bool) → (cond b (record s { made = true; embryo_under_lock = shares_area area.Embryo s }) s).intent ≡ s.intent
    by true = refl
    by false = refl
same_intent s (TryLock h Shared) Done off = by (find_held h s)
  where
    by : (o : Option Held) → (looked_by o (record s { holdings = map (held_with_mode h Shared) s.holdings })).intent ≡ s.intent
    by None = refl
    by (Some x) = refl
same_intent s (TryLock h Exclusive) Done off = refl
same_intent s request Done off = refl
same_intent s (Open spot kind) (Opened h) off = refl
same_intent s (OpenArea a) (Opened h) off = refl
same_intent s request (Opened h) off = refl
same_intent s request reply off = refl

foreign_or_own : (p : ℕ) (e : Event) → (is_foreign p e ≡ true) ⊎ ((is_foreign p e ≡ false) × (e.process ≡ p))
foreign_or_own p e = by (e.process == p) (is_kill e.request) refl
  where
    by : (c k : Bool) → (e.process == p) ≡ c → (((not c || k) ≡ true) ⊎ (((not c || k) ≡ false) × (e.process ≡ p)))
    by true true f = inl refl
    by true false f = inr (refl, same_number e.process p f)
    by false k f = inl refl

-- an intent stays
intent_stays : (p : ℕ) (es : List Event) (n : DirState) (s : Standing) → is_run_from n es ≡ true →
    has_begun n.namespace p ≡ true → (standing_from p s es).intent ≡ s.intent
intent_stays p [] n s run begun = refl
intent_stays p (e ∷ es) n s run begun =
    intent_stays p es (state_next n e) (stood p s e) a.1 (begun_stays n.namespace e.process p e.request e.reply begun)
    ∙ one (foreign_or_own p e)
  where
    a : (is_allowed n e ≡ true) × (is_run_from (state_next n e) es ≡ true)
    a = and_parts (is_allowed n e) (is_run_from (state_next n e) es) run

    may : is_due n.namespace e.process e.request ≡ true
    may = (and_parts (is_well_formed e.request) (is_due n.namespace e.process e.request)
        (allowed_parts n e a.0).0).1

    not_begin : e.process ≡ p → (c : Bool) → is_begin e.request ≡ c → is_begin e.request ≡ false
    not_begin is false f = f
    not_begin is true f = clash (has_begun n.namespace p) begun
        (subst (λ (q : ℕ). has_begun n.namespace q ≡ false) is (not_true (has_begun n.namespace e.process)
        (ap (λ c. cond c (not (has_begun n.namespace e.process)) (lives n.namespace e.process)) (sym f) ∙ may)))

    one : (is_foreign p e ≡ true) ⊎ ((is_foreign p e ≡ false) × (e.process ≡ p)) → (stood p s e).intent ≡ s.intent
    one (inl f) = ap (λ c. (cond c s (standing_replied s e.request e.reply)).intent) f
    one (inr f) = ap (λ c. (cond c s (standing_replied s e.request e.reply)).intent) f.0
        ∙ same_intent s e.request e.reply (not_begin f.1 (is_begin e.request) refl)

-- who hasn't begun knows nothing
unborn_same : (p : ℕ) (es : List Event) (n : DirState) (s : Standing) → is_run_from n es ≡ true →
    has_begun (states_next n es).namespace p ≡ false → standing_from p s es ≡ s
unborn_same p [] n s run un = refl
unborn_same p (e ∷ es) n s run un = unborn_same p es (state_next n e) (stood p s e) a.1 un ∙ one (foreign_or_own p e)
  where
    a : (is_allowed n e ≡ true) × (is_run_from (state_next n e) es ≡ true)
    a = and_parts (is_allowed n e) (is_run_from (state_next n e) es) run

    b : (may_step n e.process e.request ≡ true) × (is_reply n e.process e.request e.reply ≡ true)
    b = allowed_parts n e a.0

    on : (xs : List Event) (m : DirState) → has_begun m.namespace p ≡ true → has_begun (states_next m xs).namespace p ≡ true
    on [] m h = h
    on (x ∷ xs) m h = on xs (state_next m x) (begun_stays m.namespace x.process p x.request x.reply h)

    one : (is_foreign p e ≡ true) ⊎ ((is_foreign p e ≡ false) × (e.process ≡ p)) → stood p s e ≡ s
    one (inl f) = ap (λ c. cond c s (standing_replied s e.request e.reply)) f
    one (inr f) = clash (has_begun (states_next (state_next n e) es).namespace p)
        (on es (state_next n e) (subst (λ (q : ℕ). has_begun (state_next n e).namespace q ≡ true) f.1
        (begun_me n e.process e.request e.reply (and_parts (is_well_formed e.request)
        (is_due n.namespace e.process e.request) b.0).1 b.1))) un

intent_on : (before later : List Event) (p : ℕ) (i : Intent) → IsRun (before ++ later) →
    (standing_of p before).intent ≡ Some i → (standing_of p (before ++ later)).intent ≡ Some i
intent_on before later p i run d = by (has_begun (state_after before).namespace p) refl
  where
    by : (c : Bool) → has_begun (state_after before).namespace p ≡ c → (standing_of p (before ++ later)).intent ≡ Some i
    by true f = ap (λ (s : Standing). s.intent) (standing_split p nothing_standing before later)
        ∙ (intent_stays p later (state_after before) (standing_of p before)
        (run_from-right empty_state before later run) f ∙ d)
    by false f =
        let x : None ≡ Some i = ap (λ (s : Standing). s.intent)
        (sym (unborn_same p before empty_state nothing_standing (run_from-left empty_state before later run) f))
        ∙ d in
        absurd (cc)

-- a beginning of a conforming execution is one
pub conforming_left : (before later : List Event) → IsConforming (before ++ later) → IsConforming before
conforming_left before later l = record {
  run = run-left before later l.run;
  rules = λ p. conforms-left p before later (l.rules p);
  identities = λ p q a b x y same. l.identities p q a b (intent_on before later p a l.run x)
      (intent_on before later q b l.run y) same;
  tokens = λ p q a b x y same. l.tokens p q a b (intent_on before later p a l.run x) (intent_on before later q b l.run y) same;
}

-- what it drew
drawn : (u : List ℕ) (o : Option Intent) → draws_by u o ≡ true → (i : Intent) × ((o ≡ Some i) × (pod_text i.draw.bytes ≡ u))
drawn u (Some i) h = (i, (refl, same_text (pod_text i.draw.bytes) u h))
drawn u None h = cc

-- no two processes would make one pod, by no beginning of the trace
pub drawn_once : (trace before later : List Event) → IsConforming trace → trace ≡ before ++ later →
    (u : List ℕ) (p q : ℕ) → draws u (standing_of p before) ≡ true → draws u (standing_of q before) ≡ true → p ≡ q
drawn_once trace before later l is u p q x y =
    let a = drawn u (standing_of p before).intent x in
    let b = drawn u (standing_of q before).intent y in
    (conforming_left before later (subst (λ (h : List Event). IsConforming h) is l)).identities p q a.0 b.0 a.1.0 b.1.0
    (a.1.1 ∙ sym b.1.1)

-- where one process alone begins, nothing is drawn twice
pub drawn_by_one : (trace : List Event) (one : ℕ) → ((p : ℕ) (a : Intent) → (standing_of p trace).intent ≡ Some a → p ≡ one) → (drawn : Intent → List ℕ) → IsDrawnOnce drawn trace
drawn_by_one trace one maker drawn p q a b x y is = maker p a x ∙ sym (maker q b y)
