-- The invariant holds of every conforming execution.
use Rattle.std.proofs.Common.{◌≡◌, ◌⊎◌, inl, inr, ℕ, Bool, true, false, not, ◌||◌, ◌==◌, cond, Option, Some, None, List, [], ◌∷◌, ◌++◌, map, refl, sym, ap, subst, ◌∙◌}
use Rattle.std.proofs.lemmas.Bool.{and_parts}
use Rattle.plain_laws.proofs.Booleans.{clash}
use Rattle.dir_model.specs.declared.area.Area.TheVariants as area
use Rattle.dir_model.specs.declared.spot.Mode.TheVariants.{Shared, Exclusive}
use Rattle.dir_model.specs.declared.request.Request.{Request}
use Rattle.dir_model.specs.declared.request.Request.TheVariants.{Begin, MakeFolder, Open, OpenArea, TryLock}
use Rattle.dir_model.specs.declared.request.Reply.{Reply}
use Rattle.dir_model.specs.declared.request.Reply.TheVariants.{Done, Opened, Refused}
use Rattle.dir_model.specs.State.{DirState, lives, has_begun, empty_state}
use Rattle.dir_model.specs.Replies.{is_reply}
use Rattle.dir_model.specs.Calls.{may_step, is_kill, is_begin, is_foreign, is_allowed, is_run_from, event}
use Rattle.dir_rules.specs.Standing.{draws, find_held, held_with_mode, shares_area, looked_by, nothing_standing, standing_from, standing_of, standing_replied, stood}
use Rattle.dir_model.specs.Areas.{is_stage}
use Rattle.dir_rules.specs.LockRules.{keeps_lock_rules_from, lock_rules_allow}
use Rattle.dir_model.specs.Trace.{state_next, states_next, state_after}
use Rattle.lifecycle.specs.declared.machine.PodState.{PodState}
use Rattle.lifecycle.specs.declared.machine.PodState.TheVariants.{Absent}
use Rattle.dir_rules.specs.declared.standing.Held.{Held}
use Rattle.dir_rules.specs.declared.standing.Standing.{Standing}
use Rattle.lifecycle.proofs.Handles.{is_due}
use Rattle.lifecycle.proofs.Invariant.{Knows, Invariant}
use Rattle.dir_model.specs.declared.event.Event.{Event}
use Rattle.lifecycle.specs.PodMachine.{pod_state_next, pod_state_from, pod_state}
use Rattle.lifecycle.specs.Executions.{IsConforming}
use Rattle.lifecycle.proofs.SoundRuns.{step_sound}
use Rattle.dir_rules.proofs.Standings.{keeps_after}
use Rattle.lifecycle.proofs.Draws.{drawn_once}
use Rattle.dir_rules.specs.Conforms.{nothing_seen}
use Rattle.dir_model.specs.Paths.{is_well_formed}
use Rattle.lifecycle.proofs.Makes.{absent_place}
use Rattle.lifecycle.proofs.Lives.{begun_me, unborn_before, lived, saw_other, saw_me}
use Rattle.lifecycle.proofs.Step.{Given, Stepped, stepped}
use Rattle.dir_model.proofs.Lists.{not_true, same_self, same_number}
use Rattle.dir_model.proofs.Allowed.{allowed_parts}

-- the invariant, and that who hasn't begun knows nothing
pub record Good (u : List ℕ) (n : DirState) (s : PodState) (σ : ℕ → Standing) : Type 0 where
  pub inv : Invariant u n.namespace s σ
  pub unborn : (q : ℕ) → has_begun n.namespace q ≡ false → σ q ≡ nothing_standing

-- what it had made and drawn stays
kept_draw : (u : List ℕ) (k : Standing) (request : Request) (reply : Reply) → is_begin request ≡ false →
    (draws u k ≡ true) × (k.made ≡ true) → (draws u (standing_replied k request reply) ≡ true) ×
    ((standing_replied k request reply).made ≡ true)
kept_draw u k request (Refused e left) on h = h
kept_draw u k (Open spot which) (Opened g) on h = h
kept_draw u k (OpenArea a) (Opened g) on h = h
kept_draw u k request (Opened g) on h = h
kept_draw u k (Begin intent) Done on h = cc
kept_draw u k (MakeFolder spot) Done on h = by (is_stage spot.area)
  where
    by : (b : Bool) → (draws u (cond b (record k { made = true; embryo_under_lock = shares_area area.Embryo k }) k) ≡ true) ×
        ((cond b (record k { made = true; embryo_under_lock = shares_area area.Embryo k }) k).made ≡ true)
    by true = (h.0, refl)
    by false = h
kept_draw u k (TryLock g Shared) Done on h = by (find_held g k)
  where
    by : (o : Option Held) → (draws u (looked_by o (record k { holdings = map (held_with_mode g Shared) k.holdings })) ≡ true)
        × ((looked_by o (record k { holdings = map (held_with_mode g Shared) k.holdings })).made ≡ true)
    by None = h
    by (Some x) = h
kept_draw u k (TryLock g Exclusive) Done on h = h
kept_draw u k request Done on h = h
kept_draw u k request reply on h = h

abbrev Maker : List ℕ → (ℕ → Standing) → Type 0
Maker u σ = (q : ℕ) × ((draws u (σ q) ≡ true) × ((σ q).made ≡ true))

next_maker : (u : List ℕ) (n : DirState) (s : PodState) (σ : ℕ → Standing) (p : ℕ) (request : Request) (reply : Reply) →
    Given u n s σ p request reply → Stepped u n.namespace s σ p request reply → (t : PodState) →
    ((s ≡ Absent → t ≡ Absent) ⊎ ((draws u (standing_replied (σ p) request reply) ≡ true) ×
    ((standing_replied (σ p) request reply).made ≡ true))) →
    (t ≡ Absent) ⊎ Maker u (λ q. stood q (σ q) (event p request reply))
next_maker u n s σ p request reply g x t (inr d) =
    inr (p, subst (λ (k : Standing). (draws u k ≡ true) × (k.made ≡ true)) (sym (saw_me p (σ p) request reply)) d)
next_maker u n s σ p request reply g x t (inl stays) = by g.inv.maker
  where
    new_born : (q : ℕ) → q ≡ p → is_begin request ≡ true → (draws u (σ q) ≡ true) × ((σ q).made ≡ true) → ⊥
    new_born q e b d = none (subst (λ (k : Standing). k.made ≡ true)
        (g.unborn q (subst (λ (r : ℕ). has_begun n.namespace r ≡ false) (sym e)
        (not_true (has_begun n.namespace p) (ap (λ c. cond c (not (has_begun n.namespace p)) (lives n.namespace p))
        (sym b) ∙ g.may)))) d.1)
      where
        none : false ≡ true → ⊥
        none h = cc

    kept : (q : ℕ) (b : Bool) → (p == q) ≡ b → (draws u (σ q) ≡ true) × ((σ q).made ≡ true) → (c : Bool) →
        is_begin request ≡ c → (draws u (stood q (σ q) (event p request reply)) ≡ true) ×
        ((stood q (σ q) (event p request reply)).made ≡ true)
    kept q false e d c f = subst (λ (k : Standing). (draws u k ≡ true) × (k.made ≡ true))
        (sym (saw_other p q (σ q) request reply e)) d
    kept q true e d true f = absurd (new_born q (sym (same_number p q e)) f d)
    kept q true e d false f = subst (λ (r : ℕ). (draws u (stood r (σ r) (event p request reply)) ≡ true) ×
        ((stood r (σ r) (event p request reply)).made ≡ true)) (same_number p q e)
        (subst (λ (k : Standing). (draws u k ≡ true) × (k.made ≡ true)) (sym (saw_me p (σ p) request reply))
        (kept_draw u (σ p) request reply f (subst (λ (r : ℕ). (draws u (σ r) ≡ true) × ((σ r).made ≡ true))
        (sym (same_number p q e)) d)))

    by : (s ≡ Absent) ⊎ Maker u σ → (t ≡ Absent) ⊎ Maker u (λ q. stood q (σ q) (event p request reply))
    by (inl e) = inl (stays e)
    by (inr (q, d)) = inr (q, kept q (p == q) refl d (is_begin request) refl)

pub next_good : (u : List ℕ) (n : DirState) (s : PodState) (σ : ℕ → Standing) (e : Event) →
    Given u n s σ e.process e.request e.reply → Good u (state_next n e) (pod_state_next u n.namespace s e)
    (λ q. stood q (σ q) e)
next_good u n s σ e g =
    let x = stepped u n s σ e.process e.request e.reply g in
    subst (λ (t : PodState). Good u (state_next n e) t (λ q. stood q (σ q) e)) (sym x.turns) (record {
      inv = record {
        sound = step_sound n e.process e.request e.reply g.may g.is g.inv.sound;
        pod = x.pod;
        knows = λ q living. knows x q living (e.process == q) refl;
        maker = next_maker u n s σ e.process e.request e.reply g x x.state x.absent;
      };
      unborn = λ q un. unborn q un (e.process == q) refl;
    })
  where
    knows : (x : Stepped u n.namespace s σ e.process e.request e.reply) (q : ℕ) →
        lives (state_next n e).namespace q ≡ true → (b : Bool) → (e.process == q) ≡ b →
        Knows u q (state_next n e).namespace x.state (stood q (σ q) e)
    knows x q living false off = subst (λ (k : Standing). Knows u q (state_next n e).namespace x.state k)
        (sym (saw_other e.process q (σ q) e.request e.reply off))
        (x.others q off (g.inv.knows q (lived n.namespace e.process q e.request e.reply off living)))
    knows x q living true on = subst (λ (r : ℕ). Knows u r (state_next n e).namespace x.state (stood r (σ r) e))
        (same_number e.process q on) (subst (λ (k : Standing). Knows u e.process (state_next n e).namespace x.state k)
        (sym (saw_me e.process (σ e.process) e.request e.reply))
        (x.me (subst (λ (r : ℕ). lives (state_next n e).namespace r ≡ true) (sym (same_number e.process q on)) living)))

    unborn : (q : ℕ) → has_begun (state_next n e).namespace q ≡ false → (b : Bool) → (e.process == q) ≡ b →
        stood q (σ q) e ≡ nothing_standing
    unborn q un false off = saw_other e.process q (σ q) e.request e.reply off
        ∙ g.unborn q (unborn_before n.namespace e.process q e.request e.reply un)
    unborn q un true on = clash (has_begun (state_next n e).namespace q)
        (subst (λ (r : ℕ). has_begun (state_next n e).namespace r ≡ true) (same_number e.process q on)
        (begun_me n e.process e.request e.reply g.may g.is)) un

-- what is left of a conforming execution, from a state
pub record ConformingFrom (u : List ℕ) (n : DirState) (σ : ℕ → Standing) (es : List Event) : Type 0 where
  pub run : is_run_from n es ≡ true
  pub rules : (p : ℕ) → keeps_lock_rules_from p (σ p) es ≡ true
  pub distinct : (before later : List Event) → es ≡ before ++ later → (p q : ℕ) →
      draws u (standing_from p (σ p) before) ≡ true → draws u (standing_from q (σ q) before) ≡ true → p ≡ q

pub given : (u : List ℕ) (n : DirState) (s : PodState) (σ : ℕ → Standing) (e : Event) (es : List Event) → Good u n s σ →
    ConformingFrom u n σ (e ∷ es) → Given u n s σ e.process e.request e.reply
given u n s σ e es good conforming =
    let a = and_parts (is_allowed n e) (is_run_from (state_next n e) es) conforming.run in
    let b = allowed_parts n e a.0 in
    let c = and_parts (is_well_formed e.request) (is_due n.namespace e.process e.request) b.0 in
    record {
      inv = good.inv;
      unborn = good.unborn;
      may = c.1;
      is = b.1;
      rule = λ alive. ruled (and_parts (is_foreign e.process e || lock_rules_allow (σ e.process) e.request)
          (keeps_lock_rules_from e.process (stood e.process (σ e.process) e) es) (conforming.rules e.process)).0
          (ap (λ c. not c || is_kill e.request) (same_self e.process) ∙ alive);
      distinct = conforming.distinct [] (e ∷ es) refl;
    }
  where
    ruled : (is_foreign e.process e || lock_rules_allow (σ e.process) e.request) ≡ true → is_foreign e.process e ≡ false →
        lock_rules_allow (σ e.process) e.request ≡ true
    ruled h off = ap (λ c. c || lock_rules_allow (σ e.process) e.request) (sym off) ∙ h

pub conforming_tail : (u : List ℕ) (n : DirState) (σ : ℕ → Standing) (e : Event) (es : List Event) →
    ConformingFrom u n σ (e ∷ es) → ConformingFrom u (state_next n e) (λ q. stood q (σ q) e) es
conforming_tail u n σ e es conforming = record {
  run = (and_parts (is_allowed n e) (is_run_from (state_next n e) es) conforming.run).1;
  rules = λ p. (and_parts (is_foreign p e || lock_rules_allow (σ p) e.request) (keeps_lock_rules_from p (stood p (σ p) e) es) (conforming.rules p)).1;
  distinct = λ before later is. conforming.distinct (e ∷ before) later (ap (λ (l : List Event). e ∷ l) is);
}

pub good_from : (u : List ℕ) (es : List Event) (n : DirState) (s : PodState) (σ : ℕ → Standing) → Good u n s σ →
    ConformingFrom u n σ es → Good u (states_next n es) (pod_state_from u n s es) (λ q. standing_from q (σ q) es)
good_from u [] n s σ good conforming = good
good_from u (e ∷ es) n s σ good conforming =
    good_from u es (state_next n e) (pod_state_next u n.namespace s e) (λ q. stood q (σ q) e)
    (next_good u n s σ e (given u n s σ e es good conforming)) (conforming_tail u n σ e es conforming)

pub good_start : (u : List ℕ) → Good u empty_state Absent (λ q. nothing_standing)
good_start u = record {
  inv = record {
    sound = record {
      unique = λ a b i j h. absurd i;
      alone = λ a b i j h x y. absurd i;
      living =
          λ a i. absurd i;
      bounded = λ a i f. absurd i;
    };
    pod = record {
      number = 0;
      at = λ spot of. sym (ap (λ b. cond b (Some 0) None) (absent_place spot.area));
      named =
          λ o i h. absurd i;
      owns = λ o i h. absurd i;
      held = λ p h. absurd (cc);
    };
    knows = λ p living. absurd (cc);
    maker = inl refl;
  };
  unborn = λ q un. refl;
}

pub conforming_from : (u : List ℕ) (h : List Event) → IsConforming h → ConformingFrom u empty_state (λ q. nothing_standing) h
conforming_from u h conforming =
    record {
      run = conforming.run;
      rules = λ p. keeps_after p nothing_seen h (conforming.rules p);
      distinct =
          λ before later is p q x y. drawn_once h before later conforming is u p q x y;
    }

-- the invariant holds of every conforming execution
pub good : (u : List ℕ) (h : List Event) → IsConforming h → Good u (state_after h) (pod_state u h) (λ q. standing_of q h)
good u h conforming = good_from u h empty_state Absent (λ q. nothing_standing) (good_start u) (conforming_from u h conforming)
