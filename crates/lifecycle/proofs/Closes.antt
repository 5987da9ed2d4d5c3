-- What the process that gives up a handle goes on to know.
use Rattle.std.proofs.Common.{arith, ◌≡◌, ◌⊎◌, inl, inr, ◌≤◌, ℕ, Bool, true, false, not, ◌&&◌, ◌||◌, ◌==◌, cond, bytes_eq, Option, Some, None, List, [], ◌∷◌, map, filter, refl, sym, ap, subst, ◌∙◌}
use Rattle.std.specs.List.{list_any}
use Rattle.std.proofs.lemmas.Bool.{and_parts}
use Rattle.plain_laws.proofs.Booleans.{clash}
use Rattle.plain_laws.proofs.Texts.{same_text}
use Rattle.plain_laws.proofs.Lists.{any_filtered}
use Rattle.dir_model.specs.declared.area.Area.TheVariants as area
use Rattle.dir_model.specs.declared.spot.Handle.{Handle}
use Rattle.dir_model.specs.declared.opening.Opening.{Opening}
use Rattle.dir_model.specs.declared.opening.Target.{Target}
use Rattle.dir_model.specs.declared.opening.Target.TheVariants.{Own, Claim, Gate}
use Rattle.dir_model.specs.declared.request.Request.TheVariants.{Close}
use Rattle.dir_model.specs.declared.request.Reply.TheVariants.{Done}
use Rattle.dir_model.specs.Locks.{is_handle}
use Rattle.dir_model.specs.State.{Namespace}
use Rattle.dir_rules.specs.Standing.{gives_up, gives_up_cover, draws, draws_by, holds_claim, holds_own, intends, is_claim_held, is_gate_shared, is_handle_held, is_own_held, uncovered_by_close, standing_done}
use Rattle.dir_rules.specs.LockRules.{may_close}
use Rattle.dir_model.specs.Local.{is_own_of}
use Rattle.dir_model.specs.Areas.{is_stage}
use Rattle.dir_model.specs.Pods.{pod_text}
use Rattle.lifecycle.specs.declared.machine.PodState.{PodState}
use Rattle.lifecycle.specs.declared.machine.PodState.TheVariants.{Embryo, Prepared, Deleting}
use Rattle.lifecycle.specs.PodMachine.{without_owner, pod_progress, age_free}
use Rattle.dir_rules.specs.declared.standing.Held.{Held}
use Rattle.dir_rules.specs.declared.standing.Standing.{Standing}
use Rattle.lifecycle.proofs.Lists.{In, in_map, in_filter, any_in, in_any}
use Rattle.lifecycle.proofs.Handles.{Sound, handle_meet}
use Rattle.lifecycle.proofs.Linked.{Bare, bare, own, Linked, held_open, linked_own}
use Rattle.lifecycle.proofs.Invariant.{Cleared, Knows}
use Rattle.dir_model.specs.declared.intent.Intent.{Intent}
use Rattle.lifecycle.proofs.Ends.{without, ended_age}
use Rattle.dir_model.proofs.Lists.{and_both, not_true, same_self}

pub any_mapped : {X : Type 0} (t : X → Bool) (f : X → X) (xs : List X) → ((x : X) → t (f x) ≡ t x) →
    list_any t (map f xs) ≡ list_any t xs
any_mapped t f [] same = refl
any_mapped t f (x ∷ xs) same = rw (same x, any_mapped t f xs same) refl

-- one handle is known once
pub held_once : (p : ℕ) (n : Namespace) (k : Standing) (h : Handle) (a b : Held) → Sound n → Linked p n k →
    In a k.holdings → In b k.holdings → is_handle_held h a ≡ true → is_handle_held h b ≡ true → bare a ≡ bare b
held_once p n k h a b sound linked i j x y =
    let c = held_open p n k a linked i in
    let d = held_open p n k b linked j in
    let same : c.0 ≡ d.0 = sound.unique c.0 d.0 c.1.0 d.1.0
    (handle_meet p h c.0 d.0 (at c.0 a c.1.1.0 c.1.1.1 x) (at d.0 b d.1.1.0 d.1.1.1 y)) in
    c.1.1.1 ∙ (ap own same ∙ sym d.1.1.1)
  where
    at : (o : Opening) (g : Held) → o.process ≡ p → bare g ≡ own o → is_handle_held h g ≡ true → is_handle p h o ≡ true
    at o g is e z = and_both (o.process == p) (o.handle.number == h.number) (ap (λ q. q == p) is ∙ same_self p)
        (ap (λ (c : Bare). c.handle.number == h.number) (sym e) ∙ z)

intends_own : (u : List ℕ) (k : Standing) (o : Option Intent) → draws_by u o ≡ true → holds_own u k ≡ true →
    intends (λ i. holds_own (pod_text i.draw.bytes) k) o ≡ true
intends_own u k (Some i) d h = ap (λ (v : List ℕ). holds_own v k) (same_text (pod_text i.draw.bytes) u d) ∙ h
intends_own u k None d h = cc

-- what isn't given up is still held
pub kept_any : (t : Held → Bool) (h : Handle) (hs : List Held) → list_any t hs ≡ true → gives_up t h hs ≡ false →
    list_any t (filter (λ g. not (is_handle_held h g)) hs) ≡ true
kept_any t h [] e f = e
kept_any t h (x ∷ xs) e f = by (t x) (is_handle_held h x) refl e f (λ d g. kept_any t h xs d g)
  where
    by : (b c : Bool) → t x ≡ b → (b || list_any t xs) ≡ true → ((b && c) || gives_up t h xs) ≡ false →
        (list_any t xs ≡ true → gives_up t h xs ≡ false → list_any t (filter (λ g. not (is_handle_held h g)) xs) ≡ true) →
        list_any t (cond (not c) (x ∷ filter (λ g. not (is_handle_held h g)) xs) (filter (λ g. not (is_handle_held h g)) xs)) ≡
        true
    by true true is e f go = cc
    by true false is e f go = ap (λ b. b || list_any t (filter (λ g. not (is_handle_held h g)) xs)) is
    by false true is e f go = go e f
    by false false is e f go = ap (λ b. b || list_any t (filter (λ g. not (is_handle_held h g)) xs)) is ∙ go e f

claim_kept : (u : List ℕ) (h : Handle) (hs : List Held) (t : Target) → is_own_of u t ≡ true →
    gives_up_cover h hs t ≡ false → gives_up (is_claim_held u) h hs ≡ false
claim_kept u h hs (Own spot) of c =
    ap (λ (v : List ℕ). gives_up (is_claim_held v) h hs)
    (sym (same_text spot.name u (and_parts (is_stage spot.area) (bytes_eq spot.name u) of).1)) ∙ c
claim_kept u h hs (Claim spot) of c = cc
claim_kept u h hs (Gate a) of c = cc

-- a state that an end may have changed
abbrev Ended : PodState → PodState → Type 0
Ended s t = (t ≡ without_owner s) ⊎ (t ≡ s)

aged : (s t : PodState) (m : ℕ) → Ended s t → m ≤ pod_progress s → m ≤ pod_progress t
aged s t m (inl e) l =
    let g : pod_progress s ≤ pod_progress (without_owner s) = ended_age s in
    subst (λ (x : PodState). m ≤ pod_progress x) (sym e) (omega (arith, l, g))
aged s t m (inr e) l = subst (λ (x : PodState). m ≤ pod_progress x) (sym e) l

embryo_stays : (q : ℕ) (s t : PodState) → Ended s t → s ≡ Embryo q → t ≡ Embryo q
embryo_stays q s t (inl e) x = e ∙ ap without_owner x
embryo_stays q s t (inr e) x = e ∙ x

prepared_stays : (s t : PodState) → Ended s t → s ≡ Prepared → t ≡ Prepared
prepared_stays s t (inl e) x = e ∙ ap without_owner x
prepared_stays s t (inr e) x = e ∙ x

embryo_was : (q : ℕ) (s t : PodState) → Ended s t → t ≡ Embryo q → s ≡ Embryo q
embryo_was q s t (inl e) x = from s (sym e ∙ x)
  where
    from : (s : PodState) → without_owner s ≡ Embryo q → s ≡ Embryo q
    from (Embryo m) h = h
    from (Deleting o area.ExitedGarbage) h = cc
    from (Deleting o f) h = cc
    from s h = cc
embryo_was q s t (inr e) x = sym e ∙ x

prepared_was : (s t : PodState) → Ended s t → t ≡ Prepared → s ≡ Prepared
prepared_was s t (inl e) x = from s (sym e ∙ x)
  where
    from : (s : PodState) → without_owner s ≡ Prepared → s ≡ Prepared
    from Prepared h = h
    from (Deleting o area.ExitedGarbage) h = cc
    from (Deleting o f) h = cc
    from s h = cc
prepared_was s t (inr e) x = sym e ∙ x

pub close_knows : (u : List ℕ) (n : Namespace) (s t : PodState) (p : ℕ) (h : Handle) (k : Standing) → Sound n →
    may_close k h ≡ true → Ended s t → Knows u p n s k → Knows u p (without n p h) t (standing_done k (Close h))
close_knows u n s t p h k sound may ends knows = record {
  linked = linked_own p n k (Close h) Done refl knows.linked;
  embryo_under_lock = λ g d. embryo_stays p s t ends (knows.embryo_under_lock (and_parts (not gone) k.embryo_under_lock g).1 d);
  gates = λ g. let x = and_parts (not gone) k.embryo_under_lock g in again (is_gate_shared area.Embryo) (λ x. refl)
      ∙ kept_any (is_gate_shared area.Embryo) h k.holdings (knows.gates x.1) (not_true gone x.0);
  owned = λ e x. owning (embryo_was p s t ends e) (any_filtered (is_own_held u) (λ g. not (is_handle_held h g)) k.holdings
      (sym (again (is_own_held u) (λ x. refl)) ∙ x));
  covered = λ g i x c. cover g (in_map (uncovered_by_close h k.holdings) rest g i) x c;
  seen_unowned = λ a x. aged s t (age_free a) ends (knows.seen_unowned a x);
  seen_unowned_under_claim = λ x. clear (any_in (λ name. bytes_eq name u) (filter (λ v. not (gives_up (is_claim_held v) h k.holdings))
      k.seen_unowned_under_claim) x);
}
  where
    gone : Bool
    gone = gives_up (is_gate_shared area.Embryo) h k.holdings

    rest : List Held
    rest = filter (λ g. not (is_handle_held h g)) k.holdings

    again : (r : Held → Bool) → ((x : Held) → r (uncovered_by_close h k.holdings x) ≡ r x) →
        list_any r (map (uncovered_by_close h k.holdings) rest) ≡ list_any r rest
    again r same = any_mapped r (uncovered_by_close h k.holdings) rest same

    kept : k.embryo_under_lock ≡ true → draws u k ≡ true → holds_own u k ≡ true → (b : Bool) → gone ≡ b → not gone ≡ true
    kept g d own false e = ap not e
    kept g d own true e = clash ((gone && k.embryo_under_lock) && intends (λ i. holds_own (pod_text i.draw.bytes) k) k.intent)
        (and_both (gone && k.embryo_under_lock) (intends (λ i. holds_own (pod_text i.draw.bytes) k) k.intent) (and_both gone k.embryo_under_lock e g)
        (intends_own u k k.intent d own))
        (not_true ((gone && k.embryo_under_lock) && intends (λ i. holds_own (pod_text i.draw.bytes) k) k.intent) may)

    owning : s ≡ Embryo p → holds_own u k ≡ true → ((not gone && k.embryo_under_lock) ≡ true) × (draws u k ≡ true)
    owning e x = let y = knows.owned e x in (and_both (not gone) k.embryo_under_lock (kept y.0 y.1 x gone refl) y.0, y.1)

    cover : (g : Held) → (x : Held) × (In x rest × (g ≡ uncovered_by_close h k.holdings x)) → is_own_of u g.target ≡ true →
        g.covered ≡ true → (t ≡ Prepared) × (holds_claim u (standing_done k (Close h)) ≡ true)
    cover g (x, (i, e)) of c =
        let of' : is_own_of u x.target ≡ true = subst (λ (z : Held). is_own_of u z.target ≡ true) e of in
        let c' = and_parts (not (gives_up_cover h k.holdings x.target)) x.covered (subst (λ (z : Held). z.covered ≡ true) e c) in
        let j = in_filter (λ g. not (is_handle_held h g)) x k.holdings i in
        let z = knows.covered x j.0 of' c'.1 in (
          prepared_stays s t ends z.0,
          again (is_claim_held u) (λ x. refl) ∙ kept_any (is_claim_held u) h k.holdings z.1
              (claim_kept u h k.holdings x.target of' (not_true (gives_up_cover h k.holdings x.target) c'.0)),
        )

    clear : (v : List ℕ) × (In v (filter (λ v. not (gives_up (is_claim_held v) h k.holdings)) k.seen_unowned_under_claim) ×
        (bytes_eq v u ≡ true)) → Cleared u (without n p h) t (standing_done k (Close h))
    clear (v, (i, is)) =
        let j = in_filter (λ v. not (gives_up (is_claim_held v) h k.holdings)) v k.seen_unowned_under_claim i in
        let c = knows.seen_unowned_under_claim (in_any (λ name. bytes_eq name u) v k.seen_unowned_under_claim j.0 is) in
        record {
          claim = again (is_claim_held u) (λ x. refl) ∙ kept_any (is_claim_held u) h k.holdings c.claim
              (ap (λ (w : List ℕ). gives_up (is_claim_held w) h k.holdings) (sym (same_text v u is))
              ∙ not_true (gives_up (is_claim_held v) h k.holdings) j.1);
          remover = c.remover;
          past = aged s t 4 ends c.past;
          free = λ e o i. c.free (prepared_was s t ends e) o (in_filter (λ o. not (is_handle p h o)) o n.openings i).0;
        }
