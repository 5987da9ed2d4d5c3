-- A process that doesn't hold a pod, and only looks for it, isn't the owner of what it finds.
use Rattle.std.proofs.Common.{◌≡◌, ◌==◌, ◌||◌, ◌&&◌, ℕ, Bool, true, false, not, cond, Some, List, [], ◌∷◌, ◌++◌, map, filter, refl, sym, ap, subst, ◌∙◌, append_assoc, append-nil}
use Rattle.std.specs.List.{list_any, AllByRecursion}
use Rattle.plain_laws.proofs.Lists.{any_filtered}
use Rattle.plain_laws.proofs.Booleans.{clash}
use Rattle.dir_model.specs.declared.area.Area.{Area}
use Rattle.dir_model.specs.declared.area.Phase.{Phase}
use Rattle.dir_model.specs.declared.area.Phase.TheVariants as phase
use Rattle.dir_model.specs.declared.event.Event.{Event}
use Rattle.dir_model.specs.declared.pod.PodId.{PodId}
use Rattle.dir_model.specs.declared.opening.Target.{Target}
use Rattle.dir_model.specs.declared.opening.Target.TheVariants as target
use Rattle.dir_model.specs.declared.spot.Handle.{Handle}
use Rattle.dir_model.specs.declared.spot.Mode.TheVariants.{Shared}
use Rattle.dir_model.specs.declared.spot.Spot.{Spot}
use Rattle.dir_model.specs.declared.request.Request.{Request}
use Rattle.dir_model.specs.declared.request.Request.TheVariants.{Open, TryLock, Close}
use Rattle.dir_model.specs.declared.request.Reply.{Reply}
use Rattle.dir_model.specs.declared.request.Reply.TheVariants.{Done, Opened, Refused}
use Rattle.dir_model.specs.Calls.{is_foreign}
use Rattle.dir_model.specs.Local.{Local, is_own_of}
use Rattle.dir_model.specs.Locks.{target_of}
use Rattle.dir_model.specs.Pods.{pod_text}
use Rattle.dir_model.specs.Replies.{is_look_at}
use Rattle.dir_model.specs.State.{Namespace, DirState, empty_state, lives}
use Rattle.dir_model.specs.Trace.{namespace_replied, state_next, states_next, state_after}
use Rattle.dir_model.proofs.Chains.{states_next-append}
use Rattle.dir_model.proofs.Lists.{all_left, and_left, or_second, or_last, same_rest, same_self, same_number}
use Rattle.dir_rules.specs.declared.standing.Held.{Held}
use Rattle.dir_rules.specs.declared.seen.Seen.{Seen}
use Rattle.dir_rules.specs.declared.standing.Standing.{Standing}
use Rattle.dir_rules.specs.Standing.{is_own_held, holds_own, is_handle_held, find_held, held_with_mode, uncovered_by_close, standing_replied, stood, standing_from, standing_of, nothing_standing}
use Rattle.dir_rules.specs.LockRules.{holds_pod}
use Rattle.dir_rules.specs.Rules.{is_gate}
use Rattle.dir_rules.proofs.Standings.{standing_is, looked_holdings}
use Rattle.dir_rules.proofs.Tied.{lived_before}
use Rattle.dir_trait.specs.DirCalls.{DirAt, ExtendsBy}
use Rattle.dir_trait.specs.Knowledge.{Knows, LookedInto}
use Rattle.lifecycle.specs.declared.machine.PodState.{PodState}
use Rattle.lifecycle.specs.declared.machine.PodState.TheVariants as state
use Rattle.lifecycle.specs.PodMachine.{pod_state, phase_of_state, owner_of, is_owner}
use Rattle.lifecycle.specs.Executions.{IsConforming}
use Rattle.lifecycle.proofs.Closes.{any_mapped}
use Rattle.lifecycle.proofs.Draws.{conforming_left, standing_split}
use Rattle.lifecycle.proofs.Lists.{any_in, in_any}
use Rattle.lifecycle.proofs.Owners.{owner_holds}
use Rattle.phase_read.specs.declared.found.LookError.{LookError}
use Rattle.phase_read.specs.declared.found.LookError.TheVariants as look
use Rattle.phase_read.specs.Exact.{AtOwnEvent, IsInPhase}
use Rattle.phase_read.specs.Read.{is_pod_spot}
use Rattle.pod_locks.specs.declared.claim_error.ClaimError.{ClaimError}
use Rattle.pod_locks.specs.declared.claim_error.ClaimError.TheVariants.{WrongPhase}
use Rattle.pod_locks.specs.declared.claim_setback.Setback.{Setback}
use Rattle.pod_locks.specs.declared.claim_setback.Setback.TheVariants as setback
use Rattle.phase_read.proofs.Exact.{event_within}
use Rattle.pod_locks.specs.ClaimCauses.{ClaimWasStopped}
use Rattle.pod_locks.specs.ClaimSetbacks.{look_refusal, last_refusal}
use Rattle.pod_locks.specs.ClaimHolding.{MayClaim, is_on_folder}
use Rattle.pod_locks.proofs.Reading.{may_looked}
use Rattle.pod_locks.specs.Work.{WentClaiming, WhereObservedKnew}
use Rattle.pod_locks.specs.Elsewhere.{is_owned_phase, IsOwnedElsewhere, MetOwner, MetOwnerThen}

-- a shared lock holds nothing exclusively that wasn't held so

shared_before : (u : List ℕ) (handle : Handle) (hs : List Held) → list_any (is_own_held u) (map (held_with_mode handle Shared) hs) ≡ true → list_any (is_own_held u) hs ≡ true
shared_before u handle [] h = h
shared_before u handle (x ∷ xs) h = by (is_handle_held handle x) (shared_before u handle xs) h
  where
    no : (b : Bool) → (b && false) ≡ false
    no true = refl
    no false = refl

    keep : (b : Bool) → (list_any (is_own_held u) (map (held_with_mode handle Shared) xs) ≡ true → list_any (is_own_held u) xs ≡ true)
        → (b || list_any (is_own_held u) (map (held_with_mode handle Shared) xs)) ≡ true → (b || list_any (is_own_held u) xs) ≡ true
    keep true later k = refl
    keep false later k = later k

    by : (b : Bool) → (list_any (is_own_held u) (map (held_with_mode handle Shared) xs) ≡ true → list_any (is_own_held u) xs ≡ true)
        → (is_own_held u (cond b (record x { lock = Some Shared }) x) || list_any (is_own_held u) (map (held_with_mode handle Shared) xs)) ≡ true
        → (is_own_held u x || list_any (is_own_held u) xs) ≡ true
    by true later g = or_last (is_own_held u x) _ (later (or_second _ _ g (no (is_own_of u x.target))))
    by false later g = keep (is_own_held u x) later g

-- one look more
held_before : (u : List ℕ) (test : Spot → Bool) (s : Standing) (request : Request) (reply : Reply) → is_look_at test request ≡ true
    → holds_own u (standing_replied s request reply) ≡ true → holds_own u s ≡ true
held_before u test s (Open spot which) (Opened handle) look h = free (is_own_of u (target_of spot which)) h
  where
    free : (b : Bool) → ((b && false) || holds_own u s) ≡ true → holds_own u s ≡ true
    free true g = g
    free false g = g
held_before u test s (TryLock handle Shared) Done look h =
    shared_before u handle s.holdings (ap (λ (hs : List Held). list_any (is_own_held u) hs) (sym (looked_holdings (find_held handle s) _)) ∙ h)
held_before u test s (Close handle) Done look h =
    any_filtered (is_own_held u) (λ x. not (is_handle_held handle x)) s.holdings
    (sym (any_mapped (is_own_held u) (uncovered_by_close handle s.holdings) (filter (λ x. not (is_handle_held handle x)) s.holdings) (λ x. refl)) ∙ h)
held_before u test s (Open spot which) Done look h = h
held_before u test s (TryLock handle _) Done look h = cc
held_before u test s (TryLock handle _) (Opened other) look h = h
held_before u test s (Close handle) (Opened other) look h = h
held_before u test s request Done look h = cc
held_before u test s request (Opened handle) look h = cc
held_before u test s request (Refused e left) look h = h
held_before u test s request reply look h = h

held_first : (u : List ℕ) (test : Spot → Bool) (me : ℕ) (s : Standing) (es : List Event) → AllByRecursion (λ e. (is_foreign me e || is_look_at test e.request) ≡ true) es
    → holds_own u (standing_from me s es) ≡ true → holds_own u s ≡ true
held_first u test me s [] all h = h
held_first u test me s (e ∷ es) all h = by (is_foreign me e) all.0 (held_first u test me (stood me s e) es all.1 h)
  where
    by : (b : Bool) → (b || is_look_at test e.request) ≡ true → holds_own u (cond b s (standing_replied s e.request e.reply)) ≡ true → holds_own u s ≡ true
    by true a g = g
    by false a g = held_before u test s e.request e.reply a g

-- who lives after its looks lived before them

lives_looking : (me : ℕ) (test : Spot → Bool) (n : Namespace) (p : ℕ) (request : Request) (reply : Reply) → is_look_at test request ≡ true
    → lives (namespace_replied n p request reply) me ≡ true → lives n me ≡ true
lives_looking me test n p (Open spot which) Done look a = a
lives_looking me test n p (Open spot which) (Opened handle) look a = a
lives_looking me test n p (TryLock handle mode) Done look a = a
lives_looking me test n p (TryLock handle mode) (Opened other) look a = a
lives_looking me test n p (Close handle) Done look a = a
lives_looking me test n p (Close handle) (Opened other) look a = a
lives_looking me test n p request Done look a = cc
lives_looking me test n p request (Opened handle) look a = cc
lives_looking me test n p request _ look a = a

lives_first : (me : ℕ) (test : Spot → Bool) (s : DirState) (es : List Event) → AllByRecursion (λ e. (is_foreign me e || is_look_at test e.request) ≡ true) es
    → lives (states_next s es).namespace me ≡ true → lives s.namespace me ≡ true
lives_first me test s [] all a = a
lives_first me test s (e ∷ es) all a = by (is_foreign me e) refl all.0 (lives_first me test (state_next s e) es all.1 a)
  where
    by : (b : Bool) → is_foreign me e ≡ b → (b || is_look_at test e.request) ≡ true → lives (state_next s e).namespace me ≡ true → lives s.namespace me ≡ true
    by true f l g = lived_before me s (e ∷ []) (f, tt) g
    by false f l g = lives_looking me test s.namespace e.process e.request e.reply l g

-- by what it knows it has no folder in hand

own_is_folder : (u : List ℕ) (t : Target) → is_own_of u t ≡ true → not (is_gate t) ≡ true
own_is_folder u (target.Own spot) h = refl
own_is_folder u (target.Claim spot) h = refl
own_is_folder u (target.Gate area) h = cc

held_nothing : (u : List ℕ) (s : Standing) → list_any is_on_folder s.holdings ≡ false → holds_own u s ≡ true → ⊥
held_nothing u s apart h =
    let e = any_in (is_own_held u) s.holdings h in
    let own = and_left (is_own_of u e.0.target) _ e.1.1 in
    clash (list_any is_on_folder s.holdings) (in_any is_on_folder e.0 s.holdings e.1.0 (own_is_folder u e.0.target own)) apart

holds_its_own : (u : List ℕ) (s : Standing) → holds_pod u s ≡ true → holds_own u s ≡ true
holds_its_own u s h =
    let e = any_in _ s.holdings h in
    in_any (is_own_held u) e.0 s.holdings e.1.0 (and_left (is_own_held u e.0) _ e.1.1)

-- a state whose phase has an owner has one
owned_state : (s : PodState) (p : Phase) → phase_of_state s ≡ Some p → is_owned_phase p ≡ true → (o : ℕ) × (owner_of s ≡ Some o) × (is_owner o s ≡ true)
owned_state (state.Preparing owner) p is h = (owner, refl, same_self owner)
owned_state (state.Running owner) p is h = (owner, refl, same_self owner)
owned_state (state.Deleting owner from) p is h = (owner, refl, same_self owner)
owned_state (state.Embryo maker) phase.Embryo is h = cc
owned_state (state.Embryo maker) _ is h = cc
owned_state s p is h = cc

module _ (pod : PodId) (a b : DirAt) (extends : ExtendsBy (is_look_at (is_pod_spot pod)) a b) (conforming : IsConforming b.trace) (s : Seen) (knows : Knows a s) (apart : list_any is_on_folder s.standing.holdings ≡ false) where
  -- it isn't the owner after any of its looks
  not_owner : (es rest : List Event) → b.trace ≡ (a.trace ++ es) ++ rest → is_owner a.process (pod_state (pod_text pod.bytes) (a.trace ++ es)) ≡ true → ⊥
  not_owner es rest whole own =
      let asked : AllByRecursion (λ e. (is_foreign a.process e || is_look_at (is_pod_spot pod) e.request) ≡ true) es =
      all_left _ es rest (subst (λ (l : List Event). AllByRecursion (λ e. (is_foreign a.process e || is_look_at (is_pod_spot pod) e.request) ≡ true) l)
      (same_rest a.trace extends.more (es ++ rest) (sym extends.grown ∙ (whole ∙ append_assoc a.trace es rest))) extends.asked) in
      let now = owner_holds (pod_text pod.bytes) (a.trace ++ es) a.process (conforming_left (a.trace ++ es) rest (subst IsConforming whole conforming)) own in
      let held = held_first (pod_text pod.bytes) (is_pod_spot pod) a.process (standing_of a.process a.trace) es asked
      (ap (holds_own (pod_text pod.bytes)) (sym (standing_split a.process nothing_standing a.trace es)) ∙ holds_its_own (pod_text pod.bytes) (standing_of a.process (a.trace ++ es)) now.1) in
      let alive = lives_first a.process (is_pod_spot pod) (state_after a.trace) es asked
      (ap (λ (x : DirState). lives x.namespace a.process) (sym (states_next-append empty_state a.trace es)) ∙ now.0) in
      let agreed = knows.tied.living alive in
      held_nothing (pod_text pod.bytes) s.standing apart
      (ap (λ (x : Seen). holds_own (pod_text pod.bytes) x.standing) agreed.same ∙ (ap (holds_own (pod_text pod.bytes)) (standing_is a.process a.trace) ∙ held))

  pub met_elsewhere : (phase : Phase) (area : Area) → is_owned_phase phase ≡ true → AtOwnEvent a.process a.trace b.trace (IsInPhase pod phase area)
      → AtOwnEvent a.process a.trace b.trace (IsOwnedElsewhere a.process pod phase area)
  met_elsewhere phase area owned at =
      let es = at.later ++ at.step ∷ [] in
      let trace = at.before ++ at.step ∷ [] in
      let so : trace ≡ a.trace ++ es = ap (λ h. h ++ at.step ∷ []) at.begins ∙ append_assoc a.trace at.later (at.step ∷ []) in
      let whole : b.trace ≡ (a.trace ++ es) ++ at.rest = at.ends ∙ ap (λ h. h ++ at.rest) so in
      let o = owned_state (pod_state (pod_text pod.bytes) trace) phase at.holds.is owned in
      record {
        before = at.before;
        step = at.step;
        later = at.later;
        rest = at.rest;
        begins = at.begins;
        ends = at.ends;
        own = at.own;
        holds = record {
          was = at.holds;
          owner = o.0;
          is = o.1;
          other = unless (o.0 == a.process) refl (λ same. not_owner es at.rest whole
              (subst (λ (h : List Event). is_owner a.process (pod_state (pod_text pod.bytes) h) ≡ true) so (subst (λ (p : ℕ). is_owner p (pod_state (pod_text pod.bytes) trace) ≡ true) (same_number o.0 a.process same) o.2)));
        };
      }
    where
      unless : (t : Bool) {n : Bool} → n ≡ t → (n ≡ true → ⊥) → n ≡ false
      unless true is never = absurd (never is)
      unless false is never = is

-- a read that finds the pod in such a phase
pub met_by_reading : {observed : Bool} (pod : PodId) (a b : DirAt) (phase : Phase) (area : Area) → (observed ≡ true → ExtendsBy (is_look_at (is_pod_spot pod)) a b)
    → (observed ≡ true → IsConforming b.trace → AtOwnEvent a.process a.trace b.trace (IsInPhase pod phase area))
    → WhereObservedKnew observed MayClaim a (λ s. MetOwner pod (WrongPhase phase) a b)
met_by_reading pod a b phase area extends exact t s may knows conforming q is owned =
    let same : phase ≡ q = cc in (
      area,
      subst (λ (x : Phase). AtOwnEvent a.process a.trace b.trace (IsOwnedElsewhere a.process pod x area)) same
          (met_elsewhere pod a b (extends t) conforming s knows may.apart phase area (ap is_owned_phase same ∙ owned) (exact t conforming)),
    )

pub look_isnt_wrong : (e : LookError) (q : Phase) → look_refusal e ≡ WrongPhase q → ⊥
look_isnt_wrong look.DirFault q is = cc
look_isnt_wrong _ q is = cc

-- one attempt, and a second one

pub met_never : {observed : Bool} {pod : PodId} {Missed : DirState → Type 0} {b c : DirAt} (a : DirAt) (stop : Setback) → ClaimWasStopped observed pod Missed stop b c
    → WhereObservedKnew observed MayClaim a (λ s. MetOwnerThen pod stop a c)
met_never a stop stopped t s may knows error is conforming q wrong owned = absurd (stopped.right q (is ∙ ap (λ (e : ClaimError). setback.Refused e) wrong))

pub met_first : {observed : Bool} (pod : PodId) (a b : DirAt) (error : ClaimError) → WhereObservedKnew observed MayClaim a (λ s. MetOwner pod error a b)
    → WhereObservedKnew observed MayClaim a (λ s. MetOwnerThen pod (setback.Refused error) a b)
met_first pod a b error met t s may knows other is =
    let same : error ≡ other = cc in subst (λ (e : ClaimError). MetOwner pod e a b) same (met t s may knows)

pub met_once : {observed : Bool} (pod : PodId) (a b : DirAt) (error : ClaimError) → WhereObservedKnew observed MayClaim a (λ s. MetOwnerThen pod (setback.Refused error) a b)
    → WhereObservedKnew observed MayClaim a (λ s. MetOwner pod error a b)
met_once pod a b error met t s may knows = met t s may knows error refl

pub met_twice : {observed : Bool} {pod : PodId} {calls : ℕ} {l : Local} {a b : DirAt} → WentClaiming observed calls pod l a b → WhereObservedKnew observed MayClaim a (λ s. LookedInto s b)
    → (c : DirAt) (stop : Setback) → WhereObservedKnew observed MayClaim b (λ s. MetOwnerThen pod stop b c) → WhereObservedKnew observed MayClaim a (λ s. MetOwner pod (last_refusal stop) a c)
met_twice went left c setback.Missing met t s may knows conforming q is owned = cc
met_twice {observed} {pod} {calls} {l} {a} {b} went left c (setback.Refused error) met t s may knows conforming q is owned =
    let now = left t s may knows in
    let at = met t now.known (may_looked now.looked may) now.knows error refl conforming q is owned in (
      at.0,
      event_within (went.extends t).more [] (went.extends t).grown (sym (append-nil c.trace))
          (subst (λ (p : ℕ). AtOwnEvent p b.trace c.trace (IsOwnedElsewhere p pod q at.0)) went.same at.1),
    )
