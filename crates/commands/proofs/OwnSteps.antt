-- Where nobody else steps: what its own steps can't have brought about was so before.
use Rattle.std.proofs.Common.{◌≡◌, ℕ, Bool, true, false, not, ◌&&◌, ◌||◌, ◌==◌, cond, Some, List, [], ◌∷◌, ◌++◌, filter, refl, sym, ap, subst, ◌∙◌, append_assoc}
use Rattle.std.specs.List.{list_any, AllByRecursion}
use Rattle.dir_model.specs.declared.event.Event.{Event}
use Rattle.dir_model.specs.declared.opening.Opening.{Opening}
use Rattle.dir_model.specs.declared.spot.Handle.{Handle}
use Rattle.dir_model.specs.declared.spot.Mode.{Mode}
use Rattle.dir_model.specs.declared.request.Request.{Request}
use Rattle.dir_model.specs.declared.request.Request.TheVariants.{OpenArea, Open, TryLock, Close, Finish, Kill}
use Rattle.dir_model.specs.declared.request.Reply.{Reply}
use Rattle.dir_model.specs.declared.request.Reply.TheVariants.{Done, Opened}
use Rattle.dir_model.specs.Locks.{is_handle}
use Rattle.dir_model.specs.State.{Namespace, DirState, empty_state}
use Rattle.dir_model.specs.Trace.{state_after, state_next, states_next, namespace_replied, namespace_done, namespace_opened, locked, opened, opened_gate}
use Rattle.dir_model.specs.Calls.{event, is_begin, is_finish, is_foreign, is_kill, Extends, AtOwnStep}
use Rattle.dir_model.specs.Quiet.{Quiet}
use Rattle.dir_model.proofs.Lists.{and_left, or_map, or_last, same_rest, same_self, all_left, all_right, any_map, any_last_not}
use Rattle.dir_model.proofs.Chains.{extends_more, extends_wider, states_next-append}
use Rattle.dir_model.proofs.Moments.{at_within}
use Rattle.lifecycle.specs.declared.machine.PodState.{PodState}
use Rattle.lifecycle.specs.declared.machine.PodState.TheVariants.{Absent}
use Rattle.lifecycle.specs.PodMachine.{after_transition, transition, pod_state_next, pod_state_from, pod_state}
use Rattle.lifecycle.proofs.Stays.{machine_append}
use Rattle.phase_read.specs.Exact.{AtOwnEvent}
use Rattle.phase_read.proofs.Exact.{event_within}
use Rattle.pod_locks.specs.Work.{Grew}
use Rattle.pod_lookup.specs.Looks.{lists_stages}
use Rattle.commands.specs.Opening.{opens}

-- the requests of a process: a look for its pod, its begin, what it asks for then, and its finish
abbrev pub in_process : (Request → Bool) → Request → Bool
in_process asks request = lists_stages request || (is_begin request || (asks request || is_finish request))

pub begin_in_process : (asks : Request → Bool) (r : Request) → is_begin r ≡ true → in_process asks r ≡ true
begin_in_process asks r is = or_last (lists_stages r) _ (ap (λ b. b || (asks r || is_finish r)) is)

pub asks_in_process : (asks : Request → Bool) (r : Request) → asks r ≡ true → in_process asks r ≡ true
asks_in_process asks r is = or_last (lists_stages r) _ (or_last (is_begin r) _ (ap (λ b. b || is_finish r) is))

pub finish_in_process : (asks : Request → Bool) (r : Request) → is_finish r ≡ true → in_process asks r ≡ true
finish_in_process asks r is = or_last (lists_stages r) _ (or_last (is_begin r) _ (or_last (asks r) _ is))

pub lists_in_process : (asks : Request → Bool) (r : Request) → lists_stages r ≡ true → in_process asks r ≡ true
lists_in_process asks r is = ap (λ b. b || (is_begin r || (asks r || is_finish r))) is

pub opens_in_process : (asks : Request → Bool) (r : Request) → opens r ≡ true → in_process asks r ≡ true
opens_in_process asks r is = by (lists_stages r) is
  where
    by : (b : Bool) → (b || is_begin r) ≡ true → (b || (is_begin r || (asks r || is_finish r))) ≡ true
    by true h = refl
    by false h = ap (λ b. b || (asks r || is_finish r)) h

-- its three parts
pub whole_process : {asks : Request → Bool} {me : ℕ} {old begun ended new : List Event} → Extends opens me old begun → Extends asks me begun ended → Extends is_finish me ended new → Extends (in_process asks) me old new
whole_process {asks} {me} {old} {begun} {ended} {new} b x f =
    extends_more (in_process asks) me old ended new (extends_more (in_process asks) me old begun ended (extends_wider (opens_in_process asks) b) (extends_wider (asks_in_process asks) x)) (extends_wider (finish_in_process asks) f)

pub own_asked : (asks : Request → Bool) (me : ℕ) (e : Event) → e.process ≡ me → (is_foreign me e || asks e.request) ≡ true → (is_kill e.request || asks e.request) ≡ true
own_asked asks me e mine asked =
    ap (λ b. (not b || is_kill e.request) || asks e.request) (sym (same_self me))
    ∙ (ap (λ (q : ℕ). (not (q == me) || is_kill e.request) || asks e.request) (sym mine) ∙ asked)

-- a moment between begin and finish is one of the process
pub at_process : {first last : Request → Bool} {me : ℕ} {old begun ended new : List Event} {P : DirState → Type 0} → Extends first me old begun → Extends last me ended new → AtOwnStep me begun ended P → AtOwnStep me old new P
at_process b f at = at_within b.more f.more b.grown f.grown at

pub event_process : {first last : Request → Bool} {me : ℕ} {old begun ended new : List Event} {P : List Event → Type 0} → Extends first me old begun → Extends last me ended new → AtOwnEvent me begun ended P → AtOwnEvent me old new P
event_process b f at = event_within b.more f.more b.grown f.grown at

-- a part of a quiet time
pub quiet_part : {me : ℕ} {old a new : List Event} → Quiet me old new → Grew old a → (z : Grew a new) → Quiet me a new
quiet_part {me} {old} {a} {new} quiet x z =
    let whole : new ≡ old ++ (x.more ++ z.more) = z.grown ∙ (ap (λ (h : List Event). h ++ z.more) x.grown ∙ append_assoc old x.more z.more) in
    record {
      more = z.more;
      grown = z.grown;
      own = all_right _ x.more z.more (subst (λ (l : List Event). AllByRecursion (λ e. e.process ≡ me) l) (same_rest old quiet.more (x.more ++ z.more) (sym quiet.grown ∙ whole)) quiet.own);
    }

pub own_first : {me : ℕ} {old a new : List Event} → Quiet me old new → (x : Grew old a) → Grew a new → AllByRecursion (λ e. e.process ≡ me) x.more
own_first {me} {old} {a} {new} quiet x z =
    let whole : new ≡ old ++ (x.more ++ z.more) = z.grown ∙ (ap (λ (h : List Event). h ++ z.more) x.grown ∙ append_assoc old x.more z.more) in
    all_left _ x.more z.more (subst (λ (l : List Event). AllByRecursion (λ e. e.process ≡ me) l) (same_rest old quiet.more (x.more ++ z.more) (sym quiet.grown ∙ whole)) quiet.own)

-- the events up to a moment are its own, and asked for
module _ (asks : Request → Bool) (me : ℕ) (old new : List Event) (ext : Extends asks me old new) (quiet : Quiet me old new) (es rest : List Event) (whole : new ≡ old ++ (es ++ rest)) where
  pub own_part : AllByRecursion (λ e. e.process ≡ me) es
  own_part = all_left _ es rest (subst (λ (l : List Event). AllByRecursion (λ e. e.process ≡ me) l) (same_rest old quiet.more (es ++ rest) (sym quiet.grown ∙ whole)) quiet.own)

  pub asked_part : AllByRecursion (λ e. (is_foreign me e || asks e.request) ≡ true) es
  asked_part = all_left _ es rest (subst (λ (l : List Event). AllByRecursion (λ e. (is_foreign me e || asks e.request) ≡ true) l) (same_rest old ext.more (es ++ rest) (sym ext.grown ∙ whole)) ext.asked)

-- of states
module _ (Q : DirState → Type 0) (asks : Request → Bool) (me : ℕ) (back : (s : DirState) (request : Request) (reply : Reply) → (is_kill request || asks request) ≡ true → Q (state_next s (event me request reply)) → Q s) where
  back_all : (s : DirState) (es : List Event) → AllByRecursion (λ e. e.process ≡ me) es → AllByRecursion (λ e. (is_foreign me e || asks e.request) ≡ true) es → Q (states_next s es) → Q s
  back_all s [] own asked q = q
  back_all s (e ∷ es) own asked q =
      let next : Q (state_next s (event e.process e.request e.reply)) = back_all (state_next s e) es own.1 asked.1 q in
      back s e.request e.reply (own_asked asks me e own.0 asked.0) (subst (λ (p : ℕ). Q (state_next s (event p e.request e.reply))) own.0 next)

  pub back_at : {old new : List Event} → AtOwnStep me old new Q → Extends asks me old new → Quiet me old new → Q (state_after old)
  back_at {old} {new} at ext quiet =
      let es = at.later ++ at.step ∷ [] in
      let whole : new ≡ old ++ (es ++ at.rest) = at.ends ∙ (ap (λ h. (h ++ at.step ∷ []) ++ at.rest) at.begins ∙ simp append_assoc) in
      let here : state_after (at.before ++ at.step ∷ []) ≡ states_next (state_after old) es = ap (λ h. state_after (h ++ at.step ∷ [])) at.begins ∙
      (ap state_after (append_assoc old at.later (at.step ∷ [])) ∙ states_next-append empty_state old es) in
      back_all (state_after old) es (own_part asks me old new ext quiet es at.rest whole) (asked_part asks me old new ext quiet es at.rest whole) (subst Q here at.holds)

  pub back_from : {old new : List Event} (b : List Event) → Grew old b → Grew b new → Extends asks me old new → Quiet me old new → Q (state_after b) → Q (state_after old)
  back_from {old} {new} b x y ext quiet q =
      let whole : new ≡ old ++ (x.more ++ y.more) = y.grown ∙ (ap (λ (h : List Event). h ++ y.more) x.grown ∙ append_assoc old x.more y.more) in
      back_all (state_after old) x.more (own_part asks me old new ext quiet x.more y.more whole) (asked_part asks me old new ext quiet x.more y.more whole) (subst Q (ap state_after x.grown ∙ states_next-append empty_state old x.more) q)

-- and what they keep is so on
module _ (Q : DirState → Type 0) (asks : Request → Bool) (me : ℕ) (keeps : (s : DirState) (request : Request) (reply : Reply) → (is_kill request || asks request) ≡ true → Q s → Q (state_next s (event me request reply))) where
  forward_all : (s : DirState) (es : List Event) → AllByRecursion (λ e. e.process ≡ me) es → AllByRecursion (λ e. (is_foreign me e || asks e.request) ≡ true) es → Q s → Q (states_next s es)
  forward_all s [] own asked q = q
  forward_all s (e ∷ es) own asked q =
      let next : Q (state_next s (event me e.request e.reply)) = keeps s e.request e.reply (own_asked asks me e own.0 asked.0) q in
      forward_all (state_next s e) es own.1 asked.1 (subst (λ (p : ℕ). Q (state_next s (event p e.request e.reply))) (sym own.0) next)

  pub forward : {old new : List Event} (b : List Event) → Grew old b → Grew b new → Extends asks me old new → Quiet me old new → Q (state_after b) → Q (state_after new)
  forward {old} {new} b x y ext quiet q =
      let whole : new ≡ old ++ (x.more ++ y.more) = y.grown ∙ (ap (λ (h : List Event). h ++ y.more) x.grown ∙ append_assoc old x.more y.more) in
      let own = all_right _ x.more y.more (subst (λ (l : List Event). AllByRecursion (λ e. e.process ≡ me) l) (same_rest old quiet.more (x.more ++ y.more) (sym quiet.grown ∙ whole)) quiet.own) in
      let asked = all_right _ x.more y.more (subst (λ (l : List Event). AllByRecursion (λ e. (is_foreign me e || asks e.request) ≡ true) l) (same_rest old ext.more (x.more ++ y.more) (sym ext.grown ∙ whole)) ext.asked) in
      subst Q (sym (ap state_after y.grown ∙ states_next-append empty_state b y.more)) (forward_all (state_after b) y.more own asked q)

-- of a pod's history
module _ (u : List ℕ) (Q : PodState → Type 0) (asks : Request → Bool) (me : ℕ)
    (back : (n : Namespace) (x : PodState) (request : Request) (reply : Reply) → (is_kill request || asks request) ≡ true → Q (after_transition (transition u n x me request reply) me x) → Q x) where
  history_all : (s : DirState) (x : PodState) (es : List Event) → AllByRecursion (λ e. e.process ≡ me) es → AllByRecursion (λ e. (is_foreign me e || asks e.request) ≡ true) es → Q (pod_state_from u s x es) → Q x
  history_all s x [] own asked q = q
  history_all s x (e ∷ es) own asked q =
      let next : Q (after_transition (transition u s.namespace x e.process e.request e.reply) e.process x) = history_all (state_next s e) (pod_state_next u s.namespace x e) es own.1 asked.1 q in
      back s.namespace x e.request e.reply (own_asked asks me e own.0 asked.0) (subst (λ (p : ℕ). Q (after_transition (transition u s.namespace x p e.request e.reply) p x)) own.0 next)

  pub history_back : {old new : List Event} → AtOwnEvent me old new (λ h. Q (pod_state u h)) → Extends asks me old new → Quiet me old new → Q (pod_state u old)
  history_back {old} {new} at ext quiet =
      let es = at.later ++ at.step ∷ [] in
      let whole : new ≡ old ++ (es ++ at.rest) = at.ends ∙ (ap (λ h. (h ++ at.step ∷ []) ++ at.rest) at.begins ∙ simp append_assoc) in
      let here : pod_state u (at.before ++ at.step ∷ []) ≡ pod_state_from u (state_after old) (pod_state u old) es = ap (λ h. pod_state u (h ++ at.step ∷ [])) at.begins ∙
      (ap (pod_state u) (append_assoc old at.later (at.step ∷ [])) ∙ machine_append u old es empty_state Absent) in
      history_all (state_after old) (pod_state u old) es (own_part asks me old new ext quiet es at.rest whole) (asked_part asks me old new ext quiet es at.rest whole) (subst Q here at.holds)

  pub history_from : {old new : List Event} (b : List Event) → Grew old b → Grew b new → Extends asks me old new → Quiet me old new → Q (pod_state u b) → Q (pod_state u old)
  history_from {old} {new} b x y ext quiet q =
      let whole : new ≡ old ++ (x.more ++ y.more) = y.grown ∙ (ap (λ (h : List Event). h ++ y.more) x.grown ∙ append_assoc old x.more y.more) in
      history_all (state_after old) (pod_state u old) x.more (own_part asks me old new ext quiet x.more y.more whole) (asked_part asks me old new ext quiet x.more y.more whole)
      (subst Q (ap (pod_state u) x.grown ∙ machine_append u old x.more empty_state Absent) q)

-- a state that no own step turns
module _ (u : List ℕ) (x : PodState) (asks : Request → Bool) (me : ℕ) (keeps : (n : Namespace) (request : Request) (reply : Reply) → (is_kill request || asks request) ≡ true → after_transition (transition u n x me request reply) me x ≡ x) where
  fixed_all : (s : DirState) (es : List Event) → AllByRecursion (λ e. e.process ≡ me) es → AllByRecursion (λ e. (is_foreign me e || asks e.request) ≡ true) es → pod_state_from u s x es ≡ x
  fixed_all s [] own asked = refl
  fixed_all s (e ∷ es) own asked =
      let same : after_transition (transition u s.namespace x e.process e.request e.reply) e.process x ≡ x =
      subst (λ (p : ℕ). after_transition (transition u s.namespace x p e.request e.reply) p x ≡ x) (sym own.0) (keeps s.namespace e.request e.reply (own_asked asks me e own.0 asked.0)) in
      ap (λ (y : PodState). pod_state_from u (state_next s e) y es) same ∙ fixed_all (state_next s e) es own.1 asked.1

  pub history_fixed : {old new : List Event} → pod_state u old ≡ x → Extends asks me old new → Quiet me old new → pod_state u new ≡ x
  history_fixed {old} {new} is ext quiet =
      let own : AllByRecursion (λ e. e.process ≡ me) ext.more = subst (λ (l : List Event). AllByRecursion (λ e. e.process ≡ me) l) (same_rest old quiet.more ext.more (sym quiet.grown ∙ ext.grown)) quiet.own in
      ap (pod_state u) ext.grown ∙ (machine_append u old ext.more empty_state Absent
      ∙ (ap (λ (y : PodState). pod_state_from u (state_after old) y ext.more) is ∙ fixed_all (state_after old) ext.more own ext.asked))

-- requests that change no folder
pub same_folders : (p : ℕ) (w : Namespace) (request : Request) (reply : Reply) → (namespace_done w p request).folders ≡ w.folders → ((handle : Handle) → (namespace_opened w p request handle).folders ≡ w.folders) →
    (namespace_replied w p request reply).folders ≡ w.folders
same_folders p w request Done done opened = done
same_folders p w request (Opened handle) done opened = opened handle
same_folders p w request reply done opened = refl

-- no own step adds to what others have open
abbrev pub elsewhere : ℕ → (Opening → Bool) → Opening → Bool
elsewhere me test o = not (o.process == me) && test o

-- a list without some of its openings
pub fewer : (t q : Opening → Bool) (xs : List Opening) → list_any t (filter q xs) ≡ true → list_any t xs ≡ true
fewer t q [] any = any
fewer t q (x ∷ xs) any = by (q x) any (λ rest. fewer t q xs rest)
  where
    by : (b : Bool) → list_any t (cond b (x ∷ filter q xs) (filter q xs)) ≡ true → (list_any t (filter q xs) ≡ true → list_any t xs ≡ true) → (t x || list_any t xs) ≡ true
    by true found rest = or_map (t x) (list_any t (filter q xs)) (list_any t xs) rest found
    by false found rest = or_last (t x) (list_any t xs) (rest found)

pub mine_only : (me : ℕ) (test : Opening → Bool) (h : Handle) (mode : Mode) (o : Opening) → elsewhere me test (locked me h mode o) ≡ elsewhere me test o
mine_only me test h mode o = by (is_handle me h o) (λ it. and_left (o.process == me) (o.handle.number == h.number) it)
  where
    by : (b : Bool) → (b ≡ true → (o.process == me) ≡ true) → elsewhere me test (cond b (record o { lock = Some mode }) o) ≡ elsewhere me test o
    by true it = ap (λ b. not b && test (record o { lock = Some mode })) (it refl) ∙ sym (ap (λ b. not b && test o) (it refl))
    by false it = refl

pub same_openings : (p : ℕ) (w : Namespace) (request : Request) (reply : Reply) → (namespace_done w p request).openings ≡ w.openings → ((handle : Handle) → (namespace_opened w p request handle).openings ≡ w.openings) →
    (namespace_replied w p request reply).openings ≡ w.openings
same_openings p w request Done done opened = done
same_openings p w request (Opened handle) done opened = opened handle
same_openings p w request reply done opened = refl

pub step_others : (me : ℕ) (w : Namespace) (request : Request) (reply : Reply) (test : Opening → Bool) →
    list_any (elsewhere me test) (namespace_replied w me request reply).openings ≡ true → list_any (elsewhere me test) w.openings ≡ true
step_others me w (OpenArea area) (Opened handle) test any =
    sym (any_last_not (elsewhere me test) w.openings (opened_gate me handle area) (ap (λ b. not b && test (opened_gate me handle area)) (same_self me))) ∙ any
step_others me w (OpenArea area) reply test any = any
step_others me w (Open spot which) (Opened handle) test any =
    sym (any_last_not (elsewhere me test) w.openings (opened w me handle spot which) (ap (λ b. not b && test (opened w me handle spot which)) (same_self me))) ∙ any
step_others me w (Open spot which) reply test any = any
step_others me w (TryLock handle mode) Done test any = sym (any_map (elsewhere me test) (locked me handle mode) (mine_only me test handle mode) w.openings) ∙ any
step_others me w (TryLock handle mode) reply test any = any
step_others me w (Close handle) Done test any = fewer (elsewhere me test) (λ o. not (is_handle me handle o)) w.openings any
step_others me w (Close handle) reply test any = any
step_others me w Finish Done test any = fewer (elsewhere me test) (λ o. not (o.process == me)) w.openings any
step_others me w Finish reply test any = any
step_others me w Kill Done test any = fewer (elsewhere me test) (λ o. not (o.process == me)) w.openings any
step_others me w Kill reply test any = any
step_others me w request reply test any = subst (λ (os : List Opening). list_any (elsewhere me test) os ≡ true) (same_openings me w request reply refl (λ handle. refl)) any

-- what another process held at an own step it held before
pub held_before : {asks : Request → Bool} {me : ℕ} {old new : List Event} (test : Opening → Bool) → AtOwnStep me old new (λ s. list_any (elsewhere me test) s.namespace.openings ≡ true) → Extends asks me old new → Quiet me old new →
    list_any (elsewhere me test) (state_after old).namespace.openings ≡ true
held_before {asks} {me} test at ext quiet =
    back_at (λ s. list_any (elsewhere me test) s.namespace.openings ≡ true) asks me (λ s request reply h any. step_others me s.namespace request reply test any) at ext quiet
